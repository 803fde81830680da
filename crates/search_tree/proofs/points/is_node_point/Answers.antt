use Rattle.std.proofs.Common.{◌≡◌, List, true, false, Bool, subst}
use Rattle.basis.specs.Node.{IsNodePoint}
use Rattle.search_node.specs.Sides.{sides_of}
use Rattle.search_node.specs.declared.node.SplitTaken.{SplitTaken}
use Rattle.search_tree.specs.Points.{AreOnSides, IsOffSide}
use Rattle.search_tree.proofs.NodePoints.{node_point_by, not_node_point, if_ok}
use Rattle.search_tree.proofs.points.is_node_point.Goals as goal

pub returns-clause-yes : goal.returns-clause-yes
returns-clause-yes c =
    let x = c.as_slice-x.result.now in
    let taken = c.as_slice-taken.result.now in
    let P : Bool → Type 0 = λ b. b ≡ true → AreOnSides x taken in
    let Q : Bool → Type 0 = λ b. b ≡ true → IsNodePoint c.args.problem.now c.args.cuts.now (sides_of c.args.splits.now) c.args.point.now in
    let S : List SplitTaken → Type 0 = λ all. IsNodePoint c.args.problem.now c.args.cuts.now (sides_of all) c.args.point.now in
    if_ok c.is_on_sides.result P Q
    (λ b on t. subst S c.as_slice-taken.ensures (node_point_by c.args.problem.now c.args.cuts.now taken c.args.point.now c.columns.result.now c.rows.result.now c.as_slice.result.now x
    c.columns.ensures c.rows.ensures c.as_slice.ensures.rows c.as_slice-x.ensures
    (c.are_in_columns.ensures.yes c.if-not-are_in_columns.false) (c.in_ok-are_in_rows.ensures.yes c.if-not-branch.false) (c.in_ok-meets_cuts.ensures.yes c.if-not-branch-2.false) (on t)))
    c.is_on_sides.ensures.yes

pub returns-clause-no : goal.returns-clause-no
returns-clause-no c =
    let x = c.as_slice-x.result.now in
    let taken = c.as_slice-taken.result.now in
    let P : Bool → Type 0 = λ b. b ≡ false → IsOffSide x taken in
    let Q : Bool → Type 0 = λ b. b ≡ false → ¬ (IsNodePoint c.args.problem.now c.args.cuts.now (sides_of c.args.splits.now) c.args.point.now) in
    if_ok c.is_on_sides.result P Q
    (λ b off t. not_node_point c.args.problem.now c.args.cuts.now taken c.args.splits.now c.args.point.now x c.as_slice-taken.ensures c.as_slice-x.ensures (off t))
    c.is_on_sides.ensures.no
