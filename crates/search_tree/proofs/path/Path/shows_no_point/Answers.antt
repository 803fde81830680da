use Rattle.std.proofs.Common.{◌≡◌, ◌∙◌, List, length, ap, sym, subst, None}
use Rattle.verdicts.specs.Certificate.{Two, Side as SideOf, Derived, Empty}
use Rattle.certificate.specs.Ways.{way}
use Rattle.cert_check.specs.Parts.{node_answer}
use Rattle.search_tree.proofs.Paths.{node_count}
use Rattle.search_tree.proofs.path.Path.shows_no_point.Goals as goal

pub returns : goal.returns
returns c =
    let tree = c.self.inside.tree in
    let slice = c.as_slice-place.result.now in
    let here : way tree (length slice) ≡ c.args.self.now = ap (way tree) (sym (node_count slice tree c.as_slice-place.ensures.nodes)) ∙ c.self.view_is in
    let P : List SideOf → Type 0 = λ sides. c.shows_no_point.result ≡ node_answer (record { version = Two; problem = c.args.problem.now; derived = c.args.cuts.now; sides = sides }) None (Empty c.args.weights.now) in
    let Q : List Derived → Type 0 = λ ds. c.shows_no_point.result ≡ node_answer (record { version = Two; problem = c.args.problem.now; derived = ds; sides = way tree (length slice) }) None (Empty c.args.weights.now) in
    subst P here (subst Q c.as_slice.ensures.rows c.shows_no_point.ensures)
