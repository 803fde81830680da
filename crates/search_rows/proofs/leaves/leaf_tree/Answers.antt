use Rattle.std.proofs.Common.{Option, IfSome, subst}
use Rattle.rational.specs.Rational.{Rational}
use Rattle.search_tree.specs.Board.{IsTold}
use Rattle.search_rows.proofs.Standing.{leaf_stands}
use Rattle.search_rows.proofs.leaves.leaf_tree.Goals as goal

pub returns : goal.returns
returns c =
    let b = c.args.board.now in
    let P : Option Rational → Type 0 = λ o. IfSome o (λ v. IsTold v b.log) in
    leaf_stands b c.args.lease.now _ c.args.leaf _ c.requires.leads c.requires.leaf (subst P c.best_value.ensures.value c.best_value.ensures.told) c.in_ok-leaf.ensures
