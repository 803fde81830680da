use Rattle.std.proofs.Common.{◌∙◌, ap, sym, subst, Option, IfSome}
use Rattle.rational.specs.Rational.{Rational}
use Rattle.search_tree.specs.Board.{value_of, IsTold}
use Rattle.search_tree.specs.Steps.{IsReplay}
use Rattle.tree_pool.proofs.ToldValues.{best_told}
use Rattle.tree_pool.proofs.board.Board.best_value.Goals as goal

pub returns-clause-value : goal.returns-clause-value
returns-clause-value c = c.self.invariant.2 ∙ ap value_of c.self.view_is

pub returns-clause-told : goal.returns-clause-told
returns-clause-told c =
    let P : Option Rational → Type 0 = λ o. IfSome o (λ v. IsTold v c.args.self.now.log) in
    subst P (sym (c.self.invariant.2 ∙ ap value_of c.self.view_is)) (best_told c.args.self.now (subst IsReplay c.self.view_is c.self.invariant.3))
