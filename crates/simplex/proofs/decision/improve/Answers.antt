use Rattle.std.proofs.Common.{ℕ, subst, List}
use Rattle.rational.specs.Rational.{Rational}
use Rattle.milp.specs.Form.{number_at}
use Rattle.basis.specs.Bland.{Improves}
use Rattle.dictionary.specs.Table.{dictionary_of}
use Rattle.simplex.proofs.DecisionLemmas.{is_optimal}
use Rattle.simplex.proofs.decision.improve.Goals as goal

pub returns-in-None-clause-ok : goal.returns-in-None-clause-ok
returns-in-None-clause-ok c =
    let P : List Rational → Type 0 = λ ys. (q : ℕ) → ¬ (Improves c.args.system.now c.args.state.now.dictionary.places (number_at ys) (dictionary_of c.args.state.now.dictionary) q) in
    is_optimal c.args.system.now c.args.state.now.dictionary c.args.state.now.values.items c.args.state.now.bases c.requires.reached c.requires.inside (subst P c.deref.ensures.value (c.first_improving.ensures.none c.in-None.is))
