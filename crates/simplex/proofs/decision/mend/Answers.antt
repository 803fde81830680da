use Rattle.std.proofs.Common.{subst, List}
use Rattle.rational.specs.Rational.{Rational}
use Rattle.milp.specs.Form.{number_at}
use Rattle.basis.specs.Bland.{Mends, IsLeast}
use Rattle.dictionary.specs.Table.{dictionary_of}
use Rattle.simplex.proofs.DecisionLemmas.{mend_step}
use Rattle.simplex.proofs.decision.mend.Goals as goal

pub returns-in_ok-by-in-Some-clause-ok : goal.returns-in_ok-by-in-Some-clause-ok
returns-in_ok-by-in-Some-clause-ok c =
    let P : List Rational → Type 0 = λ ys. IsLeast (Mends c.args.system.now c.args.state.now.dictionary.places (number_at ys) (dictionary_of c.args.state.now.dictionary) c.args.leaves c.args.place) c.in-Some.enters in
    mend_step c.args.system.now c.args.state.now.dictionary c.args.state.now.values.items c.args.state.now.bases c.requires.reached (record { enters = c.in-Some.enters; leaves = c.args.leaves; place = c.args.place; by = c.in_ok-by-in-Some.by })
    (record { first_outside = c.requires.first; passed = c.requires.passed; first_mending = subst P c.deref.ensures.value c.in-Some.ensures.some }) c.in_ok-by-in-Some.ensures.ok
