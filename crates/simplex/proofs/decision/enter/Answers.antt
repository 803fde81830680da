use Rattle.std.proofs.Common.{rules, subst, List}
use Rattle.rational.specs.Rational.{Rational}
use Rattle.simplex.specs.Ratio.{IsLengthFault}
use Rattle.dictionary.proofs.Laws.{err_from}
use Rattle.simplex.proofs.DecisionLemmas.{improving_fault, is_endless, enter_step}
use Rattle.simplex.proofs.decision.enter.Goals as goal

pub returns-in_err-first_reach-clause-err : goal.returns-in_err-first_reach-clause-err
returns-in_err-first_reach-clause-err c =
    let P : List Rational → Type 0 = λ ys. IsLengthFault c.args.system.now ys c.args.state.now.dictionary c.args.enters c.is_negative-rises.result c.in_err-first_reach.field-0.0 in
    err_from c.from_residual.result c.in_err-first_reach.field-0.0 _ c.from_residual.ensures.1
    (improving_fault c.args.system.now c.args.state.now.dictionary c.args.state.now.values.items c.args.state.now.bases c.requires.reached c.args.enters c.is_negative-rises.result c.gain.result c.in_err-first_reach.field-0.0 c.requires.inside c.requires.first c.gain.ensures (search rules) (subst P c.deref.ensures.value c.in_err-first_reach.ensures.err))

pub returns-in-None-clause-ok : goal.returns-in-None-clause-ok
returns-in-None-clause-ok c =
    is_endless c.args.system.now c.args.state.now.dictionary c.args.state.now.values.items c.args.state.now.bases c.requires.reached c.args.enters c.is_negative-rises.result c.gain.result c.requires.inside c.requires.first c.gain.ensures (search rules)
    (search rules)

pub returns-in-Some-clause-ok : goal.returns-in-Some-clause-ok
returns-in-Some-clause-ok c =
    enter_step c.args.system.now c.args.state.now.dictionary c.args.state.now.values.items c.args.state.now.bases c.requires.reached c.args.enters c.is_negative-rises.result c.gain.result c.requires.inside c.requires.first c.gain.ensures (search rules)
    c.in-Some.reach c.turned.result c.turned.ensures (search rules)
