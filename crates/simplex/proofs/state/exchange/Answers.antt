use Rattle.simplex.proofs.StateLemmas.{leaves_basic, pivoted_dictionary, pivoted_fault}
use Rattle.simplex.proofs.state.exchange.Goals as goal

pub returns-clause-dictionary : goal.returns-clause-dictionary
returns-clause-dictionary c =
    pivoted_dictionary c.args.dictionary c.args.step.enters c.args.step.leaves c.args.step.place c.pivot.result c.requires.enters (leaves_basic c.args.dictionary c.args.step c.requires.leaves c.if-step.false) c.requires.stops c.pivot.ensures.basis c.pivot.ensures.numbers

pub returns-clause-fault : goal.returns-clause-fault
returns-clause-fault c = pivoted_fault c.args.dictionary c.args.step.enters c.args.step.leaves c.pivot.result (leaves_basic c.args.dictionary c.args.step c.requires.leaves c.if-step.false).0 c.pivot.ensures.fault
