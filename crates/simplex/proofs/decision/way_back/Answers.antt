use Rattle.std.proofs.Common.{arith}
use Rattle.dictionary.proofs.Laws.{read_number}
use Rattle.simplex.proofs.DecisionLemmas.{mend_moves, way_back_fault}
use Rattle.simplex.proofs.decision.way_back.Goals as goal

pub step_to-requires-clause-moves : goal.step_to-requires-clause-moves
step_to-requires-clause-moves c = mend_moves c.args.system.now c.args.state.now.dictionary c.args.state.now.values.items c.args.enters c.args.leaves c.args.place c.requires.step

pub returns-clause-err : goal.returns-clause-err
returns-clause-err c =
    way_back_fault c.args.system.now c.args.state.now.dictionary c.args.state.now.values.items c.args.state.now.bases c.requires.reached c.args.enters c.args.leaves c.args.place c.bounds.result c.bound_at.result c.index.result.now c.unwrap-bound.result c.step_to.result
    c.requires.step c.bounds.ensures c.bound_at.ensures c.unwrap-bound.ensures
    (λ known. read_number c.args.state.now.values.items c.args.leaves c.index.result.now (let e = c.requires.reached.is_state.size in omega arith) c.index.ensures) c.step_to.ensures.err
