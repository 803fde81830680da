use Rattle.std.proofs.Common.{subst}
use Rattle.outside.specs.Causes.{Rose}
use Rattle.glpsol_cli.specs.Pieces.{Outside}
use Rattle.glpsol_cli.specs.Stages.{IsUnfound, texts_in}
use Rattle.glpsol_cli.proofs.Carried.{not_linear_written, unaccepted_written, unreduced_written, unsolved_cause, unsolved_written}
use Rattle.glpsol_cli.proofs.task.from_unfound.Goals as goal

pub returns-in-Solve-clause-cause : goal.returns-in-Solve-clause-cause
returns-in-Solve-clause-cause g c =
    let s = c.args.inputs.now.settings in
    let texts = texts_in c.args.inputs.now in
    let answer = rw c.get.ensures at c.unsolved_answer-answer.ensures.answer in
    unsolved_cause s texts c.args.problem.now c.args.later c.requires.subject c.in-Solve.unsolved c.unsolved_answer-answer.result c.tell.result answer c.tell.ensures.same
    (Rose (g.S.Store.faults c.args.files.now) (g.S.Store.faults c.unsolved_answer-answer.new.files)) (Rose (g.O.Sink.faults c.args.out.now) (g.O.Sink.faults c.tell.new.out))
    (subst (λ u. IsUnfound u s texts) c.in-Solve.is c.requires.unfound)

pub returns-in-Solve-clause-written : goal.returns-in-Solve-clause-written
returns-in-Solve-clause-written g c =
    let old : Outside = record { taken = g.O.Sink.taken c.args.out.now; told = g.S.Store.told c.args.files.now } in
    let middle : Outside = record { taken = g.O.Sink.taken c.unsolved_answer-answer.new.out; told = g.S.Store.told c.unsolved_answer-answer.new.files } in
    let answer = rw c.get.ensures at c.unsolved_answer-answer.ensures.answer in
    let written = rw c.get.ensures at c.unsolved_answer-answer.ensures.written in
    unsolved_written c.args.inputs.now.settings (texts_in c.args.inputs.now) c.args.problem.now c.args.later c.requires.subject c.in-Solve.unsolved c.unsolved_answer-answer.result c.tell.result answer c.tell.ensures.same
    old middle (g.O.Sink.taken c.tell.new.out) written c.tell.ensures.prefix

pub returns-in-Check-clause-written : goal.returns-in-Check-clause-written
returns-in-Check-clause-written g c =
    unaccepted_written c.args.inputs.now.settings (texts_in c.args.inputs.now) c.args.problem.now c.args.later c.requires.subject c.in-Check.stop c.check_answer.result c.tell-in-Check.result c.check_answer.ensures c.tell-in-Check.ensures.same
    (g.O.Sink.taken c.args.out.now) (g.O.Sink.taken c.tell-in-Check.new.out) (g.S.Store.told c.args.files.now) c.tell-in-Check.ensures.prefix

pub returns-in-Subset-clause-written : goal.returns-in-Subset-clause-written
returns-in-Subset-clause-written g c =
    unreduced_written c.args.inputs.now.settings (texts_in c.args.inputs.now) c.args.problem.now c.args.later c.requires.subject c.in-Subset.fault c.subset_answer.result c.tell-in-Subset.result c.subset_answer.ensures c.tell-in-Subset.ensures.same
    (g.O.Sink.taken c.args.out.now) (g.O.Sink.taken c.tell-in-Subset.new.out) (g.S.Store.told c.args.files.now) c.tell-in-Subset.ensures.prefix

pub returns-clause-written : goal.returns-clause-written
returns-clause-written g c =
    not_linear_written c.args.inputs.now.settings (texts_in c.args.inputs.now) c.args.problem.now c.args.later c.requires.subject c.tell-in-NotLinear.result c.tell-in-NotLinear.ensures.same
    (g.O.Sink.taken c.args.out.now) (g.O.Sink.taken c.tell-in-NotLinear.new.out) (g.S.Store.told c.args.files.now) c.tell-in-NotLinear.ensures.prefix
