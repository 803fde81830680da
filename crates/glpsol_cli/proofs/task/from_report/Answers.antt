use Rattle.glpsol_cli.specs.Pieces.{Outside}
use Rattle.glpsol_cli.specs.Stages.{texts_in}
use Rattle.glpsol_cli.proofs.Carried.{size_cause, size_written, acceptance_cause, acceptance_written, subset_cause, subset_written}
use Rattle.glpsol_cli.proofs.task.from_report.Goals as goal

pub returns-in-Size-clause-cause : goal.returns-in-Size-clause-cause
returns-in-Size-clause-cause g c =
    size_cause c.args.inputs.now.settings (texts_in c.args.inputs.now) c.args.problem.now c.args.later c.requires.subject c.args.finding c.in-Size.is c.requires.found

pub returns-in-Size-clause-written : goal.returns-in-Size-clause-written
returns-in-Size-clause-written g c =
    let now : Outside = record { taken = g.O.Sink.taken c.args.out.now; told = g.S.Store.told c.args.files.now } in
    size_written c.args.inputs.now.settings (texts_in c.args.inputs.now) c.args.problem.now c.args.later c.requires.subject c.args.finding c.in-Size.is now

pub returns-in-Acceptance-clause-cause : goal.returns-in-Acceptance-clause-cause
returns-in-Acceptance-clause-cause g c =
    acceptance_cause c.args.inputs.now.settings (texts_in c.args.inputs.now) c.args.problem.now c.args.later c.requires.subject c.args.finding c.in-Acceptance.certificate c.in-Acceptance.is c.requires.found

pub returns-in-Acceptance-clause-written : goal.returns-in-Acceptance-clause-written
returns-in-Acceptance-clause-written g c =
    let now : Outside = record { taken = g.O.Sink.taken c.args.out.now; told = g.S.Store.told c.args.files.now } in
    acceptance_written c.args.inputs.now.settings (texts_in c.args.inputs.now) c.args.problem.now c.args.later c.requires.subject c.args.finding c.in-Acceptance.certificate c.in-Acceptance.is now

pub returns-in-Subset-clause-cause : goal.returns-in-Subset-clause-cause
returns-in-Subset-clause-cause g c =
    subset_cause c.args.inputs.now.settings (texts_in c.args.inputs.now) c.args.problem.now c.args.later c.requires.subject c.args.finding c.in-Subset.certificate c.in-Subset.subset c.in-Subset.is c.requires.found

pub returns-in-Subset-clause-written : goal.returns-in-Subset-clause-written
returns-in-Subset-clause-written g c =
    let now : Outside = record { taken = g.O.Sink.taken c.args.out.now; told = g.S.Store.told c.args.files.now } in
    subset_written c.args.inputs.now.settings (texts_in c.args.inputs.now) c.args.problem.now c.args.later c.requires.subject c.args.finding c.in-Subset.certificate c.in-Subset.subset c.in-Subset.is now
