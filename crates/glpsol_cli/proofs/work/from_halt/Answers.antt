use Rattle.std.proofs.Common.{subst, arith}
use Rattle.outside.specs.Causes.{Rose}
use Rattle.glpsol_cli.specs.Stages.{IsEndOf, Moment, texts_in}
use Rattle.glpsol_cli.proofs.Ended.{end_cause, end_written, table_unread_cause, table_unread_written}
use Rattle.glpsol_cli.proofs.work.from_halt.Goals as goal
use Rattle.glpsol_cli.proofs.Stories.{end_tells, table_unread_tells}

pub from_end-requires : goal.from_end-requires
from_end-requires g c = (c.type_bounds.sync-T, subst (IsEndOf c.args.inputs.settings (texts_in c.args.inputs)) c.in-End.is c.requires)

pub returns-in-End-clause-cause : goal.returns-in-End-clause-cause
returns-in-End-clause-cause g c =
    let now : Moment = record { outside = record { taken = g.O.Sink.taken c.args.out.now; told = g.S.Store.told c.args.files.now }; files = g.S.Store.faults c.args.files.now; out = g.O.Sink.faults c.args.out.now } in
    λ words told start whole. end_cause words told start now c.args.inputs.settings (texts_in c.args.inputs) c.args.halt whole (g.S.Store.faults c.from_end.new.files) (g.O.Sink.faults c.from_end.new.out) c.from_end.result c.from_end.ensures.cause

pub returns-in-End-clause-written : goal.returns-in-End-clause-written
returns-in-End-clause-written g c =
    let now : Moment = record { outside = record { taken = g.O.Sink.taken c.args.out.now; told = g.S.Store.told c.args.files.now }; files = g.S.Store.faults c.args.files.now; out = g.O.Sink.faults c.args.out.now } in
    let later : Moment = record { outside = record { taken = g.O.Sink.taken c.from_end.new.out; told = g.S.Store.told c.from_end.new.files }; files = g.S.Store.faults c.from_end.new.files; out = g.O.Sink.faults c.from_end.new.out } in
    λ words told start whole. end_written words told start now c.args.inputs.settings (texts_in c.args.inputs) c.args.halt whole later.outside c.from_end.result c.from_end.ensures.written

pub returns-clause-cause : goal.returns-clause-cause
returns-clause-cause g c =
    let now : Moment = record { outside = record { taken = g.O.Sink.taken c.args.out.now; told = g.S.Store.told c.args.files.now }; files = g.S.Store.faults c.args.files.now; out = g.O.Sink.faults c.args.out.now } in
    λ words told start whole. table_unread_cause words told start now c.args.inputs.settings (texts_in c.args.inputs) c.args.halt whole c.in-Unread.unread c.in-Unread.is c.unread_answer.result c.tell.result c.unread_answer.ensures c.tell.ensures.same (g.S.Store.faults c.args.files.now) (Rose start.out (g.O.Sink.faults c.tell.new.out)) (omega arith)

pub returns-clause-written : goal.returns-clause-written
returns-clause-written g c =
    let now : Moment = record { outside = record { taken = g.O.Sink.taken c.args.out.now; told = g.S.Store.told c.args.files.now }; files = g.S.Store.faults c.args.files.now; out = g.O.Sink.faults c.args.out.now } in
    λ words told start whole. table_unread_written words told start now c.args.inputs.settings (texts_in c.args.inputs) c.args.halt whole c.in-Unread.unread c.in-Unread.is c.unread_answer.result c.tell.result c.unread_answer.ensures c.tell.ensures.same (g.O.Sink.taken c.tell.new.out) c.tell.ensures.prefix

pub returns-in-End-clause-tells : goal.returns-in-End-clause-tells
returns-in-End-clause-tells g c =
    let now : Moment = record { outside = record { taken = g.O.Sink.taken c.args.out.now; told = g.S.Store.told c.args.files.now }; files = g.S.Store.faults c.args.files.now; out = g.O.Sink.faults c.args.out.now } in
    let later : Moment = record { outside = record { taken = g.O.Sink.taken c.from_end.new.out; told = g.S.Store.told c.from_end.new.files }; files = g.S.Store.faults c.from_end.new.files; out = g.O.Sink.faults c.from_end.new.out } in
    λ words told start whole. end_tells words told start now c.args.inputs.settings (texts_in c.args.inputs) c.args.halt whole later.files later.out later.outside c.from_end.result c.from_end.ensures.cause c.from_end.ensures.written

pub returns-clause-tells : goal.returns-clause-tells
returns-clause-tells g c =
    let now : Moment = record { outside = record { taken = g.O.Sink.taken c.args.out.now; told = g.S.Store.told c.args.files.now }; files = g.S.Store.faults c.args.files.now; out = g.O.Sink.faults c.args.out.now } in
    λ words told start whole. table_unread_tells words told start now c.args.inputs.settings (texts_in c.args.inputs) c.args.halt whole c.in-Unread.unread c.in-Unread.is c.unread_answer.result c.tell.result c.unread_answer.ensures c.tell.ensures.same (g.S.Store.faults c.args.files.now) (Rose start.out (g.O.Sink.faults c.tell.new.out)) (g.O.Sink.taken c.tell.new.out) (omega arith) c.tell.ensures.prefix
