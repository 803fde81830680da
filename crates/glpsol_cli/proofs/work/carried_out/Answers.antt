use Rattle.std.proofs.Common.{map, string_bytes}
use Rattle.outside.specs.Causes.{Rose}
use Rattle.glpsol_cli.specs.Pieces.{Outside}
use Rattle.glpsol_cli.proofs.Carried.{stopped_cause, stopped_written}
use Rattle.glpsol_cli.proofs.Ended.{written_from_start}
use Rattle.glpsol_cli.proofs.work.carried_out.Goals as goal
use Rattle.glpsol_cli.proofs.Stories.{stopped_tells, tells_from_start}

pub returns-in-Err-clause-cause : goal.returns-in-Err-clause-cause
returns-in-Err-clause-cause g c =
    stopped_cause (map string_bytes c.args.words.now) (g.S.Store.told c.args.files.now) (g.S.Store.told c.read_inputs.new.files) c.read_inputs.ensures.told (Rose (g.S.Store.faults c.args.files.now) (g.S.Store.faults c.read_inputs.new.files)) (Rose (g.O.Sink.faults c.args.out.now) (g.O.Sink.faults c.tell.new.out))
    c.in-Err.stop c.in-Err.ensures.stop c.stop_answer.result c.tell.result c.stop_answer.ensures c.tell.ensures.same

pub returns-in-Err-clause-written : goal.returns-in-Err-clause-written
returns-in-Err-clause-written g c =
    stopped_written (map string_bytes c.args.words.now) (g.S.Store.told c.args.files.now) (g.S.Store.told c.read_inputs.new.files) c.read_inputs.ensures.told (Rose (g.S.Store.faults c.args.files.now) (g.S.Store.faults c.read_inputs.new.files)) (Rose (g.O.Sink.faults c.args.out.now) (g.O.Sink.faults c.tell.new.out))
    c.in-Err.stop c.in-Err.ensures.stop c.stop_answer.result c.tell.result c.stop_answer.ensures c.tell.ensures.same (g.O.Sink.taken c.args.out.now) (g.O.Sink.taken c.tell.new.out) c.tell.ensures.prefix

pub from_inputs-requires : goal.from_inputs-requires
from_inputs-requires g c = (
  c.type_bounds.sync-T,
  record {
    words = map string_bytes c.args.words.now;
    told = g.S.Store.told c.args.files.now;
    same = c.read_inputs.ensures.told;
    are = c.in-Ok.ensures.inputs;
  },
)

pub returns-clause-cause : goal.returns-clause-cause
returns-clause-cause g c =
    let words = map string_bytes c.args.words.now in
    let told = g.S.Store.told c.args.files.now in
    c.from_inputs.ensures.cause words told (g.S.Store.faults c.args.files.now) c.in-Ok.ensures.inputs c.read_inputs.ensures.told c.read_inputs.ensures.later

pub returns-clause-written : goal.returns-clause-written
returns-clause-written g c =
    let words = map string_bytes c.args.words.now in
    let told = g.S.Store.told c.args.files.now in
    let new : Outside = record { taken = g.O.Sink.taken c.from_inputs.new.out; told = g.S.Store.told c.from_inputs.new.files } in
    written_from_start words (g.O.Sink.taken c.args.out.now) told (g.S.Store.told c.read_inputs.new.files) new c.from_inputs.result c.read_inputs.ensures.told
    (c.from_inputs.ensures.written words told c.in-Ok.ensures.inputs c.read_inputs.ensures.told)

pub returns-in-Err-clause-tells : goal.returns-in-Err-clause-tells
returns-in-Err-clause-tells g c =
    let old : Outside = record { taken = g.O.Sink.taken c.args.out.now; told = g.S.Store.told c.args.files.now } in
    let new : Outside = record { taken = g.O.Sink.taken c.tell.new.out; told = g.S.Store.told c.read_inputs.new.files } in
    stopped_tells (map string_bytes c.args.words.now) old.told old new (Rose (g.S.Store.faults c.args.files.now) (g.S.Store.faults c.read_inputs.new.files)) (Rose (g.O.Sink.faults c.args.out.now) (g.O.Sink.faults c.tell.new.out)) c.in-Err.stop c.stop_answer.result c.tell.result c.stop_answer.ensures c.tell.ensures.same

pub returns-clause-tells : goal.returns-clause-tells
returns-clause-tells g c =
    let words = map string_bytes c.args.words.now in
    let told = g.S.Store.told c.args.files.now in
    let new : Outside = record { taken = g.O.Sink.taken c.from_inputs.new.out; told = g.S.Store.told c.from_inputs.new.files } in
    tells_from_start words (g.O.Sink.taken c.args.out.now) told (g.S.Store.told c.read_inputs.new.files) new (Rose (g.S.Store.faults c.args.files.now) (g.S.Store.faults c.from_inputs.new.files)) (Rose (g.O.Sink.faults c.args.out.now) (g.O.Sink.faults c.from_inputs.new.out)) c.from_inputs.result c.read_inputs.ensures.told
    (c.from_inputs.ensures.tells words told (g.S.Store.faults c.args.files.now) c.in-Ok.ensures.inputs c.read_inputs.ensures.told c.read_inputs.ensures.later)
