use Rattle.std.proofs.Common.{◌≤◌}
use Rattle.glpsol_cli.specs.Left.{IsSomeHalt, left_of}
use Rattle.glpsol_cli.specs.Stages.{GoesOn}
use Rattle.glpsol_cli.proofs.tables.with_tables.Given as goal

-- what held of the run at the start, holds of the latest
abbrev pub invariant-loop-alloc : goal.invariant-loop-alloc
invariant-loop-alloc g l = record {
  goes_on : GoesOn (record { outside = record { taken = g.O.Sink.taken l.initial.out; told = g.S.Store.told l.initial.files }; files = g.S.Store.faults l.initial.files; out = g.O.Sink.faults l.initial.out }) (record { outside = record { taken = g.O.Sink.taken l.out; told = g.S.Store.told l.files }; files = g.S.Store.faults l.files; out = g.O.Sink.faults l.out }) l.fn.run l.latest;
  files_later : g.S.Store.faults l.initial.files ≤ g.S.Store.faults l.files;
  out_later : g.O.Sink.faults l.initial.out ≤ g.O.Sink.faults l.out;
  some : IsSomeHalt l.latest.inputs.settings l.latest.executed.halt;
}

-- what is left of the text
abbrev pub decreases-loop-alloc : goal.decreases-loop-alloc
decreases-loop-alloc g l = left_of l.latest.executed.halt
