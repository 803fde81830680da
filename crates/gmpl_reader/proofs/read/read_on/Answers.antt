-- The execution behind one more table.
use Rattle.std.proofs.Common.{string_bytes}
use Rattle.gmpl_generate.specs.Problem.{resumed}
use Rattle.gmpl_reader.proofs.Readings.{fewer_left, reads_on}
use Rattle.gmpl_reader.proofs.read.read_on.Goals as goal

pub returns-clause-reading : goal.returns-clause-reading
returns-clause-reading c =
    reads_on c.args.pending (string_bytes c.args.printed) c.args.table_text.now c.in_ok-reading.reading
    (c.in_ok-reading.ensures (resumed c.args.pending.model c.args.pending.pause (string_bytes c.args.printed) c.args.table_text.now) c.in_ok-executed.ensures.executed)

pub returns-clause-left : goal.returns-clause-left
returns-clause-left c =
    fewer_left c.args.pending (string_bytes c.args.printed) c.args.table_text.now c.in_ok-reading.reading
    (c.in_ok-reading.ensures (resumed c.args.pending.model c.args.pending.pause (string_bytes c.args.printed) c.args.table_text.now) c.in_ok-executed.ensures.executed)
