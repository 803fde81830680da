use Rattle.std.proofs.Common.{string_bytes}
use Rattle.glpsol_cli.proofs.Works.{reads_on}
use Rattle.glpsol_cli.proofs.execution.execute_on.Goals as goal

pub returns : goal.returns
returns c =
    reads_on c.args.settings.now c.args.table_text.now (string_bytes c.args.waiting.printed) c.args.waiting.pending c.into_inner.result c.into_inner.ensures c.in_ok-reading.reading c.of_reading.result c.in_ok-reading.ensures.reading c.of_reading.ensures
