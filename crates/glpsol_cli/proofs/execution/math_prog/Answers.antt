use Rattle.std.proofs.Common.{[], map}
use Rattle.glpsol_cli.proofs.Works.{reads_so}
use Rattle.glpsol_cli.proofs.execution.math_prog.Goals as goal

pub returns-in-Ok : goal.returns-in-Ok
returns-in-Ok c =
    reads_so c.args.settings.now c.args.text.now (map (λ text. text.items) c.args.data_texts.now) [] c.requires [] c.in-Ok.reading c.of_reading.result c.in-Ok.ensures.reading c.of_reading.ensures
