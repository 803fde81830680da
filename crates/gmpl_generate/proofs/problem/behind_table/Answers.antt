-- The model is lent out of its box.
use Rattle.std.proofs.Common.{refl, string_bytes}
use Rattle.gmpl_generate.specs.Running.{made_of}
use Rattle.gmpl_generate.proofs.Executions.{is_resumed}
use Rattle.gmpl_generate.proofs.problem.behind_table.Goals as goal

pub returns-in-Ok : goal.returns-in-Ok
returns-in-Ok c =
    is_resumed c.args.model c.in-Ok.model c.get.result.now c.args.pause (string_bytes c.args.printed) c.args.text.now _ (made_of c.from_pause-stopped.new.so_far) c.from_pause-stopped.result c.outcome_of.result
    c.in-Ok.ensures c.get.ensures (rw c.new-files.ensures.items refl) c.from_pause-stopped.ensures c.outcome_of.ensures
