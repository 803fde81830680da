use Rattle.std.proofs.Common.{length, take, ap}
use Rattle.glpsol_cli.proofs.Works.{executes_all}
use Rattle.glpsol_cli.proofs.execution.execute.Goals as goal

pub returns : goal.returns
returns c =
    let others = c.in-Some.others.now in
    executes_all (λ text. text.items) c.args.settings.now c.args.texts.now others (take (length c.as_slice.result.now) others) c.in-Some.text.now c.deref.result.now
    c.in-Some.ensures.cases.0 c.deref.ensures.value (ap (λ names. take (length names) others) c.as_slice.ensures) c.execute_model.result c.execute_model.ensures
