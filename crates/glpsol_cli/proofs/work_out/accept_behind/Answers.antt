use Rattle.std.proofs.Common.{map}
use Rattle.glpsol_cli.specs.Cause.{IsAccepted}
use Rattle.glpsol_cli.specs.Stages.{IsCheckStop, OfNext}
use Rattle.glpsol_cli.proofs.Follow.{err_also, ok_also}
use Rattle.glpsol_cli.proofs.Works.{next_text_is}
use Rattle.glpsol_cli.proofs.work_out.accept_behind.Goals as goal

pub returns-clause-accepted : goal.returns-clause-accepted
returns-clause-accepted c =
    let texts = map (λ text. text.items) c.args.texts.now in
    let stands = next_text_is (λ text. text.items) c.args.texts.now c.args.count c.index-texts-count.result c.deref.result.now c.requires c.index-texts-count.is c.deref.ensures.value in
    ok_also c.accept.result (λ d. IsAccepted d c.args.problem.now c.deref.result.now) (λ d. OfNext (IsAccepted d c.args.problem.now) c.args.count texts) (λ d h. record { bytes = c.deref.result.now; stands = stands; holds = h }) c.accept.ensures.accepted

pub returns-clause-stop : goal.returns-clause-stop
returns-clause-stop c =
    let texts = map (λ text. text.items) c.args.texts.now in
    let stands = next_text_is (λ text. text.items) c.args.texts.now c.args.count c.index-texts-count.result c.deref.result.now c.requires c.index-texts-count.is c.deref.ensures.value in
    err_also c.accept.result (IsCheckStop c.args.problem.now c.deref.result.now) (λ stop. OfNext (λ bytes. IsCheckStop c.args.problem.now bytes stop) c.args.count texts) (λ stop h. record { bytes = c.deref.result.now; stands = stands; holds = h }) c.accept.ensures.stop
