use Rattle.std.proofs.Common.{◌<◌, suc, length, map, sym, subst}
use Rattle.std.proofs.lemmas.List.{length-map}
use Rattle.glpsol_cli.specs.Cause.{IsAccepted}
use Rattle.glpsol_cli.specs.Stages.{IsCheckStop, IsFinding, IsSolution, IsUnfound, IsUnsolved, OfNext, texts_in}
use Rattle.glpsol_cli.proofs.Follow.{err_also, ok_also}
use Rattle.glpsol_cli.proofs.Works.{checks_by, one_behind, unsolved, solution_found, solves_by, of_checked, unchecked}
use Rattle.glpsol_cli.proofs.work_out.finding.Goals as goal

pub returns-in-Solve-clause-fault : goal.returns-in-Solve-clause-fault
returns-in-Solve-clause-fault g c =
    let inputs = c.args.inputs.now in
    let is = rw c.get-settings.ensures at c.in-Solve.is in
    err_also c.solution.result (IsUnsolved c.args.problem.now inputs.settings) (λ unfound. IsUnfound unfound inputs.settings (texts_in inputs))
    (unsolved inputs.settings (texts_in inputs) c.args.problem.now c.requires.asked (solves_by inputs.settings.task c.in-Solve.outputs is))
    (rw c.get-settings.ensures at c.solution.ensures.fault)

pub returns-in-Solve-clause-finding : goal.returns-in-Solve-clause-finding
returns-in-Solve-clause-finding g c =
    let inputs = c.args.inputs.now in
    let is = rw c.get-settings.ensures at c.in-Solve.is in
    ok_also c.solution.result (IsSolution c.args.problem.now inputs.settings.task) (IsFinding c.args.problem.now inputs.settings (texts_in inputs))
    (solution_found inputs.settings (texts_in inputs) c.args.problem.now c.requires.asked (solves_by inputs.settings.task c.in-Solve.outputs is))
    (rw c.get-settings.ensures at c.solution.ensures.finding)

pub returns-in-Ok-clause-finding : goal.returns-in-Ok-clause-finding
returns-in-Ok-clause-finding g c =
    let inputs = c.args.inputs.now in
    let is = rw c.get-settings.ensures at c.in-CheckCertificate.is in
    of_checked inputs.settings (texts_in inputs) c.args.problem.now _ (checks_by inputs.settings.task is) c.requires.asked (IsAccepted c.in-Ok.certificate)
    (subst (λ names. OfNext (IsAccepted c.in-Ok.certificate c.args.problem.now) (length names) (texts_in inputs)) (rw c.get-settings.ensures at c.as_slice-count.ensures)
    (subst (λ texts. OfNext (IsAccepted c.in-Ok.certificate c.args.problem.now) (length c.as_slice-count.result.now) (map (λ text. text.items) texts)) c.deref.ensures.value c.in-Ok.ensures.accepted))

pub returns-in-Err-clause-fault : goal.returns-in-Err-clause-fault
returns-in-Err-clause-fault g c =
    let inputs = c.args.inputs.now in
    let is = rw c.get-settings.ensures at c.in-CheckCertificate.is in
    unchecked inputs.settings (texts_in inputs) c.args.problem.now _ (checks_by inputs.settings.task is) c.requires.asked c.in-Err.stop
    (subst (λ names. OfNext (λ bytes. IsCheckStop c.args.problem.now bytes c.in-Err.stop) (length names) (texts_in inputs)) (rw c.get-settings.ensures at c.as_slice-count.ensures)
    (subst (λ texts. OfNext (λ bytes. IsCheckStop c.args.problem.now bytes c.in-Err.stop) (length c.as_slice-count.result.now) (map (λ text. text.items) texts)) c.deref.ensures.value c.in-Err.ensures.stop))

pub accept_behind-requires : goal.accept_behind-requires
accept_behind-requires g c =
    let inputs = c.args.inputs.now in
    let is = rw c.get-settings.ensures at c.in-CheckCertificate.is in
    subst (λ texts. suc (length c.as_slice-count.result.now) < length texts) (sym c.deref.ensures.value)
    (subst (λ names. suc (length names) < length inputs.texts.items) (sym (rw c.get-settings.ensures at c.as_slice-count.ensures))
    (subst (λ n. suc (length inputs.settings.data_files) < n) (length-map inputs.texts.items (λ text. text.items))
    (one_behind inputs.settings _ (length (texts_in inputs)) (checks_by inputs.settings.task is) c.requires.enough)))
