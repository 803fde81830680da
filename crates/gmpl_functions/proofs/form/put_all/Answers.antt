use Rattle.gmpl_functions.proofs.SumSteps.{put_on, put_fails, handed_on}
use Rattle.gmpl_functions.proofs.form.put_all.Goals as goal

pub returns-in_err-put_term : goal.returns-in_err-put_term
returns-in_err-put_term c =
    let f = c.in_err-put_term.field-0.0 in
    handed_on c.from_residual.result f c.put_term.new.terms.entries _ c.from_residual.ensures.1
    (put_fails c.args.sign c.loop-place.terms.entries c.args.other.now.terms c.loop-place.place f _ c.loop-place.invariant c.in_err-put_term.ensures)

pub loop-place-preserved : goal.loop-place-preserved
loop-place-preserved c =
    put_on c.args.sign c.loop-place.terms.entries c.args.other.now.terms c.put_term.new.terms.entries c.loop-place.place _ c.loop-place.invariant c.in_ok-put_term.ensures
