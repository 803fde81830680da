use Rattle.std.proofs.Common.{◌≡◌, ◌∙◌, ap, sym, arith}
use Rattle.rational.specs.Rational.{zero_ℚ}
use Rattle.instance.specs.Sums.{sum_answer}
use Rattle.milp.specs.Form.{sum_at}
use Rattle.verdicts.specs.Proves.{MeetsDerived}
use Rattle.search_tree.proofs.NodePoints.{meets_by, one_more, all_hold, not_all, err_from, cut_fault}
use Rattle.search_tree.proofs.points.meets_cuts.Goals as goal

pub loop-k-preserved : goal.loop-k-preserved
loop-k-preserved c =
    let x = c.args.x.now in
    let cut = c.index-cuts-k.result in
    let value : c.in_ok-value.value ≡ sum_at x cut.form = c.in_ok-value.ensures.is_sum ∙ ap (sum_at x) (c.as_slice.ensures ∙ c.form.ensures) in
    let new : MeetsDerived x cut = meets_by c.bound.result cut.bound c.in_ok-value.value (sum_at x cut.form) c.bound.ensures.bound value (c.is_at_most.ensures.yes c.if-not-is_at_most.false) in
    record {
      at_most = omega (arith, c.loop-k-test.true);
      met = one_more (λ k cut. MeetsDerived x cut) c.args.cuts.now c.loop-k.k cut c.loop-k-test.true c.index-cuts-k.is new c.loop-k.invariant.met;
    }

pub returns-then-not-is_at_most-clause-no : goal.returns-then-not-is_at_most-clause-no
returns-then-not-is_at_most-clause-no c = λ t all.
    let x = c.args.x.now in
    let cut = c.index-cuts-k.result in
    let value : c.in_ok-value.value ≡ sum_at x cut.form = c.in_ok-value.ensures.is_sum ∙ ap (sum_at x) (c.as_slice.ensures ∙ c.form.ensures) in
    not_all (λ k cut. MeetsDerived x cut) c.args.cuts.now c.loop-k.k cut c.loop-k-test.true c.index-cuts-k.is
    (λ met. c.is_at_most.ensures.no c.if-not-is_at_most.true (meets_by cut.bound c.bound.result (sum_at x cut.form) c.in_ok-value.value (sym c.bound.ensures.bound) (sym value) met)) all

pub returns-clause-yes : goal.returns-clause-yes
returns-clause-yes c = λ t. all_hold (λ k cut. MeetsDerived c.args.x.now cut) c.args.cuts.now c.loop-k.k (omega (arith, c.loop-k-test.false)) c.loop-k.invariant.met

pub returns-in_err-value-clause-fault : goal.returns-in_err-value-clause-fault
returns-in_err-value-clause-fault c =
    let x = c.args.x.now in
    let fault = ap (sum_answer x zero_ℚ) (sym (c.as_slice.ensures ∙ c.form.ensures)) ∙ sym c.form_value.ensures.exact ∙ c.in_err-value.was in
    err_from c.from_residual.result c.in_err-value.field-0.0 _ c.from_residual.ensures.1 (cut_fault c.args.cuts.now x c.loop-k.k c.index-cuts-k.result c.in_err-value.field-0.0 c.loop-k-test.true c.index-cuts-k.is fault)
