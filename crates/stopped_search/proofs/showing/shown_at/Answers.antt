use Rattle.std.proofs.Common.{◌≡◌, ◌∙◌, ap, sym, subst, Some}
use Rattle.search_tree.specs.Board.{Board}
use Rattle.branch_search.specs.WholeFaults.{IsFault}
use Rattle.stopped_search.specs.Stopped.{shown_for, shown_at}
use Rattle.stopped_search.proofs.Results.{if_some}
use Rattle.stopped_search.proofs.showing.shown_at.Goals as goal

pub returns-in-PivotLimit-clause-shown : goal.returns-in-PivotLimit-clause-shown
returns-in-PivotLimit-clause-shown c =
    let w = c.in-PivotLimit.wanted in
    if_some c.shown_by.result (λ k. k ≡ shown_for w c.get.result.now) (λ k. shown_at c.args.fault.now ≡ Some k) (λ k e. ap shown_at c.in-PivotLimit.is ∙ ap Some (ap (shown_for w) (sym c.get.ensures) ∙ sym e)) c.shown_by.ensures.shown

pub returns-in-PivotLimit-clause-passes : goal.returns-in-PivotLimit-clause-passes
returns-in-PivotLimit-clause-passes c = λ p splits pivots h.
    let stopped = (subst (IsFault p splits pivots) c.in-PivotLimit.is h).1.stopped in
    c.shown_by.ensures.passes p (ap (λ (b : Board). b.problem) c.get.ensures ∙ stopped.problem) (ap (λ (b : Board). b.cuts) c.get.ensures ∙ stopped.cuts)

pub returns-in-PivotLimit-clause-columns : goal.returns-in-PivotLimit-clause-columns
returns-in-PivotLimit-clause-columns c = λ p splits pivots h.
    let stopped = (subst (IsFault p splits pivots) c.in-PivotLimit.is h).1.stopped in
    c.shown_by.ensures.columns (ap (λ (b : Board). b.cuts) c.get.ensures ∙ stopped.cuts)

pub returns-in-SplitLimit-clause-shown : goal.returns-in-SplitLimit-clause-shown
returns-in-SplitLimit-clause-shown c =
    let w = c.in-SplitLimit.wanted in
    if_some c.shown_by-in-SplitLimit.result (λ k. k ≡ shown_for w c.get-in-SplitLimit.result.now) (λ k. shown_at c.args.fault.now ≡ Some k) (λ k e. ap shown_at c.in-SplitLimit.is ∙ ap Some (ap (shown_for w) (sym c.get-in-SplitLimit.ensures) ∙ sym e)) c.shown_by-in-SplitLimit.ensures.shown

pub returns-in-SplitLimit-clause-passes : goal.returns-in-SplitLimit-clause-passes
returns-in-SplitLimit-clause-passes c = λ p splits pivots h.
    let stopped = (subst (IsFault p splits pivots) c.in-SplitLimit.is h).1.stopped in
    c.shown_by-in-SplitLimit.ensures.passes p (ap (λ (b : Board). b.problem) c.get-in-SplitLimit.ensures ∙ stopped.problem) (ap (λ (b : Board). b.cuts) c.get-in-SplitLimit.ensures ∙ stopped.cuts)

pub returns-in-SplitLimit-clause-columns : goal.returns-in-SplitLimit-clause-columns
returns-in-SplitLimit-clause-columns c = λ p splits pivots h.
    let stopped = (subst (IsFault p splits pivots) c.in-SplitLimit.is h).1.stopped in
    c.shown_by-in-SplitLimit.ensures.columns (ap (λ (b : Board). b.cuts) c.get-in-SplitLimit.ensures ∙ stopped.cuts)
