use Rattle.std.proofs.Common.{◌≡◌, ◌≤◌, ◌∙◌, ◌+◌, ◌-◌, ◌++◌, ◌∷◌, [], length, drop, sym, ap, arith, append-nil}
use Rattle.std.proofs.lemmas.List.{get_or_read}
use Rattle.gmpl_formats.specs.declared.pieces.Step.{Step}
use Rattle.gmpl_formats.specs.Pieces.{pieces_behind}
use Rattle.gmpl_formats.proofs.Steps.{skip_more, with_step, pieces_end}
use Rattle.gmpl_formats.proofs.pieces.pieces_of.Goals as goal

pub loop-place-preserved-then-behind-gt0 : goal.loop-place-preserved-then-behind-gt0
loop-place-preserved-then-behind-gt0 c =
    ap (λ x. c.loop-place.pieces.items ++ x) (sym (skip_more c.loop-place.behind c.loop-place.place c.args.text.now (omega arith) (omega arith))) ∙ c.loop-place.invariant

pub loop-place-preserved : goal.loop-place-preserved
loop-place-preserved c =
    let text = c.args.text.now in
    let i = c.loop-place.place in
    let done = c.loop-place.pieces.items in
    let first = get_or_read text i c.index-text-place.result (omega arith) c.index-text-place.is 0 in
    let none : c.loop-place.behind ≡ 0 = omega arith in
    ap (λ b. c.push.new.self.items ++ pieces_behind b (drop (i + 1) text)) (c.saturating_sub-behind.ensures ∙ ap (λ (s : Step). s.count - 1) c.first_step-step.ensures)
    ∙ with_step done c.push.new.self.items c.loop-place.behind i c.index-text-place.result text c.after.result.now _ (omega arith) none first c.after.ensures
    (c.in_ok-push.ensures.items ∙ ap (λ (s : Step). done ++ s.piece ∷ []) c.first_step-step.ensures) c.loop-place.invariant

pub returns : goal.returns
returns c =
    let text = c.args.text.now in
    let past : length text ≤ c.loop-place.place = omega (arith, c.loop-place-test.false) in
    sym (append-nil c.loop-place.pieces.items) ∙ ap (λ x. c.loop-place.pieces.items ++ x) (sym (pieces_end c.loop-place.behind c.loop-place.place text past)) ∙ c.loop-place.invariant
