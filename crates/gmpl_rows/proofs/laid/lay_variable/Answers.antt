-- The member at the place is a column, where it is used.
use Rattle.std.proofs.Common.{◌≡◌, ◌∙◌, ◌++◌, ◌∷◌, [], cond, refl, sym, ap}
use Rattle.gmpl_member_names.specs.Narrow.{AreNarrow}
use Rattle.gmpl_rows.specs.MemberColumn.{is_used}
use Rattle.gmpl_rows.specs.Problem.{LaidColumn, laid_member}
use Rattle.gmpl_rows.proofs.ColumnNames.{narrow-more}
use Rattle.gmpl_rows.proofs.LaidOut.{at-place, laid-more}
use Rattle.gmpl_rows.proofs.laid.lay_variable.Goals as goal
use Rattle.gmpl_rows.proofs.laid.lay_variable.Goals.{then-is_used+in_ok-laid_member+in_ok-push, else-is_used}

pub loop-place-preserved : goal.loop-place-preserved
loop-place-preserved c =
    let ms = c.args.demanded.now.members in
    let ks = c.args.demanded.now.columns in
    let m = c.member-item.result in
    let k = c.column-column.result.now in
    let v = c.args.object.now in
    let place = c.loop-place.place in
    let laid = c.loop-place.laid.items in
    let more = c.if-is_used.laid.items in
    let member = at-place ms c.members-member-items.result.now place m c.members-member-items.ensures.members (c.loop-place-test.true) c.member-item.is in
    let is : more ≡ cond (is_used k) (laid ++ laid_member v m k ∷ []) laid = elim c.if-is_used.branch [
      | then-is_used+in_ok-laid_member+in_ok-push w ↦ rw (sym c.is_used.ensures ∙ w.if-is_used.true, w.laid-is) (w.in_ok-push.ensures.items ∙ ap (λ (x : LaidColumn). laid ++ x ∷ []) w.in_ok-laid_member.ensures.value)
      | else-is_used w ↦ rw (sym c.is_used.ensures ∙ w.if-is_used.false, w.laid-is) refl
    ] in
    let narrow : cond (is_used k) (AreNarrow m) (Unit {0}) = elim c.if-is_used.branch [
      | then-is_used+in_ok-laid_member+in_ok-push w ↦ rw (sym c.is_used.ensures ∙ w.if-is_used.true) w.in_ok-laid_member.ensures.narrow
      | else-is_used w ↦ rw (sym c.is_used.ensures ∙ w.if-is_used.false) tt
    ] in (
      laid-more v ms ks place m k laid more _ member c.column-column.ensures is c.loop-place.invariant.0,
      λ rest. c.loop-place.invariant.1 (narrow-more ms ks place m k member c.column-column.ensures narrow rest),
    )
