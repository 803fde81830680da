-- The members are those of the rows.
use Rattle.std.proofs.Common.{◌≡◌, ◌∙◌, ◌≤◌, ◌<◌, ◌++◌, ◌∷◌, [], false, length, map, ap, sym, subst, arith}
use Rattle.std.specs.List.{list_any}
use Rattle.std.proofs.lemmas.List.{length-append}
use Rattle.indexmap.specs.IndexSet.{keys}
use Rattle.gmpl_solution.specs.Solution.{member_eq}
use Rattle.gmpl_rows.specs.declared.draft.Rows.{Rows}
use Rattle.gmpl_rows.specs.Draft.{Draft, is_row, row_member}
use Rattle.gmpl_rows.specs.Premises.{AreDeclared, AreDifferent, AreObjects}
use Rattle.gmpl_rows.proofs.RowMembers.{declared_more, different, keys_after}
use Rattle.gmpl_rows.proofs.draft.Draft.new_row.Goals as goal

pub invariant_of-result : goal.invariant_of-result
invariant_of-result c =
    let old : Rows = c.into_inner-objects.result in
    let is : old ≡ c.self.inside.so_far = c.into_inner-objects.ensures in
    let rows = c.push_reserved.ensures.items ∙ ap (λ hs. hs ++ c.args.head ∷ []) c.in_ok-reserve.ensures.items in
    let members : keys old.members ≡ map row_member old.rows.items = subst (λ (r : Rows). keys r.members ≡ map row_member r.rows.items) (sym is) c.self.invariant.members in
    let none : is_row c.args.member old.rows.items ≡ false =
    subst (λ (r : Rows). is_row c.args.member r.rows.items ≡ false) (sym is) (subst (λ (d : Draft). is_row c.args.member d.rows ≡ false) (sym c.self.view_is) c.requires.new) in
    let new : list_any (member_eq c.args.member) (keys old.members) ≡ false = subst (λ ms. list_any (member_eq c.args.member) ms ≡ false) (sym members) none in
    let same = keys_after (keys old.members) (keys c.insert.new.self) c.args.member old.rows.items c.push_reserved.new.self.items c.args.head members c.requires.member new c.in_ok-insert.ensures.keys rows in
    let there : c.args.head.statement < length old.objects.items =
    subst (λ (r : Rows). c.args.head.statement < length r.objects.items) (sym is) (subst (λ (d : Draft). c.args.head.statement < length d.objects) (sym c.self.view_is) c.requires.there) in
    let declared : AreDeclared old.objects.items old.rows.items = subst (λ (r : Rows). AreDeclared r.objects.items r.rows.items) (sym is) c.self.invariant.declared in
    let count : length c.get.result.now.rows.items ≡ length old.rows.items = ap (λ (r : Rows). length r.rows.items) (c.get.ensures ∙ sym is) in
    let few : length c.push_reserved.new.self.items ≤ 1000000 = omega (arith, ap (λ hs. length hs) rows, length-append old.rows.items (c.args.head ∷ []), c.len-place.ensures, count, c.if-place-ge-MAX_ROWS.false) in
    let boxed = sym c.in_ok-so_far.ensures in
    record {
      few = subst (λ (r : Rows). length r.rows.items ≤ 1000000) boxed few;
      members = subst (λ (r : Rows). keys r.members ≡ map row_member r.rows.items) boxed same;
      differ = subst (λ (r : Rows). AreDifferent (map row_member r.rows.items)) boxed (subst AreDifferent same (different (keys c.insert.new.self) c.in_ok-insert.ensures.unique));
      objects = subst (λ (r : Rows). AreObjects r.objects.items) boxed (subst (λ (r : Rows). AreObjects r.objects.items) (sym is) c.self.invariant.objects);
      declared = subst (λ (r : Rows). AreDeclared r.objects.items r.rows.items) boxed (declared_more old.objects.items old.rows.items c.push_reserved.new.self.items c.args.head rows there declared);
    }
