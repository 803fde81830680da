-- Rows of different members.
use Rattle.std.proofs.Common.{◌≡◌, ◌∙◌, ◌<◌, ◌++◌, length, Bool, true, false, if◌then◌else◌, List, [], ◌∷◌, map, refl, sym, ap, subst}
use Rattle.std.specs.Cmp.{IsEquivalence}
use Rattle.std.specs.List.{AllByRecursion, IsDistinct, list_any}
use Rattle.indexmap.specs.IndexSet.{insert_key}
use Rattle.gmpl_solution.specs.Solution.{member_eq}
use Rattle.gmpl_solution.specs.contracts.member.MemberEq.TheImpl.Laws.{laws-law}
use Rattle.gmpl_solution.specs.declared.member.Member.{Member}
use Rattle.gmpl_rows.specs.Draft.{row_member}
use Rattle.gmpl_rows.specs.Premises.{AreDeclared, AreDifferent}
use Rattle.gmpl_rows.specs.declared.declared.Declared.{Declared}
use Rattle.gmpl_rows.specs.declared.draft.RowHead.{RowHead}

member_laws : IsEquivalence member_eq
member_laws = laws-law

others : (m : Member) (ms : List Member) → AllByRecursion (λ n. member_eq m n ≡ false) ms → AllByRecursion (λ n. m ≡ n → ⊥) ms
others m [] h = tt
others m (n ∷ ms) h = ((λ e. different (subst (λ k. member_eq m k ≡ false) (sym e) h.0)), others m ms h.1)
  where
    different : member_eq m m ≡ false → ⊥
    different f = let t : member_eq m m ≡ true = member_laws.refl m in cc

pub different : (ms : List Member) → IsDistinct member_eq ms → AreDifferent ms
unfolding IsDistinct
different [] d = tt
different (m ∷ ms) d = (others m ms d.0, different ms d.1)

pub members_more : (hs : List RowHead) (h : RowHead) → map row_member (hs ++ h ∷ []) ≡ map row_member hs ++ row_member h ∷ []
members_more [] h = refl
members_more (g ∷ hs) h = ap (λ ms. row_member g ∷ ms) (members_more hs h)

-- the keys after a member that was none
pub keys_after : (old new : List Member) (m : Member) (hs more : List RowHead) (h : RowHead) → old ≡ map row_member hs → m ≡ row_member h → list_any (member_eq m) old ≡ false → new ≡ insert_key member_eq old m → more ≡ hs ++ h ∷ [] → new ≡ map row_member more
keys_after old new m hs more h a b f is then_is =
    is ∙ absent (list_any (member_eq m) old) f ∙ ap (λ ms. ms ++ m ∷ []) a ∙ ap (λ x. map row_member hs ++ x ∷ []) b ∙ sym (members_more hs h) ∙ ap (map row_member) (sym then_is)
  where
    absent : (t : Bool) → t ≡ false → (if t then old else old ++ m ∷ []) ≡ old ++ m ∷ []
    absent true e = absurd cc
    absent false e = refl

pub declared_more : (vs : List Declared) (hs more : List RowHead) (h : RowHead) → more ≡ hs ++ h ∷ [] → h.statement < length vs → AreDeclared vs hs → AreDeclared vs more
declared_more vs hs more h is lt d = subst (AreDeclared vs) (sym is) (last hs d)
  where
    last : (gs : List RowHead) → AreDeclared vs gs → AreDeclared vs (gs ++ h ∷ [])
    last [] e = (lt, tt)
    last (g ∷ gs) e = (e.0, last gs e.1)
