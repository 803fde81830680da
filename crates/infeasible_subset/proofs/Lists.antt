-- Lists of members: what is in them, and which come in the order of others.
use Rattle.std.proofs.Common.{◌≡◌, ◌∙◌, ◌⊎◌, inl, inr, List, [], ◌∷◌, ◌++◌, Bool, true, false, ◌||◌, ◌==◌, cond, IsTrue, refl, sym, ap}
use Rattle.std.proofs.lemmas.Bool.{and_parts, eqb-true, eq-eqb}
use mathlib.Core.Path.{ap₂}
use Rattle.infeasible_subset.specs.Members.{Side, Lower, Upper, Member, OfRow, OfColumn, same_side, same_member, has, both}
use Rattle.infeasible_subset.specs.Listed.{AreAmong}

-- ---- tests

pub or_left : (a b : Bool) → IsTrue a → IsTrue (a || b)
or_left true b h = refl
or_left false b h = cc

pub or_right : (a b : Bool) → IsTrue b → IsTrue (a || b)
or_right true b h = refl
or_right false b h = h

pub either_way : (a b : Bool) → IsTrue (a || b) → IsTrue a ⊎ IsTrue b
either_way true b h = inl refl
either_way false b h = inr h

same_sides : (s t : Side) → same_side s t ≡ true → s ≡ t
same_sides Lower Lower h = refl
same_sides Lower Upper h = cc
same_sides Upper Lower h = cc
same_sides Upper Upper h = refl

pub same_members : (m k : Member) → same_member m k ≡ true → m ≡ k
same_members (OfRow i s) (OfRow j t) h = let parts = and_parts (i == j) (same_side s t) h in ap₂ OfRow (eqb-true i j parts.0) (same_sides s t parts.1)
same_members (OfRow i s) (OfColumn j t) h = cc
same_members (OfColumn i s) (OfRow j t) h = cc
same_members (OfColumn i s) (OfColumn j t) h = let parts = and_parts (i == j) (same_side s t) h in ap₂ OfColumn (eqb-true i j parts.0) (same_sides s t parts.1)

side_is_same : (s : Side) → same_side s s ≡ true
side_is_same Lower = refl
side_is_same Upper = refl

pub is_same : (m : Member) → same_member m m ≡ true
is_same (OfRow i s) = rw (eq-eqb i i refl, side_is_same s) refl
is_same (OfColumn i s) = rw (eq-eqb i i refl, side_is_same s) refl

-- ---- what is in a list

pub in_front : (ms ks : List Member) (m : Member) → IsTrue (has ms m) → IsTrue (has (ms ++ ks) m)
in_front [] ks m h = cc
in_front (k ∷ ms) ks m h = go (either_way (same_member k m) (has ms m) h) (in_front ms ks m)
  where
    go : IsTrue (same_member k m) ⊎ IsTrue (has ms m) → (IsTrue (has ms m) → IsTrue (has (ms ++ ks) m)) → IsTrue (same_member k m || has (ms ++ ks) m)
    go (inl same) more = or_left (same_member k m) (has (ms ++ ks) m) same
    go (inr t) more = or_right (same_member k m) (has (ms ++ ks) m) (more t)

pub behind : (ms ks : List Member) (m : Member) → IsTrue (has ks m) → IsTrue (has (ms ++ ks) m)
behind [] ks m h = h
behind (k ∷ ms) ks m h = or_right (same_member k m) (has (ms ++ ks) m) (behind ms ks m h)

pub front_or_behind : (ms ks : List Member) (m : Member) → IsTrue (has (ms ++ ks) m) → IsTrue (has ms m) ⊎ IsTrue (has ks m)
front_or_behind [] ks m h = inr h
front_or_behind (k ∷ ms) ks m h = go (either_way (same_member k m) (has (ms ++ ks) m) h) (front_or_behind ms ks m)
  where
    then_rest : IsTrue (has ms m) ⊎ IsTrue (has ks m) → IsTrue (same_member k m || has ms m) ⊎ IsTrue (has ks m)
    then_rest (inl found) = inl (or_right (same_member k m) (has ms m) found)
    then_rest (inr found) = inr found

    go : IsTrue (same_member k m) ⊎ IsTrue (has (ms ++ ks) m) → (IsTrue (has (ms ++ ks) m) → IsTrue (has ms m) ⊎ IsTrue (has ks m)) → IsTrue (same_member k m || has ms m) ⊎ IsTrue (has ks m)
    go (inl same) more = inl (or_left (same_member k m) (has ms m) same)
    go (inr t) more = then_rest (more t)

pub in_both : (ms ks : List Member) (m : Member) → IsTrue (has ms m) → IsTrue (has ks m) → IsTrue (has (both ms ks) m)
in_both [] ks m h k = cc
in_both (n ∷ ms) ks m h k = go (either_way (same_member n m) (has ms m) h) (has ks n) refl (λ t. in_both ms ks m t k)
  where
    go : IsTrue (same_member n m) ⊎ IsTrue (has ms m) → (b : Bool) → has ks n ≡ b → (IsTrue (has ms m) → IsTrue (has (both ms ks) m)) → IsTrue (has (cond b (n ∷ both ms ks) (both ms ks)) m)
    go (inl same) true e more = or_left (same_member n m) (has (both ms ks) m) same
    go (inl same) false e more = let never : true ≡ false = sym k ∙ ap (has ks) (sym (same_members n m same)) ∙ e in cc
    go (inr t) true e more = or_right (same_member n m) (has (both ms ks) m) (more t)
    go (inr t) false e more = more t

pub of_both : (ms ks : List Member) (m : Member) → IsTrue (has (both ms ks) m) → IsTrue (has ms m)
of_both [] ks m h = h
of_both (n ∷ ms) ks m h = go (has ks n) h (of_both ms ks m)
  where
    rest : IsTrue (same_member n m) ⊎ IsTrue (has (both ms ks) m) → (IsTrue (has (both ms ks) m) → IsTrue (has ms m)) → IsTrue (same_member n m || has ms m)
    rest (inl same) more = or_left (same_member n m) (has ms m) same
    rest (inr t) more = or_right (same_member n m) (has ms m) (more t)

    go : (b : Bool) → IsTrue (has (cond b (n ∷ both ms ks) (both ms ks)) m) → (IsTrue (has (both ms ks) m) → IsTrue (has ms m)) → IsTrue (same_member n m || has ms m)
    go true t more = rest (either_way (same_member n m) (has (both ms ks) m) t) more
    go false t more = or_right (same_member n m) (has ms m) (more t)

-- ---- the order of others

none_among : (bs : List Member) → AreAmong [] bs
none_among [] = refl
none_among (b ∷ bs) = tt

one_more : (ms : List Member) (b : Member) (bs : List Member) → AreAmong ms bs → AreAmong ms (b ∷ bs)
one_more [] b bs h = tt
one_more (m ∷ ms) b bs h = inr h

pub all_among : (bs : List Member) → AreAmong bs bs
all_among [] = refl
all_among (b ∷ bs) = inl (refl, all_among bs)

pub among_less : (m : Member) (ms bs : List Member) → AreAmong (m ∷ ms) bs → AreAmong ms bs
among_less m ms [] h = cc
among_less m ms (b ∷ bs) (inl h) = one_more ms b bs h.1
among_less m ms (b ∷ bs) (inr h) = one_more ms b bs (among_less m ms bs h)

pub both_among : (ks ms bs : List Member) → AreAmong ms bs → AreAmong (both ms ks) bs
both_among ks [] bs h = none_among bs
both_among ks (m ∷ ms) [] h = cc
both_among ks (m ∷ ms) (b ∷ bs) (inl h) = go (has ks m) (both_among ks ms bs h.1)
  where
    go : (t : Bool) → AreAmong (both ms ks) bs → AreAmong (cond t (m ∷ both ms ks) (both ms ks)) (b ∷ bs)
    go true rest = inl (h.0, rest)
    go false rest = one_more (both ms ks) b bs rest
both_among ks (m ∷ ms) (b ∷ bs) (inr h) = one_more (both (m ∷ ms) ks) b bs (both_among ks (m ∷ ms) bs h)

-- what stands behind others is exchanged
pub among_then : (ms ks ns bs : List Member) → ((cs : List Member) → AreAmong ks cs → AreAmong ns cs) → AreAmong (ms ++ ks) bs → AreAmong (ms ++ ns) bs
among_then [] ks ns bs f h = f bs h
among_then (m ∷ ms) ks ns [] f h = cc
among_then (m ∷ ms) ks ns (b ∷ bs) f (inl h) = inl (h.0, among_then ms ks ns bs f h.1)
among_then (m ∷ ms) ks ns (b ∷ bs) f (inr h) = inr (among_then (m ∷ ms) ks ns bs f h)
