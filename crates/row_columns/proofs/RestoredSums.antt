-- Terms that have at each point the sums that others have at the point that it is moved to, and the tests of a leaf by them.
use Rattle.std.proofs.Common.{◌≡◌, ◌∙◌, ℕ, ◌<◌, ◌≤◌, List, [], ◌∷◌, true, refl, sym, ap, Option, Some, None, IfSome, length}
use Rattle.std.proofs.lemmas.Bool.{and_parts, and_from}
use mathlib.Core.Path.{ap₂}
use Rattle.rational.specs.Rational.{Rational, ◌+ℚ◌, ◌-ℚ◌, ◌*ℚ◌, zero_ℚ}
use Rattle.rational.specs.Compare.{is_less, is_at_most}
use Rattle.rational.proofs.Laws as Q
use Rattle.milp.specs.Form.{Entry, value_at}
use Rattle.milp.specs.Problem.{Problem}
use Rattle.milp.specs.Points.{sign_of}
use Rattle.verdicts.specs.WeightedSums.{scaled, Weighted, combined, combined_bound}
use Rattle.verdicts.specs.Certificate.{Item}
use Rattle.verdicts.specs.Proves.{term, joined, gathered, same_form, shows, refutes, bound_passes}
use Rattle.verdicts.proofs.Laws.{value-append, value-scaled}
use Rattle.row_columns.proofs.SameForms.{value_same, unit_point, unit_value, same_below}

-- the point that a point is moved to
abbrev pub Move : Type 0
Move = (ℕ → Rational) → ℕ → Rational

-- ---- lists of terms with the same sums

-- u adds at each point what t adds at the point that it is moved to
pub record IsRestoredTerm (move : Move) (t u : Weighted) : Type 0 where
  pub value : (y : ℕ → Rational) → u.weight *ℚ value_at y u.form ≡ t.weight *ℚ value_at (move y) t.form
  pub bound : u.weight *ℚ u.bound ≡ t.weight *ℚ t.bound

pub record IsRestoredSum (move : Move) (ts us : List Weighted) : Type 0 where
  pub value : (y : ℕ → Rational) → value_at y (combined us) ≡ value_at (move y) (combined ts)
  pub bound : combined_bound us ≡ combined_bound ts

-- t adds nothing
pub record AddsNothing (move : Move) (t : Weighted) : Type 0 where
  pub value : (y : ℕ → Rational) → t.weight *ℚ value_at (move y) t.form ≡ zero_ℚ
  pub bound : t.weight *ℚ t.bound ≡ zero_ℚ

abbrev pub TermRestores : Move → Option Weighted → Option Weighted → Type 0
TermRestores move None u = Unit {0}
TermRestores move (Some t) None = ⊥
TermRestores move (Some t) (Some u) = IsRestoredTerm move t u

abbrev pub Restores : Move → Option (List Weighted) → Option (List Weighted) → Type 0
Restores move None r = Unit {0}
Restores move (Some ts) None = ⊥
Restores move (Some ts) (Some us) = IsRestoredSum move ts us

pub combined_value : (y : ℕ → Rational) (t : Weighted) (ts : List Weighted) → value_at y (combined (t ∷ ts)) ≡ t.weight *ℚ value_at y t.form +ℚ value_at y (combined ts)
combined_value y t ts = value-append y (scaled t.weight t.form) (combined ts) ∙ ap (λ v. v +ℚ value_at y (combined ts)) (value-scaled y t.weight t.form)

sum_more : (move : Move) (t u : Weighted) (ts us : List Weighted) → IsRestoredTerm move t u → IsRestoredSum move ts us → IsRestoredSum move (t ∷ ts) (u ∷ us)
sum_more move t u ts us h k = record {
  value = λ y. combined_value y u us ∙ ap₂ ◌+ℚ◌ (h.value y) (k.value y) ∙ sym (combined_value (move y) t ts);
  bound = ap₂ ◌+ℚ◌ h.bound k.bound;
}

pub joined_restored : (move : Move) (t u : Option Weighted) (o r : Option (List Weighted)) → TermRestores move t u → Restores move o r → Restores move (joined t o) (joined u r)
joined_restored move None u o r h k = tt
joined_restored move (Some t) u None r h k = tt
joined_restored move (Some t) None (Some ts) r h k = absurd h
joined_restored move (Some t) (Some u) (Some ts) None h k = k
joined_restored move (Some t) (Some u) (Some ts) (Some us) h k = sum_more move t u ts us h k

pub joined_nothing : (move : Move) (t : Option Weighted) (o r : Option (List Weighted)) → IfSome t (AddsNothing move) → Restores move o r → Restores move (joined t o) r
joined_nothing move None o r h k = tt
joined_nothing move (Some t) None r h k = tt
joined_nothing move (Some t) (Some ts) None h k = k
joined_nothing move (Some t) (Some ts) (Some us) h k = record {
  value = λ y. k.value y ∙ sym (combined_value (move y) t ts ∙ ap (λ v. v +ℚ value_at (move y) (combined ts)) (h.value y) ∙ Q.zero-add _);
  bound = k.bound ∙ sym (ap (λ v. v +ℚ combined_bound ts) h.bound ∙ Q.zero-add _);
}

pub gathered_restored : (move : Move) (f g : Item → Option Weighted) (is : List Item) (o r : Option (List Weighted)) → ((i : Item) → TermRestores move (f i) (g i)) → Restores move o r → Restores move (gathered f is o) (gathered g is r)
gathered_restored move f g [] o r h k = k
gathered_restored move f g (i ∷ is) o r h k = joined_restored move (f i) (g i) (gathered f is o) (gathered g is r) (h i) (gathered_restored move f g is o r h k)

-- one form with the other's values
pub same_term : (move : Move) (w : Rational) (f g : List Entry) (bound : Option Rational) → ((y : ℕ → Rational) → value_at y g ≡ value_at (move y) f) → TermRestores move (term w f bound) (term w g bound)
same_term move w f g None h = tt
same_term move w f g (Some b) h = record { value = λ y. ap (λ v. w *ℚ v) (h y); bound = refl }

-- ---- the tests of a leaf

-- a point of one column below m is moved to one that is 0 from n on
abbrev pub StaysWithin : Move → ℕ → ℕ → Type 0
StaysWithin move n m = (j : ℕ) → j < m → (i : ℕ) → n ≤ i → move (unit_point j) i ≡ zero_ℚ

same_restored : (move : Move) (n m : ℕ) → StaysWithin move n m → (ts us : List Weighted) → IsRestoredSum move ts us → (f g : List Entry) → ((y : ℕ → Rational) → value_at y g ≡ value_at (move y) f) → same_form n (combined ts) f ≡ true → same_form m (combined us) g ≡ true
same_restored move n m within ts us sums f g e t = same_below m (combined us) g (λ j k.
    sym (unit_value j (combined us))
    ∙ sums.value (unit_point j)
    ∙ value_same n (move (unit_point j)) (combined ts) f (λ i l. within j k i l) t
    ∙ sym (e (unit_point j))
    ∙ unit_value j g)

pub refutes_restored : (move : Move) (n m : ℕ) → StaysWithin move n m → (o r : Option (List Weighted)) → Restores move o r → refutes n o ≡ true → refutes m r ≡ true
refutes_restored move n m within None r k t = cc
refutes_restored move n m within (Some ts) None k t = absurd k
refutes_restored move n m within (Some ts) (Some us) k t =
    let both = and_parts (same_form n (combined ts) []) (is_less zero_ℚ (combined_bound ts)) t in
    and_from _ _ (same_restored move n m within ts us k [] [] (λ y. refl) both.0) (ap (is_less zero_ℚ) k.bound ∙ both.1)

shows_restored : (move : Move) (n m : ℕ) → StaysWithin move n m → (o r : Option (List Weighted)) → Restores move o r → (f g : List Entry) (bound : Rational) → ((y : ℕ → Rational) → value_at y g ≡ value_at (move y) f) → shows n o f bound ≡ true → shows m r g bound ≡ true
shows_restored move n m within None r k f g bound e t = cc
shows_restored move n m within (Some ts) None k f g bound e t = absurd k
shows_restored move n m within (Some ts) (Some us) k f g bound e t =
    let both = and_parts (same_form n (combined ts) f) (is_at_most bound (combined_bound ts)) t in
    and_from _ _ (same_restored move n m within ts us k f g e both.0) (ap (is_at_most bound) k.bound ∙ both.1)

-- the objective of p is that of q at the moved point
pub record IsSameObjective (move : Move) (p q : Problem) : Type 0 where
  pub direction : q.direction ≡ p.direction
  pub value : (y : ℕ → Rational) → value_at y p.objective ≡ value_at (move y) q.objective
  pub constant : q.constant ≡ p.constant

pub bound_restored : (move : Move) (p q : Problem) → StaysWithin move (length q.columns) (length p.columns) → IsSameObjective move p q → (goal : Option Rational) (o r : Option (List Weighted)) → Restores move o r → bound_passes q goal o ≡ true → bound_passes p goal r ≡ true
bound_restored move p q within same None o r k t = cc
bound_restored move p q within same (Some v) o r k t =
    let s = sign_of p.direction in
    let u : shows (length q.columns) o (scaled s q.objective) (s *ℚ (v -ℚ p.constant)) ≡ true = rw (same.direction, same.constant) at t in
    shows_restored move (length q.columns) (length p.columns) within o r k (scaled s q.objective) (scaled s p.objective) (s *ℚ (v -ℚ p.constant)) (λ y. value-scaled y s p.objective ∙ ap (λ a. s *ℚ a) (same.value y) ∙ sym (value-scaled (move y) s q.objective)) u
