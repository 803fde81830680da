-- What the test for crossed bounds tells.
use Rattle.std.proofs.Common.{◌≡◌, ◌∙◌, ℕ, ◌<◌, sym, ap, arith, Bool, true, false, Option, Some, None, slice_get}
use Rattle.std.specs.Prelude.{option_and_then}
use Rattle.std.proofs.Math.Decide.{dec_lt}
use Rattle.std.proofs.lemmas.Option.{slice_get_past}
use Rattle.rational.specs.Rational.{Rational}
use Rattle.rational.proofs.Laws.{less_true}
use Rattle.basis.specs.System.{Bounds, System, size, lower_of, upper_of, IsSystem, AreBoundsInOrder}
use Rattle.basis.specs.Weights.{IsContradictory}
use Rattle.simplex.specs.Crossed.{are_crossed, IsInOrder}

lower_at : (s : System) (v : ℕ) (b : Bounds) → slice_get s.bounds v ≡ Some b → lower_of s v ≡ b.lower
lower_at s v b e = ap (option_and_then (λ (c : Bounds). c.lower)) e

upper_at : (s : System) (v : ℕ) (b : Bounds) → slice_get s.bounds v ≡ Some b → upper_of s v ≡ b.upper
upper_at s v b e = ap (option_and_then (λ (c : Bounds). c.upper)) e

pub crossed_yes : (s : System) (v : ℕ) (b : Bounds) (t : Bool) → slice_get s.bounds v ≡ Some b → t ≡ are_crossed b.lower b.upper → t ≡ true → IsContradictory s v
crossed_yes s v b t e f g = go b.lower b.upper (lower_at s v b e) (upper_at s v b e) (sym f ∙ g)
  where
    clash : ¬ (false ≡ true)
    clash k = cc

    go : (l u : Option Rational) → lower_of s v ≡ l → upper_of s v ≡ u → are_crossed l u ≡ true → IsContradictory s v
    go None u k m h = absurd (clash h)
    go (Some l) None k m h = absurd (clash h)
    go (Some l) (Some u) k m h = record { lower = l; upper = u; is_lower = k; is_upper = m; crossed = less_true u l h }

pub all_in_order : (s : System) (n : ℕ) → IsSystem s → n ≡ size s → ((k : ℕ) → k < n → IsInOrder s k) → AreBoundsInOrder s
all_in_order s n is e h v = elim (dec_lt v n) [
  | yes below ↦ h v below
  | no past ↦ let gone : slice_get s.bounds v ≡ None = slice_get_past s.bounds v (let f = is.bounds in omega arith) in let none : lower_of s v ≡ None = ap (option_and_then (λ (c : Bounds). c.lower)) gone in rw none tt
]
