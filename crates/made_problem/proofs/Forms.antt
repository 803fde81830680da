-- Forms of drawn numbers are forms of a problem.
use Rattle.std.proofs.Common.{◌≡◌, ◌∙◌, ◌≤◌, ◌<◌, ℕ, zero, suc, ◌+◌, ◌-◌, ◌/◌, ◌%◌, pos, not, true, List, [], ◌∷◌, ◌++◌, length, refl, sym, ap, arith, append_assoc}
use Rattle.std.proofs.lemmas.Bool.{and_from, le-leb, lt-ltb, ne_eqb}
use Rattle.std.specs.Prelude.{nat_le, nat_lt}
use Rattle.rational.specs.Rational.{whole}
use Rattle.rational.specs.Compare.{is_zero}
use Rattle.instance.specs.WellFormed.{are_entries_from, are_entries}
use Rattle.made_problem.specs.Draws.{drawn, fourth_state, every_fourth}
use Rattle.made_problem.specs.Made.{form_from}

pub draws_are_so_many : (state count : ℕ) → length (every_fourth state count) ≡ count
draws_are_so_many state zero = refl
draws_are_so_many state (suc count) = ap suc (draws_are_so_many (fourth_state state) count)

pub length_of_form : (place : ℕ) (numbers : List ℕ) → length (form_from place numbers) ≡ length numbers
length_of_form place [] = refl
length_of_form place (a ∷ more) = ap suc (length_of_form (place + 1) more)

-- ---- the form of draws

not_zero : (n : ℕ) → not (is_zero (whole (pos (n + 1)))) ≡ true
not_zero n = ap not (ne_eqb (n + 1) 0 (λ e. omega (arith, e)))

all_in_order : (place count state most : ℕ) → place + count ≤ most → are_entries_from place most (form_from place (every_fourth state count)) ≡ true
all_in_order place zero state most h = refl
all_in_order place (suc count) state most h =
    and_from (nat_le place place) _ (le-leb place place (omega arith))
    (and_from (nat_lt place most) _ (lt-ltb place most (omega arith))
    (and_from (not (is_zero (whole (pos (drawn state))))) _ (not_zero ((state / 65536) % 9))
    (all_in_order (place + 1) count (fourth_state state) most (omega arith))))

pub draws_make_forms : (state count : ℕ) → are_entries count (form_from 0 (every_fourth state count)) ≡ true
draws_make_forms state count = all_in_order 0 count state count (omega arith)

-- ---- a draw more

one_more : (state count i : ℕ) → i < count → every_fourth state (count - i) ≡ drawn state ∷ every_fourth (fourth_state state) (count - (i + 1))
one_more state count i h =
    let left : count - i ≡ suc (count - (i + 1)) = omega (arith, h) in
    ap (every_fourth state) left

pub draw_more : (whole draws new : List ℕ) (state next draw count i : ℕ) → i < count → whole ≡ draws ++ every_fourth state (count - i) → new ≡ draws ++ draw ∷ [] → draw ≡ drawn state → next ≡ fourth_state state → whole ≡ new ++ every_fourth next (count - (i + 1))
draw_more whole draws new state next draw count i h so_far is_new is_draw is_next =
    rw is_new (rw is_draw (rw is_next
    (so_far ∙ ap (λ rest. draws ++ rest) (one_more state count i h) ∙ sym (append_assoc draws (drawn state ∷ []) (every_fourth (fourth_state state) (count - (i + 1)))))))
