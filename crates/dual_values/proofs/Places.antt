-- Sums place by place, one weight after another.
use Rattle.std.proofs.Common.{◌≡◌, ◌∙◌, ◌<◌, ◌≤◌, ◌+◌, ◌==◌, ℕ, zero, suc, true, false, List, [], ◌∷◌, drop, length, get_or, set, refl, sym, ap, arith}
use Rattle.std.proofs.lemmas.Bool.Decides.{nat_tests}
use Rattle.std.proofs.lemmas.List.{drop_all, drop_more}
use Rattle.rational.specs.Rational.{Rational}
use Rattle.verdicts.specs.Certificate.{Item}
use Rattle.gmpl_solution.specs.declared.dual.Dual.{Dual}
use Rattle.dual_values.specs.Duals.{plus, summed, sums_from}
use Rattle.dual_values.specs.Places.{with_weight}

-- a weight on a place before these
before : (k : ℕ) (i : Item) (is : List Item) (ds : List Dual) → i.index < k → sums_from k (i ∷ is) ds ≡ sums_from k is ds
before k i is [] h = refl
before k i is (d ∷ ds) h =
    let other : (i.index == k) ≡ false = grind (arith, nat_tests) in
    rw other (ap (λ (rest : List Dual). summed k is d ∷ rest) (before (suc k) i is ds (omega (arith, h))))

-- a weight on one of them
among : (k n : ℕ) (i : Item) (is : List Item) (ds : List Dual) → i.index ≡ k + n → sums_from k (i ∷ is) ds ≡ sums_from k is (with_weight n i.weight ds)
among k n i is [] h = refl
among k zero i is (d ∷ ds) h =
    let here : (i.index == k) ≡ true = grind (arith, nat_tests) in
    rw here (ap (λ (rest : List Dual). summed k is (plus d i.weight) ∷ rest) (before (suc k) i is ds (omega (arith, h))))
among k (suc n) i is (d ∷ ds) h =
    let other : (i.index == k) ≡ false = grind (arith, nat_tests) in
    rw other (ap (λ (rest : List Dual). summed k is d ∷ rest) (among (suc k) n i is ds (omega (arith, h))))

one_more : (i : Item) (is : List Item) (ds : List Dual) → sums_from 0 (i ∷ is) ds ≡ sums_from 0 is (with_weight i.index i.weight ds)
one_more i is ds = among 0 i.index i is ds (omega arith)

no_more : (k : ℕ) (ds : List Dual) → sums_from k [] ds ≡ ds
no_more k [] = refl
no_more k (d ∷ ds) = ap (λ (rest : List Dual). d ∷ rest) (no_more (suc k) ds)

-- where those before place k of all weights are added
pub next_added : (all : List Item) (start sums more : List Dual) (k : ℕ) (i : Item) → sums_from 0 all start ≡ sums_from 0 (drop k all) sums → k < length all → i ≡ get_or all k i → more ≡ with_weight i.index i.weight sums
    → sums_from 0 all start ≡ sums_from 0 (drop (k + 1) all) more
next_added all start sums more k i so_far inside is added =
    let here : drop k all ≡ i ∷ drop (k + 1) all = drop_more all k i inside ∙ ap (λ (j : Item). j ∷ drop (k + 1) all) (sym is) in
    so_far ∙ ap (λ (items : List Item). sums_from 0 items sums) here ∙ one_more i (drop (k + 1) all) sums ∙ ap (sums_from 0 (drop (k + 1) all)) (sym added)

pub all_added : (all : List Item) (start sums : List Dual) (k : ℕ) → sums_from 0 all start ≡ sums_from 0 (drop k all) sums → length all ≤ k → sums ≡ sums_from 0 all start
all_added all start sums k so_far past =
    sym (so_far ∙ ap (λ (items : List Item). sums_from 0 items sums) (drop_all k all past) ∙ no_more 0 sums)

-- the same as it is written at a place
pub written : (k : ℕ) (w : Rational) (ds : List Dual) (d : Dual) → k < length ds → set ds k (plus (get_or ds k d) w) ≡ with_weight k w ds
written k w [] d h = refl
written zero w (e ∷ ds) d h = refl
written (suc k) w (e ∷ ds) d h = ap (λ (rest : List Dual). e ∷ rest) (written k w ds d (omega (arith, h)))

pub unwritten : (k : ℕ) (w : Rational) (ds : List Dual) → length ds ≤ k → with_weight k w ds ≡ ds
unwritten k w [] h = refl
unwritten zero w (e ∷ ds) h = absurd (omega (arith, h))
unwritten (suc k) w (e ∷ ds) h = ap (λ (rest : List Dual). e ∷ rest) (unwritten k w ds (omega (arith, h)))
