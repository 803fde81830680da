-- A list of steps of Bland's rule is shorter than 4 to the number of variables: each variable of a basis has one of four places.
use Rattle.std.proofs.Common.{◌≡◌, ◌∙◌, ℕ, zero, suc, ◌+◌, ◌*◌, ◌<◌, ◌≤◌, ◌≢◌, List, [], ◌∷◌, length, get_or, map, refl, sym, ap, arith, true}
use Rattle.std.specs.Prelude.{◌^◌, AllPairs}
use Rattle.std.specs.List.{list_any}
use mathlib.Core.Path.{ap₂}
use Rattle.std.proofs.Math.Dec.{eqb}
use Rattle.std.proofs.Math.Nat.{pow-suc, one-le-pow}
use Rattle.std.proofs.lemmas.Bool.{eqb-true}
use Rattle.std.proofs.lemmas.Bool.Decides.{Decides-eqb}
use Rattle.std.proofs.lemmas.List.{get_or-map, length-map}
use Rattle.std.proofs.lemmas.List.Folds.{Any-from_list_any}
use Rattle.std.proofs.lemmas.Map.Made.{IsDistinct-from_AllPairs}
use Rattle.std.proofs.lemmas.Map.Steps.{length-le_from_distinct_below}
use Rattle.basis.specs.System.{System, size}
use Rattle.basis.specs.Bland.{IsRun}
use Rattle.basis.specs.declared.Place.{Place}
use Rattle.basis.specs.declared.Place.TheVariants.{Basic, AtLower, AtUpper, AtZero}
use Rattle.basis.proofs.Laws.{length-exchanged}
use Rattle.bland_ends.specs.Steps.{AreSteps}
use Rattle.bland_ends.proofs.Loops.{never_twice}

-- ---- a number for each basis

abbrev digit : Place → ℕ
digit Basic = 0
digit AtLower = 1
digit AtUpper = 2
digit AtZero = 3

abbrev place_from : ℕ → Place
place_from zero = Basic
place_from (suc zero) = AtLower
place_from (suc (suc zero)) = AtUpper
place_from (suc (suc (suc n))) = AtZero

place_back : (p : Place) → place_from (digit p) ≡ p
place_back Basic = refl
place_back AtLower = refl
place_back AtUpper = refl
place_back AtZero = refl

digit_small : (p : Place) → digit p < 4
digit_small Basic = omega arith
digit_small AtLower = omega arith
digit_small AtUpper = omega arith
digit_small AtZero = omega arith

abbrev code : List Place → ℕ
code [] = 0
code (p ∷ b) = digit p + 4 * code b

code_small : (b : List Place) → code b < 4 ^ length b
code_small [] = one-le-pow 0 4 (omega arith)
code_small (p ∷ b) =
    let e : 4 ^ suc (length b) ≡ 4 ^ length b * 4 = pow-suc 4 (length b) in
    let d : digit p < 4 = digit_small p in
    let k : code b < 4 ^ length b = code_small b in
    omega arith

code_tells : (b c : List Place) → length b ≡ length c → code b ≡ code c → b ≡ c
code_tells [] [] l e = refl
code_tells [] (q ∷ c) l e = absurd (omega arith)
code_tells (p ∷ b) [] l e = absurd (omega arith)
code_tells (p ∷ b) (q ∷ c) l e =
    let i : digit p < 4 = digit_small p in
    let j : digit q < 4 = digit_small q in
    let first : digit p ≡ digit q = omega arith in
    let rest : code b ≡ code c = omega arith in
    ap₂ ◌∷◌ (sym (place_back p) ∙ ap place_from first ∙ place_back q) (code_tells b c (omega arith) rest)

-- ---- how many bases there can be

few : (n : ℕ) (bs : List (List Place)) → ((k : ℕ) → k < length bs → length (get_or bs k []) ≡ n) → AllPairs (λ b c. b ≢ c) bs → length bs ≤ 4 ^ n
few n bs sizes differ = rw length-map at (length-le_from_distinct_below (map code bs) (4 ^ n) (IsDistinct-from_AllPairs Decides-eqb (map code bs) apart) small)
  where
    at_place : (k d : ℕ) → k < length bs → get_or (map code bs) k d ≡ code (get_or bs k [])
    at_place k d h = get_or-map code bs k [] d h

    apart : AllPairs (λ m k. m ≢ k) (map code bs)
    apart i j d low known same =
        let known_j : j < length bs = rw length-map at known in
        let known_i : i < length bs = omega arith in
        differ i j [] low known_j (code_tells _ _ (sizes i known_i ∙ sym (sizes j known_j)) (sym (at_place i d known_i) ∙ same ∙ at_place j d known_j))

    small : (q : ℕ) → list_any (eqb q) (map code bs) ≡ true → q < 4 ^ n
    small q h =
        let found = Any-from_list_any (eqb q) (map code bs) h in
        let known : found.0 < length bs = rw length-map at found.2 in
        let is : q ≡ code (get_or bs found.0 []) = eqb-true q found.1 found.4 ∙ sym found.3 ∙ at_place found.0 found.1 known in
        rw (is, sym (sizes found.0 known)) (code_small (get_or bs found.0 []))

sizes_of : (s : System) (b c : List Place) (before : List (List Place)) → AreSteps s b (c ∷ before) → (k : ℕ) → k < suc (suc (length before)) → length (get_or (b ∷ c ∷ before) k []) ≡ size s
sizes_of s b c before h zero known = ap length h.0.exchange ∙ length-exchanged c h.0.enters h.0.leaves h.0.place ∙ h.0.is_dictionary.size
sizes_of s b c [] h (suc zero) known = h.0.is_dictionary.size
sizes_of s b c [] h (suc (suc k)) known = absurd (omega arith)
sizes_of s b c (d ∷ ds) h (suc k) known = sizes_of s c d ds h.1 k (omega arith)

pub steps_are_few : (s : System) (b : List Place) (before : List (List Place)) → AreSteps s b before → length before < 4 ^ size s
steps_are_few s b [] h = one-le-pow (size s) 4 (omega arith)
steps_are_few s b (c ∷ before) h = few (size s) (b ∷ c ∷ before) (sizes_of s b c before h) (never_twice s b (c ∷ before) h)

-- ---- runs

steps_of : (s : System) (b : List Place) (before : List (List Place)) → IsRun s b before → AreSteps s b before
steps_of s b [] h = tt
steps_of s b (c ∷ before) h = (h.0, steps_of s c before h.1)

pub runs_are_few : (s : System) (b : List Place) (before : List (List Place)) → IsRun s b before → length before < 4 ^ size s
runs_are_few s b before h = steps_are_few s b before (steps_of s b before h)
