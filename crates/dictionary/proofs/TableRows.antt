-- The rows of a table, each by itself.
use Rattle.std.proofs.Common.{◌≡◌, ◌∙◌, ℕ, zero, suc, ◌+◌, ◌<◌, ◌≤◌, ◌≢◌, List, [], ◌∷◌, length, get_or, set, refl, sym, subst, arith}
use Rattle.std.proofs.lemmas.List.{length-set, get_or-set_same, get_or-set_other}
use Rattle.std.proofs.Math.Decide.{ℕ_discrete}
use Rattle.rational.specs.Rational.{Rational}
use Rattle.fraction.specs.declared.frac.NoFit.{NoFit}
use Rattle.dictionary.specs.Rows.{IsSolved, IsSubstituted, IsSolvingFault, IsSubstitutionFault}
use Rattle.dictionary.specs.Table.{IsRowsFault, IsPivotedFault}

Rows : Type 0
Rows = List (List Rational)

-- ---- one more row substituted

pub row_done : (initial now : List (List Rational)) (solved new : List Rational) (line column i : ℕ) → i < length initial → length now ≡ length initial
    → ((k : ℕ) → k < i → k ≢ line → IsSubstituted (get_or initial k []) solved column (get_or now k []))
    → ((k : ℕ) → i ≤ k → get_or now k [] ≡ get_or initial k [])
    → IsSubstituted (get_or now i []) solved column new
    → (length (set now i new) ≡ length initial)
    × ((k : ℕ) → k < i + 1 → k ≢ line → IsSubstituted (get_or initial k []) solved column (get_or (set now i new) k []))
    × ((k : ℕ) → i + 1 ≤ k → get_or (set now i new) k [] ≡ get_or initial k [])
row_done initial now solved new line column i h same done left one = (length-set now i new ∙ same, before, after)
  where
    here : get_or (set now i new) i [] ≡ new
    here = get_or-set_same now i new [] (rw same h)

    elsewhere : (k : ℕ) → k ≢ i → get_or (set now i new) k [] ≡ get_or now k []
    elsewhere k n = get_or-set_other now i k new [] n

    before : (k : ℕ) → k < i + 1 → k ≢ line → IsSubstituted (get_or initial k []) solved column (get_or (set now i new) k [])
    before k l n = elim (ℕ_discrete k i) [
      | yes e ↦ let P : ℕ → Type 0 = λ j. IsSubstituted (get_or initial j []) solved column (get_or (set now i new) j []) in
          subst P (sym e) (let R : List Rational → List Rational → Type 0 = λ a b. IsSubstituted a solved column b in rw (here, ← left i (omega arith)) one)
      | no m ↦ let R : List Rational → Type 0 = λ b. IsSubstituted (get_or initial k []) solved column b in subst R (sym (elsewhere k m)) (done k (omega arith) n)
    ]

    after : (k : ℕ) → i + 1 ≤ k → get_or (set now i new) k [] ≡ get_or initial k []
    after k l = elsewhere k (λ e. absurd (omega arith)) ∙ left k (omega arith)

pub row_kept : (initial now : List (List Rational)) (solved : List Rational) (line column i : ℕ) → i ≡ line
    → ((k : ℕ) → k < i → k ≢ line → IsSubstituted (get_or initial k []) solved column (get_or now k []))
    → (k : ℕ) → k < i + 1 → k ≢ line → IsSubstituted (get_or initial k []) solved column (get_or now k [])
row_kept initial now solved line column i e done k l n = done k (before k l n) n
  where
    before : (k : ℕ) → k < i + 1 → k ≢ line → k < i
    before k l n = elim (ℕ_discrete k i) [
      | yes same ↦ absurd (n (same ∙ e))
      | no m ↦ omega arith
    ]

pub rows_fault : (initial now : List (List Rational)) (solved : List Rational) (line column i : ℕ) (e : NoFit) → i < length initial → i ≢ line
    → ((k : ℕ) → i ≤ k → get_or now k [] ≡ get_or initial k []) → IsSubstitutionFault (get_or now i []) solved column e → IsRowsFault initial solved line column e
rows_fault initial now solved line column i e h n left fault = record { row = i; known = h; other = n; fault = let P : List Rational → Type 0 = λ a. IsSubstitutionFault a solved column e in subst P (left i (omega arith)) fault }

-- ---- all of a pivot

pub rows_pivot_fault : (old : List (List Rational)) (gains empty solved : List Rational) (line column : ℕ) (e : NoFit)
    → IsSolved (get_or old line []) column solved → IsRowsFault (set old line empty) solved line column e → IsPivotedFault old gains line column e
rows_pivot_fault old gains empty solved line column e one fault =
    IsPivotedFault.in_rows solved fault.row one (rw (← length-set old line empty) fault.known) fault.other
    (let P : List Rational → Type 0 = λ a. IsSubstitutionFault a solved column e in subst P (get_or-set_other old line fault.row empty [] fault.other) fault.fault)

-- ---- a row as it was read

other_default : (rows : List (List Rational)) (i : ℕ) (a b : List Rational) → i < length rows → get_or rows i a ≡ get_or rows i b
other_default [] i a b h = absurd (omega arith)
other_default (x ∷ xs) zero a b h = refl
other_default (x ∷ xs) (suc i) a b h = other_default xs i a b (omega arith)

pub row_done_read : (initial now : List (List Rational)) (solved d new : List Rational) (line column i : ℕ) → i < length initial → length now ≡ length initial
    → ((k : ℕ) → k < i → k ≢ line → IsSubstituted (get_or initial k []) solved column (get_or now k []))
    → ((k : ℕ) → i ≤ k → get_or now k [] ≡ get_or initial k [])
    → IsSubstituted (get_or now i d) solved column new
    → (length (set now i new) ≡ length initial)
    × ((k : ℕ) → k < i + 1 → k ≢ line → IsSubstituted (get_or initial k []) solved column (get_or (set now i new) k []))
    × ((k : ℕ) → i + 1 ≤ k → get_or (set now i new) k [] ≡ get_or initial k [])
row_done_read initial now solved d new line column i h same done left one =
    row_done initial now solved new line column i h same done left (let P : List Rational → Type 0 = λ a. IsSubstituted a solved column new in subst P (other_default now i d [] (rw same h)) one)

pub rows_fault_read : (initial now : List (List Rational)) (solved d : List Rational) (line column i : ℕ) (e : NoFit) → i < length initial → length now ≡ length initial → i ≢ line
    → ((k : ℕ) → i ≤ k → get_or now k [] ≡ get_or initial k []) → IsSubstitutionFault (get_or now i d) solved column e → IsRowsFault initial solved line column e
rows_fault_read initial now solved d line column i e h same n left fault =
    rows_fault initial now solved line column i e h n left (let P : List Rational → Type 0 = λ a. IsSubstitutionFault a solved column e in subst P (other_default now i d [] (rw same h)) fault)

pub line_fault : (old : List (List Rational)) (gains row d : List Rational) (line column : ℕ) (e : NoFit) → line < length old → row ≡ get_or old line d → IsSolvingFault row column e → IsPivotedFault old gains line column e
line_fault old gains row d line column e h same fault = IsPivotedFault.in_line (let P : List Rational → Type 0 = λ a. IsSolvingFault a column e in subst P (same ∙ other_default old line d [] h) fault)

pub others_fault : (old : List (List Rational)) (gains row d empty solved : List Rational) (line column : ℕ) (e : NoFit) → line < length old → row ≡ get_or old line d
    → IsSolved row column solved → IsRowsFault (set old line empty) solved line column e → IsPivotedFault old gains line column e
others_fault old gains row d empty solved line column e h same one fault =
    rows_pivot_fault old gains empty solved line column e (let P : List Rational → Type 0 = λ a. IsSolved a column solved in subst P (same ∙ other_default old line d [] h) one) fault

pub objective_fault : (old : List (List Rational)) (gains row d solved : List Rational) (line column : ℕ) (e : NoFit) → line < length old → row ≡ get_or old line d
    → IsSolved row column solved → IsSubstitutionFault gains solved column e → IsPivotedFault old gains line column e
objective_fault old gains row d solved line column e h same one fault =
    IsPivotedFault.in_objective solved (let P : List Rational → Type 0 = λ a. IsSolved a column solved in subst P (same ∙ other_default old line d [] h) one) fault
