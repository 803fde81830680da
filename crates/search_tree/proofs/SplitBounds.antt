-- A column's bounds under one more split of a column.
use Rattle.std.proofs.Common.{◌≡◌, ◌≢◌, ◌∙◌, ℕ, ◌==◌, Bool, true, false, if◌then◌else◌, Option, Some, List, ◌∷◌, sym, ap, ap₂, arith}
use Rattle.std.specs.Prelude.{pos, ◌+ℤ◌}
use Rattle.std.proofs.lemmas.Bool.{eq-eqb}
use Rattle.std.proofs.lemmas.Bool.Decides.{nat_tests}
use Rattle.rational.specs.Rational.{Rational, whole}
use Rattle.milp.specs.Problem.{Problem}
use Rattle.verdicts.specs.Certificate.{Split, Side, Low, High}
use Rattle.verdicts.specs.Proves.{narrows, greater, lesser, lower_under, upper_under}
use Rattle.certificate.specs.Written.{split_column, IsColumnSplit}
use Rattle.certificate.proofs.Laws.{column_narrows}

other : (s : Split) (i j : ℕ) → IsColumnSplit s → i ≡ split_column s → i ≢ j → narrows s j ≡ false
other s i j written is d = let it : (split_column s == j) ≡ false = grind (arith, nat_tests) in column_narrows s j written.form ∙ it

own : (s : Split) (i j : ℕ) → IsColumnSplit s → i ≡ split_column s → i ≡ j → narrows s j ≡ true
own s i j written is e = column_narrows s j written.form ∙ eq-eqb (split_column s) j (sym is ∙ e)

pub lower_past : (p : Problem) (s : Split) (sides : List Side) (j i : ℕ) (b : Option Rational) → IsColumnSplit s → i ≡ split_column s → i ≢ j → b ≡ lower_under p sides j → b ≡ lower_under p (High s ∷ sides) j
lower_past p s sides j i b written is d h = go (narrows s j) (other s i j written is d)
  where
    go : (t : Bool) → t ≡ false → b ≡ (if t then Some (greater (lower_under p sides j) (whole (s.at +ℤ pos 1))) else lower_under p sides j)
    go true e = cc
    go false e = h

pub lower_over : (p : Problem) (s : Split) (sides : List Side) (j i : ℕ) (b : Option Rational) (n g : Rational) → IsColumnSplit s → i ≡ split_column s → i ≡ j → n ≡ whole (s.at +ℤ pos 1) → g ≡ greater b n → b ≡ lower_under p sides j → Some g ≡ lower_under p (High s ∷ sides) j
lower_over p s sides j i b n g written is e next most h = go (narrows s j) (own s i j written is e)
  where
    go : (t : Bool) → t ≡ true → Some g ≡ (if t then Some (greater (lower_under p sides j) (whole (s.at +ℤ pos 1))) else lower_under p sides j)
    go true e = ap Some (most ∙ ap₂ greater h next)
    go false e = cc

pub upper_past : (p : Problem) (s : Split) (sides : List Side) (j i : ℕ) (b : Option Rational) → IsColumnSplit s → i ≡ split_column s → i ≢ j → b ≡ upper_under p sides j → b ≡ upper_under p (Low s ∷ sides) j
upper_past p s sides j i b written is d h = go (narrows s j) (other s i j written is d)
  where
    go : (t : Bool) → t ≡ false → b ≡ (if t then Some (lesser (upper_under p sides j) (whole s.at)) else upper_under p sides j)
    go true e = cc
    go false e = h

pub upper_over : (p : Problem) (s : Split) (sides : List Side) (j i : ℕ) (b : Option Rational) (n g : Rational) → IsColumnSplit s → i ≡ split_column s → i ≡ j → n ≡ whole s.at → g ≡ lesser b n → b ≡ upper_under p sides j → Some g ≡ upper_under p (Low s ∷ sides) j
upper_over p s sides j i b n g written is e at least h = go (narrows s j) (own s i j written is e)
  where
    go : (t : Bool) → t ≡ true → Some g ≡ (if t then Some (lesser (upper_under p sides j) (whole s.at)) else upper_under p sides j)
    go true e = ap Some (least ∙ ap₂ lesser h at)
    go false e = cc
