use Rattle.std.proofs.Common.{◌≡◌, ℕ, List, length, drop}
use Rattle.verdicts.specs.WeightedSums.{coefficient_of}
use Rattle.cert_check.specs.Sums.{Product, are_forms}
use Rattle.cert_check.specs.Totals.{AreTotals}
use Rattle.cert_check.specs.Parts.{signed_by}
use Rattle.cert_check.proofs.forms.are_wanted.Given as goal

abbrev pub invariant-loop-j : goal.invariant-loop-j
invariant-loop-j l = (f : ℕ → List Product) → AreTotals (length l.columns) f l.totals → are_forms f (λ j. signed_by l.sign (coefficient_of l.wanted j)) l.j (drop l.j l.columns) ≡ are_forms f (λ j. signed_by l.sign (coefficient_of l.wanted j)) 0 l.columns
