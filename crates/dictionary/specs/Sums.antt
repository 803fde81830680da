-- Sums of products that do not fit.
use Rattle.std.specs.Prelude.{ℕ, ◌+◌, ◌<◌, ◌≡◌, List, length, slice_get, Some, false}
use Rattle.rational.specs.Rational.{Rational, ◌*ℚ◌}
use Rattle.milp.specs.Form.{Entry, number_at}
use Rattle.basis.specs.System.{System, lower_of, upper_of}
use Rattle.basis.specs.System as basis
use Rattle.basis.specs.Bland.{first_number, start_point}
use Rattle.basis.specs.Numbers.{prefix_sum, products_of}
use Rattle.fraction.specs.Fits.{fits, sum_fits}
use Rattle.fraction.specs.declared.frac.Op.TheVariants.{Add, Mul}
use Rattle.fraction.specs.declared.frac.NoFit.{NoFit}

-- e is the product a * b, or the sum of the total and this product, and does not fit
pub data IsTermFault (total a b : Rational) (e : NoFit) : Type 0 where
  product : e ≡ record { a = a; op = Mul; b = b } → fits (a *ℚ b) ≡ false → IsTermFault total a b e
  sum : e ≡ record { a = total; op = Add; b = a *ℚ b } → sum_fits total (a *ℚ b) ≡ false → IsTermFault total a b e

-- e is an operation of summing the form at x from its first entry on, and does not fit
pub record IsSumFault (form : List Entry) (x : ℕ → Rational) (e : NoFit) : Type 0 where
  pub index : ℕ
  pub entry : Entry
  pub is_entry : slice_get form index ≡ Some entry
  pub fault : IsTermFault (prefix_sum (products_of form x) index) entry.coefficient (x entry.column) e

-- e is an operation of summing a form of the system at the point where a run starts, and does not fit
pub record IsStartFault (s : System) (e : NoFit) : Type 0 where
  pub index : ℕ
  pub form : List Entry
  pub is_form : slice_get s.forms index ≡ Some form
  pub fault : IsSumFault form (start_point s) e

-- as many numbers as before, and then `count` more
pub record AreLonger (old : List Rational) (count : ℕ) (new : List Rational) : Type 0 where
  pub size : length new ≡ length old + count
  pub kept : (v : ℕ) → v < length old → number_at new v ≡ number_at old v

-- a number for each variable, of which those of the columns are where a run starts
pub record AreFirstNumbers (s : System) (values : List Rational) : Type 0 where
  pub size : length values ≡ basis.size s
  pub columns : (v : ℕ) → v < s.columns → number_at values v ≡ first_number (lower_of s v) (upper_of s v)

-- the numbers of the point at which a run starts
pub record AreStartNumbers (s : System) (values : List Rational) : Type 0 where
  pub size : length values ≡ basis.size s
  pub numbers : (v : ℕ) → v < basis.size s → number_at values v ≡ start_point s v
