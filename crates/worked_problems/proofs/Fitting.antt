-- Operations on numbers that fit.
use Rattle.std.proofs.Common.{◌≡◌, Bool, true, false, None, Some, sym, subst}
use Rattle.std.specs.Prelude.{Result, Ok, Err, IsOk}
use Rattle.rational.specs.Rational.{Rational, neg_ℚ, ◌*ℚ◌, ◌/ℚ◌}
use Rattle.basis.specs.Pivots.{Operation, Plus, Minus, Times, DividedBy}
use Rattle.fraction.specs.Fits.{fits, sum_fits}
use Rattle.fraction.specs.Answers.{DoesNotFit}
use Rattle.fraction.specs.declared.frac.Op.{Op}
use Rattle.fraction.specs.declared.frac.Op.TheVariants.{Add, Sub, Mul, Div}
use Rattle.fraction.specs.declared.frac.NoFit.{NoFit}
use Rattle.dictionary.specs.Table.{operation_of}

-- a op c fits
abbrev pub fits_by : Operation → Rational → Rational → Bool
fits_by Plus a c = sum_fits a c
fits_by Minus a c = sum_fits a (neg_ℚ c)
fits_by Times a c = fits (a *ℚ c)
fits_by DividedBy a c = fits (a /ℚ c)

-- the same operation on the same numbers
pub same_fits : (op other : Operation) (a b c d : Rational) → a ≡ b → op ≡ other → c ≡ d → fits_by other b d ≡ true → fits_by op a c ≡ true
same_fits op other a b c d e f g h = subst (λ x. fits_by op x c ≡ true) (sym e) (subst (λ y. fits_by op b y ≡ true) (sym g) (subst (λ o. fits_by o b d ≡ true) (sym f) h))

true_or : (t : Bool) → t ≡ true → t ≡ false → ⊥
true_or t e f = cc

pub never_unfit : (e : NoFit) → fits_by (operation_of e.op) e.a e.b ≡ true → ¬ (DoesNotFit e)
never_unfit e = go e.op
  where
    go : (op : Op) → fits_by (operation_of op) e.a e.b ≡ true → ¬ (DoesNotFit (record { a = e.a; op = op; b = e.b }))
    go Add h k = true_or _ h k
    go Sub h k = true_or _ h k
    go Mul h k = true_or _ h k
    go Div h k = true_or _ h k

pub none_some : {A : Type 0} (a : A) → None ≡ Some a → ⊥
none_some a e = cc

-- a test that fits has no fault
pub no_err : {A : Type 0} (r : Result A NoFit) (e : NoFit) → IsOk r → ¬ (r ≡ Err e)
no_err (Ok a) e h is = cc
no_err (Err d) e h is = cc
