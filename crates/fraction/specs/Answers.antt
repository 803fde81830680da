-- What each operation answers.
use Rattle.std.specs.Prelude.{◌≡◌, cond, Bool, false, Result, Ok, Err}
use Rattle.rational.specs.Rational.{Rational, ◌+ℚ◌, ◌-ℚ◌, ◌*ℚ◌, ◌/ℚ◌, neg_ℚ}
use Rattle.fraction.specs.Fits.{fits, sum_fits}
use Rattle.fraction.specs.declared.frac.Op.TheVariants.{Add, Sub, Mul, Div}
use Rattle.fraction.specs.declared.frac.NoFit.{NoFit}

abbrev pub mul_answer : Rational → Rational → Result Rational NoFit
mul_answer a b = cond (fits (a *ℚ b)) (Ok (a *ℚ b)) (Err (record { a = a; op = Mul; b = b }))

abbrev pub add_answer : Rational → Rational → Result Rational NoFit
add_answer a b = cond (sum_fits a b) (Ok (a +ℚ b)) (Err (record { a = a; op = Add; b = b }))

abbrev pub sub_answer : Rational → Rational → Result Rational NoFit
sub_answer a b = cond (sum_fits a (neg_ℚ b)) (Ok (a -ℚ b)) (Err (record { a = a; op = Sub; b = b }))

abbrev pub div_answer : Rational → Rational → Result Rational NoFit
div_answer a b = cond (fits (a /ℚ b)) (Ok (a /ℚ b)) (Err (record { a = a; op = Div; b = b }))

-- the product and the sum at once; where that does not fit, the product, and where the product does, the sum
abbrev pub mul_add_answer : Rational → Rational → Rational → Result Rational NoFit
mul_add_answer q a b =
    cond (fits (q *ℚ a +ℚ b)) (Ok (q *ℚ a +ℚ b))
    (cond (fits (q *ℚ a)) (Err (record { a = q *ℚ a; op = Add; b = b })) (Err (record { a = q; op = Mul; b = a })))

-- whether the result of the operation fits
abbrev pub result_fits : NoFit → Bool
result_fits f = elim f.op [ Add ↦ sum_fits f.a f.b | Sub ↦ sum_fits f.a (neg_ℚ f.b) | Mul ↦ fits (f.a *ℚ f.b) | Div ↦ fits (f.a /ℚ f.b) ]

-- the operation does not fit
abbrev pub DoesNotFit : NoFit → Type 0
DoesNotFit f = result_fits f ≡ false
