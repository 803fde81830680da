use Rattle.std.proofs.Common.{◌<◌, ◌+◌, length, arith, refl, None, Some, sym, ◌∙◌}
use Rattle.fraction.proofs.ReadParts.{round_is}
use Rattle.fraction.proofs.read.mantissa_with.Goals as goal

pub returns-in_err-whole : goal.returns-in_err-whole
returns-in_err-whole c =
    let some : 0 < length c.args.digits.now + length c.args.places.now = omega arith in
    round_is c.args.digits.now c.args.places.now None None _ some (sym c.in_err-whole.was ∙ c.digits_after.ensures.value) refl c.from_residual.ensures

pub returns-in_err-all : goal.returns-in_err-all
returns-in_err-all c =
    let some : 0 < length c.args.digits.now + length c.args.places.now = omega arith in
    round_is c.args.digits.now c.args.places.now (Some c.in_ok-whole.whole) None _ some (sym c.in_ok-whole.was ∙ c.digits_after.ensures.value) (sym c.in_err-all.was ∙ c.digits_after-2.ensures.value) c.from_residual-in_err-all.ensures

pub returns : goal.returns
returns c =
    let some : 0 < length c.args.digits.now + length c.args.places.now = omega arith in
    round_is c.args.digits.now c.args.places.now (Some c.in_ok-whole.whole) (Some c.in_ok-all.all) _ some (sym c.in_ok-whole.was ∙ c.digits_after.ensures.value) (sym c.in_ok-all.was ∙ c.digits_after-2.ensures.value) refl
