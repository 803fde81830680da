use Rattle.std.proofs.Common.{◌≡◌, ◌∙◌, suc, sym, arith, to_z, of_z, w32}
use Rattle.std.proofs.lemmas.Int.{ints}
use Rattle.std.specs.Prelude.{pos, ◌-ℤ◌}
use Rattle.decimals.proofs.ExponentLemmas.{fits_at, rounded_small, carried_small, not_below, whole_fits, one_digit_less}
use Rattle.decimals.proofs.significand.leading_digits.Goals as goal

pub rounded-number-requires-clause-fits : goal.rounded-number-requires-clause-fits
rounded-number-requires-clause-fits c =
    let places : to_z w32 (of_z w32 c.places.result) ≡ pos c.args.digits -ℤ pos 1 -ℤ c.exponent-exponent.result = omega (arith, ints) in
    fits_at c.args.digits c.args.n c.args.d c.exponent-exponent.result _ c.requires.some c.requires.few c.requires.n_small c.requires.d_small c.exponent-exponent.ensures.is places

pub returns-then-is_below-clause-whole : goal.returns-then-is_below-clause-whole
returns-then-is_below-clause-whole c = λ places e.
    let left : to_z w32 (of_z w32 c.places.result) ≡ pos places = omega (arith, ints) in
    let small = rounded_small c.args.n c.args.d places (to_z w32 (of_z w32 c.places.result)) left in
    let same = c.rounded-number.ensures in
    whole_fits c.args.n c.rounded-number.result places c.requires.n_small (omega arith)

pub returns-else-is_below-clause-below : goal.returns-else-is_below-clause-below
returns-else-is_below-clause-below c = omega (arith, one_digit_less c.args.digits c.requires.some)

pub returns-else-is_below-clause-whole : goal.returns-else-is_below-clause-whole
returns-else-is_below-clause-whole c = λ places e.
    let left : to_z w32 (of_z w32 c.places.result) ≡ pos (suc places) = omega (arith, ints) in
    let same = c.rounded-number.ensures in
    let large = not_below c.rounded-number.result c.power_of_ten.result (sym c.is_below.ensures ∙ c.if-is_below.false) in
    let small = carried_small c.args.n c.args.d places c.args.digits (to_z w32 (of_z w32 c.places.result)) left c.requires.some (omega arith) in
    whole_fits c.args.n c.power_of_ten-else-is_below.result places c.requires.n_small (omega arith)
