use Rattle.std.proofs.Common.{◌∙◌, ◌<◌, ◌*◌, ap, sym, subst, arith}
use Rattle.wide.specs.Parts.{wide_end}
use Rattle.decimals.proofs.Powers.{tens_in_part, scaled_by_parts, scaled_small}
use Rattle.decimals.proofs.rounding.+scaled.Goals as goal

pub pow-requires : goal.pow-requires
pow-requires t c = omega (arith, tens_in_part c.args.places c.if-places-le-FACTOR_PLACES.true)

pub times-requires-else-places-le-FACTOR_PLACES : goal.times-requires-else-places-le-FACTOR_PLACES
times-requires-else-places-le-FACTOR_PLACES t c =
    let small = scaled_small c.args.number 38 c.args.places (omega arith) in
    let same = ap (λ x. c.args.number * x) c.pow-else-places-le-FACTOR_PLACES.ensures in
    omega arith

pub scaled-requires : goal.scaled-requires
scaled-requires t c =
    let same = scaled_by_parts c.args.number _ _ 38 c.args.places c.pow-else-places-le-FACTOR_PLACES.ensures c.times-else-places-le-FACTOR_PLACES.ensures (omega arith) in
    (omega arith, subst (λ x. x < wide_end) (sym same) c.requires)

pub returns-else-places-le-FACTOR_PLACES : goal.returns-else-places-le-FACTOR_PLACES
returns-else-places-le-FACTOR_PLACES t c =
    c.scaled.ensures ∙ scaled_by_parts c.args.number _ _ 38 c.args.places c.pow-else-places-le-FACTOR_PLACES.ensures c.times-else-places-le-FACTOR_PLACES.ensures (omega arith)
