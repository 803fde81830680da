use Rattle.std.proofs.Common.{◌≡◌, ◌≤◌, arith, to_z, w32}
use Rattle.std.proofs.lemmas.Int.{ints}
use Rattle.std.specs.Prelude.{pos}
use Rattle.decimals.proofs.ExponentLemmas.{fits_places, rounded_small, whole_fits}
use Rattle.decimals.proofs.texts.fixed.Goals as goal

pub rounded-number-requires-clause-fits : goal.rounded-number-requires-clause-fits
rounded-number-requires-clause-fits c =
    let few : c.min-places.result ≤ 60 = omega (arith, c.min-places.ensures) in
    fits_places c.size-n.result.0 c.size-n.result.1 c.min-places.result _ c.size-n.ensures.n_small few (omega (arith, ints))

pub push_written-requires : goal.push_written-requires
push_written-requires c =
    let few : c.min-places.result ≤ 60 = omega (arith, c.min-places.ensures) in
    let left : to_z w32 c.min-places.result ≡ pos c.min-places.result = omega (arith, ints) in
    let small = rounded_small c.size-n.result.0 c.size-n.result.1 c.min-places.result (to_z w32 c.min-places.result) left in
    let same = c.rounded-number.ensures in
    whole_fits c.size-n.result.0 c.rounded-number.result c.min-places.result c.size-n.ensures.n_small (omega arith)
