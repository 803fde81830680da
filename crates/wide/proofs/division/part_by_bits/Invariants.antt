use Rattle.std.proofs.Common.{◌≡◌, ◌<◌, ◌+◌, ◌*◌, ◌^◌}
use Rattle.wide.proofs.division.part_by_bits.Given as goal

abbrev pub invariant-loop-step : goal.invariant-loop-step
invariant-loop-step l = record {
  whole : l.bits + 2 ^ 128 * (l.quotient * l.divisor + l.left) ≡ (l.part + 2 ^ 128 * l.rest) * 2 ^ l._step;
  quotient_small : l.quotient < 2 ^ l._step;
  left_small : l.left < l.divisor;
}
