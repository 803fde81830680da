use Rattle.std.proofs.Common.{◌≡◌, ◌++◌, drop, string_bytes}
use Rattle.exact_ranges.specs.Text.{cost_lines}
use Rattle.exact_ranges.proofs.text.cost_lines.Given as goal

abbrev pub invariant-loop-place : goal.invariant-loop-place
invariant-loop-place l = cost_lines 0 l.ranges ≡ string_bytes l.text ++ cost_lines l.place (drop l.place l.ranges)
