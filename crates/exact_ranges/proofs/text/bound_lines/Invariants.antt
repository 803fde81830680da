use Rattle.std.proofs.Common.{◌≡◌, ◌++◌, drop, string_bytes}
use Rattle.exact_ranges.specs.Text.{bound_lines}
use Rattle.exact_ranges.proofs.text.bound_lines.Given as goal

abbrev pub invariant-loop-place : goal.invariant-loop-place
invariant-loop-place l = bound_lines 0 l.rows ≡ string_bytes l.text ++ bound_lines l.place (drop l.place l.rows)
