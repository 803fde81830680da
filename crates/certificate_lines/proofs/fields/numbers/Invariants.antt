use Rattle.std.proofs.Common.{◌≡◌, ◌≤◌, ◌-◌, drop, map}
use Rattle.certificate_lines.specs.Fields.{numbers_of}
use Rattle.certificate_lines.proofs.Fronts.{with_front}
use Rattle.certificate_lines.proofs.fields.numbers.Given as goal

abbrev pub invariant-loop-i : goal.invariant-loop-i
invariant-loop-i l = record { read : with_front l.numbers.items (numbers_of (l.count - l.i) (map (λ f. f.now) (drop l.i l.fields))) ≡ numbers_of l.count (map (λ f. f.now) l.fields); few : l.i ≤ l.count }
