use Rattle.std.proofs.Common.{◌≡◌, drop, map}
use Rattle.certificate.specs.Written.{next_rank}
use Rattle.certificate_lines.specs.Fields.{items_of}
use Rattle.certificate_lines.proofs.Fronts.{with_front_of}
use Rattle.certificate_lines.proofs.fields.items.Given as goal

abbrev pub invariant-loop-i : goal.invariant-loop-i
invariant-loop-i l = record { read : with_front_of l.items (items_of l.kind l.least (map (λ f. f.now) (drop l.i l.fields))) ≡ items_of l.kind 0 (map (λ f. f.now) l.fields); least : next_rank 0 l.items ≡ l.least }
