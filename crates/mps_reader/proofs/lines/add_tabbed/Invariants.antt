use Rattle.std.proofs.Common.{◌≡◌, ◌++◌, drop, map, filter}
use Rattle.mps_reader.specs.Lines.{is_some_field}
use Rattle.mps_reader.proofs.lines.add_tabbed.Given as goal

abbrev pub invariant-loop-part : goal.invariant-loop-part
invariant-loop-part l = map (λ r. r.now) l.fields.items ++ filter is_some_field (map (λ r. r.now) (drop l.part-index l.part-items)) ≡ map (λ r. r.now) l.initial.fields.items ++ filter is_some_field (map (λ r. r.now) l.part-items)
