use Rattle.std.proofs.Common.{◌≡◌, ◌++◌, drop, string_bytes}
use Rattle.certificate.specs.Text.{items_text}
use Rattle.certificate.proofs.writing.items_text.Given as goal

abbrev pub invariant-loop-item : goal.invariant-loop-item
invariant-loop-item l = items_text l.kind l.items ≡ string_bytes l.text ++ items_text l.kind (drop l.item-index l.items)
