use Rattle.std.proofs.Common.{◌≡◌, ◌++◌, drop, string_bytes}
use Rattle.partial_certificate.specs.Text.{partial_tree_text}
use Rattle.partial_certificate.proofs.writing.partial_tree_text.Given as goal

abbrev pub invariant-loop-place : goal.invariant-loop-place
invariant-loop-place l = partial_tree_text l.tree ≡ string_bytes l.text ++ partial_tree_text (drop l.place l.tree)
