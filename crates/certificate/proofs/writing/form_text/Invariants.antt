use Rattle.std.proofs.Common.{◌≡◌, ◌++◌, drop, string_bytes}
use Rattle.certificate.specs.Text.{form_text}
use Rattle.certificate.proofs.writing.form_text.Given as goal

abbrev pub invariant-loop-entry : goal.invariant-loop-entry
invariant-loop-entry l = form_text l.form ≡ string_bytes l.text ++ form_text (drop l.entry-index l.form)
