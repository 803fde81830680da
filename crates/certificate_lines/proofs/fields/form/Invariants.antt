use Rattle.std.proofs.Common.{◌≡◌, drop, map}
use Rattle.certificate_lines.specs.Fields.{form_of}
use Rattle.certificate_lines.proofs.Fronts.{with_front}
use Rattle.certificate_lines.proofs.fields.form.Given as goal

abbrev pub invariant-loop-field : goal.invariant-loop-field
invariant-loop-field l = with_front l.entries.items (form_of l.least (map (λ f. f.now) (drop l.field-index l.fields))) ≡ form_of 0 (map (λ f. f.now) l.fields)
