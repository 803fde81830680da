use Rattle.std.proofs.Common.{◌≡◌, ◌∙◌, Bool, true, false, if◌then◌else◌, Some, None, Option, Err, List, ℕ, refl, ap}
use Rattle.fraction.specs.Canonical.{read_canonical_of}
use Rattle.certificate_lines.specs.declared.fault.FaultKind.TheVariants.{BadLine}
use Rattle.certificate_lines.specs.Fields.{numbered}
use Rattle.certificate_lines.proofs.fields.number.Goals as goal

text_number : (b : Bool) (t f : List ℕ) → Some t ≡ (if b then Some f else None) → numbered (read_canonical_of t) ≡ (if b then numbered (read_canonical_of f) else Err BadLine)
text_number true t f h = let same : t ≡ f = cc in ap (λ (x : List ℕ). numbered (read_canonical_of x)) same
text_number false t f h = absurd cc

no_text : (b : Bool) (f : List ℕ) → let none : Option (List ℕ) = None in none ≡ (if b then Some f else None) → Err BadLine ≡ (if b then numbered (read_canonical_of f) else Err BadLine)
no_text true f h = absurd cc
no_text false f h = refl

pub returns-in-Some : goal.returns-in-Some
returns-in-Some c = c.line_fault.ensures ∙ ap numbered c.read_canonical.ensures.value ∙ text_number _ c.in-Some.text.now c.args.field.now c.in-Some.ensures

pub returns-in-None : goal.returns-in-None
returns-in-None c = no_text _ c.args.field.now c.in-None.ensures
