use Rattle.std.proofs.Common.{◌≡◌, ◌∙◌, List, ℕ, Result, Ok, Err, ap, subst}
use Rattle.std.specs.Prelude.{IfOk}
use Rattle.certificate_lines.specs.declared.fault.CertError.{CertError}
use Rattle.certificate_lines.specs.Gives.{Gives}
use Rattle.certificate_reader.proofs.FieldsFound.{Texts}
use Rattle.partial_certificate.specs.Partial.{Partial}
use Rattle.partial_certificate.specs.Text.{partial_text}
use Rattle.partial_reader.specs.Reading.{read_partial_of}
use Rattle.partial_reader.proofs.PartialFound.{partial_found}
use Rattle.partial_reader.proofs.PartialAgain.{partial_again}
use Rattle.partial_reader.proofs.reading.read_partial.Goals as goal

is_found : Texts → (bytes : List ℕ) (r : Result Partial CertError) → Gives (λ c. c) r (read_partial_of bytes) → IfOk r (λ c. bytes ≡ partial_text c)
is_found law bytes (Ok c) given = partial_found law bytes c given
is_found law bytes (Err e) given = tt

pub returns-clause-found : goal.returns-clause-found
returns-clause-found c = is_found (record { fractions = c.texts.ensures.fractions; digits = c.texts.ensures.digits }) c.args.text.now c.whole_text.result c.whole_text.ensures

pub returns-clause-only : goal.returns-clause-only
returns-clause-only c = λ d written same.
    let law : Texts = record { fractions = c.texts.ensures.fractions; digits = c.texts.ensures.digits } in
    subst (λ r. Gives (λ x. x) c.whole_text.result r) (ap read_partial_of same ∙ partial_again law d written) c.whole_text.ensures
