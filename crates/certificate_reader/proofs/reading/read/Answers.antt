use Rattle.std.proofs.Common.{◌≡◌, ◌∙◌, List, ℕ, Result, Ok, Err, ap, subst}
use Rattle.std.specs.Prelude.{IfOk}
use Rattle.verdicts.specs.Certificate.{Certificate}
use Rattle.certificate_lines.specs.declared.fault.CertError.{CertError}
use Rattle.certificate.specs.Text.{certificate_text}
use Rattle.certificate_reader.specs.Reading.{read_of}
use Rattle.certificate_lines.specs.Gives.{Gives}
use Rattle.certificate_reader.proofs.FieldsFound.{Texts}
use Rattle.certificate_reader.proofs.CertificateFound.{certificate_found}
use Rattle.certificate_reader.proofs.CertificateAgain.{certificate_again}
use Rattle.certificate_reader.proofs.reading.read.Goals as goal

is_found : Texts → (bytes : List ℕ) (r : Result Certificate CertError) → Gives (λ c. c) r (read_of bytes) → IfOk r (λ c. bytes ≡ certificate_text c)
is_found law bytes (Ok c) given = (certificate_found law bytes c given).text_is
is_found law bytes (Err e) given = tt

pub returns-clause-found : goal.returns-clause-found
returns-clause-found c = is_found (record { fractions = c.texts.ensures.fractions; digits = c.texts.ensures.digits }) c.args.text.now c.whole_text.result c.whole_text.ensures

pub returns-clause-only : goal.returns-clause-only
returns-clause-only c = λ d written same.
    let law : Texts = record { fractions = c.texts.ensures.fractions; digits = c.texts.ensures.digits } in
    subst (λ r. Gives (λ x. x) c.whole_text.result r) (ap read_of same ∙ certificate_again law d written) c.whole_text.ensures
