-- The third line of a text.
use Rattle.std.proofs.Common.{◌≡◌, ◌∙◌, ℕ, ◌≤◌, List, [], ◌∷◌, ◌++◌, slice_get, true, false, Option, Some, refl, sym, ap, arith}
use Rattle.std.specs.Prelude.{codes}
use Rattle.std.specs.Fmt.{decimal}
use Rattle.std.specs.Str.{bytes_eq}
use Rattle.std.specs.List.{slice_split}
use Rattle.verdicts.specs.Certificate.{Version, One, Two, Verdict, Optimal, Infeasible, Unbounded, Certificate}
use Rattle.certificate.specs.Written.{count_max}
use Rattle.certificate.specs.Written as written
use Rattle.certificate.specs.Text.{certificate_text}
use Rattle.certificate_lines.specs.Lines.{is_feed}
use Rattle.certificate_reader.proofs.FieldsAgain.{is_inked, is_inked-append, inked-from_solid, decimal_solid}
use Rattle.certificate_reader.proofs.LinesFound.{name_of, digit_of}
use Rattle.certificate_reader.proofs.CertificateFound.{parts_text}
use Rattle.certificate_reader.proofs.CertificateAgain.{line_pieces, text_lines}
use Rattle.partial_certificate.specs.Partial.{Partial}
use Rattle.partial_certificate.specs.Text.{partial_shown_text, partial_text}
use Rattle.partial_certificate.specs.Written.{HasText}
use Rattle.partial_reader.specs.Kinds.{names_undecided}
use Rattle.partial_reader.proofs.PartialFound.{partial_lines}

third_is : (first second third rest : List ℕ) → is_inked first ≡ true → is_inked second ≡ true → is_inked third ≡ true → names_undecided (first ++ (10 ∷ (second ++ (10 ∷ (third ++ (10 ∷ rest)))))) ≡ bytes_eq third (codes "verdict undecided")
third_is first second third rest h k l =
    rw (line_pieces first (second ++ (10 ∷ (third ++ (10 ∷ rest)))) h, line_pieces second (third ++ (10 ∷ rest)) k, line_pieces third rest l) refl

size_inked : (rows columns : ℕ) → rows ≤ count_max → columns ≤ count_max → is_inked (codes "size " ++ (decimal rows ++ (codes " " ++ decimal columns))) ≡ true
size_inked rows columns h k =
    is_inked-append (codes "size ") (decimal rows ++ (codes " " ++ decimal columns)) refl
    (is_inked-append (decimal rows) (codes " " ++ decimal columns) (inked-from_solid (decimal rows) (decimal_solid rows h))
    (is_inked-append (codes " ") (decimal columns) refl (inked-from_solid (decimal columns) (decimal_solid columns k))))

pub partial_named : (c : Partial) → HasText c → names_undecided (partial_text c) ≡ true
partial_named c h =
    ap names_undecided (sym (partial_lines c.rows c.columns (partial_shown_text c)))
    ∙ third_is (codes "cert 2") (codes "size " ++ (decimal c.rows ++ (codes " " ++ decimal c.columns))) (codes "verdict undecided") (partial_shown_text c ++ (codes "end" ++ (10 ∷ []))) refl (size_inked c.rows c.columns h.rows h.columns) refl

version_inked : (v : Version) → is_inked (codes "cert " ++ digit_of v) ≡ true
version_inked One = is_inked-append (codes "cert ") (digit_of One) refl (inked-from_solid (decimal 1) (decimal_solid 1 (omega arith)))
version_inked Two = is_inked-append (codes "cert ") (digit_of Two) refl (inked-from_solid (decimal 2) (decimal_solid 2 (omega arith)))

verdict_inked : (v : Verdict) → is_inked (codes "verdict " ++ name_of v) ≡ true
verdict_inked Optimal = refl
verdict_inked Infeasible = refl
verdict_inked Unbounded = refl

verdict_apart : (v : Verdict) → bytes_eq (codes "verdict " ++ name_of v) (codes "verdict undecided") ≡ false
verdict_apart Optimal = refl
verdict_apart Infeasible = refl
verdict_apart Unbounded = refl

pub certificate_named : (c : Certificate) → written.HasText c → names_undecided (certificate_text c) ≡ false
certificate_named c h =
    ap names_undecided (text_lines c)
    ∙ third_is (codes "cert " ++ digit_of c.version) (codes "size " ++ (decimal c.rows ++ (codes " " ++ decimal c.columns))) (codes "verdict " ++ name_of c.verdict) (parts_text c c.verdict ++ (codes "end" ++ (10 ∷ []))) (version_inked c.version) (size_inked c.rows c.columns h.rows h.columns) (verdict_inked c.verdict)
    ∙ verdict_apart c.verdict
