-- The bytes that were written.
use Rattle.std.proofs.Common.{◌∙◌, Some, Vec, Global, ℕ, sym}
use Rattle.csv_tables.proofs.Results.{from_ok}
use Rattle.csv_tables.proofs.WrittenText.{handed-out}
use Rattle.csv_tables.proofs.writing.text_written.Goals as goal

pub returns-in-Some : goal.returns-in-Some
returns-in-Some c =
    let kept = from_ok _ c.into_inner.result c.in-Some.text (sym c.ok.ensures.value ∙ c.in-Some.is) c.into_inner.ensures.ok in
    handed-out (λ (v : Vec ℕ Global). Some v.items) c.args.writer c.in-Some.text.items c.requires kept
