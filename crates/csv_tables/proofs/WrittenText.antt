-- What a writer has written after a record, and what it hands out.
use Rattle.std.proofs.Common.{◌≡◌, ◌≢◌, ◌++◌, ◌∙◌, ℕ, List, Option, Some, None, false, refl}
use Rattle.std.specs.Prelude.{IsSome}
use Rattle.std.specs.Io.KnownBytes.{Appends, Keeps}
use Rattle.csv.specs.Writing.{fields_written, has_written, row_text, text_written, writer_setup}
use Rattle.csv.specs.declared.writer.Writer.{Writer}
use Rattle.csv.specs.declared.writer.QuoteStyle.TheVariants as style
use Rattle.csv_tables.specs.Writing.{IsWriting, known_text, table_writer, written}

more-known : (old new : Option (List ℕ)) (bytes : List ℕ) → IsSome old → Appends old new bytes → IsSome new × (known_text new ≡ known_text old ++ bytes)
more-known None new bytes known h = cc known
more-known (Some xs) None bytes known h = absurd h
more-known (Some xs) (Some ys) bytes known h = (refl, h)

same-known : (old : Option (List ℕ)) (new : List ℕ) → IsSome old → Keeps old (Some new) → new ≡ known_text old
same-known None new known h = cc known
same-known (Some xs) new known h = h

module _ {W : Type 0} (contents : W → Option (List ℕ)) (old : Writer W) where
  pub handed-out : (text : List ℕ) → IsWriting contents old → Keeps (text_written contents old) (Some text) → text ≡ written contents old
  unfolding IsWriting written
  handed-out text writing h = same-known (text_written contents old) text writing.0 h

  -- a record can be written
  pub ready-to-write : IsWriting contents old → (fields_written old ≡ 0) × (has_written old ≡ false) × ((writer_setup old).style ≢ style.NonNumeric)
  unfolding IsWriting
  ready-to-write writing = (writing.1, writing.2, rw writing.3 (λ e. cc e))

  module _ (new : Writer W) (fields : List (List ℕ)) where
    pub writes-on : IsWriting contents old → Appends (text_written contents old) (text_written contents new) (row_text (writer_setup old) fields)
        → fields_written new ≡ 0 → has_written new ≡ false → writer_setup new ≡ writer_setup old → IsWriting contents new
    unfolding IsWriting
    writes-on writing h ended clean setup =
        ((more-known (text_written contents old) (text_written contents new) (row_text (writer_setup old) fields) writing.0 h).0, ended, clean, setup ∙ writing.3)

    pub one-more-record : IsWriting contents old → Appends (text_written contents old) (text_written contents new) (row_text (writer_setup old) fields)
        → written contents new ≡ written contents old ++ row_text table_writer fields
    unfolding IsWriting written
    one-more-record writing h =
        (more-known (text_written contents old) (text_written contents new) (row_text table_writer fields) writing.0 (rw writing.3 at h)).1
