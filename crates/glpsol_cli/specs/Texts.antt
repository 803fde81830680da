-- The texts of a command's files, with those of the tables that its model reads.
use Rattle.std.specs.Prelude.{◌≡◌, ℕ, List, [], ◌∷◌, ◌++◌, Some}
use Rattle.std.specs.declared.option.Option.{Option}
use Rattle.command_line.specs.Meaning.{settings_of}
use Rattle.command_line.specs.declared.settings.Settings.{Settings}
use Rattle.glpsol_cli.specs.Asked.{ToldNames, AreTexts, IsInTurn, IsTextOf, sources_of}
use Rattle.glpsol_cli.specs.Pieces.{Piece, told_behind}
use Rattle.glpsol_cli.specs.Meaning.{Meaning, HasDone, HasFound, Wanting, meaning_of}
use Rattle.glpsol_cli.specs.declared.answer.Reached.{Reached}
use Rattle.glpsol_cli.specs.declared.answer.Reached.TheVariants.{Nothing, Executed, Size, Shown, Acceptance, Verdict as VerdictReached, Subset as SubsetReached, Ranges as RangesReached}

-- A table's file of this name is to be read next. P holds of what is told of it then: the files of tables that are made before are
-- written.
pub record IsTableInTurn (told : ToldNames) (name : List ℕ) (P : Option (Option (List ℕ)) → Type 0) (s : Settings) (texts : List (List ℕ)) : Type 0 where
  pub meaning : Meaning
  pub means : meaning_of s texts ≡ Some meaning
  pub wants : meaning.end ≡ Wanting name
  pub has : P (told_behind told meaning.files name)

-- this is the text of the table's file that is to be read next
pub record IsTableText (told : ToldNames) (s : Settings) (texts : List (List ℕ)) (text : List ℕ) : Type 0 where
  pub name : List ℕ
  pub in_turn : IsTableInTurn told name (λ now. IsTextOf now text) s texts

-- behind these texts tables are read, with these texts
abbrev pub AreTables : ToldNames → Settings → List (List ℕ) → List (List ℕ) → Type 0
AreTables told s texts [] = Unit {0}
AreTables told s texts (text ∷ tables) = IsTableText told s texts text × AreTables told s (texts ++ text ∷ []) tables

-- The words are a command whose files are there, and tables are read. P holds of its settings and of the texts of these files and
-- tables.
pub record OfTexts (words : List (List ℕ)) (told : ToldNames) (P : Settings → List (List ℕ) → Type 0) : Type 0 where
  pub settings : Settings
  pub asks : settings_of words ≡ Some settings
  pub texts : List (List ℕ)
  pub read : AreTexts told (sources_of settings) texts
  pub tables : List (List ℕ)
  pub tables_read : AreTables told settings texts tables
  pub has : P settings (texts ++ tables)

-- the file of this name is to be read once this was reached: it is one of the command's, or a table's; P holds of what is told of it
abbrev pub OfFile : List (List ℕ) → ToldNames → List ℕ → Reached → (Option (Option (List ℕ)) → Type 0) → Type 0
OfFile words told name Nothing P = IsInTurn words told name × P (told name)
OfFile words told name Executed P = OfTexts words told (IsTableInTurn told name P)
OfFile words told name Size P = ⊥
OfFile words told name (Shown c) P = ⊥
OfFile words told name (Acceptance c) P = ⊥
OfFile words told name (VerdictReached c) P = ⊥
OfFile words told name (SubsetReached c w) P = ⊥
OfFile words told name (RangesReached c r) P = ⊥

-- P holds of all that is to be written once this was reached
abbrev pub OfPieces : List (List ℕ) → ToldNames → Reached → (List Piece → Type 0) → Type 0
OfPieces words told Nothing P = P []
OfPieces words told Executed P = OfTexts words told (HasDone P)
OfPieces words told Size P = OfTexts words told (HasFound Size P)
OfPieces words told (Shown c) P = OfTexts words told (HasFound (Shown c) P)
OfPieces words told (Acceptance c) P = OfTexts words told (HasFound (Acceptance c) P)
OfPieces words told (VerdictReached c) P = OfTexts words told (HasFound (VerdictReached c) P)
OfPieces words told (SubsetReached c w) P = OfTexts words told (HasFound (SubsetReached c w) P)
OfPieces words told (RangesReached c r) P = OfTexts words told (HasFound (RangesReached c r) P)
