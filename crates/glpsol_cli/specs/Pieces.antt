-- Texts that are written in order, some on the output and some to files.
use Rattle.std.specs.Prelude.{◌≡◌, ◌⊎◌, ℕ, List, [], ◌∷◌, None, Some, if◌then◌else◌}
use Rattle.std.specs.declared.option.Option.{Option}
use Rattle.std.specs.Io.KnownBytes.{Appends}
use Rattle.std.specs.Str.{bytes_eq}
use Rattle.outside.specs.Told.{Has, AppendsPrefix, IsKeptOrPrefix}
use Rattle.glpsol_cli.specs.Asked.{ToldNames}
use Rattle.glpsol_cli.specs.declared.answer.Target.{Target}
use Rattle.glpsol_cli.specs.declared.answer.Target.TheVariants.{Out, File}

-- a text, and where it is written
pub record Piece : Type 0 where
  pub target : Target
  pub text : List ℕ

-- what the output has taken, and what the store tells of each name
pub record Outside : Type 0 where
  pub taken : Option (List ℕ)
  pub told : ToldNames

abbrev pub SameNames : ToldNames → ToldNames → Type 0
SameNames old new = (name : List ℕ) → new name ≡ old name

abbrev pub OthersSame : List ℕ → ToldNames → ToldNames → Type 0
OthersSame name old new = (other : List ℕ) → (other ≡ name → ⊥) → new other ≡ old other

-- nothing is written
abbrev pub IsSame : Outside → Outside → Type 0
IsSame old new = Appends old.taken new.taken [] × SameNames old.told new.told

-- All of the text is written there, and nothing else: behind what the output has taken, or to a file that is made anew.
-- Where names aren't told nothing is said of them.
abbrev pub IsWritten : Target → List ℕ → Outside → Outside → Type 0
IsWritten Out text old new = Appends old.taken new.taken text × SameNames old.told new.told
IsWritten (File name) text old new =
    Appends old.taken new.taken []
    × ((before : Option (List ℕ)) → old.told name ≡ Some before → Has (new.told name) text)
    × OthersSame name old.told new.told

-- a part of the text from its front is written there, and nothing else; a file may also be as it was
abbrev pub IsWrittenInPart : Target → List ℕ → Outside → Outside → Type 0
IsWrittenInPart Out text old new = AppendsPrefix old.taken new.taken text × SameNames old.told new.told
IsWrittenInPart (File name) text old new =
    Appends old.taken new.taken []
    × ((before : Option (List ℕ)) → old.told name ≡ Some before → IsKeptOrPrefix before (new.told name) text)
    × OthersSame name old.told new.told

-- all are written, in order
abbrev pub AllWritten : List Piece → Outside → Outside → Type 0
AllWritten [] old new = IsSame old new
AllWritten (p ∷ ps) old new = (middle : Outside) × IsWritten p.target p.text old middle × AllWritten ps middle new

-- the first of them are written, then a part of the next, which goes to this target, and no others
abbrev pub WrittenUpTo : Target → List Piece → Outside → Outside → Type 0
WrittenUpTo target [] old new = ⊥
WrittenUpTo target (p ∷ ps) old new =
    ((p.target ≡ target) × IsWrittenInPart p.target p.text old new)
    ⊎ ((middle : Outside) × IsWritten p.target p.text old middle × WrittenUpTo target ps middle new)

-- a part of the text is written where it goes to a file, and nothing else
abbrev pub IsFileInPart : Target → List ℕ → Outside → Outside → Type 0
IsFileInPart Out text old new = IsSame old new
IsFileInPart (File name) text old new = IsWrittenInPart (File name) text old new

-- the first of them are written, then a part of the next where that goes to a file, and no others
abbrev pub SomeWritten : List Piece → Outside → Outside → Type 0
SomeWritten [] old new = IsSame old new
SomeWritten (p ∷ ps) old new =
    IsFileInPart p.target p.text old new
    ⊎ ((middle : Outside) × IsWritten p.target p.text old middle × SomeWritten ps middle new)

-- how far the writing comes
pub data Extent : Type 0 where
  Whole : Extent
  UpTo : Target → Extent
  Part : Extent

abbrev pub WrittenTo : Extent → List Piece → Outside → Outside → Type 0
WrittenTo Whole ps old new = AllWritten ps old new
WrittenTo (UpTo target) ps old new = WrittenUpTo target ps old new
WrittenTo Part ps old new = SomeWritten ps old new

-- ---- what is told of files behind pieces that are written

-- of a file that is made with this text something is told where something was told before
abbrev pub told_made : List ℕ → Option (Option (List ℕ)) → Option (Option (List ℕ))
told_made text None = None
told_made text (Some before) = Some (Some text)

abbrev pub told_written : Target → List ℕ → ToldNames → ToldNames
told_written Out text told name = told name
told_written (File made) text told name = if bytes_eq name made then told_made text (told name) else told name

-- a file has the last text that was written to it
abbrev pub told_behind : ToldNames → List Piece → ToldNames
told_behind told [] = told
told_behind told (p ∷ ps) = told_behind (told_written p.target p.text told) ps

-- whatever the first tells of a name, the second tells too
abbrev pub Says : ToldNames → ToldNames → Type 0
Says told more = (name : List ℕ) (is : Option (List ℕ)) → told name ≡ Some is → more name ≡ Some is
