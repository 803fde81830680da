-- How the writing of pieces goes on, one after the other.
use Rattle.std.proofs.Common.{◌∙◌, ◌≤◌, ℕ, List, [], ◌∷◌, ◌++◌, Option, take, refl, inl, inr}
use Rattle.std.proofs.KnownBytes.{Appends-nil, Appends-trans}
use Rattle.outside.specs.Told.{AppendsPrefix}
use Rattle.glpsol_cli.specs.Asked.{ToldNames}
use Rattle.glpsol_cli.specs.Pieces.{Piece, Outside, IsSame, IsWritten, IsWrittenInPart, IsFileInPart, AllWritten, WrittenUpTo, SomeWritten, Extent, Whole, UpTo, Part, WrittenTo}
use Rattle.glpsol_cli.specs.Written.{ThenLine}
use Rattle.outside.specs.Causes.{Rose}
use Rattle.std.specs.Prelude.{Result, Ok, Err}
use Rattle.glpsol_cli.specs.Stages.{EndsWriting, HasFailed}
use Rattle.glpsol_cli.specs.declared.answer.Target.{Target}
use Rattle.glpsol_cli.specs.declared.answer.Target.TheVariants.{Out, File}
use Rattle.glpsol_cli.specs.declared.publish.PublishFault.{PublishFault}
use Rattle.glpsol_cli.specs.declared.publish.PublishFault.TheVariants.{Write, CutOutput, NoMemory}
use Rattle.glpsol_cli.proofs.Follow.{rose_within}

-- ---- nothing written

pub nothing : (o : Outside) → IsSame o o
nothing o = (Appends-nil o.taken, λ name. refl)

pub no_part : (target : Target) (text : List ℕ) (old new : Outside) → IsSame old new → IsWrittenInPart target text old new
no_part Out text old new same = ((0, same.0), same.1)
no_part (File name) text old new same = (same.0, λ before had. inl (same.1 name ∙ had), λ other not. same.1 other)

no_file_part : (target : Target) (text : List ℕ) (old new : Outside) → IsSame old new → IsFileInPart target text old new
no_file_part Out text old new same = same
no_file_part (File name) text old new same = no_part (File name) text old new same

none_of : (ps : List Piece) (old new : Outside) → IsSame old new → SomeWritten ps old new
none_of [] old new same = same
none_of (p ∷ ps) old new same = inl (no_file_part p.target p.text old new same)

pub none_written : (ps : List Piece) (o : Outside) → SomeWritten ps o o
none_written ps o = none_of ps o o (nothing o)

-- ---- from an outside to which nothing was written

module _ (old middle : Outside) (same : IsSame old middle) where
  written_from : (target : Target) (text : List ℕ) (new : Outside) → IsWritten target text middle new → IsWritten target text old new
  written_from Out text new h = (Appends-trans old.taken middle.taken new.taken [] text same.0 h.0, λ name. h.1 name ∙ same.1 name)
  written_from (File name) text new h =
      (Appends-trans old.taken middle.taken new.taken [] [] same.0 h.0, λ had_before had. h.1 had_before (same.1 name ∙ had), λ other not. h.2 other not ∙ same.1 other)

  part_from : (target : Target) (text : List ℕ) (new : Outside) → IsWrittenInPart target text middle new → IsWrittenInPart target text old new
  part_from Out text new h = ((h.0.0, Appends-trans old.taken middle.taken new.taken [] (take h.0.0 text) same.0 h.0.1), λ name. h.1 name ∙ same.1 name)
  part_from (File name) text new h =
      (Appends-trans old.taken middle.taken new.taken [] [] same.0 h.0, λ had_before had. h.1 had_before (same.1 name ∙ had), λ other not. h.2 other not ∙ same.1 other)

  none_from : (new : Outside) → IsSame middle new → IsSame old new
  none_from new h = (Appends-trans old.taken middle.taken new.taken [] [] same.0 h.0, λ name. h.1 name ∙ same.1 name)

  file_part_from : (target : Target) (text : List ℕ) (new : Outside) → IsFileInPart target text middle new → IsFileInPart target text old new
  file_part_from Out text new h = none_from new h
  file_part_from (File name) text new h = part_from (File name) text new h

  pub written_to_from : (extent : Extent) (ps : List Piece) (new : Outside) → WrittenTo extent ps middle new → WrittenTo extent ps old new
  written_to_from Whole [] new h = none_from new h
  written_to_from Whole (p ∷ ps) new h = (h.0, written_from p.target p.text h.0 h.1, h.2)
  written_to_from (UpTo target) [] new h = absurd h
  written_to_from (UpTo target) (p ∷ ps) new h = elim h [
    | inl part ↦ inl (part.0, part_from p.target p.text new part.1)
    | inr more ↦ inr (more.0, written_from p.target p.text more.0 more.1, more.2)
  ]
  written_to_from Part [] new h = none_from new h
  written_to_from Part (p ∷ ps) new h = elim h [
    | inl part ↦ inl (file_part_from p.target p.text new part)
    | inr more ↦ inr (more.0, written_from p.target p.text more.0 more.1, more.2)
  ]

  pub line_from : (extent : Extent) (line : List ℕ) (ps : List Piece) (new : Outside) → ThenLine extent line middle new ps → ThenLine extent line old new ps
  line_from Whole line ps new h = (h.0, written_to_from Whole ps h.0 h.1, h.2)
  line_from (UpTo target) line ps new h = (h.0, written_to_from (UpTo target) ps h.0 h.1, h.2)
  line_from Part line ps new h = elim h [
    | inl behind ↦ inl (behind.0, written_to_from Part ps behind.0 behind.1, behind.2)
    | inr cut ↦ inr (written_to_from (UpTo Out) ps new cut)
  ]

-- ---- what is written in two goes

pub written_after : (extent : Extent) (ps qs : List Piece) (old middle new : Outside) → AllWritten ps old middle → WrittenTo extent qs middle new → WrittenTo extent (ps ++ qs) old new
written_after extent [] qs old middle new all more = written_to_from old middle all extent qs new more
written_after Whole (p ∷ ps) qs old middle new all more = (all.0, all.1, written_after Whole ps qs all.0 middle new all.2 more)
written_after (UpTo target) (p ∷ ps) qs old middle new all more = inr (all.0, all.1, written_after (UpTo target) ps qs all.0 middle new all.2 more)
written_after Part (p ∷ ps) qs old middle new all more = inr (all.0, all.1, written_after Part ps qs all.0 middle new all.2 more)

-- and then a line
pub line_after : (extent : Extent) (line : List ℕ) (ps qs : List Piece) (old middle new : Outside) → AllWritten ps old middle → ThenLine extent line middle new qs → ThenLine extent line old new (ps ++ qs)
line_after Whole line ps qs old middle new all h = (h.0, written_after Whole ps qs old middle h.0 all h.1, h.2)
line_after (UpTo target) line ps qs old middle new all h = (h.0, written_after (UpTo target) ps qs old middle h.0 all h.1, h.2)
line_after Part line ps qs old middle new all h = elim h [
  | inl behind ↦ inl (behind.0, written_after Part ps qs old middle behind.0 all behind.1, behind.2)
  | inr cut ↦ inr (written_after (UpTo Out) ps qs old middle new all cut)
]

-- what is written up to a target of the first of them is so of all
pub up_to_of_more : (target : Target) (ps qs : List Piece) (old new : Outside) → WrittenUpTo target ps old new → WrittenUpTo target (ps ++ qs) old new
up_to_of_more target [] qs old new h = absurd h
up_to_of_more target (p ∷ ps) qs old new h = elim h [
  | inl part ↦ inl part
  | inr more ↦ inr (more.0, more.1, up_to_of_more target ps qs more.0 new more.2)
]

pub some_of_more : (ps qs : List Piece) (old new : Outside) → SomeWritten ps old new → SomeWritten (ps ++ qs) old new
some_of_more [] qs old new h = none_of qs old new h
some_of_more (p ∷ ps) qs old new h = elim h [
  | inl part ↦ inl part
  | inr more ↦ inr (more.0, more.1, some_of_more ps qs more.0 new more.2)
]

-- all are some
pub all_some : (ps : List Piece) (old new : Outside) → AllWritten ps old new → SomeWritten ps old new
all_some [] old new h = h
all_some (p ∷ ps) old new h = inr (h.0, h.1, all_some ps h.0 new h.2)

-- ---- a line alone

-- a line that is told, where nothing else is written
pub line_alone : (line : List ℕ) (taken taken' : Option (List ℕ)) (told : ToldNames) → AppendsPrefix taken taken' line → ThenLine Whole line (record { taken = taken; told = told }) (record { taken = taken'; told = told }) []
line_alone line taken taken' told prefix = let old : Outside = record { taken = taken; told = told } in (old, nothing old, (prefix, λ name. refl))

-- no line
pub no_line : (line : List ℕ) (ps : List Piece) (old new : Outside) → AllWritten ps old new → ThenLine Whole line old new ps
no_line line ps old new all = (new, all, no_part Out line new new (nothing new))

-- ---- what has failed within a longer time

module _ (a b c d : ℕ) (before : a ≤ b) (after : c ≤ d) (p q r s : ℕ) (before' : p ≤ q) (after' : r ≤ s) where
  pub failed_within : (fault : PublishFault) → HasFailed (Rose b c) (Rose q r) fault → HasFailed (Rose a d) (Rose p s) fault
  failed_within (Write Out) h = rose_within p q r s before' after' h
  failed_within (Write (File name)) h = rose_within a b c d before after h
  failed_within CutOutput h = tt
  failed_within NoMemory h = tt

-- ---- a fault of the writing

-- of the first of them it is so of all
pub ends_of_more : (fault : PublishFault) (ps qs : List Piece) (old middle : Outside) → EndsWriting {T = Unit {0}} ps old middle (Err fault) → EndsWriting {T = Unit {0}} (ps ++ qs) old middle (Err fault)
ends_of_more (Write target) ps qs old middle h = up_to_of_more target ps qs old middle h
ends_of_more CutOutput ps qs old middle h = up_to_of_more Out ps qs old middle h
ends_of_more NoMemory ps qs old middle h = some_of_more ps qs old middle h

-- behind others that were all written
pub ends_after : (fault : PublishFault) (ps qs : List Piece) (old middle new : Outside) → AllWritten ps old middle → EndsWriting {T = Unit {0}} qs middle new (Err fault) → EndsWriting {T = Unit {0}} (ps ++ qs) old new (Err fault)
ends_after (Write target) ps qs old middle new all h = written_after (UpTo target) ps qs old middle new all h
ends_after CutOutput ps qs old middle new all h = written_after (UpTo Out) ps qs old middle new all h
ends_after NoMemory ps qs old middle new all h = written_after Part ps qs old middle new all h

-- the writing of both ends so
pub both_end : (r : Result (Unit {0}) PublishFault) (ps qs : List Piece) (old middle new : Outside) → AllWritten ps old middle → EndsWriting qs middle new r → EndsWriting (ps ++ qs) old new r
both_end (Ok u) ps qs old middle new all h = written_after Whole ps qs old middle new all h
both_end (Err fault) ps qs old middle new all h = ends_after fault ps qs old middle new all h
