-- What a command asks for, by its words alone, and the files that it reads.
use Rattle.std.specs.Prelude.{◌≡◌, ◌≤◌, ◌||◌, ℕ, Bool, false, List, [], ◌∷◌, ◌++◌, length, map, is_some, Some, None}
use Rattle.std.specs.declared.option.Option.{Option}
use Rattle.outside.specs.Told.{Lacks, Has}
use Rattle.command_line.specs.Meaning.{settings_of}
use Rattle.command_line.specs.declared.settings.Outputs.{Outputs}
use Rattle.command_line.specs.declared.settings.Settings.{Settings}
use Rattle.command_line.specs.declared.settings.Task.{Task}
use Rattle.command_line.specs.declared.settings.Task.TheVariants.{Solve, Translate, CheckCertificate}

-- what a store tells of each name
abbrev pub ToldNames : Type 0
ToldNames = List ℕ → Option (Option (List ℕ))

-- ---- the task

abbrev pub IsSolve : Task → Type 0
IsSolve (Solve outputs) = Unit {0}
IsSolve Translate = ⊥
IsSolve (CheckCertificate name migrated) = ⊥

-- the settings ask for the solution of the problem
abbrev pub Solves : Settings → Type 0
Solves s = IsSolve s.task

-- they ask for the size of the problem alone
abbrev pub Translates : Settings → Type 0
Translates s = s.task ≡ Translate

-- the files that are to be written, where the problem is to be solved
abbrev pub outputs_of : Task → Option Outputs
outputs_of (Solve outputs) = Some outputs
outputs_of Translate = None
outputs_of (CheckCertificate name migrated) = None

-- the file to which a certificate that is accepted is to be written in version 2
abbrev pub migrated_file : Task → Option (List ℕ)
migrated_file (Solve outputs) = None
migrated_file Translate = None
migrated_file (CheckCertificate name migrated) = migrated

-- an irreducible infeasible subset is wanted where no point is feasible
abbrev pub wants_subset : Task → Bool
wants_subset (Solve outputs) = outputs.subset
wants_subset Translate = false
wants_subset (CheckCertificate name migrated) = false

-- the file of the exact ranges of costs and bounds, which are to be found at a best point
abbrev pub ranges_file : Task → Option (List ℕ)
ranges_file (Solve outputs) = outputs.ranges
ranges_file Translate = None
ranges_file (CheckCertificate name migrated) = None

-- the file of the certificate, where the problem is to be solved
abbrev pub certificate_file : Task → Option (List ℕ)
certificate_file (Solve outputs) = outputs.certificate
certificate_file Translate = None
certificate_file (CheckCertificate name migrated) = None

-- exact ranges are wanted
abbrev pub wants_ranges : Task → Bool
wants_ranges task = is_some (ranges_file task)

-- what is wanted is told of problems without integer columns alone
abbrev pub wants_linear : Task → Bool
wants_linear task = wants_subset task || wants_ranges task

-- a search may split on rows
abbrev pub splits_rows : Task → Bool
splits_rows (Solve outputs) = outputs.row_splits
splits_rows Translate = false
splits_rows (CheckCertificate name migrated) = false

-- a search may use cuts of its root
abbrev pub uses_cuts : Task → Bool
uses_cuts (Solve outputs) = outputs.cuts
uses_cuts Translate = false
uses_cuts (CheckCertificate name migrated) = false

-- the report is a summary, without names and points
abbrev pub wants_summary : Task → Bool
wants_summary (Solve outputs) = outputs.summary
wants_summary Translate = false
wants_summary (CheckCertificate name migrated) = false

-- ---- the files that are read

-- the certificate that is to be checked is read last
abbrev pub names_checked : Task → List (List ℕ)
names_checked (Solve outputs) = []
names_checked Translate = []
names_checked (CheckCertificate name migrated) = name ∷ []

-- they ask whether the certificate in this file proves its verdict for the problem
abbrev pub Checks : Settings → List ℕ → Type 0
Checks s name = names_checked s.task ≡ name ∷ []

-- Where the texts come from, in order: the model, the data files, and the certificate that is to be checked. Each comes from the file
-- of a name; a made problem has no file, and an empty text in the place of a model's.
abbrev pub sources_of : Settings → List (Option (List ℕ))
sources_of s = s.model ∷ map Some (s.data_files ++ names_checked s.task)

-- a file isn't told missing, and its text, where it is told, isn't too long
pub record IsThere (told : Option (Option (List ℕ))) : Type 0 where
  pub there : Lacks told → ⊥
  pub within : (text : List ℕ) → Has told text → length text ≤ 67108864

abbrev pub IsSourceThere : ToldNames → Option (List ℕ) → Type 0
IsSourceThere told None = Unit {0}
IsSourceThere told (Some name) = IsThere (told name)

abbrev pub AreThere : ToldNames → List (Option (List ℕ)) → Type 0
AreThere told [] = Unit {0}
AreThere told (source ∷ sources) = IsSourceThere told source × AreThere told sources

-- the file of this name is read in its turn: all before it are there
pub record IsInTurn (words : List (List ℕ)) (told : ToldNames) (name : List ℕ) : Type 0 where
  pub settings : Settings
  pub asks : settings_of words ≡ Some settings
  pub before : List (Option (List ℕ))
  pub after : List (Option (List ℕ))
  pub is : sources_of settings ≡ before ++ Some name ∷ after
  pub there : AreThere told before

-- a file is there, and this is its text, which isn't too long; where the store tells nothing of it, some such text
pub record IsTextOf (told : Option (Option (List ℕ))) (text : List ℕ) : Type 0 where
  pub there : IsThere told
  pub short : length text ≤ 67108864
  pub is : (bytes : List ℕ) → Has told bytes → bytes ≡ text

-- the text that comes from there
abbrev pub IsTextFrom : ToldNames → Option (List ℕ) → List ℕ → Type 0
IsTextFrom told None text = text ≡ []
IsTextFrom told (Some name) text = IsTextOf (told name) text

abbrev pub AreTexts : ToldNames → List (Option (List ℕ)) → List (List ℕ) → Type 0
AreTexts told [] [] = Unit {0}
AreTexts told [] (text ∷ texts) = ⊥
AreTexts told (source ∷ sources) [] = ⊥
AreTexts told (source ∷ sources) (text ∷ texts) = IsTextFrom told source text × AreTexts told sources texts
