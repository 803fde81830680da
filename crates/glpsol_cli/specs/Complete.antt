-- When a run gives a verdict, and when a certificate that it wrote is accepted: where no cause of another answer is there.
use Rattle.std.specs.Prelude.{◌≡◌, ◌≤◌, ℕ, true, List, [], ◌∷◌, ◌++◌, length, map, Some, None}
use Rattle.std.specs.declared.option.Option.{Option}
use Rattle.rational.specs.Rational.{Rational}
use Rattle.milp.specs.Problem.{Problem}
use Rattle.fraction.specs.declared.frac.NoFit.{NoFit}
use Rattle.branch_search.specs.Plain.{NoneInteger}
use Rattle.branch_search.specs.declared.whole_fault.VerdictFault.TheVariants.{NoFit as SearchNoFit, PivotLimit, SplitLimit, NoMemory as SearchNoMemory}
use Rattle.exact_ranges.specs.declared.fault.RangeFault.{RangeFault}
use Rattle.exact_ranges.specs.declared.fault.RangeFault.TheVariants.{Search, TooLarge, Weight, MovedBound, NoMemory as RangeNoMemory}
use Rattle.verdicts.specs.Certificate.{Certificate}
use Rattle.verdicts.specs.Certificate as kind
use Rattle.verdicts.specs.Proves.{Proves}
use Rattle.certificate.specs.Text.{certificate_text}
use Rattle.dual_values.specs.Duals.{duals_of}
use Rattle.outside.specs.Told.{Has}
use Rattle.command_line.specs.Meaning.{settings_of}
use Rattle.command_line.specs.declared.settings.Settings.{Settings}
use Rattle.command_line.specs.declared.settings.Task.TheVariants.{CheckCertificate}
use Rattle.glpsol_cli.specs.Asked.{ToldNames, Solves, sources_of, wants_linear}
use Rattle.glpsol_cli.specs.Meaning.{Meaning, IsAsked, meaning_of}
use Rattle.glpsol_cli.specs.Texts.{IsTableInTurn}
use Rattle.glpsol_cli.specs.Cause.{IsOverflow, IsUndecided, IsProved, LacksRanges}
use Rattle.glpsol_cli.specs.declared.answer.Answer.{Answer}
use Rattle.glpsol_cli.specs.declared.answer.Answer.TheVariants.{Optimal, Ranged, Infeasible, Irreducible, Unbounded, Unranged, Accepted, OpenFault, ReadFault, WriteFault, NoMemory}
use Rattle.glpsol_cli.specs.declared.answer.Limit.{Limit}
use Rattle.glpsol_cli.specs.declared.answer.OverflowSite.{OverflowSite}

-- it is told with this text, which isn't too long
abbrev pub IsToldShort : List ℕ → Option (Option (List ℕ)) → Type 0
IsToldShort text told = Has told text × (length text ≤ 67108864)

abbrev pub IsToldFrom : ToldNames → Option (List ℕ) → List ℕ → Type 0
IsToldFrom told None text = text ≡ []
IsToldFrom told (Some name) text = IsToldShort text (told name)

-- the files of these sources are told with these texts, and none is too long
abbrev pub AreTold : ToldNames → List (Option (List ℕ)) → List (List ℕ) → Type 0
AreTold told [] [] = Unit {0}
AreTold told [] (text ∷ texts) = ⊥
AreTold told (source ∷ sources) [] = ⊥
AreTold told (source ∷ sources) (text ∷ texts) = IsToldFrom told source text × AreTold told sources texts

-- the table's file that is to be read next is told with this text then, which isn't too long
pub record IsTableTold (told : ToldNames) (s : Settings) (texts : List (List ℕ)) (text : List ℕ) : Type 0 where
  pub name : List ℕ
  pub in_turn : IsTableInTurn told name (IsToldShort text) s texts

-- the files of the tables that are read behind these texts are told with these texts
abbrev pub AreTablesTold : ToldNames → Settings → List (List ℕ) → List (List ℕ) → Type 0
AreTablesTold told s texts [] = Unit {0}
AreTablesTold told s texts (text ∷ tables) = IsTableTold told s texts text × AreTablesTold told s (texts ++ text ∷ []) tables

-- there is no memory for ranges
abbrev pub IsWantOfMemory : RangeFault → Type 0
IsWantOfMemory (Search sought (SearchNoFit wanted site)) = ⊥
IsWantOfMemory (Search sought (PivotLimit wanted bases board)) = ⊥
IsWantOfMemory (Search sought (SplitLimit wanted board)) = ⊥
IsWantOfMemory (Search sought SearchNoMemory) = Unit {0}
IsWantOfMemory (TooLarge sought) = ⊥
IsWantOfMemory (Weight row side e) = ⊥
IsWantOfMemory (MovedBound row side end e) = ⊥
IsWantOfMemory RangeNoMemory = Unit {0}

-- the answer is a verdict, or want of memory
abbrev pub IsVerdictOrNoMemory : Answer → Type 0
IsVerdictOrNoMemory (Optimal c) = Unit {0}
IsVerdictOrNoMemory (Infeasible c) = Unit {0}
IsVerdictOrNoMemory (Irreducible c w) = Unit {0}
IsVerdictOrNoMemory (Ranged c r) = Unit {0}
IsVerdictOrNoMemory (Unranged fault c) = IsWantOfMemory fault
IsVerdictOrNoMemory (Unbounded c) = Unit {0}
IsVerdictOrNoMemory (NoMemory reached) = Unit {0}
IsVerdictOrNoMemory answer = ⊥

-- Words that ask for a solution, told files, of the command and of tables, texts that declare a problem, no operation that doesn't
-- fit, no run that is too long, no search that needs more splits than are allowed, no certificate of a best point at which, with the
-- dual values of the certificate, a statement behind `solve` has a fault, no integer column where a subset is wanted, and counts that
-- didn't rise: then nothing but a verdict or want of memory is answered.
pub record IsComplete (words : List (List ℕ)) (told : ToldNames) (files_rose out_rose : Type 0) : Type 0 where
  pub settings : Settings
  pub texts : List (List ℕ)
  pub problem : Problem
  pub asks : settings_of words ≡ Some settings
  pub solves : Solves settings
  pub tables : List (List ℕ)
  pub has : AreTold told (sources_of settings) texts
  pub tables_told : AreTablesTold told settings texts tables
  pub asked : IsAsked settings (texts ++ tables) problem
  pub linear : wants_linear settings.task ≡ true → NoneInteger problem.columns
  pub fits : (at : OverflowSite) (e : NoFit) → ¬ (IsOverflow at e settings (texts ++ tables))
  pub ends : (limit : Limit) → ¬ (IsUndecided limit settings (texts ++ tables))
  pub ranged : (fault : RangeFault) (c : Certificate) → LacksRanges fault c settings (texts ++ tables) → IsWantOfMemory fault
  pub behind : (meaning : Meaning) → meaning_of settings (texts ++ tables) ≡ Some meaning → (c : Certificate) → Proves problem c → c.verdict ≡ kind.Optimal
      → (x : List Rational) → c.point ≡ Some x → (meaning.behind x (duals_of problem c)).fault ≡ None
  pub files_held : files_rose → ⊥
  pub out_held : out_rose → ⊥

-- the answer is that a certificate is accepted, or that the outside failed, or want of memory
abbrev pub IsAcceptedOrFault : Answer → Type 0
IsAcceptedOrFault (Accepted c) = Unit {0}
IsAcceptedOrFault (OpenFault name reached) = Unit {0}
IsAcceptedOrFault (ReadFault name reached) = Unit {0}
IsAcceptedOrFault (WriteFault target reached) = Unit {0}
IsAcceptedOrFault (NoMemory reached) = Unit {0}
IsAcceptedOrFault answer = ⊥

-- The words ask for a check of c, whose text stands in a file, and may ask for it in version 2; the rest of them, and the other texts,
-- those of tables too, are those of a run that found c.
pub record IsRecheck (c : Certificate) (again : List (List ℕ)) (told : ToldNames) : Type 0 where
  pub settings : Settings
  pub texts : List (List ℕ)
  pub tables : List (List ℕ)
  pub found : IsProved c settings (texts ++ tables)
  pub name : List ℕ
  pub migrated : Option (List ℕ)
  pub asks : settings_of again ≡ Some (record settings { task = CheckCertificate name migrated })
  pub has : AreTold told (settings.model ∷ map Some (settings.data_files ++ name ∷ [])) (texts ++ certificate_text c ∷ [])
  pub tables_told : AreTablesTold told (record settings { task = CheckCertificate name migrated }) (texts ++ certificate_text c ∷ []) tables
