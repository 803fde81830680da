-- Where nothing stands in the way: what the words ask for is what is answered.
use Rattle.std.proofs.Common.{◌≡◌, ◌∙◌, ◌<◌, ◌≤◌, ◌⊎◌, ℕ, suc, List, [], ◌∷◌, ◌++◌, length, map, take, drop, Option, Some, None, refl, sym, ap, subst, inl, inr, arith}
use Rattle.std.proofs.lemmas.List.{append-nil, append_assoc, length-append, length-map, length_push, take-append-le}
use Rattle.std.proofs.Math.Seq.{drop-append_seam}
use Rattle.std.specs.Prelude.{Result, Ok, Err, slice_get}
use Rattle.std.specs.Option.{option_map}
use Rattle.milp.specs.Problem.{Problem}
use Rattle.fraction.specs.declared.frac.NoFit.{NoFit}
use Rattle.gmpl_generate.specs.declared.fault.ModelFault.{ModelFault}
use Rattle.verdicts.specs.Certificate.{Certificate}
use Rattle.verdicts.specs.Certificate as kind
use Rattle.verdicts.specs.Proves.{Part as PartOf, Proves, tests, first_failing}
use Rattle.dual_values.specs.Duals.{duals_of}
use Rattle.certificate.specs.Text.{certificate_text}
use Rattle.certificate_reader.specs.Reading.{read_of}
use Rattle.certificate_lines.specs.declared.fault.CertFault.{CertFault}
use Rattle.cert_check.specs.Outcome.{Acceptance as Accepting, Fault, outcome, trials, part_of}
use Rattle.cert_check.specs.declared.part.Part.{Part}
use Rattle.glpsol_cli.specs.declared.answer.TextFault.{TextFault}
use Rattle.branch_search.specs.Plain.{NoneInteger}
use Rattle.infeasible_subset.specs.declared.witness.Subset.{Subset as FoundSubset}
use Rattle.exact_ranges.specs.Ranges.{AllRanges}
use Rattle.exact_ranges.specs.declared.fault.RangeFault.{RangeFault}
use Rattle.outside.specs.Told.{Has, Lacks}
use Rattle.command_line.specs.Meaning.{settings_of}
use Rattle.command_line.specs.declared.settings.Settings.{Settings}
use Rattle.command_line.specs.declared.settings.Task.{Task}
use Rattle.command_line.specs.declared.settings.Task.TheVariants.{Solve, Translate, CheckCertificate}
use Rattle.glpsol_cli.specs.Asked.{ToldNames, AreTexts, IsInTurn, IsTextOf, IsTextFrom, Solves, IsSolve, names_checked, sources_of}
use Rattle.glpsol_cli.specs.Pieces.{told_behind}
use Rattle.glpsol_cli.specs.Meaning.{Declared, Faulty, Wanting, Meaning, end_in, ends_in, files_behind, meaning_in, meaning_of, IsAsked, IsRefused}
use Rattle.glpsol_cli.specs.Texts.{AreTables, IsTableInTurn, OfFile, OfTexts}
use Rattle.glpsol_cli.specs.Cause.{Cause, EndsBehind, EndsWithoutRanges, HasRanges, HasSubset, LacksRanges, IsNotLinear, OfCertificate, IsAccepted, IsNoCertificate, IsRefusedAt, IsCheckOverflow, IsUndecided, IsTranslated, IsProved, IsOverflow, RoseAt}
use Rattle.glpsol_cli.specs.Complete.{AreTablesTold, AreTold, IsToldFrom, IsComplete, IsTableTold, IsToldShort, IsVerdictOrNoMemory, IsRecheck, IsAcceptedOrFault}
use Rattle.glpsol_cli.specs.declared.answer.Answer.{Answer}
use Rattle.glpsol_cli.specs.declared.answer.Answer.TheVariants.{Optimal, Ranged, Infeasible, Irreducible, Unbounded, Translated, Accepted, Usage, Missing, OpenFault, ReadFault, WriteFault, TooLong, BadText, FaultBehindSolve, Unranged, BadCertificate, NotLinear, Overflow, Undecided, Refused, NoMemory}
use Rattle.glpsol_cli.specs.declared.answer.Limit.{Limit}
use Rattle.glpsol_cli.specs.declared.answer.Limit.TheVariants.{Pivots, Splits, SubsetPivots}
use Rattle.glpsol_cli.specs.declared.answer.OverflowSite.TheVariants.{AtNode, InPart, InSubset}
use Rattle.glpsol_cli.specs.declared.answer.OverflowSite.{OverflowSite}
use Rattle.glpsol_cli.specs.declared.answer.Reached.{Reached}
use Rattle.glpsol_cli.specs.declared.answer.Reached.TheVariants.{Nothing, Executed, Size, Shown, Acceptance, Verdict as VerdictReached, Subset as SubsetReached, Ranges as RangesReached}
use Rattle.glpsol_cli.specs.declared.answer.Target.{Target}
use Rattle.glpsol_cli.specs.declared.answer.Target.TheVariants.{Out, File}
use Rattle.glpsol_cli.proofs.Reports.{declared_same}

-- ---- told files

-- the texts of told files are those that are told
text_same : (told : ToldNames) (source : Option (List ℕ)) (text other : List ℕ) → IsToldFrom told source text → IsTextFrom told source other → other ≡ text
text_same told None text other has read = read ∙ sym has
text_same told (Some name) text other has read = sym (read.is text has.0)

texts_same : (told : ToldNames) (sources : List (Option (List ℕ))) (texts others : List (List ℕ)) → AreTold told sources texts → AreTexts told sources others → others ≡ texts
texts_same told [] [] [] has read = refl
texts_same told [] [] (text ∷ others) has read = absurd read
texts_same told [] (text ∷ texts) others has read = absurd has
texts_same told (source ∷ sources) [] others has read = absurd has
texts_same told (source ∷ sources) (text ∷ texts) [] has read = absurd read
texts_same told (source ∷ sources) (text ∷ texts) (other ∷ others) has read = two text other texts others (text_same told source text other has.0 read.0) (texts_same told sources texts others has.1 read.1)
  where
    two : (a b : List ℕ) (xs ys : List (List ℕ)) → b ≡ a → ys ≡ xs → b ∷ ys ≡ a ∷ xs
    two a b xs ys e f = cc

-- a told file of a list is there, and isn't too long
record ToldShort (told : ToldNames) (name : List ℕ) : Type 0 where
  text : List ℕ
  has : Has (told name) text
  within : length text ≤ 67108864

told_short : (told : ToldNames) (before : List (Option (List ℕ))) (name : List ℕ) (after : List (Option (List ℕ))) (texts : List (List ℕ)) → AreTold told (before ++ Some name ∷ after) texts → ToldShort told name
told_short told [] name after [] has = absurd has
told_short told [] name after (text ∷ texts) has = record { text = text; has = has.0.0; within = has.0.1 }
told_short told (other ∷ before) name after [] has = absurd has
told_short told (other ∷ before) name after (text ∷ texts) has = told_short told before name after texts has.1

-- ---- words of these settings, with told files

some_same : {A : Type 0} (a b : A) → Some a ≡ Some b → a ≡ b
some_same a b e = cc

none_some : {A : Type 0} (a : A) → None ≡ Some a → ⊥
none_some a e = cc

-- the execution of the texts is over
abbrev IsOver : Settings → List (List ℕ) → Type 0
IsOver s texts = (name : List ℕ) → end_in s texts ≡ Some (Wanting name) → ⊥

declared_over : (s : Settings) (texts : List (List ℕ)) (p : Problem) → IsAsked s texts p → IsOver s texts
declared_over s texts p asked name wants = apart p name (sym asked ∙ wants)
  where
    apart : (p : Problem) (name : List ℕ) → Some (Declared p) ≡ Some (Wanting name) → ⊥
    apart p name e = cc

refused_over : (fault : TextFault) (s : Settings) (texts : List (List ℕ)) → IsRefused fault s texts → IsOver s texts
refused_over fault s texts refused name wants = apart fault name (sym refused ∙ wants)
  where
    apart : (fault : TextFault) (name : List ℕ) → Some (Faulty fault) ≡ Some (Wanting name) → ⊥
    apart fault name e = cc

-- a table's file is in turn
wants_now : (told : ToldNames) (name : List ℕ) (P : Option (Option (List ℕ)) → Type 0) (s : Settings) (texts : List (List ℕ)) → IsTableInTurn told name P s texts → end_in s texts ≡ Some (Wanting name)
wants_now told name P s texts h = ap (option_map (λ (m : Meaning). m.end)) h.means ∙ ap Some h.wants

-- of one table's file two things are said
record BothSaid (P Q : Option (Option (List ℕ)) → Type 0) : Type 0 where
  now : Option (Option (List ℕ))
  first : P now
  second : Q now

both_said : (told : ToldNames) (s : Settings) (texts : List (List ℕ)) (name other : List ℕ) (P Q : Option (Option (List ℕ)) → Type 0) → IsTableInTurn told name P s texts → IsTableInTurn told other Q s texts → BothSaid P Q
both_said told s texts name other P Q h k =
    let meaning : h.meaning ≡ k.meaning = some_same h.meaning k.meaning (sym h.means ∙ k.means) in
    let same : name ≡ other = wanted_same name other (sym h.wants ∙ ap (λ (m : Meaning). m.end) meaning ∙ k.wants) in
    record {
      now = told_behind told k.meaning.files other;
      first = subst (λ n. P (told_behind told k.meaning.files n)) same (subst (λ (m : Meaning). P (told_behind told m.files name)) meaning h.has);
      second = k.has;
    }
  where
    wanted_same : (a b : List ℕ) → Wanting a ≡ Wanting b → a ≡ b
    wanted_same a b e = cc

-- a file is told with a text that isn't too long, and this is said of what is told
record FileTold (P : Option (Option (List ℕ)) → Type 0) : Type 0 where
  text : List ℕ
  said : BothSaid P (IsToldShort text)

record NextTold (told : ToldNames) (s : Settings) (texts : List (List ℕ)) : Type 0 where
  text : List ℕ
  is : IsTableTold told s texts text

-- the texts of tables that are read are those that are told, or the first of them, where the next is told
follow : (told : ToldNames) (s : Settings) (texts tables others : List (List ℕ)) → AreTablesTold told s texts tables → IsOver s (texts ++ tables) → AreTables told s texts others → (others ≡ tables) ⊎ NextTold told s (texts ++ others)
follow told s texts [] [] has over read = inl refl
follow told s texts [] (other ∷ others) has over read =
    absurd (over read.0.name (ap (end_in s) (append-nil texts) ∙ wants_now told read.0.name (λ now. IsTextOf now other) s texts read.0.in_turn))
follow told s texts (text ∷ tables) [] has over read = inr (record { text = text; is = subst (λ ts. IsTableTold told s ts text) (sym (append-nil texts)) has.0 })
follow told s texts (text ∷ tables) (other ∷ others) has over read = by (follow told s (texts ++ text ∷ []) tables others has.1 (subst (IsOver s) (sym (append_assoc texts (text ∷ []) tables)) over) (subst (λ t. AreTables told s (texts ++ t ∷ []) others) same read.1))
  where
    same : other ≡ text
    same = let now = both_said told s texts has.0.name read.0.name (IsToldShort text) (λ now. IsTextOf now other) has.0.in_turn read.0.in_turn in sym (now.second.is text now.first.0)

    two : (a b : List ℕ) (xs ys : List (List ℕ)) → b ≡ a → ys ≡ xs → b ∷ ys ≡ a ∷ xs
    two a b xs ys e f = cc

    by : (others ≡ tables) ⊎ NextTold told s ((texts ++ text ∷ []) ++ others) → (other ∷ others ≡ text ∷ tables) ⊎ NextTold told s (texts ++ other ∷ others)
    by h = elim h [
      | inl e ↦ inl (two text other tables others same e)
      | inr more ↦ inr (subst (NextTold told s) (append_assoc texts (text ∷ []) others ∙ ap (λ t. texts ++ t ∷ others) (sym same)) more)
    ]

module _ (words : List (List ℕ)) (told : ToldNames) (settings : Settings) (texts tables : List (List ℕ)) (asks : settings_of words ≡ Some settings) (has : AreTold told (sources_of settings) texts) (tables_told : AreTablesTold told settings texts tables) (over : IsOver settings (texts ++ tables)) where
  settings_same : (P : Settings → List (List ℕ) → Type 0) (of : OfTexts words told P) → of.settings ≡ settings
  settings_same P of = some_same of.settings settings (sym of.asks ∙ asks)

  first_same : (P : Settings → List (List ℕ) → Type 0) (of : OfTexts words told P) → of.texts ≡ texts
  first_same P of = texts_same told (sources_of settings) texts of.texts has (subst (λ (s : Settings). AreTexts told (sources_of s) of.texts) (settings_same P of) of.read)

  followed : (P : Settings → List (List ℕ) → Type 0) (of : OfTexts words told P) → (of.tables ≡ tables) ⊎ NextTold told settings (texts ++ of.tables)
  followed P of = follow told settings texts tables of.tables tables_told over (subst (λ ts. AreTables told settings ts of.tables) (first_same P of) (subst (λ (s : Settings). AreTables told s of.texts of.tables) (settings_same P of) of.tables_read))

  said_here : (P : Settings → List (List ℕ) → Type 0) (of : OfTexts words told P) → P settings (texts ++ of.tables)
  said_here P of = subst (λ ts. P settings (ts ++ of.tables)) (first_same P of) (subst (λ s. P s (of.texts ++ of.tables)) (settings_same P of) of.has)

  -- what is said of the words' texts, whose execution is over, holds of those that are told
  holds_of : (P : Settings → List (List ℕ) → Type 0) → ((s : Settings) (ts : List (List ℕ)) → P s ts → IsOver s ts) → OfTexts words told P → P settings (texts ++ tables)
  holds_of P ends of = elim (followed P of) [
    | inl e ↦ subst (λ ts. P settings (texts ++ ts)) e (said_here P of)
    | inr more ↦ absurd (ends settings (texts ++ of.tables) (said_here P of) more.is.name (wants_now told more.is.name (IsToldShort more.text) settings (texts ++ of.tables) more.is.in_turn))
  ]

  -- a table's file that is in turn is told, and isn't too long
  table_told : (name : List ℕ) (P : Option (Option (List ℕ)) → Type 0) → OfTexts words told (IsTableInTurn told name P) → FileTold P
  table_told name P of = elim (followed (IsTableInTurn told name P) of) [
    | inl e ↦ absurd (over name (subst (λ ts. end_in settings (texts ++ ts) ≡ Some (Wanting name)) e (wants_now told name P settings (texts ++ of.tables) (said_here (IsTableInTurn told name P) of))))
    | inr more ↦ record { text = more.text; said = both_said told settings (texts ++ of.tables) name more.is.name P (IsToldShort more.text) (said_here (IsTableInTurn told name P) of) more.is.in_turn }
  ]

  -- the file of the command that is in turn is told, and isn't too long
  in_turn : (name : List ℕ) → IsInTurn words told name → ToldShort told name
  in_turn name turn =
      let same : turn.settings ≡ settings = some_same turn.settings settings (sym turn.asks ∙ asks) in
      told_short told turn.before name turn.after texts (subst (λ sources. AreTold told sources texts) (subst (λ (s : Settings). sources_of s ≡ turn.before ++ Some name ∷ turn.after) same turn.is) has)

  file_told : (name : List ℕ) (r : Reached) (P : Option (Option (List ℕ)) → Type 0) → OfFile words told name r P → FileTold P
  file_told name Nothing P h = let short = in_turn name h.0 in record { text = short.text; said = record { now = told name; first = h.1; second = (short.has, short.within) } }
  file_told name Executed P h = table_told name P h
  file_told name Size P h = absurd h
  file_told name (Shown c) P h = absurd h
  file_told name (Acceptance c) P h = absurd h
  file_told name (VerdictReached c) P h = absurd h
  file_told name (SubsetReached c w) P h = absurd h
  file_told name (RangesReached c r) P h = absurd h

  not_missing : (name : List ℕ) (r : Reached) → OfFile words told name r (λ now. (text : List ℕ) → Has now text → ⊥) → ⊥
  not_missing name r h = let found = file_told name r (λ now. (text : List ℕ) → Has now text → ⊥) h in found.said.first found.text found.said.second.0

  not_long : (name : List ℕ) (r : Reached) → OfFile words told name r (λ now. (Lacks now → ⊥) × ((text : List ℕ) → Has now text → 67108864 < length text)) → ⊥
  not_long name r h =
      let found = file_told name r (λ now. (Lacks now → ⊥) × ((text : List ℕ) → Has now text → 67108864 < length text)) h in
      let above = found.said.first.1 found.text found.said.second.0 in
      let short = found.said.second.1 in
      absurd (omega (arith, above, short))

  rose_by : (name : List ℕ) (r : Reached) (rose : Type 0) → OfFile words told name r (λ now. rose) → rose
  rose_by name r rose h = let found = file_told name r (λ now. rose) h in found.said.first

  read_rose : (name : List ℕ) (r : Reached) (rose : Type 0) → OfFile words told name r (λ now. (Lacks now → ⊥) × rose) → rose
  read_rose name r rose h = let found = file_told name r (λ now. (Lacks now → ⊥) × rose) h in found.said.first.1

  no_usage : settings_of words ≡ None → ⊥
  no_usage e = none_some settings (sym e ∙ asks)

  not_refused : (p : Problem) (fault : TextFault) → IsAsked settings (texts ++ tables) p → IsRefused fault settings (texts ++ tables) → ⊥
  not_refused p fault a r = apart p fault (sym a ∙ r)
    where
      apart : (p : Problem) (fault : TextFault) → Some (Declared p) ≡ Some (Faulty fault) → ⊥
      apart p fault e = cc

-- ---- tasks

solve_translates : (task : Task) → IsSolve task → task ≡ Translate → ⊥
solve_translates (Solve outputs) s e = cc
solve_translates Translate s e = absurd s
solve_translates (CheckCertificate name migrated) s e = absurd s

solve_checks : (task : Task) (name : List ℕ) → IsSolve task → names_checked task ≡ name ∷ [] → ⊥
solve_checks (Solve outputs) name s e = cc
solve_checks Translate name s e = absurd s
solve_checks (CheckCertificate other migrated) name s e = absurd s

check_translates : (name : List ℕ) (migrated : Option (List ℕ)) → CheckCertificate name migrated ≡ Translate → ⊥
check_translates name migrated e = cc

-- ---- words that ask for a solution

-- what is said of a problem is said of texts whose execution is over

certificate_over : (P : Problem → List ℕ → Type 0) (s : Settings) (ts : List (List ℕ)) → OfCertificate P s ts → IsOver s ts
certificate_over P s ts h = declared_over s ts h.problem h.asked

translated_over : (s : Settings) (ts : List (List ℕ)) → IsTranslated s ts → IsOver s ts
translated_over s ts h = declared_over s ts h.problem h.asked

proved_over : (c : Certificate) (s : Settings) (ts : List (List ℕ)) → IsProved c s ts → IsOver s ts
proved_over c s ts h = declared_over s ts h.problem h.asked

subset_over : (c : Certificate) (w : FoundSubset) (s : Settings) (ts : List (List ℕ)) → HasSubset c w s ts → IsOver s ts
subset_over c w s ts h = proved_over c s ts h.proved

not_linear_over : (s : Settings) (ts : List (List ℕ)) → IsNotLinear s ts → IsOver s ts
not_linear_over s ts h = declared_over s ts h.problem h.asked

behind_over : (fault : Option ModelFault) (c : Certificate) (s : Settings) (ts : List (List ℕ)) → EndsBehind fault c s ts → IsOver s ts
behind_over fault c s ts h = proved_over c s ts h.proved

without_ranges_over : (c : Certificate) (s : Settings) (ts : List (List ℕ)) → EndsWithoutRanges c s ts → IsOver s ts
without_ranges_over c s ts h = behind_over None c s ts h.ends

ranges_over : (c : Certificate) (r : AllRanges) (s : Settings) (ts : List (List ℕ)) → HasRanges c r s ts → IsOver s ts
ranges_over c r s ts h = behind_over None c s ts h.ends

lacks_over : (fault : RangeFault) (c : Certificate) (s : Settings) (ts : List (List ℕ)) → LacksRanges fault c s ts → IsOver s ts
lacks_over fault c s ts h = behind_over None c s ts h.ends

overflow_over : (at : OverflowSite) (e : NoFit) (s : Settings) (ts : List (List ℕ)) → IsOverflow at e s ts → IsOver s ts
overflow_over (AtNode wanted node) e s ts h = declared_over s ts h.problem h.asked
overflow_over (InPart part) e s ts h = declared_over s ts h.problem h.asked
overflow_over (InSubset members) e s ts h = proved_over h.certificate s ts h.proved

undecided_over : (limit : Limit) (s : Settings) (ts : List (List ℕ)) → IsUndecided limit s ts → IsOver s ts
undecided_over (Pivots wanted bases board left) s ts h = declared_over s ts h.search.problem h.search.asked
undecided_over (SubsetPivots members bases) s ts h = proved_over h.certificate s ts h.proved
undecided_over (Splits wanted board left) s ts h = declared_over s ts h.search.problem h.search.asked

module _ (words : List (List ℕ)) (told : ToldNames) (files_rose out_rose : Type 0) (k : IsComplete words told files_rose out_rose) where
  over : IsOver k.settings (k.texts ++ k.tables)
  over = declared_over k.settings (k.texts ++ k.tables) k.problem k.asked

  said : (P : Settings → List (List ℕ) → Type 0) → ((s : Settings) (ts : List (List ℕ)) → P s ts → IsOver s ts) → OfTexts words told P → P k.settings (k.texts ++ k.tables)
  said P ends of = holds_of words told k.settings k.texts k.tables k.asks k.has k.tables_told over P ends of

  checks_none : (P : Problem → List ℕ → Type 0) → OfTexts words told (OfCertificate P) → ⊥
  checks_none P of = let c = said (OfCertificate P) (certificate_over P) of in solve_checks k.settings.task c.name k.solves c.checks

  not_risen : (target : Target) → RoseAt target files_rose out_rose → ⊥
  not_risen Out h = k.out_held h
  not_risen (File name) h = k.files_held h

  -- at a best point no statement behind `solve` has a fault
  no_fault_behind : (fault : ModelFault) (c : Certificate) → c.verdict ≡ kind.Optimal → EndsBehind (Some fault) c k.settings (k.texts ++ k.tables) → ⊥
  no_fault_behind fault c is h =
      let same : h.proved.problem ≡ k.problem = declared_same h.proved.problem k.problem (sym h.proved.asked ∙ k.asked) in
      none_some fault (sym (k.behind h.meaning h.means c (subst (λ (p : Problem). Proves p c) same h.proved.proves) is h.point h.has_point)
      ∙ ap (λ (p : Problem). (h.meaning.behind h.point (duals_of p c)).fault) (sym same) ∙ h.ends)

  all_linear : IsNotLinear k.settings (k.texts ++ k.tables) → ⊥
  all_linear h =
      let same : h.problem ≡ k.problem = declared_same h.problem k.problem (sym h.asked ∙ k.asked) in
      h.integer (subst (λ (p : Problem). NoneInteger p.columns) (sym same) (k.linear h.wanted))

  pub complete : (answer : Answer) → Cause words told files_rose out_rose answer → IsVerdictOrNoMemory answer
  complete (Optimal c) h = tt
  complete (Ranged c r) h = tt
  complete (Infeasible c) h = tt
  complete (Irreducible c w) h = tt
  complete (Unbounded c) h = tt
  complete Translated h = solve_translates k.settings.task k.solves (said IsTranslated translated_over h).translates
  complete (Accepted c) h = checks_none (IsAccepted c) h
  complete Usage h = no_usage words told k.settings k.texts k.tables k.asks k.has k.tables_told over h
  complete (Missing name r) h = not_missing words told k.settings k.texts k.tables k.asks k.has k.tables_told over name r h
  complete (OpenFault name r) h = k.files_held (rose_by words told k.settings k.texts k.tables k.asks k.has k.tables_told over name r files_rose h)
  complete (ReadFault name r) h = k.files_held (read_rose words told k.settings k.texts k.tables k.asks k.has k.tables_told over name r files_rose h)
  complete (WriteFault target reached) h = not_risen target h.1
  complete (TooLong name r) h = not_long words told k.settings k.texts k.tables k.asks k.has k.tables_told over name r h
  complete (BadText fault) h = not_refused words told k.settings k.texts k.tables k.asks k.has k.tables_told over k.problem fault k.asked (said (IsRefused fault) (refused_over fault) h)
  complete (FaultBehindSolve fault c) h = no_fault_behind fault c h.0 (said (EndsBehind (Some fault) c) (behind_over (Some fault) c) h.1)
  complete (Unranged fault c) h = k.ranged fault c (said (LacksRanges fault c) (lacks_over fault c) h)
  complete (BadCertificate fault) h = checks_none (IsNoCertificate fault) h
  complete NotLinear h = all_linear (said IsNotLinear not_linear_over h)
  complete (Overflow at e) h = k.fits at e (said (IsOverflow at e) (overflow_over at e) h)
  complete (Undecided limit) h = k.ends limit (said (IsUndecided limit) (undecided_over limit) h)
  complete (Refused part) h = checks_none (IsRefusedAt part) h
  complete (NoMemory reached) h = tt

-- ---- words that ask for a check of a certificate that was found

ok_same : (c d : Certificate) → ◌≡◌ {A = Result Certificate CertFault} (Ok c) (Ok d) → c ≡ d
ok_same c d e = cc

ok_err : (c : Certificate) (f : CertFault) → ◌≡◌ {A = Result Certificate CertFault} (Ok c) (Err f) → ⊥
ok_err c f e = cc

told_many : (told : ToldNames) (sources : List (Option (List ℕ))) (texts : List (List ℕ)) → AreTold told sources texts → length texts ≡ length sources
told_many told [] [] h = refl
told_many told [] (text ∷ texts) h = absurd h
told_many told (source ∷ sources) [] h = absurd h
told_many told (source ∷ sources) (text ∷ texts) h = ap suc (told_many told sources texts h.1)

-- the meaning of texts by their parts
meaning_by : (s : Settings) (text : List ℕ) (others tables : List (List ℕ)) → length others ≡ files_behind s → meaning_of s ((text ∷ others) ++ tables) ≡ Some (meaning_in s text (take (length s.data_files) others) tables)
meaning_by s text others tables n =
    let both = length-append s.data_files (names_checked s.task) in
    ap (λ ds. Some (meaning_in s text ds (drop (files_behind s) (others ++ tables)))) (take-append-le (length s.data_files) others tables (omega (arith, n, both)))
    ∙ ap (λ ts. Some (meaning_in s text (take (length s.data_files) others) ts)) (subst (λ k. drop k (others ++ tables) ≡ tables) n (drop-append_seam others tables))

-- words that ask for a check ask about the same problem, with one more text behind the data files
asked_again : (s : Settings) (name : List ℕ) (migrated : Option (List ℕ)) (texts tables : List (List ℕ)) (more : List ℕ) (p : Problem) → IsSolve s.task → length texts ≡ suc (length s.data_files) → IsAsked s (texts ++ tables) p → IsAsked (record s { task = CheckCertificate name migrated }) ((texts ++ more ∷ []) ++ tables) p
asked_again s name migrated [] tables more p solves n a = absurd (omega (arith, n))
asked_again s name migrated (text ∷ others) tables more p solves n a =
    let again : Settings = record s { task = CheckCertificate name migrated } in
    let checked : names_checked s.task ≡ [] = none_checked s.task solves in
    let both = length-append s.data_files (names_checked s.task) in
    let none : length (names_checked s.task) ≡ 0 = ap length checked in
    let first = meaning_by s text others tables (omega (arith, n, both, none)) in
    let one = length_push others more in
    let names = length_push s.data_files name in
    let second = meaning_by again text (others ++ more ∷ []) tables (omega (arith, n, one, names)) in
    ap (option_map (λ (m : Meaning). m.end)) second
    ∙ ap (λ ds. Some (ends_in s s.language text ds tables)) (take-append-le (length s.data_files) others (more ∷ []) (omega (arith, n)))
    ∙ sym (ap (option_map (λ (m : Meaning). m.end)) first) ∙ a
  where
    none_checked : (task : Task) → IsSolve task → names_checked task ≡ []
    none_checked (Solve outputs) h = refl
    none_checked Translate h = refl
    none_checked (CheckCertificate other also) h = absurd h

-- the text behind so many others
behind_them : (texts more : List (List ℕ)) (text : List ℕ) → slice_get ((texts ++ text ∷ []) ++ more) (length texts) ≡ Some text
behind_them [] more text = refl
behind_them (t ∷ texts) more text = behind_them texts more text

undecided_solves : (limit : Limit) (s : Settings) (texts : List (List ℕ)) → IsUndecided limit s texts → Solves s
undecided_solves (Pivots wanted bases board left) s texts h = h.search.solves
undecided_solves (SubsetPivots members bases) s texts h = h.proved.solves
undecided_solves (Splits wanted board left) s texts h = h.search.solves

module _ (c : Certificate) (again : List (List ℕ)) (told : ToldNames) (files_rose out_rose : Type 0) (k : IsRecheck c again told) (read_back : read_of (certificate_text c) ≡ Ok c) where
  as_many : length k.texts ≡ suc (length k.settings.data_files)
  as_many =
      let all : length (k.texts ++ certificate_text c ∷ []) ≡ suc (length (k.settings.data_files ++ k.name ∷ [])) =
      told_many told (k.settings.model ∷ map Some (k.settings.data_files ++ k.name ∷ [])) (k.texts ++ certificate_text c ∷ []) k.has
      ∙ ap suc (length-map (k.settings.data_files ++ k.name ∷ []) Some) in
      let texts = length_push k.texts (certificate_text c) in
      let names = length_push k.settings.data_files k.name in
      omega (arith, all, texts, names)

  asked : IsAsked (record k.settings { task = CheckCertificate k.name k.migrated }) ((k.texts ++ certificate_text c ∷ []) ++ k.tables) k.found.problem
  asked = asked_again k.settings k.name k.migrated k.texts k.tables (certificate_text c) k.found.problem k.found.solves as_many k.found.asked

  over_again : IsOver (record k.settings { task = CheckCertificate k.name k.migrated }) ((k.texts ++ certificate_text c ∷ []) ++ k.tables)
  over_again = declared_over (record k.settings { task = CheckCertificate k.name k.migrated }) ((k.texts ++ certificate_text c ∷ []) ++ k.tables) k.found.problem asked

  says : (P : Settings → List (List ℕ) → Type 0) → ((s : Settings) (ts : List (List ℕ)) → P s ts → IsOver s ts) → OfTexts again told P → P (record k.settings { task = CheckCertificate k.name k.migrated }) ((k.texts ++ certificate_text c ∷ []) ++ k.tables)
  says P ends of = holds_of again told (record k.settings { task = CheckCertificate k.name k.migrated }) (k.texts ++ certificate_text c ∷ []) k.tables k.asks k.has k.tables_told over_again P ends of

  -- what is said of the certificate's text is said of the text of c
  of_text : (P : Problem → List ℕ → Type 0) → OfCertificate P (record k.settings { task = CheckCertificate k.name k.migrated }) ((k.texts ++ certificate_text c ∷ []) ++ k.tables) → P k.found.problem (certificate_text c)
  of_text P h =
      let p : h.problem ≡ k.found.problem = declared_same h.problem k.found.problem (sym h.asked ∙ asked) in
      let stands : slice_get ((k.texts ++ certificate_text c ∷ []) ++ k.tables) (suc (length k.settings.data_files)) ≡ Some (certificate_text c) = subst (λ n. slice_get ((k.texts ++ certificate_text c ∷ []) ++ k.tables) n ≡ Some (certificate_text c)) as_many (behind_them k.texts k.tables (certificate_text c)) in
      let b : h.bytes ≡ certificate_text c = some_same h.bytes (certificate_text c) (sym h.stands ∙ stands) in
      subst (λ q. P q (certificate_text c)) p (subst (P h.problem) b h.holds)

  bad_text : (fault : CertFault) → IsNoCertificate fault k.found.problem (certificate_text c) → ⊥
  bad_text fault h = ok_err c fault (sym read_back ∙ h)

  refused : (part : Part) → IsRefusedAt part k.found.problem (certificate_text c) → ⊥
  refused part h =
      let same : h.certificate ≡ c = ok_same h.certificate c (sym h.text ∙ read_back) in
      none_some (part_of part) (sym k.found.proves ∙ subst (λ d. first_failing (tests k.found.problem d) ≡ Some (part_of part)) same h.first)

  overflows : (part : Part) (e : NoFit) → IsCheckOverflow part e k.found.problem (certificate_text c) → ⊥
  overflows part e h =
      let same : h.certificate ≡ c = ok_same h.certificate c (sym h.text ∙ read_back) in
      no_fault (part_of part) e (sym k.found.accepted ∙ subst (λ d. outcome (trials k.found.problem d) ≡ Fault (part_of part) e) same h.operation)
    where
      no_fault : (part : PartOf) (e : NoFit) → Accepting ≡ Fault part e → ⊥
      no_fault part e h = cc

  overflow_where : (at : OverflowSite) (e : NoFit) → IsOverflow at e (record k.settings { task = CheckCertificate k.name k.migrated }) ((k.texts ++ certificate_text c ∷ []) ++ k.tables) → ⊥
  overflow_where (AtNode wanted node) e h = h.solves
  overflow_where (InSubset members) e h = h.proved.solves
  overflow_where (InPart part) e h = overflows part e (of_text (IsCheckOverflow part e) h)

  pub rechecked : (answer : Answer) → Cause again told files_rose out_rose answer → IsAcceptedOrFault answer
  rechecked (Optimal d) h = (says (EndsWithoutRanges d) (without_ranges_over d) h.1).ends.proved.solves
  rechecked (Ranged d r) h = (says (HasRanges d r) (ranges_over d r) h).ends.proved.solves
  rechecked (Infeasible d) h = (says (IsProved d) (proved_over d) h.1).solves
  rechecked (Irreducible d w) h = (says (HasSubset d w) (subset_over d w) h).proved.solves
  rechecked (Unbounded d) h = (says (IsProved d) (proved_over d) h.1).solves
  rechecked Translated h = check_translates k.name k.migrated (says IsTranslated translated_over h).translates
  rechecked (Accepted d) h = tt
  rechecked Usage h = no_usage again told (record k.settings { task = CheckCertificate k.name k.migrated }) (k.texts ++ certificate_text c ∷ []) k.tables k.asks k.has k.tables_told over_again h
  rechecked (Missing name r) h = not_missing again told (record k.settings { task = CheckCertificate k.name k.migrated }) (k.texts ++ certificate_text c ∷ []) k.tables k.asks k.has k.tables_told over_again name r h
  rechecked (OpenFault name r) h = tt
  rechecked (ReadFault name r) h = tt
  rechecked (WriteFault target reached) h = tt
  rechecked (TooLong name r) h = not_long again told (record k.settings { task = CheckCertificate k.name k.migrated }) (k.texts ++ certificate_text c ∷ []) k.tables k.asks k.has k.tables_told over_again name r h
  rechecked (BadText fault) h = not_refused again told (record k.settings { task = CheckCertificate k.name k.migrated }) (k.texts ++ certificate_text c ∷ []) k.tables k.asks k.has k.tables_told over_again k.found.problem fault asked (says (IsRefused fault) (refused_over fault) h)
  rechecked (FaultBehindSolve fault d) h = (says (EndsBehind (Some fault) d) (behind_over (Some fault) d) h.1).proved.solves
  rechecked (Unranged fault d) h = (says (LacksRanges fault d) (lacks_over fault d) h).ends.proved.solves
  rechecked (BadCertificate fault) h = bad_text fault (of_text (IsNoCertificate fault) (says (OfCertificate (IsNoCertificate fault)) (certificate_over (IsNoCertificate fault)) h))
  rechecked NotLinear h = (says IsNotLinear not_linear_over h).solves
  rechecked (Overflow at e) h = overflow_where at e (says (IsOverflow at e) (overflow_over at e) h)
  rechecked (Undecided limit) h = undecided_solves limit (record k.settings { task = CheckCertificate k.name k.migrated }) ((k.texts ++ certificate_text c ∷ []) ++ k.tables) (says (IsUndecided limit) (undecided_over limit) h)
  rechecked (Refused part) h = refused part (of_text (IsRefusedAt part) (says (OfCertificate (IsRefusedAt part)) (certificate_over (IsRefusedAt part)) h))
  rechecked (NoMemory reached) h = tt
