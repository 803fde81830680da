-- How a run ends, from how its stages ended.
use Rattle.std.proofs.Common.{◌≡◌, ◌∙◌, ◌≤◌, ℕ, true, List, [], ◌++◌, length, Option, Some, None, refl, sym, ap, subst, inl, inr}
use Rattle.std.proofs.lemmas.List.{append-nil}
use Rattle.std.specs.Prelude.{Ok, Err, IsSomeAnd}
use Rattle.std.specs.Option.{option_map}
use Rattle.rational.specs.Rational.{Rational}
use Rattle.milp.specs.Problem.{Problem}
use Rattle.verdicts.specs.Certificate.{Certificate}
use Rattle.verdicts.specs.Certificate as kind
use Rattle.gmpl_solution.specs.Solution.{Duals}
use Rattle.gmpl_generate.specs.declared.fault.ModelFault.{ModelFault}
use Rattle.dual_values.specs.Duals.{duals_of}
use Rattle.stopped_search.specs.declared.fault.Unsolved.{Unsolved}
use Rattle.outside.specs.Told.{AppendsPrefix}
use Rattle.infeasible_subset.specs.declared.fault.SubsetFault.{SubsetFault}
use Rattle.infeasible_subset.specs.declared.fault.SubsetFault.TheVariants.{NoFit as SubsetNoFit, PivotLimit as SubsetPivotLimit, NoMemory as SubsetNoMemory}
use Rattle.infeasible_subset.specs.declared.witness.Subset.{Subset as FoundSubset}
use Rattle.exact_ranges.specs.Faults.{IsFault as IsRangeFault, IsNotByPivots as IsRangeNotByPivots}
use Rattle.exact_ranges.specs.Ranges.{AllRanges}
use Rattle.exact_ranges.specs.ShownBest.{best_point as point_of, best_weights as weights_of}
use Rattle.exact_ranges.specs.Text.{ranges_text}
use Rattle.exact_ranges.specs.declared.fault.RangeFault.{RangeFault}
use Rattle.solution_writer.specs.Report.{IsShownPoint}
use Rattle.command_line.specs.declared.settings.Settings.{Settings}
use Rattle.command_line.specs.declared.settings.Task.{Task}
use Rattle.glpsol_cli.specs.Asked.{ToldNames, certificate_file, sources_of, ranges_file, wants_ranges}
use Rattle.glpsol_cli.specs.Pieces.{Piece, Outside, Extent, Part, SameNames, UpTo, WrittenTo, WrittenUpTo, Whole}
use Rattle.glpsol_cli.specs.Meaning.{Behind, Declared, End, IsAsked, Meaning, behind_at, behind_of, behind_with, found_pieces, meaning_in, meaning_of, saved_in}
use Rattle.glpsol_cli.specs.Cause.{AreRanges, Cause, EndsBehind, HasRanges, HasSubset, LacksRanges, IsAccepted, IsProved, IsTranslated, OfCertificate, reached_of}
use Rattle.glpsol_cli.specs.Written.{Written, ThenLine, extent_of, line_of}
use Rattle.glpsol_cli.specs.Stages.{ComesTo, same, to_ranges, EndsWriting, HasFailed, IsEndAtBest, without_ranges, ranged, unranged, ranges_unwritten, IsEndBehind, at_best, at_fault, unwritten, IsEndIn, IsFinding, IsKept, IsPublished, IsStop, IsSubject, IsUnsolvedAnswer, LeftIn, LeftWritten, OfUnsolved, RestWritten, TellsBehind, behind_in, check_answer, left_pieces, pieces_of, range_pieces, reached_by, stop_answer, subset_answer, unwritten_answer}
use Rattle.glpsol_cli.specs.Together.{CauseIn, PiecesIn, ReachedIn}
use Rattle.glpsol_cli.specs.declared.answer.Answer.{Answer}
use Rattle.glpsol_cli.specs.declared.answer.Answer.TheVariants.{Infeasible, Irreducible, Unbounded, Translated, Accepted, BadText, NotLinear, NoMemory}
use Rattle.glpsol_cli.specs.declared.answer.Reached.{Reached}
use Rattle.glpsol_cli.specs.declared.answer.Reached.TheVariants.{Nothing, Executed, Size, Shown, Acceptance, Verdict, Subset, Ranges}
use Rattle.glpsol_cli.specs.declared.answer.TextFault.{TextFault}
use Rattle.glpsol_cli.specs.declared.behind.Behind.{Behind as BehindHeld}
use Rattle.glpsol_cli.specs.declared.execution.ExecutionEnd.TheVariants.{Problem as AtProblem, Fault as AtFault}
use Rattle.glpsol_cli.specs.declared.execution.Later.{Later}
use Rattle.glpsol_cli.specs.declared.found.Finding.{Finding}
use Rattle.glpsol_cli.specs.declared.found.Finding.TheVariants.{Size as SizeFound, Acceptance as AcceptanceFound, Verdict as VerdictFound, Subset as SubsetFound}
use Rattle.glpsol_cli.specs.declared.answer.Target.TheVariants.{Out}
use Rattle.glpsol_cli.specs.declared.publish.PublishFault.{PublishFault}
use Rattle.glpsol_cli.specs.declared.publish.PublishFault.TheVariants.{Write, CutOutput, NoMemory as PublishNoMemory}
use Rattle.glpsol_cli.specs.declared.stop.CheckStop.{CheckStop}
use Rattle.glpsol_cli.specs.declared.stop.CheckStop.TheVariants.{BadText as CheckBadText, Refused as CheckRefused, NoFit as CheckNoFit, NoMemory as CheckNoMemory}
use Rattle.glpsol_cli.specs.declared.stop.Stop.{Stop}
use Rattle.glpsol_cli.proofs.Writing.{nothing, none_written, line_after, line_alone, no_line, ends_of_more}
use Rattle.glpsol_cli.proofs.Leaving.{IsOfLimit, of_unsolved, unsolved_is}
use Rattle.glpsol_cli.proofs.Reports.{best_shown}
use Rattle.glpsol_cli.proofs.Parts.{enough_read, means_of}
use Rattle.glpsol_cli.proofs.Answers.{stop_cause, stop_written}

some_same : {A : Type 0} {a b : A} → Some a ≡ Some b → a ≡ b
some_same e = cc

-- ---- the answer of a stop, which is told

module _ (words : List (List ℕ)) (told told' : ToldNames) (same : SameNames told told') (files_rose out_rose : Type 0) (stop : Stop) (is : IsStop words told files_rose stop) (made answer : Answer) (means : made ≡ stop_answer stop) (told_is : answer ≡ made) where
  pub stopped_cause : Cause words told files_rose out_rose answer
  stopped_cause = subst (Cause words told files_rose out_rose) (sym told_is) (subst (Cause words told files_rose out_rose) (sym means) (stop_cause words told files_rose out_rose stop is))

  pub stopped_written : (taken taken' : Option (List ℕ)) → AppendsPrefix taken taken' (line_of made) → Written words (record { taken = taken; told = told }) (record { taken = taken'; told = told' }) answer
  stopped_written taken taken' line =
      let old : Outside = record { taken = taken; told = told } in
      let new : Outside = record { taken = taken'; told = told' } in
      subst (Written words old new) (sym told_is) (subst (Written words old new) (sym means)
      (stop_written words old new stop (subst (λ a. AppendsPrefix taken taken' (line_of a)) means line, same)))

-- ---- what can't be written

pub reached_unwritten : (r : Reached) (fault : PublishFault) → reached_of (unwritten_answer r fault) ≡ r
reached_unwritten r (Write target) = refl
reached_unwritten r CutOutput = refl
reached_unwritten r PublishNoMemory = refl

pub unwritten_cause : (s : Settings) (texts : List (List ℕ)) (files_rose out_rose : Type 0) (r : Reached) (fault : PublishFault) → ReachedIn s texts r → HasFailed files_rose out_rose fault → CauseIn s texts files_rose out_rose (unwritten_answer r fault)
unwritten_cause s texts files_rose out_rose r (Write target) h failed = (h, failed)
unwritten_cause s texts files_rose out_rose r CutOutput h failed = h
unwritten_cause s texts files_rose out_rose r PublishNoMemory h failed = h

pub unwritten_line : (r : Reached) (fault : PublishFault) (ps : List Piece) (old middle : Outside) (taken : Option (List ℕ)) → EndsWriting {T = Unit {0}} ps old middle (Err fault) → TellsBehind fault middle.taken taken (unwritten_answer r fault)
    → ThenLine (extent_of (unwritten_answer r fault)) (line_of (unwritten_answer r fault)) old (record { taken = taken; told = middle.told }) ps
unwritten_line r (Write target) ps old middle taken ends line = (middle, ends, (line, λ name. refl))
unwritten_line r CutOutput ps old middle taken ends line = inr (subst (λ t. WrittenUpTo Out ps old (record { taken = t; told = middle.told })) (sym line) ends)
unwritten_line r PublishNoMemory ps old middle taken ends line = inl (middle, ends, (line, λ name. refl))

-- ---- from the execution on

module _ (s : Settings) (texts : List (List ℕ)) where
  -- what is left, behind what was printed
  pub left_in : (m : Meaning) → meaning_of s texts ≡ Some m → (r : Reached) (P Q : List Piece → Type 0) → ((ps : List Piece) → P ps → Q (m.done ++ ps)) → LeftIn s texts r P → PiecesIn s texts r Q
  left_in m means Nothing P Q f h = absurd h
  left_in m means Executed P Q f h = record { meaning = m; means = means; has = subst Q (append-nil m.done) (f [] h) }
  left_in m means Size P Q f h = record {
    meaning = h.meaning;
    means = h.means;
    problem = h.problem;
    end = h.end;
    found = h.found;
    are = h.are;
    has = subst (λ (n : Meaning). Q (n.done ++ (h.found ++ (behind_of s.task h.meaning Size).pieces))) (some_same (sym means ∙ h.means)) (f (h.found ++ (behind_of s.task h.meaning Size).pieces) h.has);
  }
  left_in m means (Shown c) P Q f h = record {
    meaning = h.meaning;
    means = h.means;
    problem = h.problem;
    end = h.end;
    found = h.found;
    are = h.are;
    has = subst (λ (n : Meaning). Q (n.done ++ (h.found ++ (behind_of s.task h.meaning (Shown c)).pieces))) (some_same (sym means ∙ h.means)) (f (h.found ++ (behind_of s.task h.meaning (Shown c)).pieces) h.has);
  }
  left_in m means (Acceptance c) P Q f h = record {
    meaning = h.meaning;
    means = h.means;
    problem = h.problem;
    end = h.end;
    found = h.found;
    are = h.are;
    has = subst (λ (n : Meaning). Q (n.done ++ (h.found ++ (behind_of s.task h.meaning (Acceptance c)).pieces))) (some_same (sym means ∙ h.means)) (f (h.found ++ (behind_of s.task h.meaning (Acceptance c)).pieces) h.has);
  }
  left_in m means (Verdict c) P Q f h = record {
    meaning = h.meaning;
    means = h.means;
    problem = h.problem;
    end = h.end;
    found = h.found;
    are = h.are;
    has = subst (λ (n : Meaning). Q (n.done ++ (h.found ++ (behind_of s.task h.meaning (Verdict c)).pieces))) (some_same (sym means ∙ h.means)) (f (h.found ++ (behind_of s.task h.meaning (Verdict c)).pieces) h.has);
  }
  left_in m means (Subset c w) P Q f h = record {
    meaning = h.meaning;
    means = h.means;
    problem = h.problem;
    end = h.end;
    found = h.found;
    are = h.are;
    has = subst (λ (n : Meaning). Q (n.done ++ (h.found ++ (behind_of s.task h.meaning (Subset c w)).pieces))) (some_same (sym means ∙ h.means)) (f (h.found ++ (behind_of s.task h.meaning (Subset c w)).pieces) h.has);
  }
  left_in m means (Ranges c r) P Q f h = record {
    meaning = h.meaning;
    means = h.means;
    problem = h.problem;
    end = h.end;
    found = h.found;
    are = h.are;
    has = subst (λ (n : Meaning). Q (n.done ++ (h.found ++ (behind_of s.task h.meaning (Ranges c r)).pieces))) (some_same (sym means ∙ h.means)) (f (h.found ++ (behind_of s.task h.meaning (Ranges c r)).pieces) h.has);
  }

  -- the end is a fault
  pub refused_cause : (fault : TextFault) (files_rose out_rose : Type 0) (answer : Answer) → IsEndIn s texts (AtFault fault) → answer ≡ BadText fault → CauseIn s texts files_rose out_rose answer
  refused_cause fault files_rose out_rose answer h is =
      subst (CauseIn s texts files_rose out_rose) (sym is) (ap (option_map (λ (m : Meaning). m.end)) (means_of s texts h.text h.data_texts h.tables h.parts) ∙ ap Some h.is_end)

  pub refused_written : (fault : TextFault) (taken taken' : Option (List ℕ)) (told : ToldNames) (answer : Answer) → answer ≡ BadText fault → AppendsPrefix taken taken' (line_of (BadText fault))
      → LeftWritten s texts (record { taken = taken; told = told }) (record { taken = taken'; told = told }) answer
  refused_written fault taken taken' told answer is line =
      subst (LeftWritten s texts (record { taken = taken; told = told }) (record { taken = taken'; told = told })) (sym is) (line_alone (line_of (BadText fault)) taken taken' told line)

  -- or a problem
  pub subject_of : (p : Problem) (later : Option Later) → IsEndIn s texts (AtProblem p later) → IsSubject s texts p later
  subject_of p later h = record {
    text = h.text;
    data_texts = h.data_texts;
    tables = h.tables;
    parts = h.parts;
    means = means_of s texts h.text h.data_texts h.tables h.parts;
    declares = h.is_end.0;
    kept = h.is_end.1;
  }

  pub subject_enough : (p : Problem) (later : Option Later) (h : IsSubject s texts p later) → length (sources_of s) ≤ length texts
  subject_enough p later h = enough_read s texts h.text h.data_texts h.tables h.parts

-- ---- from a problem on

module _ (s : Settings) (texts : List (List ℕ)) (p : Problem) (later : Option Later) (subject : IsSubject s texts p later) where
  pub subject_asked : IsAsked s texts p
  subject_asked = ap (option_map (λ (m : Meaning). m.end)) subject.means ∙ ap Some subject.declares

  executed : ReachedIn s texts Executed
  executed = record { meaning = meaning_in s subject.text subject.data_texts subject.tables; means = subject.means; has = tt }

  check_line : (taken taken' : Option (List ℕ)) (told : ToldNames) (stop : CheckStop) → AppendsPrefix taken taken' (line_of (check_answer stop))
      → LeftWritten s texts (record { taken = taken; told = told }) (record { taken = taken'; told = told }) (check_answer stop)
  check_line taken taken' told (CheckBadText fault) line = line_alone _ taken taken' told line
  check_line taken taken' told (CheckRefused part) line = line_alone _ taken taken' told line
  check_line taken taken' told (CheckNoFit f) line = line_alone _ taken taken' told line
  check_line taken taken' told CheckNoMemory line = inl (line_alone _ taken taken' told line)

  subset_line : (taken taken' : Option (List ℕ)) (told : ToldNames) (fault : SubsetFault) → AppendsPrefix taken taken' (line_of (subset_answer fault))
      → LeftWritten s texts (record { taken = taken; told = told }) (record { taken = taken'; told = told }) (subset_answer fault)
  subset_line taken taken' told (SubsetNoFit stuck) line = line_alone _ taken taken' told line
  subset_line taken taken' told (SubsetPivotLimit long) line = line_alone _ taken taken' told line
  subset_line taken taken' told SubsetNoMemory line = inl (line_alone _ taken taken' told line)

  -- an answer of which a line is told, and nothing else is written
  module _ (built made answer : Answer) (means : made ≡ built) (told_is : answer ≡ made) where
    told_written : (taken taken' : Option (List ℕ)) (told : ToldNames)
        → (AppendsPrefix taken taken' (line_of built) → LeftWritten s texts (record { taken = taken; told = told }) (record { taken = taken'; told = told }) built)
        → AppendsPrefix taken taken' (line_of made) → LeftWritten s texts (record { taken = taken; told = told }) (record { taken = taken'; told = told }) answer
    told_written taken taken' told written line =
        subst (LeftWritten s texts (record { taken = taken; told = told }) (record { taken = taken'; told = told })) (sym (told_is ∙ means))
        (written (subst (λ a. AppendsPrefix taken taken' (line_of a)) means line))

  module _ (stop : CheckStop) (made answer : Answer) (means : made ≡ check_answer stop) (told_is : answer ≡ made) where
    pub unaccepted_written : (taken taken' : Option (List ℕ)) (told : ToldNames) → AppendsPrefix taken taken' (line_of made) → LeftWritten s texts (record { taken = taken; told = told }) (record { taken = taken'; told = told }) answer
    unaccepted_written taken taken' told line = told_written (check_answer stop) made answer means told_is taken taken' told (check_line taken taken' told stop) line

  module _ (fault : SubsetFault) (made answer : Answer) (means : made ≡ subset_answer fault) (told_is : answer ≡ made) where
    pub unreduced_written : (taken taken' : Option (List ℕ)) (told : ToldNames) → AppendsPrefix taken taken' (line_of made) → LeftWritten s texts (record { taken = taken; told = told }) (record { taken = taken'; told = told }) answer
    unreduced_written taken taken' told line = told_written (subset_answer fault) made answer means told_is taken taken' told (subset_line taken taken' told fault) line

  pub not_linear_written : (answer : Answer) → answer ≡ NotLinear → (taken taken' : Option (List ℕ)) (told : ToldNames) → AppendsPrefix taken taken' (line_of NotLinear) → LeftWritten s texts (record { taken = taken; told = told }) (record { taken = taken'; told = told }) answer
  not_linear_written answer is taken taken' told line = subst (LeftWritten s texts (record { taken = taken; told = told }) (record { taken = taken'; told = told })) (sym is) (line_alone (line_of NotLinear) taken taken' told line)

  -- ---- from a search without a verdict on

  declares_at : (m : Meaning) → meaning_of s texts ≡ Some m → m.end ≡ Declared p
  declares_at m means = ap (λ (n : Meaning). n.end) (some_same (sym means ∙ subject.means)) ∙ subject.declares

  -- what is left to be written once this was reached
  left_at : (r : Reached) → IsOfLimit r → (P : List Piece → Type 0) → P (left_pieces s.task r) → LeftIn s texts r P
  left_at Nothing is P h = absurd is
  left_at Executed is P h = h
  left_at Size is P h = absurd is
  left_at (Shown c) is P h =
      let m : Meaning = meaning_in s subject.text subject.data_texts subject.tables in
      record {
        meaning = m;
        means = subject.means;
        problem = p;
        end = declares_at m subject.means;
        found = left_pieces s.task (Shown c);
        are = refl;
        has = subst P (sym (append-nil (left_pieces s.task (Shown c)))) h;
      }
  left_at (Acceptance c) is P h = absurd is
  left_at (Verdict c) is P h = absurd is
  left_at (Subset c w) is P h = absurd is
  left_at (Ranges c r) is P h = absurd is

  then_line : (extent : Extent) (line : List ℕ) (ps : List Piece) (old middle : Outside) (taken : Option (List ℕ)) → WrittenTo extent ps old middle → AppendsPrefix middle.taken taken line → ThenLine extent line old (record { taken = taken; told = middle.told }) ps
  then_line Whole line ps old middle taken written told_line = (middle, written, (told_line, λ name. refl))
  then_line (UpTo target) line ps old middle taken written told_line = (middle, written, (told_line, λ name. refl))
  then_line Part line ps old middle taken written told_line = inl (middle, written, (told_line, λ name. refl))

  module _ (u : Unsolved) (made answer : Answer) (is : IsUnsolvedAnswer (certificate_file s.task) u.fault u.shown made) (told_is : answer ≡ made) where
    pub unsolved_cause : (files_rose out_rose : Type 0) → OfUnsolved u s texts → CauseIn s texts files_rose out_rose answer
    unsolved_cause files_rose out_rose h = subst (CauseIn s texts files_rose out_rose) (sym told_is) (unsolved_is s texts u made h executed is files_rose out_rose)

    pub unsolved_written : (old middle : Outside) (taken : Option (List ℕ)) → WrittenTo (extent_of made) (left_pieces s.task (reached_of made)) old middle → AppendsPrefix middle.taken taken (line_of made) → LeftWritten s texts old (record { taken = taken; told = middle.told }) answer
    unsolved_written old middle taken written line =
        let new : Outside = record { taken = taken; told = middle.told } in
        subst (LeftWritten s texts old new) (sym told_is)
        (left_at (reached_of made) (of_unsolved (certificate_file s.task) u.fault u.shown made is) (ThenLine (extent_of made) (line_of made) old new)
        (then_line (extent_of made) (line_of made) (left_pieces s.task (reached_of made)) old middle taken written line))

  -- ---- from what is found on

  reached : (f : Finding) → IsFinding p s texts f → ReachedIn s texts (reached_by f)
  reached SizeFound h = record { problem = p; asked = subject_asked; translates = h }
  reached (AcceptanceFound c) h = h
  reached (VerdictFound c) h = record { problem = p; asked = subject_asked; solves = h.0; proves = h.1; accepted = h.2 }
  reached (SubsetFound c w) h = h

  -- what is left of a problem, by a meaning of the texts
  left_of : (f : Finding) (P : List Piece → Type 0) (m : Meaning) (pieces : List Piece) → meaning_of s texts ≡ Some m → found_pieces s.task p (reached_by f) ≡ Some pieces → P (pieces ++ (behind_of s.task m (reached_by f)).pieces) → LeftIn s texts (reached_by f) P
  left_of SizeFound P m pieces means are has = record { meaning = m; means = means; problem = p; end = declares_at m means; found = pieces; are = are; has = has }
  left_of (AcceptanceFound c) P m pieces means are has = record { meaning = m; means = means; problem = p; end = declares_at m means; found = pieces; are = are; has = has }
  left_of (VerdictFound c) P m pieces means are has = record { meaning = m; means = means; problem = p; end = declares_at m means; found = pieces; are = are; has = has }
  left_of (SubsetFound c w) P m pieces means are has = record { meaning = m; means = means; problem = p; end = declares_at m means; found = pieces; are = are; has = has }

  -- the same with ranges
  left_with : (c : Certificate) (r : AllRanges) (P : List Piece → Type 0) (m : Meaning) (pieces : List Piece) → meaning_of s texts ≡ Some m → found_pieces s.task p (Verdict c) ≡ Some pieces → P (pieces ++ (behind_of s.task m (Ranges c r)).pieces) → LeftIn s texts (Ranges c r) P
  left_with c r P m pieces means are has = record { meaning = m; means = means; problem = p; end = declares_at m means; found = pieces; are = are; has = has }

  module _ (f : Finding) (old middle : Outside) where
    left_behind : (P : List Piece → Type 0) (last : Reached) (m : Meaning) (pieces : List Piece) → meaning_of s texts ≡ Some m → found_pieces s.task p (reached_by f) ≡ Some pieces → ComesTo (reached_by f) last → P (pieces ++ (behind_of s.task m last).pieces) → LeftIn s texts last P
    left_behind P last m pieces means are (same e) has =
        subst (λ q. LeftIn s texts q P) (sym e) (left_of f P m pieces means are (subst (λ q. P (pieces ++ (behind_of s.task m q).pieces)) e has))
    left_behind P last m pieces means are (to_ranges c r from to) has =
        subst (λ q. LeftIn s texts q P) (sym to)
        (left_with c r P m pieces means (subst (λ q. found_pieces s.task p q ≡ Some pieces) from are) (subst (λ q. P (pieces ++ (behind_of s.task m q).pieces)) to has))

    pub reported_written : (new : Outside) (answer : Answer) → IsPublished {T = Unit {0}} s.task p f old middle (Ok tt) → RestWritten (reached_by f) s texts middle new answer → LeftWritten s texts old new answer
    reported_written new answer published rest =
        left_behind (ThenLine (extent_of answer) (line_of answer) old new) (reached_of answer) rest.meaning published.pieces rest.means published.are rest.is_reached
        (line_after (extent_of answer) (line_of answer) published.pieces (behind_of s.task rest.meaning (reached_of answer)).pieces old middle new published.ends rest.has)

    module _ (fault : PublishFault) (r : Reached) (made answer : Answer) (reaches : r ≡ reached_by f) (means : made ≡ unwritten_answer r fault) (told_is : answer ≡ made) where
      is_answer : answer ≡ unwritten_answer (reached_by f) fault
      is_answer = told_is ∙ means ∙ ap (λ q. unwritten_answer q fault) reaches

      pub unreported_cause : (files_rose out_rose : Type 0) → IsFinding p s texts f → HasFailed files_rose out_rose fault → CauseIn s texts files_rose out_rose answer
      unreported_cause files_rose out_rose h failed = subst (CauseIn s texts files_rose out_rose) (sym is_answer) (unwritten_cause s texts files_rose out_rose (reached_by f) fault (reached f h) failed)

      pub unreported_written : (taken : Option (List ℕ)) → IsPublished {T = Unit {0}} s.task p f old middle (Err fault) → TellsBehind fault middle.taken taken made → LeftWritten s texts old (record { taken = taken; told = middle.told }) answer
      unreported_written taken published line =
          let new : Outside = record { taken = taken; told = middle.told } in
          let built : Answer = unwritten_answer (reached_by f) fault in
          let m : Meaning = meaning_in s subject.text subject.data_texts subject.tables in
          let P : List Piece → Type 0 = ThenLine (extent_of built) (line_of built) old new in
          let more : List Piece = (behind_of s.task m (reached_by f)).pieces in
          subst (LeftWritten s texts old new) (sym is_answer)
          (subst (λ q. LeftIn s texts q P) (sym (reached_unwritten (reached_by f) fault))
          (left_of f P m published.pieces subject.means published.are
          (unwritten_line (reached_by f) fault (published.pieces ++ more) old middle taken (ends_of_more fault published.pieces more old middle published.ends)
          (subst (TellsBehind fault middle.taken taken) (means ∙ ap (λ q. unwritten_answer q fault) reaches) line))))

  -- ---- from the report on

  -- nothing is left
  none_left : (r : Reached) (o : Outside) (answer : Answer) → (extent_of answer ≡ Whole) → (line_of answer ≡ []) → reached_of answer ≡ r → (behind_of s.task (meaning_in s subject.text subject.data_texts subject.tables) r).pieces ≡ [] → RestWritten r s texts o o answer
  none_left r o answer whole silent reaches none =
      let m : Meaning = meaning_in s subject.text subject.data_texts subject.tables in
      record {
        meaning = m;
        means = subject.means;
        is_reached = same reaches;
        has = subst (λ q. ThenLine (extent_of answer) (line_of answer) o o (behind_of s.task m q).pieces) (sym reaches)
            (subst (λ ps. ThenLine (extent_of answer) (line_of answer) o o ps) (sym none) (subst (λ e. ThenLine e (line_of answer) o o []) (sym whole) (no_line (line_of answer) [] o o (nothing o))));
      }

  module _ (f : Finding) where
    pub size_cause : f ≡ SizeFound → IsFinding p s texts f → IsTranslated s texts
    size_cause is h = reached SizeFound (subst (IsFinding p s texts) is h)

    pub size_written : f ≡ SizeFound → (o : Outside) → RestWritten (reached_by f) s texts o o Translated
    size_written is o = subst (λ g. RestWritten (reached_by g) s texts o o Translated) (sym is) (none_left Size o Translated refl refl refl refl)

    module _ (c : Certificate) (is : f ≡ AcceptanceFound c) where
      pub acceptance_cause : IsFinding p s texts f → OfCertificate (IsAccepted c) s texts
      acceptance_cause h = subst (IsFinding p s texts) is h

      pub acceptance_written : (o : Outside) → RestWritten (reached_by f) s texts o o (Accepted c)
      acceptance_written o = subst (λ g. RestWritten (reached_by g) s texts o o (Accepted c)) (sym is) (none_left (Acceptance c) o (Accepted c) refl refl refl refl)

    module _ (c : Certificate) (w : FoundSubset) (is : f ≡ SubsetFound c w) where
      pub subset_cause : IsFinding p s texts f → HasSubset c w s texts
      subset_cause h = subst (IsFinding p s texts) is h

      pub subset_written : (o : Outside) → RestWritten (reached_by f) s texts o o (Irreducible c w)
      subset_written o = subst (λ g. RestWritten (reached_by g) s texts o o (Irreducible c w)) (sym is) (none_left (Subset c w) o (Irreducible c w) refl refl refl refl)

  module _ (c : Certificate) (h : IsFinding p s texts (VerdictFound c)) where
    proved : IsProved c s texts
    proved = reached (VerdictFound c) h

    pub infeasible_cause : (files_rose out_rose : Type 0) → c.verdict ≡ kind.Infeasible → CauseIn s texts files_rose out_rose (Infeasible c)
    infeasible_cause files_rose out_rose is = (is, proved)

    pub unbounded_cause : (files_rose out_rose : Type 0) → c.verdict ≡ kind.Unbounded → CauseIn s texts files_rose out_rose (Unbounded c)
    unbounded_cause files_rose out_rose is = (is, proved)

    pub infeasible_written : (o : Outside) → c.verdict ≡ kind.Infeasible → RestWritten (Verdict c) s texts o o (Infeasible c)
    infeasible_written o is = none_left (Verdict c) o (Infeasible c) refl refl refl (ap (λ (e : End). (behind_at (meaning_in s subject.text subject.data_texts subject.tables).behind e c).pieces) subject.declares
        ∙ ap (λ v. (behind_with (meaning_in s subject.text subject.data_texts subject.tables).behind (duals_of p c) v c.point).pieces) is)

    pub unbounded_written : (o : Outside) → c.verdict ≡ kind.Unbounded → RestWritten (Verdict c) s texts o o (Unbounded c)
    unbounded_written o is = none_left (Verdict c) o (Unbounded c) refl refl refl (ap (λ (e : End). (behind_at (meaning_in s subject.text subject.data_texts subject.tables).behind e c).pieces) subject.declares
        ∙ ap (λ v. (behind_with (meaning_in s subject.text subject.data_texts subject.tables).behind (duals_of p c) v c.point).pieces) is)

    module _ (best : c.verdict ≡ kind.Optimal) where
      pub best_point : IsSomeAnd c.point (IsShownPoint p)
      best_point = best_shown p c best h.2

      -- there is no memory for the statements behind `solve`
      pub unrun_cause : (files_rose out_rose : Type 0) (answer : Answer) → answer ≡ NoMemory (Verdict c) → CauseIn s texts files_rose out_rose answer
      unrun_cause files_rose out_rose answer is = subst (CauseIn s texts files_rose out_rose) (sym is) proved

      pub unrun_written : (taken taken' : Option (List ℕ)) (told : ToldNames) (answer : Answer) → answer ≡ NoMemory (Verdict c) → AppendsPrefix taken taken' (line_of (NoMemory (Verdict c)))
          → RestWritten (Verdict c) s texts (record { taken = taken; told = told }) (record { taken = taken'; told = told }) answer
      unrun_written taken taken' told answer is line =
          let old : Outside = record { taken = taken; told = told } in
          let new : Outside = record { taken = taken'; told = told } in
          let m : Meaning = meaning_in s subject.text subject.data_texts subject.tables in
          subst (RestWritten (Verdict c) s texts old new) (sym is)
          (record { meaning = m; means = subject.means; is_reached = same refl; has = inl (old, none_written (behind_of s.task m (Verdict c)).pieces old, (line, λ name. refl)) })

      -- what they come to
      module _ (b : BehindHeld) (is : (text : List ℕ) (data_texts tables : List (List ℕ)) (x : List Rational) → IsKept s text data_texts tables p later → c.point ≡ Some x → (meaning_in s text data_texts tables).behind x (duals_of p c) ≡ behind_in b) where
        -- of the problem that is asked about
        ended : (fault : Option ModelFault) → b.fault ≡ fault → (o : Option (List Rational)) → c.point ≡ o → IsSomeAnd o (IsShownPoint p) → (e : EndsBehind fault c s texts) × (e.proved.problem ≡ p)
        unfolding proved reached
        ended fault f None e there = absurd there
        ended fault f (Some x) e there = (
          record {
            proved = proved;
            meaning = meaning_in s subject.text subject.data_texts subject.tables;
            means = subject.means;
            point = x;
            has_point = e;
            ends = ap (λ (r : Behind). r.fault) (is subject.text subject.data_texts subject.tables x subject.kept e) ∙ f;
          },
          refl,
        )

        comes_to : (o : Option (List Rational)) → c.point ≡ o → IsSomeAnd o (IsShownPoint p) → behind_of s.task (meaning_in s subject.text subject.data_texts subject.tables) (Verdict c) ≡ behind_in b
        comes_to None e there = absurd there
        comes_to (Some x) e there =
            let behind : List Rational → Duals → Behind = (meaning_in s subject.text subject.data_texts subject.tables).behind in
            ap (λ (end : End). behind_at behind end c) subject.declares ∙ ap (λ v. behind_with behind (duals_of p c) v c.point) best ∙ ap (behind_with behind (duals_of p c) kind.Optimal) e ∙ is subject.text subject.data_texts subject.tables x subject.kept e

        -- ---- with ranges, without them, or at a fault

        has_ranges : (r : AllRanges) → b.fault ≡ None → wants_ranges s.task ≡ true → AreRanges p c r → HasRanges c r s texts
        has_ranges r none wanted are =
            let end = ended None none c.point refl best_point in
            record { best = best; ends = end.0; wanted = wanted; are = subst (λ q. AreRanges q c r) (sym end.1) are }

        lacks_ranges : (fault : RangeFault) → b.fault ≡ None → wants_ranges s.task ≡ true → IsRangeFault p (point_of c) (weights_of c) s.pivot_limit fault → (s.pivot_limit ≡ 0 → IsRangeNotByPivots fault) → LacksRanges fault c s texts
        lacks_ranges fault none wanted fails unlimited =
            let end = ended None none c.point refl best_point in
            record { best = best; ends = end.0; wanted = wanted; fails = subst (λ q. IsRangeFault q (point_of c) (weights_of c) s.pivot_limit fault) (sym end.1) fails; unlimited = unlimited }

        at_best_cause : (files_rose out_rose : Type 0) (answer : Answer) → b.fault ≡ None → IsEndAtBest p s c files_rose out_rose answer → CauseIn s texts files_rose out_rose answer
        at_best_cause files_rose out_rose answer none (without_ranges plain e) =
            subst (CauseIn s texts files_rose out_rose) (sym e) (best, record { ends = (ended None none c.point refl best_point).0; plain = plain })
        at_best_cause files_rose out_rose answer none (ranged r wanted are e) = subst (CauseIn s texts files_rose out_rose) (sym e) (has_ranges r none wanted are)
        at_best_cause files_rose out_rose answer none (unranged fault wanted fails unlimited e) = subst (CauseIn s texts files_rose out_rose) (sym e) (lacks_ranges fault none wanted fails unlimited)
        at_best_cause files_rose out_rose answer none (ranges_unwritten r fault wanted are failed e) =
            subst (CauseIn s texts files_rose out_rose) (sym e) (unwritten_cause s texts files_rose out_rose (Ranges c r) fault (has_ranges r none wanted are) failed)

        pub behind_cause : (files_rose out_rose : Type 0) (answer : Answer) → IsEndBehind p s b.fault c files_rose out_rose answer → CauseIn s texts files_rose out_rose answer
        behind_cause files_rose out_rose answer (at_best none e) = at_best_cause files_rose out_rose answer none e
        behind_cause files_rose out_rose answer (at_fault fault there e) = subst (CauseIn s texts files_rose out_rose) (sym e) (best, (ended (Some fault) there c.point refl best_point).0)
        behind_cause files_rose out_rose answer (unwritten fault failed e) = subst (CauseIn s texts files_rose out_rose) (sym e) (unwritten_cause s texts files_rose out_rose (Verdict c) fault proved failed)

        at_best_reached : (files_rose out_rose : Type 0) (answer : Answer) → IsEndAtBest p s c files_rose out_rose answer → ComesTo (Verdict c) (reached_of answer)
        at_best_reached files_rose out_rose answer (without_ranges plain e) = same (ap reached_of e)
        at_best_reached files_rose out_rose answer (ranged r wanted are e) = to_ranges c r refl (ap reached_of e)
        at_best_reached files_rose out_rose answer (unranged fault wanted fails unlimited e) = same (ap reached_of e)
        at_best_reached files_rose out_rose answer (ranges_unwritten r fault wanted are failed e) = to_ranges c r refl (ap reached_of e ∙ reached_unwritten (Ranges c r) fault)

        end_reached : (files_rose out_rose : Type 0) (answer : Answer) → IsEndBehind p s b.fault c files_rose out_rose answer → ComesTo (Verdict c) (reached_of answer)
        end_reached files_rose out_rose answer (at_best none e) = at_best_reached files_rose out_rose answer e
        end_reached files_rose out_rose answer (at_fault fault there e) = same (ap reached_of e)
        end_reached files_rose out_rose answer (unwritten fault failed e) = same (ap reached_of e ∙ reached_unwritten (Verdict c) fault)

        -- the pieces behind `solve`, and those of ranges
        behind_pieces : (last : Reached) → ComesTo (Verdict c) last → pieces_of b.pieces.items ++ range_pieces s.task last ≡ (behind_of s.task (meaning_in s subject.text subject.data_texts subject.tables) last).pieces
        behind_pieces last (same e) =
            subst (λ q. pieces_of b.pieces.items ++ range_pieces s.task q ≡ (behind_of s.task (meaning_in s subject.text subject.data_texts subject.tables) q).pieces) (sym e)
            (append-nil (pieces_of b.pieces.items) ∙ ap (λ (r : Behind). r.pieces) (sym (comes_to c.point refl best_point)))
        behind_pieces last (to_ranges d r from to) =
            subst (λ q. pieces_of b.pieces.items ++ range_pieces s.task q ≡ (behind_of s.task (meaning_in s subject.text subject.data_texts subject.tables) q).pieces) (sym to)
            (subst (λ (k : Certificate). pieces_of b.pieces.items ++ range_pieces s.task (Ranges k r) ≡ (behind_of s.task (meaning_in s subject.text subject.data_texts subject.tables) (Ranges k r)).pieces) (verdict_same from)
            (ap (λ (k : Behind). k.pieces ++ saved_in (ranges_file s.task) (ranges_text r)) (sym (comes_to c.point refl best_point))))
          where
            verdict_same : {k l : Certificate} → Verdict k ≡ Verdict l → k ≡ l
            verdict_same e = cc

        pub behind_written : (files_rose out_rose : Type 0) (old new : Outside) (answer : Answer) → IsEndBehind p s b.fault c files_rose out_rose answer → ThenLine (extent_of answer) (line_of answer) old new (pieces_of b.pieces.items ++ range_pieces s.task (reached_of answer)) → RestWritten (Verdict c) s texts old new answer
        behind_written files_rose out_rose old new answer k line = record {
          meaning = meaning_in s subject.text subject.data_texts subject.tables;
          means = subject.means;
          is_reached = end_reached files_rose out_rose answer k;
          has = subst (ThenLine (extent_of answer) (line_of answer) old new) (behind_pieces (reached_of answer) (end_reached files_rose out_rose answer k)) line;
        }

-- ---- the end behind `solve`

-- behind a verdict nothing of ranges is written
pub no_ranges : (task : Task) (last : Reached) (c : Certificate) (ps : List Piece) → last ≡ Verdict c → ps ≡ ps ++ range_pieces task last
no_ranges task last c ps e = subst (λ q. ps ≡ ps ++ range_pieces task q) (sym e) (sym (append-nil ps))

pub unended_line : (r : Reached) (fault : PublishFault) (ps : List Piece) (old middle : Outside) (taken : Option (List ℕ)) (made answer : Answer) → made ≡ unwritten_answer r fault → answer ≡ made → EndsWriting {T = Unit {0}} ps old middle (Err fault) → TellsBehind fault middle.taken taken made
    → ThenLine (extent_of answer) (line_of answer) old (record { taken = taken; told = middle.told }) ps
unended_line r fault ps old middle taken made answer means told_is ends line =
    subst (λ a. ThenLine (extent_of a) (line_of a) old (record { taken = taken; told = middle.told }) ps) (sym (told_is ∙ means)) (unwritten_line r fault ps old middle taken ends (subst (TellsBehind fault middle.taken taken) means line))
