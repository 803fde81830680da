-- Verdicts in the user's words, from the cause of an answer.
use Rattle.std.proofs.Common.{◌≡◌, ◌<◌, ℕ, List, length, Option, Some, subst}
use Rattle.partial_certificate.specs.Partial.{Partial}
use Rattle.outside.specs.Told.{Has, Lacks}
use Rattle.gmpl_generate.specs.declared.fault.ModelFault.{ModelFault}
use Rattle.milp.specs.Problem.{Problem}
use Rattle.verdicts.specs.Certificate.{Certificate}
use Rattle.verdicts.specs.Certificate as kind
use Rattle.verdicts.specs.Proves.{Proves, Holds}
use Rattle.infeasible_subset.specs.declared.witness.Subset.{Subset as FoundSubset}
use Rattle.exact_ranges.specs.Ranges.{AllRanges}
use Rattle.command_line.specs.declared.settings.Settings.{Settings}
use Rattle.glpsol_cli.specs.Asked.{ToldNames}
use Rattle.glpsol_cli.specs.Texts.{OfFile, OfTexts}
use Rattle.glpsol_cli.specs.Cause.{Cause, EndsBehind, EndsWithoutRanges, IsReached, LacksRanges, reached_of, IsProved, IsShown, IsTested, IsTrueOf, IsUndecided, IsBest, HasBestRanges, HasNoPoint, HasRanges, HasRay, HasSubset, IsIrreducibleSubset}
use Rattle.glpsol_cli.specs.declared.answer.Answer.{Answer}
use Rattle.glpsol_cli.specs.declared.answer.Answer.TheVariants.{Optimal, Ranged, Infeasible, Irreducible, Unbounded, Translated, Accepted, Usage, Missing, OpenFault, ReadFault, WriteFault, TooLong, BadText, FaultBehindSolve, Unranged, BadCertificate, NotLinear, Overflow, Undecided, Refused, NoMemory}
use Rattle.glpsol_cli.specs.declared.answer.Reached.{Reached}
use Rattle.glpsol_cli.specs.declared.answer.Reached.TheVariants.{Nothing, Executed, Size, Shown, Acceptance, Verdict as VerdictReached, Subset as SubsetReached, Ranges as RangesReached}
use Rattle.glpsol_cli.proofs.Answers.{of_texts}
use Rattle.glpsol_cli.proofs.Leaving.{AreShowing, IsOfLimit, limit_tested, of_limit, tested_shown}

-- a certificate that proves its verdict is right
abbrev pub AreRight : Type 0
AreRight = (p : Problem) (c : Certificate) → Proves p c → Holds p c c.verdict

module _ (words : List (List ℕ)) (told : ToldNames) (c : Certificate) (right : AreRight) where
  true_of : (s : Settings) (texts : List (List ℕ)) → IsProved c s texts → IsTrueOf c s texts
  true_of s texts h = record { problem = h.problem; asked = h.asked; holds = right h.problem c h.proves }

  -- ---- what an answer carries

  nothing_carried : Nothing ≡ VerdictReached c → ⊥
  nothing_carried e = cc

  executed_carried : Executed ≡ VerdictReached c → ⊥
  executed_carried e = cc

  size_carried : Size ≡ VerdictReached c → ⊥
  size_carried e = cc

  acceptance_carried : (d : Certificate) → Acceptance d ≡ VerdictReached c → ⊥
  acceptance_carried d e = cc

  subset_carried : (d : Certificate) (w : FoundSubset) → SubsetReached d w ≡ VerdictReached c → ⊥
  subset_carried d w e = cc

  ranges_carried : (d : Certificate) (r : AllRanges) → RangesReached d r ≡ VerdictReached c → ⊥
  ranges_carried d r e = cc

  of_reached : (r : Reached) → r ≡ VerdictReached c → IsReached words told r → OfTexts words told (IsTrueOf c)
  of_reached r e h = of_texts words told (IsProved c) (IsTrueOf c) true_of (subst (IsReached words told) e h)

  file_carried : (name : List ℕ) (P : Option (Option (List ℕ)) → Type 0) (r : Reached) → r ≡ VerdictReached c → OfFile words told name r P → ⊥
  file_carried name P Nothing e h = nothing_carried e
  file_carried name P Executed e h = executed_carried e
  file_carried name P Size e h = h
  file_carried name P (Shown d) e h = h
  file_carried name P (Acceptance d) e h = h
  file_carried name P (VerdictReached d) e h = h
  file_carried name P (SubsetReached d w) e h = h
  file_carried name P (RangesReached d r) e h = h

  of_ended : (fault : Option ModelFault) (d : Certificate) → VerdictReached d ≡ VerdictReached c → OfTexts words told (EndsBehind fault d) → OfTexts words told (IsTrueOf c)
  of_ended fault d e h = of_reached (VerdictReached d) e (of_texts words told (EndsBehind fault d) (IsProved d) (λ s texts ended. ended.proved) h)

  pub carried : (files_rose out_rose : Type 0) (answer : Answer) → reached_of answer ≡ VerdictReached c → Cause words told files_rose out_rose answer → OfTexts words told (IsTrueOf c)
  carried files_rose out_rose (Optimal d) e h = of_reached (VerdictReached d) e (of_texts words told (EndsWithoutRanges d) (IsProved d) (λ s texts ended. ended.ends.proved) h.1)
  carried files_rose out_rose (Ranged d r) e h = absurd (ranges_carried d r e)
  carried files_rose out_rose (Infeasible d) e h = of_reached (VerdictReached d) e h.1
  carried files_rose out_rose (Irreducible d w) e h = absurd (subset_carried d w e)
  carried files_rose out_rose (Unbounded d) e h = of_reached (VerdictReached d) e h.1
  carried files_rose out_rose Translated e h = absurd (size_carried e)
  carried files_rose out_rose (Accepted d) e h = absurd (acceptance_carried d e)
  carried files_rose out_rose Usage e h = absurd (nothing_carried e)
  carried files_rose out_rose (Missing name r) e h = absurd (file_carried name (λ now. (text : List ℕ) → Has now text → ⊥) r e h)
  carried files_rose out_rose (OpenFault name r) e h = absurd (file_carried name (λ now. files_rose) r e h)
  carried files_rose out_rose (ReadFault name r) e h = absurd (file_carried name (λ now. (Lacks now → ⊥) × files_rose) r e h)
  carried files_rose out_rose (WriteFault target r) e h = of_reached r e h.0
  carried files_rose out_rose (TooLong name r) e h = absurd (file_carried name (λ now. (Lacks now → ⊥) × ((text : List ℕ) → Has now text → 67108864 < length text)) r e h)
  carried files_rose out_rose (BadText fault) e h = absurd (executed_carried e)
  carried files_rose out_rose (FaultBehindSolve fault d) e h = of_ended (Some fault) d e h.1
  carried files_rose out_rose (Unranged fault d) e h = of_reached (VerdictReached d) e (of_texts words told (LacksRanges fault d) (IsProved d) (λ s texts lacks. lacks.ends.proved) h)
  carried files_rose out_rose (BadCertificate fault) e h = absurd (executed_carried e)
  carried files_rose out_rose NotLinear e h = absurd (executed_carried e)
  carried files_rose out_rose (Overflow at fault) e h = absurd (executed_carried e)
  carried files_rose out_rose (Undecided limit) e h = absurd (subst IsOfLimit e (of_limit limit))
  carried files_rose out_rose (Refused part) e h = absurd (executed_carried e)
  carried files_rose out_rose (NoMemory r) e h = of_reached r e h

  -- ---- the three verdicts

  pub best : (s : Settings) (texts : List (List ℕ)) → c.verdict ≡ kind.Optimal → IsProved c s texts → IsBest c s texts
  best s texts is h =
      let holds : Holds h.problem c kind.Optimal = subst (Holds h.problem c) is (right h.problem c h.proves) in
      record { problem = h.problem; asked = h.asked; point = holds.0; has_point = holds.1; has_value = holds.2; optimal = holds.3 }

  pub no_point : (s : Settings) (texts : List (List ℕ)) → c.verdict ≡ kind.Infeasible → IsProved c s texts → HasNoPoint s texts
  no_point s texts is h = record { problem = h.problem; asked = h.asked; none = subst (Holds h.problem c) is (right h.problem c h.proves) }

  pub ray : (s : Settings) (texts : List (List ℕ)) → c.verdict ≡ kind.Unbounded → IsProved c s texts → HasRay c s texts
  ray s texts is h =
      let holds : Holds h.problem c kind.Unbounded = subst (Holds h.problem c) is (right h.problem c h.proves) in
      record { problem = h.problem; asked = h.asked; point = holds.0; ray = holds.1; has_point = holds.2; has_ray = holds.3; unbounded = holds.4 }

  pub is_best : (files_rose out_rose : Type 0) → Cause words told files_rose out_rose (Optimal c) → OfTexts words told (IsBest c)
  is_best files_rose out_rose h = of_texts words told (EndsWithoutRanges c) (IsBest c) (λ s texts ended. best s texts h.0 ended.ends.proved) h.1

  pub has_no_point : (files_rose out_rose : Type 0) → Cause words told files_rose out_rose (Infeasible c) → OfTexts words told HasNoPoint
  has_no_point files_rose out_rose h = of_texts words told (IsProved c) HasNoPoint (λ s texts proved. no_point s texts h.0 proved) h.1

  pub has_ray : (files_rose out_rose : Type 0) → Cause words told files_rose out_rose (Unbounded c) → OfTexts words told (HasRay c)
  has_ray files_rose out_rose h = of_texts words told (IsProved c) (HasRay c) (λ s texts proved. ray s texts h.0 proved) h.1

-- ---- subsets

module _ (words : List (List ℕ)) (told : ToldNames) (c : Certificate) (w : FoundSubset) (right : AreRight) where
  pub irreducible : (s : Settings) (texts : List (List ℕ)) → HasSubset c w s texts → IsIrreducibleSubset c w s texts
  irreducible s texts h = record {
    problem = h.proved.problem;
    asked = h.proved.asked;
    none = subst (Holds h.proved.problem c) h.infeasible (right h.proved.problem c h.proved.proves);
    is = h.is;
    infeasible = h.infeasible;
    by_weights = h.by_weights;
  }

  verdict_differs : (d : Certificate) → VerdictReached d ≡ SubsetReached c w → ⊥
  verdict_differs d e = cc

  nothing_differs : Nothing ≡ SubsetReached c w → ⊥
  nothing_differs e = cc

  executed_differs : Executed ≡ SubsetReached c w → ⊥
  executed_differs e = cc

  size_differs : Size ≡ SubsetReached c w → ⊥
  size_differs e = cc

  acceptance_differs : (d : Certificate) → Acceptance d ≡ SubsetReached c w → ⊥
  acceptance_differs d e = cc

  ranges_differ : (d : Certificate) (r : AllRanges) → RangesReached d r ≡ SubsetReached c w → ⊥
  ranges_differ d r e = cc

  by_reached : (r : Reached) → r ≡ SubsetReached c w → IsReached words told r → OfTexts words told (IsIrreducibleSubset c w)
  by_reached r e h = of_texts words told (HasSubset c w) (IsIrreducibleSubset c w) irreducible (subst (IsReached words told) e h)

  file_differs : (name : List ℕ) (P : Option (Option (List ℕ)) → Type 0) (r : Reached) → r ≡ SubsetReached c w → OfFile words told name r P → ⊥
  file_differs name P Nothing e h = nothing_differs e
  file_differs name P Executed e h = executed_differs e
  file_differs name P Size e h = h
  file_differs name P (Shown d) e h = h
  file_differs name P (Acceptance d) e h = h
  file_differs name P (VerdictReached d) e h = h
  file_differs name P (SubsetReached d v) e h = h
  file_differs name P (RangesReached d r) e h = h

  pub is_irreducible : (files_rose out_rose : Type 0) (answer : Answer) → reached_of answer ≡ SubsetReached c w → Cause words told files_rose out_rose answer → OfTexts words told (IsIrreducibleSubset c w)
  is_irreducible files_rose out_rose (Optimal d) e h = absurd (verdict_differs d e)
  is_irreducible files_rose out_rose (Ranged d r) e h = absurd (ranges_differ d r e)
  is_irreducible files_rose out_rose (Infeasible d) e h = absurd (verdict_differs d e)
  is_irreducible files_rose out_rose (Irreducible d v) e h = by_reached (SubsetReached d v) e h
  is_irreducible files_rose out_rose (Unbounded d) e h = absurd (verdict_differs d e)
  is_irreducible files_rose out_rose Translated e h = absurd (size_differs e)
  is_irreducible files_rose out_rose (Accepted d) e h = absurd (acceptance_differs d e)
  is_irreducible files_rose out_rose Usage e h = absurd (nothing_differs e)
  is_irreducible files_rose out_rose (Missing name r) e h = absurd (file_differs name (λ now. (text : List ℕ) → Has now text → ⊥) r e h)
  is_irreducible files_rose out_rose (OpenFault name r) e h = absurd (file_differs name (λ now. files_rose) r e h)
  is_irreducible files_rose out_rose (ReadFault name r) e h = absurd (file_differs name (λ now. (Lacks now → ⊥) × files_rose) r e h)
  is_irreducible files_rose out_rose (WriteFault target r) e h = by_reached r e h.0
  is_irreducible files_rose out_rose (TooLong name r) e h = absurd (file_differs name (λ now. (Lacks now → ⊥) × ((text : List ℕ) → Has now text → 67108864 < length text)) r e h)
  is_irreducible files_rose out_rose (BadText fault) e h = absurd (executed_differs e)
  is_irreducible files_rose out_rose (FaultBehindSolve fault d) e h = absurd (verdict_differs d e)
  is_irreducible files_rose out_rose (Unranged fault d) e h = absurd (verdict_differs d e)
  is_irreducible files_rose out_rose (BadCertificate fault) e h = absurd (executed_differs e)
  is_irreducible files_rose out_rose NotLinear e h = absurd (executed_differs e)
  is_irreducible files_rose out_rose (Overflow at fault) e h = absurd (executed_differs e)
  is_irreducible files_rose out_rose (Undecided limit) e h = absurd (subst IsOfLimit e (of_limit limit))
  is_irreducible files_rose out_rose (Refused part) e h = absurd (executed_differs e)
  is_irreducible files_rose out_rose (NoMemory r) e h = by_reached r e h

-- ---- ranges

module _ (words : List (List ℕ)) (told : ToldNames) (c : Certificate) (r : AllRanges) (right : AreRight) where
  pub best_ranges : (s : Settings) (texts : List (List ℕ)) → HasRanges c r s texts → HasBestRanges c r s texts
  unfolding best
  best_ranges s texts h = record { best = best words told c right s texts h.best h.ends.proved; are = h.are }

  no_verdict : (d : Certificate) → VerdictReached d ≡ RangesReached c r → ⊥
  no_verdict d e = cc

  not_nothing : Nothing ≡ RangesReached c r → ⊥
  not_nothing e = cc

  not_executed : Executed ≡ RangesReached c r → ⊥
  not_executed e = cc

  no_size : Size ≡ RangesReached c r → ⊥
  no_size e = cc

  no_acceptance : (d : Certificate) → Acceptance d ≡ RangesReached c r → ⊥
  no_acceptance d e = cc

  no_subset : (d : Certificate) (w : FoundSubset) → SubsetReached d w ≡ RangesReached c r → ⊥
  no_subset d w e = cc

  to_ranges : (q : Reached) → q ≡ RangesReached c r → IsReached words told q → OfTexts words told (HasBestRanges c r)
  to_ranges q e h = of_texts words told (HasRanges c r) (HasBestRanges c r) best_ranges (subst (IsReached words told) e h)

  no_file : (name : List ℕ) (P : Option (Option (List ℕ)) → Type 0) (q : Reached) → q ≡ RangesReached c r → OfFile words told name q P → ⊥
  no_file name P Nothing e h = not_nothing e
  no_file name P Executed e h = not_executed e
  no_file name P Size e h = h
  no_file name P (Shown d) e h = h
  no_file name P (Acceptance d) e h = h
  no_file name P (VerdictReached d) e h = h
  no_file name P (SubsetReached d v) e h = h
  no_file name P (RangesReached d q) e h = h

  pub has_ranges : (files_rose out_rose : Type 0) (answer : Answer) → reached_of answer ≡ RangesReached c r → Cause words told files_rose out_rose answer → OfTexts words told (HasBestRanges c r)
  has_ranges files_rose out_rose (Optimal d) e h = absurd (no_verdict d e)
  has_ranges files_rose out_rose (Ranged d q) e h = to_ranges (RangesReached d q) e h
  has_ranges files_rose out_rose (Infeasible d) e h = absurd (no_verdict d e)
  has_ranges files_rose out_rose (Irreducible d v) e h = absurd (no_subset d v e)
  has_ranges files_rose out_rose (Unbounded d) e h = absurd (no_verdict d e)
  has_ranges files_rose out_rose Translated e h = absurd (no_size e)
  has_ranges files_rose out_rose (Accepted d) e h = absurd (no_acceptance d e)
  has_ranges files_rose out_rose Usage e h = absurd (not_nothing e)
  has_ranges files_rose out_rose (Missing name q) e h = absurd (no_file name (λ now. (text : List ℕ) → Has now text → ⊥) q e h)
  has_ranges files_rose out_rose (OpenFault name q) e h = absurd (no_file name (λ now. files_rose) q e h)
  has_ranges files_rose out_rose (ReadFault name q) e h = absurd (no_file name (λ now. (Lacks now → ⊥) × files_rose) q e h)
  has_ranges files_rose out_rose (WriteFault target q) e h = to_ranges q e h.0
  has_ranges files_rose out_rose (TooLong name q) e h = absurd (no_file name (λ now. (Lacks now → ⊥) × ((text : List ℕ) → Has now text → 67108864 < length text)) q e h)
  has_ranges files_rose out_rose (BadText fault) e h = absurd (not_executed e)
  has_ranges files_rose out_rose (FaultBehindSolve fault d) e h = absurd (no_verdict d e)
  has_ranges files_rose out_rose (Unranged fault d) e h = absurd (no_verdict d e)
  has_ranges files_rose out_rose (BadCertificate fault) e h = absurd (not_executed e)
  has_ranges files_rose out_rose NotLinear e h = absurd (not_executed e)
  has_ranges files_rose out_rose (Overflow at fault) e h = absurd (not_executed e)
  has_ranges files_rose out_rose (Undecided limit) e h = absurd (subst IsOfLimit e (of_limit limit))
  has_ranges files_rose out_rose (Refused part) e h = absurd (not_executed e)
  has_ranges files_rose out_rose (NoMemory q) e h = to_ranges q e h

-- ---- what a search has shown that came to a limit

module _ (words : List (List ℕ)) (told : ToldNames) (c : Partial) (showing : AreShowing) where
  verdict_apart : (d : Certificate) → VerdictReached d ≡ Shown c → ⊥
  verdict_apart d e = cc

  nothing_apart : Nothing ≡ Shown c → ⊥
  nothing_apart e = cc

  executed_apart : Executed ≡ Shown c → ⊥
  executed_apart e = cc

  size_apart : Size ≡ Shown c → ⊥
  size_apart e = cc

  acceptance_apart : (d : Certificate) → Acceptance d ≡ Shown c → ⊥
  acceptance_apart d e = cc

  subset_apart : (d : Certificate) (w : FoundSubset) → SubsetReached d w ≡ Shown c → ⊥
  subset_apart d w e = cc

  ranges_apart : (d : Certificate) (r : AllRanges) → RangesReached d r ≡ Shown c → ⊥
  ranges_apart d r e = cc

  to_shown : (r : Reached) → r ≡ Shown c → IsReached words told r → OfTexts words told (IsShown c)
  to_shown r e h = of_texts words told (IsTested c) (IsShown c) (tested_shown showing c) (subst (IsReached words told) e h)

  file_apart : (name : List ℕ) (P : Option (Option (List ℕ)) → Type 0) (r : Reached) → r ≡ Shown c → OfFile words told name r P → ⊥
  file_apart name P Nothing e h = nothing_apart e
  file_apart name P Executed e h = executed_apart e
  file_apart name P Size e h = h
  file_apart name P (Shown d) e h = h
  file_apart name P (Acceptance d) e h = h
  file_apart name P (VerdictReached d) e h = h
  file_apart name P (SubsetReached d w) e h = h
  file_apart name P (RangesReached d r) e h = h

  pub is_shown : (files_rose out_rose : Type 0) (answer : Answer) → reached_of answer ≡ Shown c → Cause words told files_rose out_rose answer → OfTexts words told (IsShown c)
  is_shown files_rose out_rose (Optimal d) e h = absurd (verdict_apart d e)
  is_shown files_rose out_rose (Ranged d r) e h = absurd (ranges_apart d r e)
  is_shown files_rose out_rose (Infeasible d) e h = absurd (verdict_apart d e)
  is_shown files_rose out_rose (Irreducible d w) e h = absurd (subset_apart d w e)
  is_shown files_rose out_rose (Unbounded d) e h = absurd (verdict_apart d e)
  is_shown files_rose out_rose Translated e h = absurd (size_apart e)
  is_shown files_rose out_rose (Accepted d) e h = absurd (acceptance_apart d e)
  is_shown files_rose out_rose Usage e h = absurd (nothing_apart e)
  is_shown files_rose out_rose (Missing name r) e h = absurd (file_apart name (λ now. (text : List ℕ) → Has now text → ⊥) r e h)
  is_shown files_rose out_rose (OpenFault name r) e h = absurd (file_apart name (λ now. files_rose) r e h)
  is_shown files_rose out_rose (ReadFault name r) e h = absurd (file_apart name (λ now. (Lacks now → ⊥) × files_rose) r e h)
  is_shown files_rose out_rose (WriteFault target r) e h = to_shown r e h.0
  is_shown files_rose out_rose (TooLong name r) e h = absurd (file_apart name (λ now. (Lacks now → ⊥) × ((text : List ℕ) → Has now text → 67108864 < length text)) r e h)
  is_shown files_rose out_rose (BadText fault) e h = absurd (executed_apart e)
  is_shown files_rose out_rose (FaultBehindSolve fault d) e h = absurd (verdict_apart d e)
  is_shown files_rose out_rose (Unranged fault d) e h = absurd (verdict_apart d e)
  is_shown files_rose out_rose (BadCertificate fault) e h = absurd (executed_apart e)
  is_shown files_rose out_rose NotLinear e h = absurd (executed_apart e)
  is_shown files_rose out_rose (Overflow at fault) e h = absurd (executed_apart e)
  is_shown files_rose out_rose (Undecided limit) e h = of_texts words told (IsUndecided limit) (IsShown c) (λ s texts u. tested_shown showing c s texts (limit_tested limit c s texts e u)) h
  is_shown files_rose out_rose (Refused part) e h = absurd (executed_apart e)
  is_shown files_rose out_rose (NoMemory r) e h = to_shown r e h
