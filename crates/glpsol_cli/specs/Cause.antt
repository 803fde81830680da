-- What each answer of a run says of the words, of what is told of the files, and of the faults that rose.
use Rattle.std.specs.Prelude.{◌≡◌, ◌<◌, ℕ, suc, true, false, List, [], ◌∷◌, length, slice_get, is_some, Some, None, Ok, Err}
use Rattle.milp.specs.Problem.{Problem}
use Rattle.milp.specs.Points.{IsOptimal, Feasible, IsUnbounded, objective_value}
use Rattle.rational.specs.Rational.{Rational}
use Rattle.fraction.specs.declared.frac.NoFit.{NoFit}
use Rattle.fraction.specs.Answers.{DoesNotFit}
use Rattle.verdicts.specs.Certificate.{Certificate}
use Rattle.verdicts.specs.Certificate as kind
use Rattle.verdicts.specs.Proves.{Proves, Holds, tests, first_failing}
use Rattle.partial_certificate.specs.Partial.{Partial}
use Rattle.partial_certificate.specs.Shown.{Passes, Shows}
use Rattle.search_node.specs.declared.node.Node.{Node}
use Rattle.search_tree.specs.Board.{Board}
use Rattle.branch_search.specs.Faults.{IsStuckAt, IsOutOfPivots, IsOutOfSplits}
use Rattle.branch_search.specs.Plain.{NoneInteger}
use Rattle.gmpl_generate.specs.declared.fault.ModelFault.{ModelFault}
use Rattle.branch_search.specs.WholeFaults.{IsWanted, searched}
use Rattle.branch_search.specs.declared.whole_fault.Wanted.{Wanted}
use Rattle.stopped_search.specs.Stopped.{shown_for}
use Rattle.cut_search.specs.Searched.{IsSearched, shown_of_search}
use Rattle.certificate_reader.specs.Reading.{read_of}
use Rattle.certificate_lines.specs.declared.fault.CertFault.{CertFault}
use Rattle.cert_check.specs.Outcome.{Acceptance as Accepting, Fault, outcome, trials, part_of}
use Rattle.cert_check.specs.declared.part.Part.{Part}
use Rattle.std.specs.declared.option.Option.{Option}
use Rattle.infeasible_subset.specs.Members.{has}
use Rattle.infeasible_subset.specs.Subsets.{IsIrreducible, UsesOnly, Refutes, AreAccepted}
use Rattle.infeasible_subset.specs.Listed.{AreAmong, all_bounds}
use Rattle.infeasible_subset.specs.Underway.{members_of, AllMeet}
use Rattle.infeasible_subset.specs.Faults.{IsStuckAt as IsSubsetStuck, IsTooLong as IsSubsetTooLong}
use Rattle.infeasible_subset.specs.declared.witness.Subset.{Subset as FoundSubset}
use Rattle.exact_ranges.specs.Ranges.{AllRanges, AreCostRanges, AreBoundRanges}
use Rattle.exact_ranges.specs.ShownBest.{best_point, best_weights}
use Rattle.exact_ranges.specs.Faults.{IsFault as IsRangeFault, IsNotByPivots as IsRangeNotByPivots}
use Rattle.exact_ranges.specs.declared.fault.RangeFault.{RangeFault}
use Rattle.dual_values.specs.Duals.{duals_of}
use Rattle.outside.specs.Told.{Lacks, Has}
use Rattle.command_line.specs.Meaning.{settings_of}
use Rattle.command_line.specs.declared.settings.Settings.{Settings}
use Rattle.glpsol_cli.specs.Asked.{ToldNames, Solves, Translates, Checks, certificate_file, splits_rows, uses_cuts, wants_linear, wants_ranges, wants_subset}
use Rattle.glpsol_cli.specs.Meaning.{Meaning, IsAsked, IsRefused, HasDone, meaning_of}
use Rattle.glpsol_cli.specs.Texts.{OfFile, OfTexts}
use Rattle.glpsol_cli.specs.declared.answer.Answer.{Answer}
use Rattle.glpsol_cli.specs.declared.answer.Answer.TheVariants.{Optimal, Ranged, Infeasible, Irreducible, Unbounded, Translated, Accepted, Usage, Missing, OpenFault, ReadFault, WriteFault, TooLong, BadText, FaultBehindSolve, Unranged, BadCertificate, NotLinear, Overflow, Undecided, Refused, NoMemory}
use Rattle.glpsol_cli.specs.declared.answer.Leftover.{Leftover}
use Rattle.glpsol_cli.specs.declared.answer.Leftover.TheVariants.{Unasked, Unmade, Saved, Unsaved}
use Rattle.glpsol_cli.specs.declared.answer.Limit.{Limit}
use Rattle.glpsol_cli.specs.declared.answer.Limit.TheVariants.{Pivots, Splits, SubsetPivots}
use Rattle.glpsol_cli.specs.declared.answer.OverflowSite.{OverflowSite}
use Rattle.glpsol_cli.specs.declared.answer.OverflowSite.TheVariants.{AtNode, InPart, InSubset}
use Rattle.glpsol_cli.specs.declared.answer.Reached.{Reached}
use Rattle.glpsol_cli.specs.declared.answer.Reached.TheVariants.{Nothing, Executed, Size, Shown, Acceptance, Verdict, Subset, Ranges}
use Rattle.glpsol_cli.specs.declared.answer.Target.{Target}
use Rattle.glpsol_cli.specs.declared.answer.Target.TheVariants.{Out, File}

-- ---- verdicts

-- c proves its verdict for the problem that is asked about, and the checker accepts it
pub record IsProved (c : Certificate) (s : Settings) (texts : List (List ℕ)) : Type 0 where
  pub problem : Problem
  pub asked : IsAsked s texts problem
  pub solves : Solves s
  pub proves : Proves problem c
  pub accepted : outcome (trials problem c) ≡ Accepting

-- the verdict of c is true of the problem that is asked about
pub record IsTrueOf (c : Certificate) (s : Settings) (texts : List (List ℕ)) : Type 0 where
  pub problem : Problem
  pub asked : IsAsked s texts problem
  pub holds : Holds problem c c.verdict

-- the point of c is feasible, no feasible point is better, and c has its value
pub record IsBest (c : Certificate) (s : Settings) (texts : List (List ℕ)) : Type 0 where
  pub problem : Problem
  pub asked : IsAsked s texts problem
  pub point : List Rational
  pub has_point : c.point ≡ Some point
  pub has_value : c.value ≡ Some (objective_value problem point)
  pub optimal : IsOptimal problem point

-- no point is feasible
pub record HasNoPoint (s : Settings) (texts : List (List ℕ)) : Type 0 where
  pub problem : Problem
  pub asked : IsAsked s texts problem
  pub none : (x : List Rational) → ¬ (Feasible problem x)

-- some bounds of the problem, in order, that no point meets, while without any one of them a point does, which stands beside it; and
-- weights that refute the problem by these bounds alone, and that the checker accepts
pub record IsSubsetOf (p : Problem) (w : FoundSubset) : Type 0 where
  pub irreducible : IsIrreducible p (members_of w.witnesses)
  pub listed : AreAmong (members_of w.witnesses) (all_bounds p)
  pub points : AllMeet p (members_of w.witnesses) w.witnesses
  pub uses : UsesOnly (has (members_of w.witnesses)) w.weights
  pub refutes : Refutes p w.weights
  pub accepted : AreAccepted p w.weights

-- c shows its verdict by the weights of w alone: it has no derived row, and its tree is one empty leaf
pub record IsByWeights (c : Certificate) (w : FoundSubset) : Type 0 where
  pub derived : c.derived ≡ []
  pub tree : c.tree ≡ kind.Empty w.weights ∷ []

-- a subset is wanted, w is a subset of the bounds of the problem that is asked about, c proves by the weights of w alone that no point is
-- feasible there, and the checker accepts c
pub record HasSubset (c : Certificate) (w : FoundSubset) (s : Settings) (texts : List (List ℕ)) : Type 0 where
  pub proved : IsProved c s texts
  pub wanted : wants_subset s.task ≡ true
  pub infeasible : c.verdict ≡ kind.Infeasible
  pub is : IsSubsetOf proved.problem w
  pub by_weights : IsByWeights c w

-- no point is feasible, w is a subset of the problem's bounds, and c is of its weights
pub record IsIrreducibleSubset (c : Certificate) (w : FoundSubset) (s : Settings) (texts : List (List ℕ)) : Type 0 where
  pub problem : Problem
  pub asked : IsAsked s texts problem
  pub none : (x : List Rational) → ¬ (Feasible problem x)
  pub is : IsSubsetOf problem w
  pub infeasible : c.verdict ≡ kind.Infeasible
  pub by_weights : IsByWeights c w

-- the point of c is feasible, and its ray improves without end
pub record HasRay (c : Certificate) (s : Settings) (texts : List (List ℕ)) : Type 0 where
  pub problem : Problem
  pub asked : IsAsked s texts problem
  pub point : List Rational
  pub ray : List Rational
  pub has_point : c.point ≡ Some point
  pub has_ray : c.ray ≡ Some ray
  pub unbounded : IsUnbounded problem point ray

-- c proves its verdict, and at its point, with its dual values, the statements behind `solve` have this fault, or none
pub record EndsBehind (fault : Option ModelFault) (c : Certificate) (s : Settings) (texts : List (List ℕ)) : Type 0 where
  pub proved : IsProved c s texts
  pub meaning : Meaning
  pub means : meaning_of s texts ≡ Some meaning
  pub point : List Rational
  pub has_point : c.point ≡ Some point
  pub ends : (meaning.behind point (duals_of proved.problem c)).fault ≡ fault

-- the same without a fault, where no ranges are wanted
pub record EndsWithoutRanges (c : Certificate) (s : Settings) (texts : List (List ℕ)) : Type 0 where
  pub ends : EndsBehind None c s texts
  pub plain : wants_ranges s.task ≡ false

-- ---- ranges

-- a range for each column and each row. A number is in that of a column exactly where the point of c is best with it as the column's
-- cost, and in that of a row's bound exactly where, with it in the bound's place, the value goes on as the weights of c promise
pub record AreRanges (p : Problem) (c : Certificate) (r : AllRanges) : Type 0 where
  pub each_cost : length r.costs ≡ length p.columns
  pub costs : AreCostRanges p (best_point c) r.costs
  pub each_row : length r.rows ≡ length p.rows
  pub bounds : AreBoundRanges p (best_point c) (best_weights c) r.rows

-- ranges are wanted, c proves that its point is best, the statements behind `solve` have no fault there, and these are the ranges
pub record HasRanges (c : Certificate) (r : AllRanges) (s : Settings) (texts : List (List ℕ)) : Type 0 where
  pub best : c.verdict ≡ kind.Optimal
  pub ends : EndsBehind None c s texts
  pub wanted : wants_ranges s.task ≡ true
  pub are : AreRanges ends.proved.problem c r

-- the same, but for this fault the ranges are not found
pub record LacksRanges (fault : RangeFault) (c : Certificate) (s : Settings) (texts : List (List ℕ)) : Type 0 where
  pub best : c.verdict ≡ kind.Optimal
  pub ends : EndsBehind None c s texts
  pub wanted : wants_ranges s.task ≡ true
  pub fails : IsRangeFault ends.proved.problem (best_point c) (best_weights c) s.pivot_limit fault
  pub unlimited : s.pivot_limit ≡ 0 → IsRangeNotByPivots fault

-- the point of c is best, and these are the ranges there
pub record HasBestRanges (c : Certificate) (r : AllRanges) (s : Settings) (texts : List (List ℕ)) : Type 0 where
  pub best : IsBest c s texts
  pub are : AreRanges best.problem c r

-- ---- sizes

-- the texts declare a problem whose size is asked for
pub record IsTranslated (s : Settings) (texts : List (List ℕ)) : Type 0 where
  pub problem : Problem
  pub asked : IsAsked s texts problem
  pub translates : Translates s

-- ---- certificates that are to be checked

-- P of the problem, and of the text of the certificate that is to be checked, which stands behind those of the data files
pub record OfCertificate (P : Problem → List ℕ → Type 0) (s : Settings) (texts : List (List ℕ)) : Type 0 where
  pub problem : Problem
  pub asked : IsAsked s texts problem
  pub name : List ℕ
  pub checks : Checks s name
  pub bytes : List ℕ
  pub stands : slice_get texts (suc (length s.data_files)) ≡ Some bytes
  pub holds : P problem bytes

-- the bytes are the text of c, which proves its verdict
pub record IsAccepted (c : Certificate) (p : Problem) (bytes : List ℕ) : Type 0 where
  pub text : read_of bytes ≡ Ok c
  pub proves : Proves p c

-- they are the text of one of which this part is the first that does not hold
pub record IsRefusedAt (part : Part) (p : Problem) (bytes : List ℕ) : Type 0 where
  pub certificate : Certificate
  pub text : read_of bytes ≡ Ok certificate
  pub first : first_failing (tests p certificate) ≡ Some (part_of part)

-- they are the text of one in whose check, at this part, this term or sum is the first that does not fit
pub record IsCheckOverflow (part : Part) (e : NoFit) (p : Problem) (bytes : List ℕ) : Type 0 where
  pub certificate : Certificate
  pub text : read_of bytes ≡ Ok certificate
  pub operation : outcome (trials p certificate) ≡ Fault (part_of part) e
  pub not_fit : DoesNotFit e

-- they are no certificate's text, with this fault first
abbrev pub IsNoCertificate : CertFault → Problem → List ℕ → Type 0
IsNoCertificate fault p bytes = read_of bytes ≡ Err fault

-- ---- problems that are not solved

-- the problem that is asked about is to be solved, and all tests of c hold for it
pub record IsTested (c : Partial) (s : Settings) (texts : List (List ℕ)) : Type 0 where
  pub problem : Problem
  pub asked : IsAsked s texts problem
  pub solves : Solves s
  pub passes : Passes problem c

-- the best point of c is feasible and has its value, and a feasible point that is better can only lie at a leaf that is left to do
pub record IsShown (c : Partial) (s : Settings) (texts : List (List ℕ)) : Type 0 where
  pub problem : Problem
  pub asked : IsAsked s texts problem
  pub shows : Shows problem c

-- P of the problem that is searched, and of the settings: the one that is asked about, or one with rows for cuts of its root
-- where cuts are asked for, or one with columns for rows where splits on rows are asked for, where a best point is wanted;
-- where any point is wanted, since a ray improves it, the same without its objective
pub record OfSearch (wanted : Wanted) (P : Problem → Settings → Type 0) (s : Settings) (texts : List (List ℕ)) : Type 0 where
  pub problem : Problem
  pub asked : IsAsked s texts problem
  pub solves : Solves s
  pub searches : Problem
  pub is_searched : IsSearched (uses_cuts s.task) (splits_rows s.task) problem searches
  pub is_wanted : IsWanted searches wanted
  pub holds : P (searched searches wanted) s

-- the operation is one of the work at this node, to which splits lead that are all honest, and does not fit
abbrev pub IsNodeOverflow : Wanted → Node → NoFit → Settings → List (List ℕ) → Type 0
IsNodeOverflow wanted node e s texts = OfSearch wanted (λ p settings. IsStuckAt p [] settings.split_limit (record { node = node; fault = e })) s texts

-- P of a problem that a certificate proves infeasible and of which a subset is wanted, and of the settings
pub record OfInfeasible (P : Problem → Settings → Type 0) (s : Settings) (texts : List (List ℕ)) : Type 0 where
  pub certificate : Certificate
  pub infeasible : certificate.verdict ≡ kind.Infeasible
  pub proved : IsProved certificate s texts
  pub wanted : wants_subset s.task ≡ true
  pub holds : P proved.problem s

-- a subset or ranges are wanted, and a column of the problem takes whole numbers alone
pub record IsNotLinear (s : Settings) (texts : List (List ℕ)) : Type 0 where
  pub problem : Problem
  pub asked : IsAsked s texts problem
  pub solves : Solves s
  pub wanted : wants_linear s.task ≡ true
  pub integer : ¬ (NoneInteger problem.columns)

abbrev pub IsOverflow : OverflowSite → NoFit → Settings → List (List ℕ) → Type 0
IsOverflow (AtNode wanted node) e s texts = IsNodeOverflow wanted node e s texts
IsOverflow (InPart part) e s texts = OfCertificate (IsCheckOverflow part e) s texts
IsOverflow (InSubset members) e s texts = OfInfeasible (λ p settings. IsSubsetStuck p members e) s texts

-- What a search leaves that has shown this of p: nothing where the task names no file, or memory is wanting; or it is in the file, whole
-- or not, and all tests of it hold for p.
abbrev pub IsLeft : Option (List ℕ) → Problem → Partial → Leftover → Type 0
IsLeft file p shown Unasked = is_some file ≡ false
IsLeft file p shown Unmade = is_some file ≡ true
IsLeft file p shown (Saved c) = (is_some file ≡ true) × (c ≡ shown) × Passes p c
IsLeft file p shown (Unsaved c) = (is_some file ≡ true) × (c ≡ shown) × Passes p c

-- a search came to a limit on this board, and leaves what the board has shown of the problem that is asked about
pub record AtLimit (wanted : Wanted) (board : Board) (leftover : Leftover) (P : Problem → Settings → Type 0) (s : Settings) (texts : List (List ℕ)) : Type 0 where
  pub search : OfSearch wanted P s texts
  pub left : IsLeft (certificate_file s.task) search.problem (shown_of_search (uses_cuts s.task) (splits_rows s.task) search.problem search.searches search.is_searched (shown_for wanted board)) leftover

-- the limit is too small: the bases are the first of the simplex method's run at a node to which honest splits lead, as many
-- steps as are allowed, and there is one more step; or as many splits are made as are allowed, all honest, and each leaf that is
-- not closed is of a node that would have to be split. The board is that on which a search with these limits stops
abbrev pub IsUndecided : Limit → Settings → List (List ℕ) → Type 0
IsUndecided (Pivots wanted bases board left) s texts = AtLimit wanted board left (λ p settings. IsOutOfPivots p [] settings.split_limit settings.pivot_limit bases board) s texts
IsUndecided (SubsetPivots members bases) s texts = OfInfeasible (λ p settings. IsSubsetTooLong p settings.pivot_limit members bases) s texts
IsUndecided (Splits wanted board left) s texts = AtLimit wanted board left (λ p settings. IsOutOfSplits p [] settings.split_limit settings.pivot_limit board) s texts

-- ---- how far a run has come

abbrev pub IsReached : List (List ℕ) → ToldNames → Reached → Type 0
IsReached words told Nothing = Unit {0}
IsReached words told Executed = OfTexts words told (HasDone (λ done. Unit {0}))
IsReached words told Size = OfTexts words told IsTranslated
IsReached words told (Shown c) = OfTexts words told (IsTested c)
IsReached words told (Acceptance c) = OfTexts words told (OfCertificate (IsAccepted c))
IsReached words told (Verdict c) = OfTexts words told (IsProved c)
IsReached words told (Subset c w) = OfTexts words told (HasSubset c w)
IsReached words told (Ranges c r) = OfTexts words told (HasRanges c r)

-- what was reached by a search that came to a limit
abbrev pub reached_left : Leftover → Reached
reached_left Unasked = Executed
reached_left Unmade = Executed
reached_left (Saved c) = Shown c
reached_left (Unsaved c) = Shown c

abbrev pub reached_at : Limit → Reached
reached_at (Pivots wanted bases board left) = reached_left left
reached_at (Splits wanted board left) = reached_left left
reached_at (SubsetPivots members bases) = Executed

-- what the answer says was reached
abbrev pub reached_of : Answer → Reached
reached_of (Optimal c) = Verdict c
reached_of (Ranged c r) = Ranges c r
reached_of (Infeasible c) = Verdict c
reached_of (Irreducible c w) = Subset c w
reached_of (Unbounded c) = Verdict c
reached_of Translated = Size
reached_of (Accepted c) = Acceptance c
reached_of Usage = Nothing
reached_of (Missing name reached) = reached
reached_of (OpenFault name reached) = reached
reached_of (ReadFault name reached) = reached
reached_of (WriteFault target reached) = reached
reached_of (TooLong name reached) = reached
reached_of (BadText fault) = Executed
reached_of (FaultBehindSolve fault c) = Verdict c
reached_of (Unranged fault c) = Verdict c
reached_of (BadCertificate fault) = Executed
reached_of NotLinear = Executed
reached_of (Overflow at fault) = Executed
reached_of (Undecided limit) = reached_at limit
reached_of (Refused part) = Executed
reached_of (NoMemory reached) = reached

-- the answer is not that the limit of steps was met
abbrev pub IsNotByPivots : Answer → Type 0
IsNotByPivots (Undecided (Pivots wanted bases board left)) = ⊥
IsNotByPivots (Undecided (SubsetPivots members bases)) = ⊥
IsNotByPivots (Unranged fault c) = IsRangeNotByPivots fault
IsNotByPivots answer = Unit {0}

-- the answer is not that no point is feasible, without a subset
abbrev pub IsNotPlain : Answer → Type 0
IsNotPlain (Infeasible c) = ⊥
IsNotPlain answer = Unit {0}

-- the answer is not that a point is best, without ranges
abbrev pub IsNotWithoutRanges : Answer → Type 0
IsNotWithoutRanges (Optimal c) = ⊥
IsNotWithoutRanges answer = Unit {0}

-- ---- causes

-- the count of what is written to rose
abbrev pub RoseAt : Target → Type 0 → Type 0 → Type 0
RoseAt Out files_rose out_rose = out_rose
RoseAt (File name) files_rose out_rose = files_rose

-- the cause of each answer
abbrev pub Cause : List (List ℕ) → ToldNames → Type 0 → Type 0 → Answer → Type 0
Cause words told files_rose out_rose (Optimal c) = (c.verdict ≡ kind.Optimal) × OfTexts words told (EndsWithoutRanges c)
Cause words told files_rose out_rose (Ranged c r) = IsReached words told (Ranges c r)
Cause words told files_rose out_rose (Infeasible c) = (c.verdict ≡ kind.Infeasible) × IsReached words told (Verdict c)
Cause words told files_rose out_rose (Irreducible c w) = IsReached words told (Subset c w)
Cause words told files_rose out_rose (Unbounded c) = (c.verdict ≡ kind.Unbounded) × IsReached words told (Verdict c)
Cause words told files_rose out_rose Translated = IsReached words told Size
Cause words told files_rose out_rose (Accepted c) = IsReached words told (Acceptance c)
Cause words told files_rose out_rose Usage = settings_of words ≡ None
Cause words told files_rose out_rose (Missing name reached) = OfFile words told name reached (λ now. (text : List ℕ) → Has now text → ⊥)
Cause words told files_rose out_rose (OpenFault name reached) = OfFile words told name reached (λ now. files_rose)
Cause words told files_rose out_rose (ReadFault name reached) = OfFile words told name reached (λ now. (Lacks now → ⊥) × files_rose)
Cause words told files_rose out_rose (WriteFault target reached) = IsReached words told reached × RoseAt target files_rose out_rose
Cause words told files_rose out_rose (TooLong name reached) = OfFile words told name reached (λ now. (Lacks now → ⊥) × ((text : List ℕ) → Has now text → 67108864 < length text))
Cause words told files_rose out_rose (BadText fault) = OfTexts words told (IsRefused fault)
Cause words told files_rose out_rose (FaultBehindSolve fault c) = (c.verdict ≡ kind.Optimal) × OfTexts words told (EndsBehind (Some fault) c)
Cause words told files_rose out_rose (Unranged fault c) = OfTexts words told (LacksRanges fault c)
Cause words told files_rose out_rose (BadCertificate fault) = OfTexts words told (OfCertificate (IsNoCertificate fault))
Cause words told files_rose out_rose NotLinear = OfTexts words told IsNotLinear
Cause words told files_rose out_rose (Overflow at e) = OfTexts words told (IsOverflow at e)
Cause words told files_rose out_rose (Undecided limit) = OfTexts words told (IsUndecided limit)
Cause words told files_rose out_rose (Refused part) = OfTexts words told (OfCertificate (IsRefusedAt part))
Cause words told files_rose out_rose (NoMemory reached) = IsReached words told reached
