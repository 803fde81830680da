-- What the execution of a model says of the text that it is read from.
use Rattle.std.proofs.Common.{◌≡◌, ◌∙◌, ◌<◌, ℕ, List, [], ◌∷◌, ◌++◌, Option, Some, Result, Ok, Err, string_bytes, refl, sym, ap, subst}
use Rattle.std.specs.Prelude.{IfOk}
use Rattle.std.proofs.lemmas.List.{append_assoc}
use Rattle.rational.specs.Rational.{Rational}
use Rattle.milp.specs.Problem.{Problem, Row}
use Rattle.model_text.specs.declared.error.ReadError.{ReadError}
use Rattle.model_text.specs.declared.error.ReadError.TheVariants.{Fault, NoMemory}
use Rattle.gmpl_solution.specs.declared.member.Member.{Member}
use Rattle.gmpl_solution.specs.Solution.{Duals}
use Rattle.gmpl_data.specs.declared.tables.LoadedModel.{LoadedModel}
use Rattle.gmpl_rows.specs.Draft.{Draft}
use Rattle.gmpl_rows.specs.Problem.{column_members, problem_of, row_members}
use Rattle.gmpl_rows.specs.declared.members.ColumnMember.{ColumnMember}
use Rattle.gmpl_generate.specs.Problem.{Execution, Executing, HasFewerLeft as has_fewer_left, IsEnd, behind_files, execution, made_behind, next, next_by, resumed, with_texts}
use Rattle.gmpl_generate.proofs.TablesLeft.{fewer}
use Rattle.gmpl_generate.specs.Running.{File, Made, files_of, state_of}
use Rattle.gmpl_generate.specs.Solved.{after_by, made_after}
use Rattle.gmpl_generate.specs.declared.fault.ModelFault.{ModelFault}
use Rattle.gmpl_generate.specs.declared.problem.End.{End}
use Rattle.gmpl_generate.specs.declared.problem.Generated.{Generated}
use Rattle.gmpl_generate.specs.declared.problem.End.TheVariants as end
use Rattle.gmpl_generate.specs.declared.solved.Afterwards.{Afterwards}
use Rattle.gmpl_generate.specs.declared.turns.Pause.{Pause}
use Rattle.gmpl_generate.specs.declared.turns.Stopped.{Stopped}
use Rattle.gmpl_generate.specs.declared.turns.Stopped.TheVariants as stopped
use Rattle.gmpl_reader.specs.MathProg.{Declares, Fails, HasFewerLeft, IsNotLoaded, IsPending, IsReading, IsReadingEnd, IsReadingOf, IsRest, IsSameEnd, IsUnreadable, after_execution, afterwards, ending, ending_by, executing, executing_model, loaded_model, made_by, making, tables_left}
use Rattle.gmpl_reader.specs.declared.fault.MathProgFault.{MathProgFault}
use Rattle.gmpl_reader.specs.declared.fault.MathProgFault.TheVariants.{Model}
use Rattle.gmpl_reader.specs.declared.read.Pending.{Pending}
use Rattle.gmpl_reader.specs.declared.read.Reading.{Reading}
use Rattle.gmpl_reader.specs.declared.read.ReadingEnd.{ReadingEnd}
use Rattle.gmpl_reader.specs.declared.read.ReadingEnd.TheVariants as ends
use Rattle.gmpl_reader.specs.declared.read.Rest.{Rest}

-- a result of this type
abbrev ran : Executing → Result Executing MathProgFault
ran run = Ok run

abbrev at : LoadedModel → Stopped → Execution
at model s = record { model = model; stopped = s }

abbrev ended : Execution → Result Execution ModelFault
ended e = Ok e

abbrev failed : ModelFault → Result Execution ModelFault
failed f = Err f

no_fault : (e : Execution) (f : ModelFault) → ended e ≡ failed f → ⊥
no_fault e f same = cc

no_end : (e : Execution) (f : ModelFault) → failed f ≡ ended e → ⊥
no_end e f same = cc

fault_is : (f g : ModelFault) → failed f ≡ failed g → f ≡ g
fault_is f g same = cc

abbrev not_run : MathProgFault → Result Executing MathProgFault
not_run f = Err f

same_run : (a b : Executing) → ran a ≡ ran b → a ≡ b
same_run a b same = cc

abbrev some_made : Made → Option Made
some_made m = Some m

module _ (text : List ℕ) (files tables : List (List ℕ)) where
  -- ---- how a reading ends

  at_problem : (model : LoadedModel) (s : Stopped) (m : Made) (x : LoadedModel) (g : Generated) (problem : Problem) (rest : Rest) → executing text files tables ≡ ran (Ok (at model s, m))
      → IsEnd (Ok (at model s)) (end.Problem x g) → IsSameEnd (end.Problem x g) (ends.Problem problem rest) → IsReadingEnd text files tables (ends.Problem problem rest)
  at_problem model (stopped.AtEnd d) m x g problem rest run h same =
      let rest_model : model ≡ rest.model = h.0 ∙ sym (ap (λ (r : Rest). r.model) same.1) in (
        ap ending_by run ∙ ap Declares (sym (same.0 ∙ h.1.problem)),
        record {
          draft = d;
          made = m;
          is = run ∙ ap (λ (w : LoadedModel). ran (Ok (at w (stopped.AtEnd d), m))) rest_model;
          columns = ap (λ (r : Rest). r.columns.items) same.1 ∙ h.1.columns;
          rows = ap (λ (r : Rest). r.rows.items) same.1 ∙ h.1.rows;
        },
      )
  at_problem model (stopped.AtTable p) m x g problem rest run h same = absurd h.1

  at_table : (model : LoadedModel) (s : Stopped) (m : Made) (x : LoadedModel) (p : Pause) (pending : Pending) → executing text files tables ≡ ran (Ok (at model s, m))
      → IsEnd (Ok (at model s)) (end.Table x p) → IsSameEnd (end.Table x p) (ends.Table pending) → IsReadingEnd text files tables (ends.Table pending)
  at_table model s m x p pending run h same =
      let here : at model s ≡ at pending.model (stopped.AtTable pending.pause) = execution_is (at model s) (at x (stopped.AtTable p)) h ∙ ap (λ (q : Pending). at q.model (stopped.AtTable q.pause)) (sym same) in
      let is = run ∙ ap (λ (e : Execution). ran (Ok (e, m))) here in
      (ap ending_by is, record { made = m; is = is })
    where
      execution_is : (e f : Execution) → ended e ≡ ended f → e ≡ f
      execution_is e f same = cc

  ends_so : (e : Execution) (m : Made) (x : End) (y : ReadingEnd) → executing text files tables ≡ ran (Ok (e, m)) → IsEnd (Ok e) x → IsSameEnd x y → IsReadingEnd text files tables y
  ends_so e m (end.Problem model g) (ends.Problem problem rest) run h same = at_problem e.model e.stopped m model g problem rest run h same
  ends_so e m (end.Table model p) (ends.Table pending) run h same = at_table e.model e.stopped m model p pending run h same
  ends_so e m (end.Fault fault) (ends.Fault other) run h same = absurd (no_fault e fault h)
  ends_so e m (end.Problem model g) (ends.Table pending) run h same = absurd same
  ends_so e m (end.Problem model g) (ends.Fault other) run h same = absurd same
  ends_so e m (end.Table model p) (ends.Problem problem rest) run h same = absurd same
  ends_so e m (end.Table model p) (ends.Fault other) run h same = absurd same
  ends_so e m (end.Fault fault) (ends.Problem problem rest) run h same = absurd same
  ends_so e m (end.Fault fault) (ends.Table pending) run h same = absurd same

  fails_so : (f : ModelFault) (m : Made) (x : End) (y : ReadingEnd) → executing text files tables ≡ ran (Err (f, m)) → IsEnd (Err f) x → IsSameEnd x y → IsReadingEnd text files tables y
  fails_so f m (end.Problem model g) (ends.Problem problem rest) run h same = absurd h
  fails_so f m (end.Table model p) (ends.Table pending) run h same = absurd (no_end (at model (stopped.AtTable p)) f h)
  fails_so f m (end.Fault fault) (ends.Fault other) run h same = ap ending_by run ∙ ap (λ (g : ModelFault). Fails (Model g)) (fault_is f fault h ∙ sym same)
  fails_so f m (end.Problem model g) (ends.Table pending) run h same = absurd same
  fails_so f m (end.Problem model g) (ends.Fault other) run h same = absurd same
  fails_so f m (end.Table model p) (ends.Problem problem rest) run h same = absurd same
  fails_so f m (end.Table model p) (ends.Fault other) run h same = absurd same
  fails_so f m (end.Fault fault) (ends.Problem problem rest) run h same = absurd same
  fails_so f m (end.Fault fault) (ends.Table pending) run h same = absurd same

  -- ---- what a reading tells, where these files were made before its execution

  tells : (before : List File) (m : Made) (r : Reading) (whole : Executing) → executing text files tables ≡ ran whole → state_of whole ≡ made_behind before m
      → string_bytes r.printed ≡ m.printed → files_of r.files.items ≡ m.files → making text files tables ≡ Some (record { printed = string_bytes r.printed; files = before ++ files_of r.files.items })
  tells before m r whole run state printed made = ap made_by run ∙ ap some_made (state ∙ told)
    where
      told : made_behind before m ≡ record { printed = string_bytes r.printed; files = before ++ files_of r.files.items }
      told = rw (printed, made) refl

  pub reads : (before : List File) (run : Executing) (r : Reading) → executing text files tables ≡ ran (behind_files before run) → IsReadingOf run r → IsReading before text files tables r
  reads before (Ok e) r run h = record {
    made = tells before e.1 r (behind_files before (Ok e)) run refl h.printed h.files;
    end = ends_so e.0 (made_behind before e.1) h.execution r.end run h.is h.end;
  }
  reads before (Err f) r run h = record {
    made = tells before f.1 r (behind_files before (Err f)) run refl h.printed h.files;
    end = fails_so f.0 (made_behind before f.1) h.execution r.end run h.is h.end;
  }

-- ---- the first reading

nothing_before : (run : Executing) → run ≡ behind_files [] run
nothing_before (Ok e) = refl
nothing_before (Err f) = refl

pub is_reading : (text : List ℕ) (files : List (List ℕ)) (model : LoadedModel) (r : Reading) → loaded_model text files ≡ Ok model → IsReadingOf (execution model) r → IsReading [] text files [] r
unfolding executing
is_reading text files model r is h = reads text files [] [] (execution model) r (ap (executing_model []) is ∙ ap ran (nothing_before (execution model))) h

pub is_unreadable : (text : List ℕ) (files : List (List ℕ)) (error : ReadError MathProgFault) → IsNotLoaded (loaded_model text files) error → IsUnreadable text files error
unfolding executing
is_unreadable text files (Fault fault) h = λ tables. ap (executing_model tables) h
is_unreadable text files NoMemory h = tt

-- ---- behind a table

abbrev ends_with : LoadedModel → Draft → Made → Executing
ends_with model d m = Ok (at model (stopped.AtEnd d), m)

abbrev at_pause : LoadedModel → Pause → Made → Executing
at_pause model p m = Ok (at model (stopped.AtTable p), m)

abbrev at_fault : ModelFault → Made → Executing
at_fault f m = Err (f, m)

abbrev executed : Execution → Made → Executing
executed e m = Ok (e, m)

abbrev ran_so : Execution × Made → Executing
ran_so x = Ok x

same_pair : (x y : Execution × Made) → ran_so x ≡ ran_so y → x ≡ y
same_pair x y same = cc

same_execution : (e f : Execution) (a b : Made) → executed e a ≡ executed f b → e ≡ f
same_execution e f a b same = ap (λ (x : Execution × Made). x.0) (same_pair (e, a) (f, b) same)

same_made : (e f : Execution) (a b : Made) → executed e a ≡ executed f b → a ≡ b
same_made e f a b same = ap (λ (x : Execution × Made). x.1) (same_pair (e, a) (f, b) same)

not_over : (x y : LoadedModel) (d : Draft) (p : Pause) (m n : Made) → ends_with x d m ≡ at_pause y p n → ⊥
not_over x y d p m n same = other (ap (λ (e : Execution). e.stopped) (same_execution (at x (stopped.AtEnd d)) (at y (stopped.AtTable p)) m n same))
  where
    other : stopped.AtEnd d ≡ stopped.AtTable p → ⊥
    other same = cc

not_failed : (f : ModelFault) (y : LoadedModel) (p : Pause) (m n : Made) → at_fault f m ≡ at_pause y p n → ⊥
not_failed f y p m n same = cc

twice : (before more : List File) (run : Executing) → behind_files before (behind_files more run) ≡ behind_files (before ++ more) run
twice before more (Ok e) = ap (λ files. executed e.0 (record { printed = e.1.printed; files = files })) (sym (append_assoc before more e.1.files))
twice before more (Err f) = ap (λ files. at_fault f.0 (record { printed = f.1.printed; files = files })) (sym (append_assoc before more f.1.files))

-- the execution with one more text goes on where that with the others pauses
abbrev GoesOn : List (List ℕ) → List ℕ → Type 0
GoesOn texts text =
    (run : Executing) (model : LoadedModel) (p : Pause) (m : Made) → with_texts run texts ≡ at_pause model p m
    → with_texts run (texts ++ text ∷ []) ≡ behind_files m.files (resumed model p m.printed text)

module _ (texts : List (List ℕ)) (text : List ℕ) (goes_on : GoesOn texts text) (model : LoadedModel) (p : Pause) (m : Made) where
  behind_run : (n : Made) (run w : Executing) → with_texts run texts ≡ w → behind_files n.files w ≡ at_pause model p m
      → behind_files n.files (with_texts run (texts ++ text ∷ [])) ≡ behind_files m.files (resumed model p m.printed text)
  behind_run n run (Err f) w_is is = absurd (not_failed f.0 model p (made_behind n.files f.1) m is)
  behind_run n run (Ok e) w_is is =
      let here : e.0 ≡ at model (stopped.AtTable p) = same_execution e.0 (at model (stopped.AtTable p)) (made_behind n.files e.1) m is in
      let made : made_behind n.files e.1 ≡ m = same_made e.0 (at model (stopped.AtTable p)) (made_behind n.files e.1) m is in
      ap (behind_files n.files) (goes_on run model p e.1 (w_is ∙ ap (λ (f : Execution). executed f e.1) here))
      ∙ twice n.files e.1.files (resumed model p e.1.printed text)
      ∙ ap (λ (a : Made). behind_files a.files (resumed model p a.printed text)) made

  behind_stop : (t : List ℕ) (x : LoadedModel) (n : Made) (s : Stopped) → next_by (at x s) n s t (λ more. with_texts more texts) ≡ at_pause model p m
      → next_by (at x s) n s t (λ more. with_texts more (texts ++ text ∷ [])) ≡ behind_files m.files (resumed model p m.printed text)
  behind_stop t x n (stopped.AtEnd d) is = absurd (not_over x model d p n m is)
  behind_stop t x n (stopped.AtTable q) is = behind_run n (resumed x q n.printed t) (with_texts (resumed x q n.printed t) texts) refl is

goes_on_behind : (t : List ℕ) (texts : List (List ℕ)) (text : List ℕ) → GoesOn texts text → GoesOn (t ∷ texts) text
goes_on_behind t texts text goes_on (Ok e) model p m is = behind_stop texts text goes_on model p m t e.0.model e.1 e.0.stopped is
goes_on_behind t texts text goes_on (Err f) model p m is = absurd (not_failed f.0 model p f.1 m is)

one_more : (texts : List (List ℕ)) (text : List ℕ) → GoesOn texts text
one_more [] text run model p m is = ap (λ (w : Executing). next w text (λ more. more)) is
one_more (t ∷ ts) text run model p m is = goes_on_behind t ts text (one_more ts text) run model p m is

made_is : (a b : Made) → some_made a ≡ some_made b → a ≡ b
made_is a b same = cc

-- a reading with one more text
pub reads_on : (pending : Pending) (printed table_text : List ℕ) (r : Reading) → IsReadingOf (resumed pending.model pending.pause printed table_text) r
    → (text : List ℕ) (files tables : List (List ℕ)) (before : List File) → making text files tables ≡ Some (record { printed = printed; files = before })
    → IsPending text files tables pending → IsReading before text files (tables ++ table_text ∷ []) r
unfolding executing
reads_on pending printed table_text r h text files tables before making_is is = by (loaded_model text files) refl
  where
    made : is.made ≡ record { printed = printed; files = before }
    made = made_is is.made (record { printed = printed; files = before }) (sym (ap made_by is.is) ∙ making_is)

    by : (l : Result LoadedModel MathProgFault) → loaded_model text files ≡ l → IsReading before text files (tables ++ table_text ∷ []) r
    by (Err fault) l = absurd (clash (sym (ap (executing_model tables) l) ∙ is.is))
      where
        clash : not_run fault ≡ ran (Ok (at pending.model (stopped.AtTable pending.pause), is.made)) → ⊥
        clash same = cc
    by (Ok model) l = reads text files (tables ++ table_text ∷ []) before (resumed pending.model pending.pause printed table_text) r (ap (executing_model (tables ++ table_text ∷ [])) l ∙ ap ran (goes ∙ made_so)) h
      where
        paused_so : with_texts (execution model) tables ≡ at_pause pending.model pending.pause is.made
        paused_so = same_run (with_texts (execution model) tables) (at_pause pending.model pending.pause is.made) (sym (ap (executing_model tables) l) ∙ is.is)

        goes : with_texts (execution model) (tables ++ table_text ∷ []) ≡ behind_files is.made.files (resumed pending.model pending.pause is.made.printed table_text)
        goes = one_more tables table_text (execution model) pending.model pending.pause is.made paused_so

        made_so : behind_files is.made.files (resumed pending.model pending.pause is.made.printed table_text) ≡ behind_files before (resumed pending.model pending.pause printed table_text)
        made_so = ap (λ (a : Made). behind_files a.files (resumed pending.model pending.pause a.printed table_text)) made

-- ---- the tables that are left

pub fewer_left : (pending : Pending) (printed table_text : List ℕ) (r : Reading) → IsReadingOf (resumed pending.model pending.pause printed table_text) r → HasFewerLeft (tables_left pending) r.end
fewer_left pending printed table_text r h = by h.execution r.end (fewer pending.model pending.pause printed table_text h.execution h.is) h.end
  where
    by : (x : End) (y : ReadingEnd) → has_fewer_left (tables_left pending) x → IsSameEnd x y → HasFewerLeft (tables_left pending) y
    by x (ends.Problem problem rest) left same = tt
    by x (ends.Fault fault) left same = tt
    by (end.Table model p) (ends.Table other) left same = subst (λ (q : Pending). tables_left q < tables_left pending) (sym same) left
    by (end.Problem model g) (ends.Table other) left same = absurd same
    by (end.Fault fault) (ends.Table other) left same = absurd same

-- ---- behind `solve`

same_problem : (p q : Problem) → Declares p ≡ Declares q → p ≡ q
same_problem p q same = cc

is_after : (text : List ℕ) (files tables : List (List ℕ)) (rest : Rest) (p : Problem) (rows : List Row) (x : List Rational) (duals : Duals) (answer : Made × Option ModelFault)
    → ((d : Draft) → rest.columns.items ≡ column_members d → rest.rows.items ≡ row_members d → rows ≡ (problem_of d).rows → after_by rest.model d x duals ≡ answer)
    → ending text files tables ≡ Declares p → IsRest text files tables rest → p.rows ≡ rows → afterwards text files tables x duals ≡ Some answer
is_after text files tables rest p rows x duals answer law ends is same =
    ap (after_execution x duals) is.is ∙ ap Some (law is.draft is.columns is.rows (sym same ∙ ap (λ (q : Problem). q.rows) (same_problem p (problem_of is.draft) (sym ends ∙ ap ending_by is.is))))

-- where the columns and rows are lent
pub is_answer : {E : Type 0} (rest : Rest) (rows : List Row) (x : List Rational) (duals : Duals) (columns : List ColumnMember) (lines : List Member) → columns ≡ rest.columns.items → lines ≡ rest.rows.items
    → (result : Result Afterwards E)
    → IfOk result (λ a. (d : Draft) → columns ≡ column_members d → lines ≡ row_members d → rows ≡ (problem_of d).rows → after_by rest.model d x duals ≡ (made_after a, a.fault))
    → IfOk result (λ a. (text : List ℕ) (files tables : List (List ℕ)) (p : Problem) → ending text files tables ≡ Declares p → IsRest text files tables rest → p.rows ≡ rows → afterwards text files tables x duals ≡ Some (made_after a, a.fault))
is_answer rest rows x duals columns lines cs ls (Ok a) law =
    λ text files tables p ends is same. is_after text files tables rest p rows x duals (made_after a, a.fault) (λ d f g. law d (cs ∙ f) (ls ∙ g)) ends is same
is_answer rest rows x duals columns lines cs ls (Err e) law = tt
