-- What the statements of a model have made so far.
use Rattle.std.specs.Prelude.{◌-◌, ◌&&◌, not, Bool, List, map, [], ◌∷◌, ◌++◌, length, cond, nat_lt, Result, Ok, Err, Option, Some, None}
use Rattle.std.specs.List.{list_any}
use Rattle.rational.specs.Rational.{Rational}
use Rattle.milp.specs.declared.Direction.{Direction}
use Rattle.gmpl_solution.specs.declared.member.Member.{Member}
use Rattle.gmpl_solution.specs.Solution.{member_eq}
use Rattle.gmpl_rows.specs.Demanded.{Demanded, all_none, note_all}
use Rattle.gmpl_rows.specs.declared.declared.Declared.{Declared}
use Rattle.gmpl_rows.specs.Follows.{then_do}
use Rattle.gmpl_rows.specs.declared.draft.ObjectiveRow.{ObjectiveRow}
use Rattle.gmpl_rows.specs.declared.draft.RowHead.{RowHead}
use Rattle.gmpl_rows.specs.declared.term.Term.{Term}
use Rattle.gmpl_rows.specs.declared.fault.DraftFault.{DraftFault}
use Rattle.gmpl_rows.specs.declared.fault.DraftFault.TheVariants.{TooMany}

-- what each statement declares; the rows but for their entries; for each statement the members of its variable that were
-- demanded, with their coefficients; which row is the objective's
pub record Draft : Type 0 where
  pub objects : List Declared
  pub rows : List RowHead
  pub variables : List Demanded
  pub objective : Option ObjectiveRow

abbrev pub no_rows : List Declared → Draft
no_rows objects = record { objects = objects; rows = []; variables = all_none (length objects); objective = None }

abbrev pub row_member : RowHead → Member
row_member h = record { statement = h.statement; subscripts = h.subscripts }

-- a row comes from this member
abbrev pub is_row : Member → List RowHead → Bool
is_row m hs = list_any (member_eq m) (map row_member hs)

-- TooMany at the row, entry or column that would pass a limit
abbrev pub with_new_row : RowHead → List Term → Draft → Result Draft DraftFault
with_new_row head terms d =
    cond (nat_lt (length d.rows) 1000000)
    (then_do (λ vs. Ok (record d { rows = d.rows ++ head ∷ []; variables = vs })) (note_all (length d.rows) terms d.variables))
    (Err TooMany)

-- a member of a statement that is there, and no row yet
abbrev pub is_new : RowHead → Draft → Bool
is_new head d = nat_lt head.statement (length d.objects) && not (is_row (row_member head) d.rows)

-- one more row, where it is a new one
abbrev pub with_row : RowHead → List Term → Draft → Result Draft DraftFault
with_row head terms d = cond (is_new head d) (with_new_row head terms d) (Ok d)

abbrev pub first_of : Option ObjectiveRow → ObjectiveRow → ObjectiveRow
first_of (Some a) b = a
first_of None b = b

-- the last row is the objective's, where there is none before it
abbrev pub with_objective : Direction → Rational → Draft → Draft
with_objective direction constant d =
    record d { objective = Some (first_of d.objective (record { row = length d.rows - 1; direction = direction; constant = constant })) }
