-- What a row has of the terms that it was made of.
use Rattle.std.specs.Prelude.{ℕ, ◌≡◌, ◌≤◌, ◌==◌, ◌&&◌, not, Bool, cond, List, [], ◌∷◌, length, get_or, Option, Some, None}
use Rattle.std.specs.List.{AllByRecursion}
use Rattle.rational.specs.Rational.{Rational}
use Rattle.rational.specs.Compare.{is_zero}
use Rattle.gmpl_value.specs.SymbolEquality.{tuple_eq}
use Rattle.gmpl_value.specs.declared.symbol.Symbol.{Symbol}
use Rattle.gmpl_rows.specs.MemberColumn.{MemberColumn}
use Rattle.gmpl_rows.specs.Demanded.{Demanded, none_demanded}
use Rattle.gmpl_rows.specs.Draft.{Draft}
use Rattle.gmpl_rows.specs.Problem.{cell_in}
use Rattle.gmpl_rows.specs.declared.member_column.Cell.{Cell}
use Rattle.gmpl_rows.specs.declared.term.Term.{Term}

-- a term of member m of statement s
abbrev pub is_of : ℕ → List Symbol → Term → Bool
is_of s m t = t.variable.statement == s && tuple_eq m t.variable.subscripts

-- the first coefficient other than 0 of the member's terms; a form has one term a member
abbrev pub coefficient_in : ℕ → List Symbol → List Term → Option Rational
coefficient_in s m [] = None
coefficient_in s m (t ∷ ts) = cond (is_of s m t && not (is_zero t.coefficient)) (Some t.coefficient) (coefficient_in s m ts)

-- the coefficients of a member, by row
abbrev pub cells_among : List Symbol → List (List Symbol) → List MemberColumn → List Cell
cells_among m (x ∷ ms) (k ∷ ks) = cond (tuple_eq m x) k.cells (cells_among m ms ks)
cells_among m _ _ = []

-- the coefficient in row i of member m of statement s
abbrev pub coefficient_at : ℕ → ℕ → List Symbol → List Demanded → Option Rational
coefficient_at i s m ds = cell_in i (cells_among m (get_or ds s none_demanded).members (get_or ds s none_demanded).columns)

abbrev pub IsAligned : Demanded → Type 0
IsAligned d = length d.columns ≡ length d.members

-- what holds of each draft: a column for each member, and no coefficient in a row that isn't there
pub record IsDraft (d : Draft) : Type 0 where
  pub aligned : AllByRecursion IsAligned d.variables
  pub earlier : (i s : ℕ) (m : List Symbol) → length d.rows ≤ i → coefficient_at i s m d.variables ≡ None
