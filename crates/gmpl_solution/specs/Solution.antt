-- What the members of a model come to at a point of its problem (GNU MathProg Language Reference, section on the values of variables
-- and constraints behind `solve`).
use Rattle.std.specs.Prelude.{ℕ, Bool, List, [], Option, Some, None}
use Rattle.std.specs.Map.{lookup}
use Rattle.indexmap.specs.IndexMap.{insert_entry}
use Rattle.rational.specs.Rational.{Rational, zero_ℚ}
use Rattle.gmpl_value.specs.declared.symbol.Symbol.{Symbol}
use Rattle.gmpl_solution.specs.declared.dual.Dual.{Dual}
use Rattle.gmpl_solution.specs.declared.member.Member.{Member}
use Rattle.gmpl_solution.specs.declared.solution.SolvedMember.{SolvedMember}
use Rattle.gmpl_solution.specs.contracts.member.MemberPartialEq.TheImpl as impl

-- the same statement, and equal subscripts
abbrev pub member_eq : Member → Member → Bool
member_eq = (impl.ghosts).eq

abbrev pub member : ℕ → List Symbol → Member
member place subscripts = record { statement = place; subscripts = subscripts }

-- the dual values of a problem's columns, and of its rows, in their order, and that of a variable's member that is no column
pub record Duals : Type 0 where
  pub columns : List Dual
  pub rows : List Dual
  pub elsewhere : Dual

-- what the columns' members, and the rows' members, come to, and the dual value of a variable's member that is no column
pub record Solution : Type 0 where
  pub columns : List (Member × SolvedMember)
  pub rows : List (Member × SolvedMember)
  pub elsewhere : Dual

abbrev pub nothing : Dual → Solution
nothing elsewhere = record { columns = []; rows = []; elsewhere = elsewhere }

-- what a variable's member comes to, where it is a column
abbrev pub column_of : Solution → Member → Option SolvedMember
column_of s m = lookup (member_eq m) s.columns

abbrev pub number_in : Option SolvedMember → Rational
number_in None = zero_ℚ
number_in (Some column) = column.value

-- the number of a variable's member: 0 where it is no column
abbrev pub value_of : Solution → Member → Rational
value_of s m = number_in (column_of s m)

abbrev pub dual_in : Dual → Option SolvedMember → Dual
dual_in elsewhere None = elsewhere
dual_in elsewhere (Some column) = column.dual

-- the dual value of a variable's member
abbrev pub dual_of : Solution → Member → Dual
dual_of s m = dual_in s.elsewhere (column_of s m)

-- what the member of a constraint or of an objective comes to, where it has a row
abbrev pub row_of : Solution → Member → Option SolvedMember
row_of s m = lookup (member_eq m) s.rows

abbrev pub with_column : Solution → Member → SolvedMember → Solution
with_column s m column = record s { columns = insert_entry member_eq s.columns m column }

abbrev pub with_row : Solution → Member → SolvedMember → Solution
with_row s m row = record s { rows = insert_entry member_eq s.rows m row }
