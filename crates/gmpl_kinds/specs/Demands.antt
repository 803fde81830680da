-- Kinds and dimensions, and what a place asks of its part (GNU MathProg Language Reference, chapter on expressions).
use Rattle.std.specs.Prelude.{ℕ, ◌+◌, ◌==◌, Bool, true, false, nat_lt, if◌then◌else◌, Option, Some, None, Result, Ok, Err}
use Rattle.gmpl_syntax.specs.declared.expression.Operator.{Operator}
use Rattle.gmpl_syntax.specs.declared.expression.Operator.TheVariants as o
use Rattle.gmpl_syntax.specs.declared.expression.Iteration.{Iteration}
use Rattle.gmpl_syntax.specs.declared.expression.Iteration.TheVariants as i
use Rattle.gmpl_syntax.specs.declared.expression.Relation.{Relation}
use Rattle.gmpl_syntax.specs.declared.expression.Relation.TheVariants as r
use Rattle.gmpl_syntax.specs.declared.fault.SyntaxFaultKind.{SyntaxFaultKind}
use Rattle.gmpl_syntax.specs.declared.fault.SyntaxFaultKind.TheVariants.{WrongKind, WrongDimension}
use Rattle.gmpl_kinds.specs.declared.shape.Shape.{Shape}
use Rattle.gmpl_kinds.specs.declared.shape.Shape.TheVariants.{Scalar, Logic, SetOf, Tuple}
use Rattle.gmpl_kinds.specs.declared.shape.Gathered.{Gathered}
use Rattle.gmpl_kinds.specs.declared.shape.Gathered.TheVariants.{Nothing, Elements, Dimensions}

abbrev pub Or_fault : Type 0 → Type 0
Or_fault A = Result A SyntaxFaultKind

-- what an expression is, or its first fault
abbrev pub Judged : Type 0
Judged = Or_fault Shape

abbrev pub and_then : {A B : Type 0} → Or_fault A → (A → Or_fault B) → Or_fault B
and_then (Ok a) f = f a
and_then (Err fault) f = Err fault

-- ---- dimensions

abbrev pub most : ℕ
most = 20

abbrev pub within_most : ℕ → Or_fault ℕ
within_most n = if nat_lt most n then Err WrongDimension else Ok n

abbrev pub add_dimensions : ℕ → ℕ → Or_fault ℕ
add_dimensions a b = within_most (a + b)

-- the dimension that two sets have in common
abbrev pub same_dimension : Option ℕ → Option ℕ → Or_fault (Option ℕ)
same_dimension None b = Ok b
same_dimension (Some a) None = Ok (Some a)
same_dimension (Some a) (Some b) = if a == b then Ok (Some a) else Err WrongDimension

abbrev pub crossed : Option ℕ → Option ℕ → Or_fault (Option ℕ)
crossed None b = Ok None
crossed (Some a) None = Ok None
crossed (Some a) (Some b) = and_then (add_dimensions a b) (λ n. Ok (Some n))

-- ---- what a place asks of its part. The fault stands at the part, so it comes before those of later parts.

abbrev pub as_scalar : Shape → Judged
as_scalar Scalar = Ok Scalar
as_scalar _ = Err WrongKind

abbrev pub as_logic : Shape → Judged
as_logic Scalar = Ok Logic
as_logic Logic = Ok Logic
as_logic _ = Err WrongKind

-- the set's dimension
abbrev pub as_set : Shape → Or_fault (Option ℕ)
as_set (SetOf n) = Ok n
as_set _ = Err WrongKind

-- the dimension of an element
abbrev pub as_element : Shape → Or_fault ℕ
as_element Scalar = Ok 1
as_element (Tuple n) = Ok n
as_element _ = Err WrongKind

-- a number, a symbol or a set
abbrev pub as_branch : Shape → Judged
as_branch Scalar = Ok Scalar
as_branch (SetOf n) = Ok (SetOf n)
as_branch _ = Err WrongKind

-- both branches of an `if`
abbrev pub same_branch : Shape → Shape → Judged
same_branch Scalar Scalar = Ok Scalar
same_branch (SetOf a) (SetOf b) = and_then (same_dimension a b) (λ n. Ok (SetOf n))
same_branch _ _ = Err WrongKind

abbrev pub set_of : Or_fault (Option ℕ) → Judged
set_of n = and_then n (λ n. Ok (SetOf n))

-- ---- chains, from the left

-- what an operator asks of each part
abbrev pub part_of : Operator → Shape → Judged
part_of o.Or = as_logic
part_of o.And = as_logic
part_of o.Union = λ s. set_of (as_set s)
part_of o.Diff = λ s. set_of (as_set s)
part_of o.Symdiff = λ s. set_of (as_set s)
part_of o.Inter = λ s. set_of (as_set s)
part_of o.Cross = λ s. set_of (as_set s)
part_of _ = as_scalar

abbrev pub is_cross : Operator → Bool
is_cross o.Cross = true
is_cross _ = false

-- and of two together
abbrev pub joined : Operator → Shape → Shape → Judged
joined operator (SetOf a) (SetOf b) = if is_cross operator then set_of (crossed a b) else set_of (same_dimension a b)
joined operator a b = Ok b

-- ---- iterated operators and relations

abbrev pub set_of_dimension : Or_fault ℕ → Judged
set_of_dimension n = and_then n (λ n. Ok (SetOf (Some n)))

abbrev pub iterated_by : Iteration → Shape → Judged
iterated_by i.Setof s = set_of_dimension (as_element s)
iterated_by i.Forall s = as_logic s
iterated_by i.Exists s = as_logic s
iterated_by _ s = as_scalar s

-- the left side of a relation; an element is as wide as the sets that may hold it
abbrev pub left_of : Relation → Shape → Judged
left_of r.In s = set_of_dimension (as_element s)
left_of r.NotIn s = set_of_dimension (as_element s)
left_of r.Within s = set_of (as_set s)
left_of r.NotWithin s = set_of (as_set s)
left_of _ s = as_scalar s

abbrev pub right_of : Relation → Shape → Judged
right_of r.In s = set_of (as_set s)
right_of r.NotIn s = set_of (as_set s)
right_of r.Within s = set_of (as_set s)
right_of r.NotWithin s = set_of (as_set s)
right_of _ s = as_scalar s

abbrev pub related : Shape → Shape → Judged
related (SetOf n) (SetOf m) = and_then (same_dimension n m) (λ _. Ok Logic)
related a b = Ok Logic

-- ---- braces

-- a set of any dimension counts 1
abbrev pub or_one : Option ℕ → ℕ
or_one None = 1
or_one (Some n) = n

-- parts without index: the first tells what the braces hold
abbrev pub gathered : Gathered → Shape → Or_fault Gathered
gathered Nothing (SetOf n) = and_then (within_most (or_one n)) (λ n. Ok (Dimensions n))
gathered Nothing s = and_then (as_element s) (λ n. Ok (Elements n))
gathered (Elements n) s = and_then (as_element s) (λ m. and_then (same_dimension (Some n) (Some m)) (λ _. Ok (Elements n)))
gathered (Dimensions n) s = and_then (as_set s) (λ m. and_then (add_dimensions n (or_one m)) (λ n. Ok (Dimensions n)))

abbrev pub gathered_shape : Gathered → Shape
gathered_shape Nothing = SetOf None
gathered_shape (Elements n) = SetOf (Some n)
gathered_shape (Dimensions n) = SetOf (Some n)
