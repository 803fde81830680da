-- The objects that an expression names, and where they may stand (GNU MathProg Language Reference, chapter on expressions).
use Rattle.std.specs.Prelude.{ℕ, ◌==◌, Bool, true, false, not, if◌then◌else◌, List, slice_get, Option, Some, None, Ok, Err}
use Rattle.gmpl_syntax.specs.declared.fault.SyntaxFaultKind.TheVariants.{WrongKind, WrongDimension}
use Rattle.gmpl_resolved.specs.declared.expression.Meaning.{Meaning}
use Rattle.gmpl_resolved.specs.declared.expression.Meaning.TheVariants as m
use Rattle.gmpl_kinds.specs.declared.shape.Shape.{Shape}
use Rattle.gmpl_kinds.specs.declared.shape.Shape.TheVariants.{Scalar, SetOf}
use Rattle.gmpl_kinds.specs.declared.shape.Sort.{Sort}
use Rattle.gmpl_kinds.specs.declared.shape.Sort.TheVariants as sort
use Rattle.gmpl_kinds.specs.declared.shape.Object.{Object}
use Rattle.gmpl_kinds.specs.declared.shape.Position.{Position}
use Rattle.gmpl_kinds.specs.declared.shape.Position.TheVariants as position
use Rattle.gmpl_kinds.specs.declared.shape.Site.{Site}
use Rattle.gmpl_kinds.specs.Demands.{Judged}

-- a variable stands in a constraint or an objective, and with a suffix or without one behind `solve`
abbrev pub may_hold_variable : Position → Bool → Bool
may_hold_variable position.Constant has_suffix = false
may_hold_variable position.Linear has_suffix = not has_suffix
may_hold_variable position.Solved has_suffix = true

abbrev pub is_solved : Position → Bool
is_solved position.Solved = true
is_solved _ = false

-- a constraint or an objective stands behind `solve` alone; no suffix stands behind a set or a parameter
abbrev pub may_stand : Position → Sort → Bool → Bool
may_stand stands sort.Set has_suffix = not has_suffix
may_stand stands sort.Param has_suffix = not has_suffix
may_stand stands sort.Var has_suffix = may_hold_variable stands has_suffix
may_stand stands sort.Constraint has_suffix = is_solved stands
may_stand stands sort.Objective has_suffix = is_solved stands

abbrev pub shape_by : Sort → Option ℕ → Shape
shape_by sort.Set n = SetOf n
shape_by _ n = Scalar

-- an index takes no subscripts
abbrev pub index_shape : ℕ → Bool → Judged
index_shape count has_suffix = if has_suffix then Err WrongKind else if count == 0 then Ok Scalar else Err WrongDimension

abbrev pub object_shape : Position → Object → ℕ → Bool → Judged
object_shape stands object count has_suffix =
    if not (may_stand stands object.sort has_suffix) then Err WrongKind
    else if object.subscripts == count then Ok (shape_by object.sort object.elements)
    else Err WrongDimension

abbrev pub shape_at : Position → Option Object → ℕ → Bool → Judged
shape_at stands None count has_suffix = Err WrongKind
shape_at stands (Some object) count has_suffix = object_shape stands object count has_suffix

-- behind the objects that are declared already stands the statement's own
abbrev pub or_own : Option Object → Option Object → Option Object
or_own own None = own
or_own own (Some object) = Some object

abbrev pub object_at : List Object → Option Object → ℕ → Option Object
object_at objects own place = or_own own (slice_get objects place)

-- a name with so many subscripts
abbrev pub named : List Object → Site → Meaning → ℕ → Bool → Judged
named objects site (m.Index place) count has_suffix = index_shape count has_suffix
named objects site (m.Object place) count has_suffix = shape_at site.position (object_at objects site.own place) count has_suffix

-- ---- the name of an object alone, which means all of its members

abbrev pub whole_shape : Position → Option Object → Judged
whole_shape stands None = Err WrongKind
whole_shape stands (Some object) = if may_stand stands object.sort false then Ok (shape_by object.sort object.elements) else Err WrongKind

abbrev pub whole_object : List Object → Site → ℕ → Judged
whole_object objects site place = whole_shape site.position (object_at objects site.own place)
