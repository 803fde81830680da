-- What a name means (GNU MathProg Language Reference, chapter on names of model objects and section on indexing expressions).
use Rattle.std.specs.Prelude.{ℕ, if◌then◌else◌, List, [], Option, Some, None, Result, Ok, Err}
use Rattle.gmpl_syntax.specs.declared.fault.SyntaxFaultKind.{SyntaxFaultKind}
use Rattle.gmpl_syntax.specs.declared.fault.SyntaxFaultKind.TheVariants.{Undeclared, Declared, Unsupported}
use Rattle.gmpl_syntax.specs.declared.expression.Suffix.{Suffix}
use Rattle.gmpl_resolved.specs.declared.expression.Meaning.{Meaning}
use Rattle.gmpl_resolved.specs.declared.expression.Meaning.TheVariants as m
use Rattle.gmpl_resolved.specs.declared.expression.Expr.{Expr as Resolved}
use Rattle.gmpl_resolved.specs.declared.expression.Expr.TheVariants as e
use Rattle.gmpl_resolved.specs.declared.expression.Component.{Component as ResolvedComponent}
use Rattle.gmpl_resolved.specs.declared.expression.Component.TheVariants as c
use Rattle.gmpl_names.specs.Names.{Name, place_of, has, with_name}
use Rattle.gmpl_names.specs.Supported.{supports_suffix}

abbrev pub Or_fault : Type 0 → Type 0
Or_fault A = Result A SyntaxFaultKind

-- an index hides no object, since a new index has a name that meant nothing
abbrev pub meaning_by : Option ℕ → Option ℕ → Option Meaning
meaning_by (Some place) object = Some (m.Index place)
meaning_by None (Some place) = Some (m.Object place)
meaning_by None None = None

abbrev pub meaning : List Name → List Name → Name → Option Meaning
meaning objects scope name = meaning_by (place_of name scope) (place_of name objects)

abbrev pub used_by : Option Meaning → Or_fault Meaning
used_by None = Err Undeclared
used_by (Some meaning) = Ok meaning

-- a name outside an index
abbrev pub used : List Name → List Name → Name → Or_fault Meaning
used objects scope name = used_by (meaning objects scope name)

-- a name behind its subscripts, then its suffix
abbrev pub named_by : Or_fault Meaning → List Resolved → Option Suffix → Or_fault Resolved
named_by (Ok meaning) subscripts suffix = if supports_suffix suffix then Ok (e.Named meaning subscripts suffix) else Err Unsupported
named_by (Err fault) subscripts suffix = Err fault

-- ---- a name alone as a component of an index, behind the new indices of the entry

abbrev pub new_index : Name → List Name → Or_fault (ResolvedComponent × List Name)
new_index name found = if has name found then Err Declared else Ok (c.New, with_name found name)

abbrev pub lone_by : Option Meaning → Name → List Name → Or_fault (ResolvedComponent × List Name)
lone_by None name found = new_index name found
lone_by (Some meaning) name found = Ok (c.Value (e.Named meaning [] None), found)

-- it is a new index where it means nothing, once; any other is what the element's component must equal
abbrev pub lone : List Name → List Name → Name → List Name → Or_fault (ResolvedComponent × List Name)
lone objects scope name found = lone_by (meaning objects scope name) name found
