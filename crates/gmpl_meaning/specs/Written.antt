-- The sets that stand in a declaration: of the entries of its domain, and behind its restrictions.
use Rattle.std.specs.Prelude.{ℕ, Option, Some, None, List, [], slice_get}
use Rattle.gmpl_resolved.specs.declared.expression.Expr.{Expr}
use Rattle.gmpl_resolved.specs.declared.expression.Entry.{Entry}
use Rattle.gmpl_resolved.specs.declared.expression.Indexing.{Indexing}
use Rattle.gmpl_resolved.specs.declared.expression.Component.TheViews.{out-Entry, out-Indexing}
use Rattle.gmpl_resolved.specs.declared.statement.Attribute.{Attribute}
use Rattle.gmpl_resolved.specs.declared.statement.Attribute.TheVariants as attribute
use Rattle.gmpl_resolved.specs.declared.statement.Numbered.{Numbered}
use Rattle.gmpl_resolved.specs.declared.statement.Statement.{Statement}
use Rattle.gmpl_resolved.specs.declared.statement.Statement.TheVariants as statement

abbrev pub domain_entries : Option Indexing → List Entry
domain_entries None = []
domain_entries (Some domain) = (out-Indexing domain).entries

-- of a set, a parameter or a variable
abbrev pub entries_of : Statement → List Entry
entries_of (statement.Set d) = domain_entries d.head.domain
entries_of (statement.Param d) = domain_entries d.head.domain
entries_of (statement.Var d) = domain_entries d.head.domain
entries_of _ = []

abbrev pub attributes_of : Statement → List Attribute
attributes_of (statement.Set d) = d.attributes
attributes_of (statement.Param d) = d.attributes
attributes_of (statement.Var d) = d.attributes
attributes_of _ = []

abbrev pub set_of_entry : Option Entry → Option Expr
set_of_entry None = None
set_of_entry (Some entry) = Some (out-Entry entry).set

abbrev pub restricted_to : Option Attribute → Option Expr
restricted_to (Some (attribute.Restriction relation x)) = Some x
restricted_to _ = None

abbrev pub entry_set : Option Numbered → ℕ → Option Expr
entry_set None number = None
entry_set (Some x) number = set_of_entry (slice_get (entries_of x.statement) number)

abbrev pub restriction : Option Numbered → ℕ → Option Expr
restriction None number = None
restriction (Some x) number = restricted_to (slice_get (attributes_of x.statement) number)
