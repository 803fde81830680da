-- The names of what the declarations of a model declare, one object each.
use Rattle.std.specs.Prelude.{ℕ, List, map}
use Rattle.gmpl_resolved.specs.declared.statement.Head.{Head}
use Rattle.gmpl_resolved.specs.declared.statement.Statement.{Statement}
use Rattle.gmpl_resolved.specs.declared.statement.Statement.TheVariants as s
use Rattle.gmpl_resolved.specs.declared.statement.Numbered.{Numbered}

-- what it declares: a name, with a domain or none
abbrev pub head_of : Statement → Head
head_of (s.Set declaration) = declaration.head
head_of (s.Param declaration) = declaration.head
head_of (s.Var declaration) = declaration.head
head_of (s.Constraint constraint) = constraint.head
head_of (s.Objective objective) = objective.head

-- the name of the object that a statement declares
abbrev pub object_name : Numbered → List ℕ
object_name statement = (head_of statement.statement).name

-- in the order of the statements
abbrev pub names_of : List Numbered → List (List ℕ)
names_of statements = map object_name statements
