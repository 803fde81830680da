-- What holds of the names in the heads of statements, as far as statements declare.
use Rattle.std.proofs.Common.{ℕ, List, [], ◌∷◌}
use Rattle.gmpl_syntax.specs.declared.statement.Statement.{Statement}
use Rattle.gmpl_syntax.specs.declared.statement.Statement.TheVariants as s
use Rattle.gmpl_syntax.specs.declared.statement.Numbered.{Numbered}

module _ (P : List ℕ → Type 0) where
  -- the name of its head where it declares an object, and what is said of what stands behind it
  abbrev pub HeadThen : Statement → Type 0 → Type 0
  HeadThen (s.Set declaration) behind = P declaration.head.name × behind
  HeadThen (s.Param declaration) behind = P declaration.head.name × behind
  HeadThen (s.Var declaration) behind = P declaration.head.name × behind
  HeadThen (s.Constraint constraint) behind = P constraint.head.name × behind
  HeadThen (s.Objective objective) behind = P objective.head.name × behind
  HeadThen _ behind = behind

  abbrev pub HeadsThen : List Numbered → Type 0 → Type 0
  HeadsThen [] behind = behind
  HeadsThen (x ∷ xs) behind = HeadThen x.statement (HeadsThen xs behind)

  pub head_then : (x : Statement) (A B : Type 0) → (A → B) → HeadThen x A → HeadThen x B
  head_then (s.Set declaration) A B f h = (h.0, f h.1)
  head_then (s.Param declaration) A B f h = (h.0, f h.1)
  head_then (s.Var declaration) A B f h = (h.0, f h.1)
  head_then (s.Constraint constraint) A B f h = (h.0, f h.1)
  head_then (s.Objective objective) A B f h = (h.0, f h.1)
  head_then _ A B f h = f h
