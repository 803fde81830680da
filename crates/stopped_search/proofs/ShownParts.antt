-- What the board of a stopped search has shown, as something shown of the problem.
use Rattle.std.proofs.Common.{◌≡◌, ◌∙◌, [], ap, sym, subst}
use Rattle.std.specs.List.{AllByRecursion}
use Rattle.milp.specs.Problem.{Problem}
use Rattle.partial_certificate.specs.Partial.{Partial}
use Rattle.partial_certificate.specs.Columns.{IsOfColumns, IsBySplitsOfColumns}
use Rattle.partial_certificate.specs.Shown.{Passes}
use Rattle.search_tree.specs.Board.{Board}
use Rattle.tree_pool.specs.Shown.{shown_of}
use Rattle.branch_search.specs.WholeFaults.{without_objective}
use Rattle.stopped_search.specs.Stopped.{without_best}
use Rattle.stopped_search.proofs.OpenedAgain.{nodes_columns}
use Rattle.stopped_search.proofs.WithoutBest.{passes_without_best}

module _ (b : Board) (c : Partial) (is : c ≡ shown_of b) where
  none_derived : b.cuts ≡ [] → c.derived ≡ []
  none_derived cuts = ap (λ (k : Partial). k.derived) is ∙ cuts

  -- a best point was wanted
  pub best_passes : (p : Problem) → Passes b.problem c → b.problem ≡ p → Passes p c
  best_passes p h e = subst (λ (q : Problem). Passes q c) e h

  pub best_columns : AllByRecursion IsOfColumns c.tree → b.cuts ≡ [] → IsBySplitsOfColumns c
  best_columns nodes cuts = record { derived = none_derived cuts; nodes = nodes }

  -- any point was wanted
  pub any_passes : (p : Problem) (made : Partial) → made ≡ without_best c → Passes b.problem c → b.problem ≡ without_objective p → b.cuts ≡ [] → Passes p made
  any_passes p made same h e cuts = subst (Passes p) (sym same) (passes_without_best p c (none_derived cuts) (subst (λ (q : Problem). Passes q c) e h))

  pub any_columns : (made : Partial) → made ≡ without_best c → AllByRecursion IsOfColumns c.tree → b.cuts ≡ [] → IsBySplitsOfColumns made
  any_columns made same nodes cuts = subst IsBySplitsOfColumns (sym same) (record { derived = none_derived cuts; nodes = nodes_columns c.tree nodes })
