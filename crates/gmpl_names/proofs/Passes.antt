-- A loop over parts from the left: one part more.
use Rattle.std.proofs.Common.{◌≡◌, ◌∙◌, ◌<◌, ◌+◌, ℕ, List, [], ◌∷◌, ◌++◌, length, map, drop, get_or, Ok, ap, sym}
use Rattle.std.proofs.lemmas.List.{at_drop_more}
use Rattle.gmpl_resolved.specs.declared.expression.Component.{Component}
use Rattle.gmpl_names.specs.Names.{Name}
use Rattle.gmpl_names.specs.Expressions.{IndexOutcome, IndexPass, Outcome, Pass, all_from, and_then, components_from, index_then}
use Rattle.gmpl_names.specs.Statements.{JudgedBoth, TablePass, both_then, in_turn_from}

module _ {X A : Type 0} (f : X → Pass A) (xs : List X) (i : ℕ) (x : X) where
  pub one_more : (whole : Outcome (List A)) (made behind : List A) (a : A) (scope after : List Name)
      → i < length xs → x ≡ get_or xs i x → f x scope ≡ Ok (a, after) → behind ≡ made ++ a ∷ []
      → whole ≡ all_from made (map f (drop i xs)) scope → whole ≡ all_from behind (map f (drop (i + 1) xs)) after
  one_more whole made behind a scope after within is found pushed so_far =
      so_far
      ∙ at_drop_more (λ ys. all_from made (map f ys) scope) xs i x within
      ∙ ap (λ y. and_then (f y scope) (λ b. all_from (made ++ b ∷ []) (map f (drop (i + 1) xs)))) (sym is)
      ∙ ap (λ o. and_then o (λ b. all_from (made ++ b ∷ []) (map f (drop (i + 1) xs)))) found
      ∙ ap (λ m. all_from m (map f (drop (i + 1) xs)) after) (sym pushed)

-- the same of the components of an index
module _ {X : Type 0} (f : X → IndexPass Component) (xs : List X) (i : ℕ) (x : X) where
  pub component_more : (whole : IndexOutcome (List Component)) (made behind : List Component) (a : Component) (new newer scope after : List Name)
      → i < length xs → x ≡ get_or xs i x → f x new scope ≡ Ok (a, (newer, after)) → behind ≡ made ++ a ∷ []
      → whole ≡ components_from made (map f (drop i xs)) new scope → whole ≡ components_from behind (map f (drop (i + 1) xs)) newer after
  component_more whole made behind a new newer scope after within is found pushed so_far =
      so_far
      ∙ at_drop_more (λ ys. components_from made (map f ys) new scope) xs i x within
      ∙ ap (λ y. index_then (f y new scope) (λ b. components_from (made ++ b ∷ []) (map f (drop (i + 1) xs)))) (sym is)
      ∙ ap (λ o. index_then o (λ b. components_from (made ++ b ∷ []) (map f (drop (i + 1) xs)))) found
      ∙ ap (λ m. components_from m (map f (drop (i + 1) xs)) newer after) (sym pushed)

-- and of statements in turn
module _ {X A : Type 0} (f : X → TablePass A) (xs : List X) (i : ℕ) (x : X) where
  pub statement_more : (whole : JudgedBoth (List A)) (made behind : List A) (a : A) (scope after tables later : List Name)
      → i < length xs → x ≡ get_or xs i x → f x scope tables ≡ Ok (a, (after, later)) → behind ≡ made ++ a ∷ []
      → whole ≡ in_turn_from made (map f (drop i xs)) scope tables → whole ≡ in_turn_from behind (map f (drop (i + 1) xs)) after later
  statement_more whole made behind a scope after tables later within is found pushed so_far =
      so_far
      ∙ at_drop_more (λ ys. in_turn_from made (map f ys) scope tables) xs i x within
      ∙ ap (λ y. both_then (f y scope tables) (λ b. in_turn_from (made ++ b ∷ []) (map f (drop (i + 1) xs)))) (sym is)
      ∙ ap (λ o. both_then o (λ b. in_turn_from (made ++ b ∷ []) (map f (drop (i + 1) xs)))) found
      ∙ ap (λ m. in_turn_from m (map f (drop (i + 1) xs)) after later) (sym pushed)
