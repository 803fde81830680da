-- The test for equal tuples decides equality.
use Rattle.std.proofs.Common.{◌≡◌, ◌↔◌, true, List, [], ◌∷◌, refl, subst}
use Rattle.std.proofs.lemmas.Bool.{and_parts}
use Rattle.gmpl_value.specs.declared.symbol.Symbol.{Symbol}
use Rattle.gmpl_value.specs.SymbolEquality.{symbol_eq, tuple_eq}
use Rattle.gmpl_value.specs.SymbolFed.{same_symbol}
use Rattle.gmpl_value.proofs.Distinct.{tuple_laws}

pub same_tuple : (s t : List Symbol) → tuple_eq s t ≡ true → s ≡ t
same_tuple [] [] h = refl
same_tuple [] (y ∷ t) h = absurd cc
same_tuple (x ∷ s) [] h = absurd cc
same_tuple (x ∷ s) (y ∷ t) h =
    let parts = and_parts (symbol_eq x y) (tuple_eq s t) h in
    let first = same_symbol x y parts.0 in
    let rest = same_tuple s t parts.1 in
    λ j. first j ∷ rest j

pub tuples_decided : (s t : List Symbol) → (tuple_eq s t ≡ true) ↔ (s ≡ t)
tuples_decided s t = (same_tuple s t, λ e. subst (λ u. tuple_eq s u ≡ true) e (tuple_laws.refl s))
