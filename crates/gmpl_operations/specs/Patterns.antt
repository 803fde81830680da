-- An element and the components of an index: a new index takes the element's component, and any other component must equal it.
use Rattle.std.specs.Prelude.{Option, Some, None, List, [], ◌∷◌, ◌++◌, if◌then◌else◌}
use Rattle.gmpl_value.specs.declared.symbol.Symbol.{Symbol}
use Rattle.gmpl_value.specs.SymbolEquality.{symbol_eq}

-- what each component must equal, and nothing of a new index; an entry may have no index
abbrev pub Pattern : Type 0
Pattern = Option (List (Option Symbol))

-- the components that the new indices take, behind those found
abbrev pub bound : List Symbol → List (Option Symbol) → List Symbol → Option (List Symbol)
bound found [] [] = Some found
bound found [] (s ∷ ss) = None
bound found (p ∷ ps) [] = None
bound found (None ∷ ps) (s ∷ ss) = bound (found ++ s ∷ []) ps ss
bound found (Some v ∷ ps) (s ∷ ss) = if symbol_eq v s then bound found ps ss else None

-- the components that the new indices of an entry take, or none where the element doesn't match
abbrev pub matched : Pattern → List Symbol → Option (List Symbol)
matched None tuple = Some []
matched (Some pattern) tuple = bound [] pattern tuple
