-- The bases of a run, from the first of them and what each step exchanged.
use Rattle.std.specs.Prelude.{List, [], ◌∷◌}
use Rattle.basis.specs.Bland.{exchanged}
use Rattle.search_node.specs.declared.bases.Exchange.{Exchange}
use Rattle.basis.specs.declared.Place.{Place}

-- one more basis after the latest one, which is the first of the list
abbrev pub next_bases : List (List Place) → Exchange → List (List Place)
next_bases [] e = []
next_bases (last ∷ before) e = exchanged last e.enters e.leaves e.place ∷ last ∷ before

-- these bases, and those that the exchanges lead to from the latest of them
abbrev pub bases_after : List (List Place) → List Exchange → List (List Place)
bases_after bases [] = bases
bases_after bases (e ∷ es) = bases_after (next_bases bases e) es

-- the bases from the first one on, the latest of them first
abbrev pub bases_of : List Place → List Exchange → List (List Place)
bases_of start exchanges = bases_after (start ∷ []) exchanges
