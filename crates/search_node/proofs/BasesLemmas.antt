-- One more exchange at the end is one more basis.
use Rattle.std.proofs.Common.{◌≡◌, List, [], ◌∷◌, ◌++◌, refl}
use Rattle.basis.specs.declared.Place.{Place}
use Rattle.search_node.specs.Bases.{next_bases, bases_after, bases_of}
use Rattle.search_node.specs.declared.bases.Exchange.{Exchange}

after_one_more : (bases : List (List Place)) (es : List Exchange) (e : Exchange) → bases_after bases (es ++ e ∷ []) ≡ next_bases (bases_after bases es) e
after_one_more bases [] e = refl
after_one_more bases (f ∷ es) e = after_one_more (next_bases bases f) es e

pub one_more_basis : (start : List Place) (es : List Exchange) (e : Exchange) → bases_of start (es ++ e ∷ []) ≡ next_bases (bases_of start es) e
one_more_basis start es e = after_one_more (start ∷ []) es e
