-- One more item at the end.
use Rattle.std.proofs.Common.{◌≡◌, ℕ, ◌+◌, ◌≤◌, List, [], ◌∷◌, ◌++◌, refl}
use Rattle.verdicts.specs.Certificate.{Item}
use Rattle.certificate.specs.Written.{rank_of, next_rank, IsItem, AreItemsFrom}

pub next_rank-snoc : (least : ℕ) (is : List Item) (i : Item) → next_rank least (is ++ i ∷ []) ≡ rank_of i + 1
next_rank-snoc least [] i = refl
next_rank-snoc least (j ∷ js) i = next_rank-snoc (rank_of j + 1) js i

pub AreItemsFrom-snoc : (least : ℕ) (is : List Item) (i : Item) → AreItemsFrom least is → IsItem i → next_rank least is ≤ rank_of i → AreItemsFrom least (is ++ i ∷ [])
AreItemsFrom-snoc least [] i old item order = (order, item, tt)
AreItemsFrom-snoc least (j ∷ js) i old item order = (old.0, old.1, AreItemsFrom-snoc (rank_of j + 1) js i old.2 item order)
