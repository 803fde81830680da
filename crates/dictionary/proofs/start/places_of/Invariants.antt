use Rattle.std.proofs.Common.{◌≡◌, ◌<◌, ℕ, length}
use Rattle.basis.specs.System.{lower_of, upper_of}
use Rattle.basis.specs.Dictionary.{place_of}
use Rattle.basis.specs.Bland.{first_place}
use Rattle.dictionary.proofs.start.places_of.Given as goal

abbrev pub invariant-loop-v : goal.invariant-loop-v
invariant-loop-v l = (length l.places.items ≡ l.v) × ((k : ℕ) → k < l.v → place_of l.places.items k ≡ first_place (lower_of l.system k) (upper_of l.system k))
