use Rattle.std.proofs.Common.{◌≡◌, ℕ, ◌<◌, length}
use Rattle.basis.specs.Dictionary.{place_of}
use Rattle.root_cuts.specs.RootBasis.{settled_place}
use Rattle.root_cuts.proofs.places.settled_places.Given as goal

abbrev pub invariant-loop-v : goal.invariant-loop-v
invariant-loop-v l = record { size : length l.made.items ≡ l.v; places : (u : ℕ) → u < l.v → place_of l.made.items u ≡ settled_place l.problem l.places u }
