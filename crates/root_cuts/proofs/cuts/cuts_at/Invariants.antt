use Rattle.dictionary.specs.Table.{dictionary_of}
use Rattle.root_cuts.specs.RootBasis.{numbers_of}
use Rattle.root_cuts.proofs.CutsBelow.{AreCutsBelow}
use Rattle.root_cuts.proofs.cuts.cuts_at.Given as goal

abbrev pub invariant-loop-column : goal.invariant-loop-column
invariant-loop-column l = AreCutsBelow l.problem l.places.items (numbers_of l.problem l.places.items l.best.point) (dictionary_of l.best.dictionary) l.column 0 l.cuts
