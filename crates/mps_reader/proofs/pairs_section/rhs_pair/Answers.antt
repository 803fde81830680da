-- The number is that of the pair's field.
use Rattle.mps_reader.proofs.pairs_section.rhs_pair.Goals as goal

pub returns : goal.returns
returns c = rw c.number_of.ensures at c.set_rhs.ensures
