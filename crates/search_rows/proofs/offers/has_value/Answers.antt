use Rattle.search_rows.proofs.Points.{where_fits}
use Rattle.search_rows.proofs.offers.has_value.Goals as goal

pub value-requires : goal.value-requires
value-requires c = c.requires.relaxed.size

pub returns : goal.returns
returns c = λ t. where_fits c.value.result _ _ c.value.ensures.exact c.value.ensures.is_value (c.fits.ensures t)
