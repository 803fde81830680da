use Rattle.decimals.proofs.ExponentLemmas.{power_fits}
use Rattle.decimals.proofs.significand.power_of_ten.Goals as goal

pub scaled-requires : goal.scaled-requires
scaled-requires c = power_fits c.product.result c.args.places c.product.ensures c.requires
