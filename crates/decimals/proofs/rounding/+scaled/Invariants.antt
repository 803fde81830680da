use Rattle.decimals.proofs.rounding.+scaled.Given as goal

abbrev pub decreases-scaled : goal.decreases-scaled
decreases-scaled l = l.places
