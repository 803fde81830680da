use Rattle.decimals.proofs.digits.+push_shortened.Given as goal

abbrev pub decreases-push_shortened : goal.decreases-push_shortened
decreases-push_shortened l = l.places
