use Rattle.decimals.proofs.digits.+push_written.Given as goal

abbrev pub decreases-push_written : goal.decreases-push_written
decreases-push_written l = l.places
