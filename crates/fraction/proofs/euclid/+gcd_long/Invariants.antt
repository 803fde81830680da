use Rattle.fraction.proofs.euclid.+gcd_long.Given as goal

abbrev pub decreases-gcd_long : goal.decreases-gcd_long
decreases-gcd_long l = l.a
