use Rattle.fraction.proofs.euclid.+gcd_words.Given as goal

abbrev pub decreases-gcd_words : goal.decreases-gcd_words
decreases-gcd_words l = l.a
