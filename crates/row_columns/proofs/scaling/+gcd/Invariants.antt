use Rattle.row_columns.proofs.scaling.+gcd.Given as goal

abbrev pub decreases-gcd : goal.decreases-gcd
decreases-gcd l = l.b
