-- The direction that the weights of a leaf of a cost's auxiliary problem give, where each row is a column of the problem.
use Rattle.std.specs.Prelude.{ℕ, zero, suc, List, [], ◌∷◌, length, ◌==◌, cond}
use Rattle.rational.specs.Rational.{Rational, zero_ℚ, neg_ℚ, ◌+ℚ◌}
use Rattle.milp.specs.Problem.{Problem}
use Rattle.verdicts.specs.Certificate.{Item, Weights}

-- the sum of the weights of row k
abbrev pub weight_on : List Item → ℕ → Rational
weight_on [] k = zero_ℚ
weight_on (i ∷ is) k = cond (i.index == k) i.weight zero_ℚ +ℚ weight_on is k

-- for n rows from row k on, the sum of the row's weights negated
abbrev pub negated_weights : List Item → ℕ → ℕ → List Rational
negated_weights is k zero = []
negated_weights is k (suc n) = neg_ℚ (weight_on is k) ∷ negated_weights is (suc k) n

-- the direction: of each column what its row gives
abbrev pub direction_of : Problem → Weights → List Rational
direction_of p w = negated_weights w.rows 0 (length p.columns)
