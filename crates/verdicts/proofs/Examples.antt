-- Certificates that pass and that fail.
use Rattle.std.proofs.Common.{◌≡◌, ℕ, List, [], ◌∷◌, true, false, refl, Some, None}
use Rattle.std.specs.Prelude.{ℤ, pos, negsuc}
use Rattle.integer.specs.Gcd.{gcd, gcd_within}
use Rattle.rational.specs.Rational.{Rational, over, whole, zero_ℚ, ◌+ℚ◌, ◌*ℚ◌, neg_ℚ}
use Rattle.milp.specs.Form.{Entry}
use Rattle.milp.specs.Problem.{Problem}
use Rattle.milp.specs.declared.Direction.TheVariants.{Min, Max}
use Rattle.verdicts.specs.Certificate.{Version, One, Two, Derived, Plain, Optimal, Infeasible, Item, Weights, BySplit, Branch, Empty, Bound, Certificate}
use Rattle.verdicts.specs.Proves.{Part, derived_tests, node_tests, tests, first_failing, Proves}
use Rattle.verdicts.specs.Migrated.{migrated}

abbrev at : ℕ → ℤ → Entry
at j n = record { column = j; coefficient = whole n }

abbrev item : ℕ → Rational → Item
item i w = record { index = i; weight = w }

abbrev weights : List Item → List Item → List Item → Weights
weights r c d = record { rows = r; columns = c; derived = d; splits = [] }

-- min x where 1 <= 3 x <= 2, x whole
abbrev third : Problem
third = record {
  columns = record { name = []; lower = Some zero_ℚ; upper = None; integer = true } ∷ [];
  rows = record { name = []; lower = Some (whole (pos 1)); upper = Some (whole (pos 2)); entries = at 0 (pos 3) ∷ [] } ∷ [];
  direction = Min;
  objective_name = [];
  objective = at 0 (pos 1) ∷ [];
  constant = zero_ℚ;
}

abbrev third_certificate : ℤ → Certificate
third_certificate w = record {
  version = One;
  rows = 1;
  columns = 1;
  verdict = Infeasible;
  value = None;
  point = None;
  ray = None;
  derived = [];
  tree = Branch (record { form = at 0 (pos 1) ∷ []; at = pos 0 })
      ∷ Empty (weights (item 0 (whole (pos 1)) ∷ []) (item 0 (whole (negsuc 2)) ∷ []) [])
      ∷ Empty (weights (item 0 (whole (negsuc 0)) ∷ []) (item 0 (whole w) ∷ []) [])
      ∷ [];
}

accepted : Proves third (third_certificate (pos 3))
unfolding ◌+ℚ◌ ◌*ℚ◌ neg_ℚ over gcd gcd_within
accepted = refl

refused : first_failing (tests third (third_certificate (pos 2))) ≡ Some (Part.Node 3)
unfolding ◌+ℚ◌ ◌*ℚ◌ neg_ℚ over gcd gcd_within
refused = refl

-- min x where 2 x - 2 y = 1, x and y whole
abbrev odd : Problem
odd = record {
  columns = record { name = []; lower = Some zero_ℚ; upper = None; integer = true } ∷ record { name = []; lower = Some zero_ℚ; upper = None; integer = true } ∷ [];
  rows = record { name = []; lower = Some (whole (pos 1)); upper = Some (whole (pos 1)); entries = at 0 (pos 2) ∷ at 1 (negsuc 1) ∷ [] } ∷ [];
  direction = Min;
  objective_name = [];
  objective = at 0 (pos 1) ∷ [];
  constant = zero_ℚ;
}

abbrev odd_certificate : List Item → Certificate
odd_certificate high = record {
  version = One;
  rows = 1;
  columns = 2;
  verdict = Infeasible;
  value = None;
  point = None;
  ray = None;
  derived = record {
    bound = whole (pos 1);
    form = [];
    proof = BySplit (record {
      at = pos 0;
      form = at 0 (pos 1) ∷ at 1 (negsuc 0) ∷ [];
      low = whole (pos 2);
      low_weights = weights (item 0 (whole (pos 1)) ∷ []) [] [];
      high = whole (pos 2);
      high_weights = weights high [] [];
    });
  } ∷ [];
  tree = Empty (weights [] [] (item 0 (whole (pos 1)) ∷ [])) ∷ [];
}

odd_accepted : Proves odd (odd_certificate (item 0 (whole (negsuc 0)) ∷ []))
unfolding ◌+ℚ◌ ◌*ℚ◌ neg_ℚ over gcd gcd_within
odd_accepted = refl

odd_refused : first_failing (tests odd (odd_certificate [])) ≡ Some (Part.DerivedRow 1)
unfolding ◌+ℚ◌ ◌*ℚ◌ neg_ℚ over gcd gcd_within
odd_refused = refl

-- max x + y where 2 x + y <= 4, x + 3 y <= 5
abbrev two : Problem
two = record {
  columns = record { name = []; lower = Some zero_ℚ; upper = None; integer = false } ∷ record { name = []; lower = Some zero_ℚ; upper = None; integer = false } ∷ [];
  rows = record { name = []; lower = None; upper = Some (whole (pos 4)); entries = at 0 (pos 2) ∷ at 1 (pos 1) ∷ [] }
      ∷ record { name = []; lower = None; upper = Some (whole (pos 5)); entries = at 0 (pos 1) ∷ at 1 (pos 3) ∷ [] } ∷ [];
  direction = Max;
  objective_name = [];
  objective = at 0 (pos 1) ∷ at 1 (pos 1) ∷ [];
  constant = zero_ℚ;
}

abbrev two_certificate : ℤ → Certificate
two_certificate w = record {
  version = One;
  rows = 2;
  columns = 2;
  verdict = Optimal;
  value = Some (over (pos 13) 5);
  point = Some (over (pos 7) 5 ∷ over (pos 6) 5 ∷ []);
  ray = None;
  derived = [];
  tree = Bound (weights (item 0 (over w 5) ∷ item 1 (over (negsuc 0) 5) ∷ []) [] []) ∷ [];
}

two_accepted : Proves two (two_certificate (negsuc 1))
unfolding ◌+ℚ◌ ◌*ℚ◌ neg_ℚ over gcd gcd_within
two_accepted = refl

two_refused : first_failing (tests two (two_certificate (pos 2))) ≡ Some (Part.Node 1)
unfolding ◌+ℚ◌ ◌*ℚ◌ neg_ℚ over gcd gcd_within
two_refused = refl

-- ---- version 2

-- 2 x - 2 y = 1 by a split on x - y, with weights of the sides taken
abbrev odd_split : Version → List Entry → Rational → Certificate
odd_split v form w = record {
  version = v;
  rows = 1;
  columns = 2;
  verdict = Infeasible;
  value = None;
  point = None;
  ray = None;
  derived = [];
  tree = Branch (record { form = form; at = pos 0 })
      ∷ Empty (record { rows = item 0 (whole (pos 1)) ∷ []; columns = []; derived = []; splits = item 0 w ∷ [] })
      ∷ Empty (record { rows = item 0 (whole (negsuc 0)) ∷ []; columns = []; derived = []; splits = item 0 w ∷ [] })
      ∷ [];
}

abbrev difference : List Entry
difference = at 0 (pos 1) ∷ at 1 (negsuc 0) ∷ []

odd_split_accepted : Proves odd (odd_split Two difference (whole (pos 2)))
unfolding ◌+ℚ◌ ◌*ℚ◌ neg_ℚ over gcd gcd_within
odd_split_accepted = refl

-- version 1 splits on columns alone
odd_split_one : first_failing (tests odd (odd_split One difference (whole (pos 2)))) ≡ Some (Part.Node 1)
unfolding ◌+ℚ◌ ◌*ℚ◌ neg_ℚ over gcd gcd_within
odd_split_one = refl

-- the weight of a split is above 0
odd_split_negative : first_failing (tests odd (odd_split Two difference (whole (negsuc 1)))) ≡ Some (Part.Node 2)
unfolding ◌+ℚ◌ ◌*ℚ◌ neg_ℚ over gcd gcd_within
odd_split_negative = refl

-- coefficients are whole
odd_split_half : first_failing (tests odd (odd_split Two (record { column = 0; coefficient = over (pos 1) 2 } ∷ []) (whole (pos 2)))) ≡ Some (Part.Node 1)
unfolding ◌+ℚ◌ ◌*ℚ◌ neg_ℚ over gcd gcd_within
odd_split_half = refl

-- a split on a column that need not be whole
two_split_refused : first_failing (node_tests two Two None [] 1 ([] ∷ []) (Branch (record { form = at 0 (pos 1) ∷ []; at = pos 0 }) ∷ [])) ≡ Some (Part.Node 1)
unfolding ◌+ℚ◌ ◌*ℚ◌ neg_ℚ over gcd gcd_within
two_split_refused = refl

-- 1 <= 3 x <= 2: each branch's bound becomes a weight of the split
third_migrated : Proves third (migrated third (third_certificate (pos 3)))
unfolding ◌+ℚ◌ ◌*ℚ◌ neg_ℚ over gcd gcd_within
third_migrated = refl

third_migrated_is : (migrated third (third_certificate (pos 3))).tree ≡ Branch (record { form = at 0 (pos 1) ∷ []; at = pos 0 })
    ∷ Empty (record { rows = item 0 (whole (pos 1)) ∷ []; columns = []; derived = []; splits = item 0 (neg_ℚ (whole (negsuc 2))) ∷ [] })
    ∷ Empty (record { rows = item 0 (whole (negsuc 0)) ∷ []; columns = []; derived = []; splits = item 0 (whole (pos 3)) ∷ [] })
    ∷ []
unfolding ◌+ℚ◌ ◌*ℚ◌ neg_ℚ over gcd gcd_within
third_migrated_is = refl

-- a second derived row, which uses the k-th with weight 1: 2 x - 2 y >= 1
abbrev chain : ℕ → List Derived
chain k = record { bound = whole (pos 1); form = at 0 (pos 2) ∷ at 1 (negsuc 1) ∷ []; proof = Plain (weights (item 0 (whole (pos 1)) ∷ []) [] []) }
    ∷ record { bound = whole (pos 1); form = at 0 (pos 2) ∷ at 1 (negsuc 1) ∷ []; proof = Plain (weights [] [] (item k (whole (pos 1)) ∷ [])) } ∷ []

chain_accepted : first_failing (derived_tests odd Two 1 [] (chain 0)) ≡ None
unfolding ◌+ℚ◌ ◌*ℚ◌ neg_ℚ over gcd gcd_within
chain_accepted = refl

-- it may not use itself
chain_itself : first_failing (derived_tests odd Two 1 [] (chain 1)) ≡ Some (Part.DerivedRow 2)
unfolding ◌+ℚ◌ ◌*ℚ◌ neg_ℚ over gcd gcd_within
chain_itself = refl

-- nor any in version 1
chain_one : first_failing (derived_tests odd One 1 [] (chain 0)) ≡ Some (Part.DerivedRow 2)
unfolding ◌+ℚ◌ ◌*ℚ◌ neg_ℚ over gcd gcd_within
chain_one = refl
