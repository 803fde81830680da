use Rattle.std.proofs.Common.{◌≡◌, ◌∙◌, ◌≤◌, rules, FitsSigned}
use Rattle.std.specs.Prelude.{unsigned_abs}
use Rattle.std.specs.Int.{w128}
use Rattle.std.proofs.lemmas.Int.{to_z-of_z}
use Rattle.fraction.specs.Fits.{part_max}
use Rattle.fraction.proofs.FracLemmas.{lowest_from, product_num, product_den, product_from}
use Rattle.fraction.proofs.frac.Frac.exact_product.Goals as goal

num_is : (c : goal.In_ok-denominator) → c.in_ok-numerator.numerator ≡ product_num c.args.self c.args.other
num_is c =
    let fa : FitsSigned w128 c.open-a.result.0 = search rules in
    let fc : FitsSigned w128 c.open-c.result.0 = search rules in
    let fq : FitsSigned w128 c.quotient.result = search rules in
    let fr : FitsSigned w128 c.quotient-2.result = search rules in
    let e = simp (to_z-of_z) at c.in_ok-numerator.ensures.1 in
    let q = simp (to_z-of_z) at c.quotient.ensures in
    let r = simp (to_z-of_z) at c.quotient-2.ensures in
    let u = simp (to_z-of_z) at c.unsigned_abs.ensures.value in
    let v = simp (to_z-of_z) at c.unsigned_abs-2.ensures.value in
    cc (e, q, r, u, v)

den_is : (c : goal.In_ok-denominator) → c.in_ok-denominator.denominator ≡ product_den c.args.self c.args.other
den_is c =
    let fa : FitsSigned w128 c.open-a.result.0 = search rules in
    let fc : FitsSigned w128 c.open-c.result.0 = search rules in
    let u = simp (to_z-of_z) at c.unsigned_abs.ensures.value in
    let v = simp (to_z-of_z) at c.unsigned_abs-2.ensures.value in
    cc (c.in_ok-denominator.ensures.1, u, v)

pub new-requires-clause-lowest : goal.new-requires-clause-lowest
new-requires-clause-lowest c =
    let f : FitsSigned w128 c.in_ok-numerator.numerator = search rules in
    lowest_from c.args.self c.args.other _ _ (to_z-of_z w128 _ f ∙ num_is c) (den_is c)

pub returns : goal.returns
returns c =
    let f : FitsSigned w128 c.in_ok-numerator.numerator = search rules in
    let n : unsigned_abs c.in_ok-numerator.numerator ≤ part_max = rw c.in_ok-numerator.ensures.1 c.in_ok-numerator.ensures.0 in
    let d : c.in_ok-denominator.denominator ≤ part_max = rw c.in_ok-denominator.ensures.1 c.in_ok-denominator.ensures.0 in
    let e = simp (to_z-of_z) at c.new.ensures in
    product_from c.args.self c.args.other _ _ _ (num_is c.before) (den_is c.before) n d e
