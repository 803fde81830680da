use Rattle.std.proofs.Common.{◌≡◌, ◌∙◌, ◌≤◌, ap, rules, FitsSigned}
use Rattle.std.specs.Prelude.{unsigned_abs, int_div, pos, IsTrue}
use Rattle.integer.specs.Gcd.{gcd}
use Rattle.std.specs.Int.{w128}
use Rattle.std.proofs.lemmas.Int.{to_z-of_z}
use Rattle.fraction.specs.Fits.{left_num, right_num, common_den, sum_fits, part_max}
use Rattle.fraction.proofs.FracLemmas.{sum_not}
use Rattle.fraction.proofs.SumLemmas.{sum_of, lowest_shared, over_shared, add_from}
use Rattle.fraction.proofs.frac.Frac.scaled_sum.Goals as goal

pub returns-in_err-numerator : goal.returns-in_err-numerator
returns-in_err-numerator c =
    let fa : FitsSigned w128 c.open-a.result.0 = search rules in
    let fc : FitsSigned w128 c.open-c.result.0 = search rules in
    let fl : FitsSigned w128 c.in_ok-left.left = search rules in
    let fr : FitsSigned w128 c.in_ok-right.right = search rules in
    let x = simp (to_z-of_z) at c.in_ok-left.ensures.1 in
    let y = simp (to_z-of_z) at c.in_ok-right.ensures.1 in
    let l : c.in_ok-left.left ≡ left_num c.args.self c.args.other = cc x in
    let r : c.in_ok-right.right ≡ right_num c.args.self c.args.other = cc y in
    let n = simp (to_z-of_z) at c.in_err-numerator.ensures in
    rw c.from_residual-in_err-numerator.ensures (sum_not c.args.self c.args.other _ _ l r n)

record IsScaled (c : goal.After-divided-4) : Type 0 where
  below : c.in_ok-denominator.denominator ≡ common_den c.args.self c.args.other
  fits : IsTrue (sum_fits c.args.self c.args.other)
  sum : c.in_ok-numerator.numerator ≡ sum_of c.args.self c.args.other
  common : c.gcd-common.result ≡ gcd c.args.self.denominator c.args.other.denominator
  shared : c.gcd-shared.result ≡ gcd (unsigned_abs c.in_ok-numerator.numerator) c.gcd-common.result
  top : c.quotient.result ≡ int_div c.in_ok-numerator.numerator (pos c.gcd-shared.result)

scaled_is : (c : goal.After-divided-4) → IsScaled c
scaled_is c =
    let fa : FitsSigned w128 c.open-a.result.0 = search rules in
    let fc : FitsSigned w128 c.open-c.result.0 = search rules in
    let fl : FitsSigned w128 c.in_ok-left.left = search rules in
    let fr : FitsSigned w128 c.in_ok-right.right = search rules in
    let x = simp (to_z-of_z) at c.in_ok-left.ensures.1 in
    let y = simp (to_z-of_z) at c.in_ok-right.ensures.1 in
    let l : c.in_ok-left.left ≡ left_num c.args.self c.args.other = cc x in
    let r : c.in_ok-right.right ≡ right_num c.args.self c.args.other = cc y in
    let s = simp (to_z-of_z) at c.in_ok-numerator.ensures.1 in
    let d : c.in_ok-denominator.denominator ≡ common_den c.args.self c.args.other = cc (c.in_ok-denominator.ensures.1) in
    let lf : unsigned_abs c.in_ok-left.left ≤ part_max = rw c.in_ok-left.ensures.1 c.in_ok-left.ensures.0 in
    let rf : unsigned_abs c.in_ok-right.right ≤ part_max = rw c.in_ok-right.ensures.1 c.in_ok-right.ensures.0 in
    let nf : unsigned_abs c.in_ok-numerator.numerator ≤ part_max = rw c.in_ok-numerator.ensures.1 c.in_ok-numerator.ensures.0 in
    let df : c.in_ok-denominator.denominator ≤ part_max = rw c.in_ok-denominator.ensures.1 c.in_ok-denominator.ensures.0 in
    let made = add_from c.args.self c.args.other _ _ _ _ l r s d lf rf nf df in
    let fn : FitsSigned w128 c.in_ok-numerator.numerator = search rules in
    let u = simp (to_z-of_z) at c.unsigned_abs.ensures.value in
    let q = simp (to_z-of_z) at c.quotient.ensures in
    record { below = d; fits = made.0; sum = made.1; common = cc; shared = c.gcd-shared.ensures ∙ ap (λ x. gcd x c.gcd-common.result) u; top = q }

pub new-requires-clause-lowest : goal.new-requires-clause-lowest
new-requires-clause-lowest c =
    let is = scaled_is c in
    let f : FitsSigned w128 c.quotient.result = search rules in
    lowest_shared c.args.self c.args.other c.in_ok-numerator.numerator _ c.in_ok-denominator.denominator c.divided-4.result c.gcd-common.result c.gcd-shared.result is.sum is.below is.common is.shared (to_z-of_z w128 _ f ∙ is.top) c.divided-4.ensures

pub returns : goal.returns
returns c =
    let is = scaled_is c.before in
    let f : FitsSigned w128 c.quotient.result = search rules in
    let e = simp (to_z-of_z) at c.new.ensures in
    (is.fits, over_shared c.args.self c.args.other c.new.result c.in_ok-numerator.numerator c.quotient.result c.in_ok-denominator.denominator c.divided-4.result c.gcd-common.result c.gcd-shared.result is.sum is.below is.common is.shared is.top c.divided-4.ensures e)
