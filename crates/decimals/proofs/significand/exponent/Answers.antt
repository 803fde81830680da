use Rattle.std.proofs.Common.{◌∙◌, sym, subst, arith, to_z, of_z, w32}
use Rattle.std.proofs.lemmas.Int.{ints}
use Rattle.std.specs.Prelude.{pos, negsuc, ◌≡◌}
use Rattle.decimals.specs.Significand.{IsExponent}
use Rattle.decimals.proofs.ExponentLemmas.{exponent_is, above_one, below_one_is}
use Rattle.decimals.proofs.significand.exponent.Goals as goal

pub returns-then-d-n-clause-value : goal.returns-then-d-n-clause-value
returns-then-d-n-clause-value c =
    let same : to_z w32 c.ilog10.result ≡ pos c.ilog10.result = omega (arith, ints) in
    same ∙ exponent_is c.args.n c.args.d (pos c.ilog10.result) c.requires.n c.requires.d (above_one _ _ _ c.requires.d c.ilog10.ensures.power_le c.ilog10.ensures.next_power_gt)

pub returns-then-d-n-clause-is : goal.returns-then-d-n-clause-is
returns-then-d-n-clause-is c =
    let same : to_z w32 c.ilog10.result ≡ pos c.ilog10.result = omega (arith, ints) in
    subst (IsExponent c.args.n c.args.d) (sym same) (above_one _ _ _ c.requires.d c.ilog10.ensures.power_le c.ilog10.ensures.next_power_gt)

pub returns-else-d-n-clause-value : goal.returns-else-d-n-clause-value
returns-else-d-n-clause-value c =
    let same : to_z w32 (of_z w32 c.below_one.result) ≡ negsuc c.ilog10-else-d-n.result = omega (arith, ints) in
    same ∙ exponent_is c.args.n c.args.d (negsuc c.ilog10-else-d-n.result) c.requires.n c.requires.d
    (below_one_is _ _ _ c.requires.n c.requires.d c.ilog10-else-d-n.ensures.power_le c.ilog10-else-d-n.ensures.next_power_gt)

pub returns-else-d-n-clause-is : goal.returns-else-d-n-clause-is
returns-else-d-n-clause-is c =
    let same : to_z w32 (of_z w32 c.below_one.result) ≡ negsuc c.ilog10-else-d-n.result = omega (arith, ints) in
    subst (IsExponent c.args.n c.args.d) (sym same) (below_one_is _ _ _ c.requires.n c.requires.d c.ilog10-else-d-n.ensures.power_le c.ilog10-else-d-n.ensures.next_power_gt)
