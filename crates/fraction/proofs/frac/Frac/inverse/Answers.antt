use Rattle.std.proofs.Common.{◌≡◌, rules, FitsSigned}
use Rattle.std.specs.Int.{w128, int_signum}
use Rattle.std.specs.Prelude.{◌*ℤ◌, pos, unsigned_abs}
use Rattle.std.proofs.lemmas.Int.{to_z-of_z}
use Rattle.fraction.proofs.FracLemmas.{inverse_from}
use Rattle.fraction.proofs.frac.Frac.inverse.Goals as goal

pub returns : goal.returns
returns c =
    let fa : FitsSigned w128 c.open-numerator.result.0 = search rules in
    let fs : FitsSigned w128 c.with_sign.result = search rules in
    let e = simp (to_z-of_z) at c.new.ensures in
    let s = simp (to_z-of_z) at c.with_sign.ensures in
    let u = simp (to_z-of_z) at c.unsigned_abs.ensures.value in
    let x : c.with_sign.result ≡ int_signum c.args.self.numerator *ℤ pos c.args.self.denominator = cc s in
    let y : c.unsigned_abs.result ≡ unsigned_abs c.args.self.numerator = cc u in
    inverse_from c.args.self _ _ _ e x y
