use Rattle.std.proofs.Common.{◌∙◌, ◌<◌, ◌^◌, sym, rules, FitsSigned}
use Rattle.std.specs.Int.{w128}
use Rattle.std.proofs.lemmas.Int.{to_z-of_z}
use Rattle.fraction.proofs.ReadParts.{power_raised}
use Rattle.fraction.proofs.read.raised_power.Goals as goal

pub returns-in-Some-read_mantissa-clause-value : goal.returns-in-Some-read_mantissa-clause-value
returns-in-Some-read_mantissa-clause-value c =
    let m = c.in-Some-read_mantissa.mantissa in
    let f : FitsSigned w128 c.in-Some.exponent = search rules in
    let e = simp (to_z-of_z) at c.with_exponent.ensures.value in
    let k : m.places < 2 ^ 64 = search rules in
    let l : m.digits.zeros < 2 ^ 64 = search rules in
    e ∙ power_raised c.in-Some.exponent c.args.raised.now c.args.digits.now m (sym c.exponent.ensures.value ∙ c.in-Some.is) (sym c.read_mantissa.ensures ∙ c.in-Some-read_mantissa.is) k l
