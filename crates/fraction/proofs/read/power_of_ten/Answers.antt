use Rattle.std.proofs.Common.{◌^◌, ◌<◌, ◌≤◌, lit<, lit≤, arith}
use Rattle.fraction.specs.Fits.{part_max}
use Rattle.fraction.proofs.LiteralLemmas.{pow_pos_ten}
use Rattle.fraction.proofs.ReadLemmas.{ten_power_small}
use Rattle.fraction.proofs.read.power_of_ten.Goals as goal

pub pow-requires : goal.pow-requires
pow-requires c =
    let few = ten_power_small c.args.exponent c.requires in
    let top : 10 ^ 38 < 2 ^ 128 = lit< tt in
    omega arith

pub returns-clause-positive : goal.returns-clause-positive
returns-clause-positive c =
    let some = pow_pos_ten c.args.exponent in
    omega arith

pub returns-clause-fits : goal.returns-clause-fits
returns-clause-fits c =
    let few = ten_power_small c.args.exponent c.requires in
    let top : 10 ^ 38 ≤ part_max = lit≤ tt in
    omega arith
