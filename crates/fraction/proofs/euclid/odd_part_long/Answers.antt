use Rattle.std.proofs.Common.{arith, ◌<◌, ◌^◌, ◌/◌}
use Rattle.std.proofs.Math.Nat.{div-le_self}
use Rattle.std.specs.Int.Count.{count_trailing_zeros}
use Rattle.fraction.proofs.BinaryLemmas.{odd_part_of, same_odd}
use Rattle.fraction.proofs.euclid.odd_part_long.Goals as goal

pub returns : goal.returns
returns c =
    let n = c.args.n in
    let small : n < 2 ^ 128 = omega arith in
    let t = count_trailing_zeros 128 n in
    let is = odd_part_of 128 n c.requires small in
    record { odd = is.1; small = div-le_self n (2 ^ t); same = λ x h. same_odd x n (n / 2 ^ t) t h is.0 }
