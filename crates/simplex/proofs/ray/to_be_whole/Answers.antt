use Rattle.std.proofs.Common.{◌<◌, length, rules}
use Rattle.dictionary.proofs.Laws.{read_number}
use Rattle.simplex.proofs.RayNumbers.{one_more_integer}
use Rattle.simplex.proofs.ray.to_be_whole.Goals as goal

pub loop-j-preserved : goal.loop-j-preserved
loop-j-preserved c =
    let inside : c.loop-j.j < length c.args.numbers.now = search rules in
    one_more_integer c.args.columns.now c.args.numbers.now c.loop-j.j c.index-columns-j.result c.index-numbers-j.result c.where_integer.result c.loop-j.integers.items c.push.new.self.items c.loop-j-test.true c.index-columns-j.is
    (read_number c.args.numbers.now c.loop-j.j c.index-numbers-j.result inside c.index-numbers-j.is) c.where_integer.ensures c.in_ok-push.ensures.items c.loop-j.invariant
