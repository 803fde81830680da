use Rattle.std.proofs.Common.{◌≡◌, ◌-◌, ◌<◌, suc, List, length, arith}
use Rattle.verdicts.specs.Certificate.{Side}
use Rattle.migration.proofs.Order.{item_of}
use Rattle.migration.proofs.NamedItems.{split_named}
use Rattle.migration.proofs.splits.named_splits.Goals as goal

pub name_split-requires-clause-some : goal.name_split-requires-clause-some
name_split-requires-clause-some c =
    let here : c.loop-k.k - 1 < length c.args.columns.now = omega (arith, c.loop-k-test.true, c.loop-k.invariant.within) in
    (item_of 0 c.args.columns.now (c.loop-k.k - 1) c.index-columns-k.result c.requires.columns here c.index-columns-k.is).some

pub loop-k-preserved : goal.loop-k-preserved
loop-k-preserved c =
    let sides : List Side = c.args.turns.now in
    let here : c.loop-k.k - 1 < length c.args.columns.now = omega (arith, c.loop-k-test.true, c.loop-k.invariant.within) in
    let one : c.loop-k.k ≡ suc (c.loop-k.k - 1) = omega (arith, c.loop-k-test.true) in
    record {
      within = omega (arith, c.loop-k.invariant.within);
      indices = c.in_ok-name_split.ensures.indices;
      left = split_named c.args.problem.now sides c.args.columns.now c.loop-k.k (c.loop-k.k - 1) c.index-columns-k.result c.loop-k.named.items c.name_split.new.named.items _ one here c.index-columns-k.is c.loop-k.invariant.left c.in_ok-name_split.ensures.named;
    }
