use Rattle.std.proofs.Common.{◌<◌, ◌≤◌, ◌-◌, refl, arith}
use Rattle.simplex.proofs.WeightItems.{no_items_before, no_items_after, both_items_of}
use Rattle.simplex.proofs.contradiction.two_items.Goals as goal

pub returns-then-v-first : goal.returns-then-v-first
returns-then-v-first c = no_items_before c.args.v c.args.count c.args.first c.new.result c.if-v-first.true c.new.ensures

pub returns-then-index-count : goal.returns-then-index-count
returns-then-index-count c =
    let from : c.args.first ≤ c.args.v = omega arith in
    let past : c.args.count ≤ c.args.v - c.args.first = omega arith in
    no_items_after c.args.v c.args.count c.args.first (c.args.v - c.args.first) c.new-then-index-count.result refl past from c.new-then-index-count.ensures

pub returns : goal.returns
returns c =
    let from : c.args.first ≤ c.args.v = omega arith in
    let inside : c.args.v - c.args.first < c.args.count = omega arith in
    both_items_of c.args.v c.args.count c.args.first (c.args.v - c.args.first) c.both_bounds.result refl inside from c.both_bounds.ensures
