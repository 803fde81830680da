use Rattle.std.proofs.Common.{◌≡◌, ◌≤◌, ◌<◌, ◌+◌, ◌-◌, length, arith}
use Rattle.migration.proofs.Walk.{source_more, with_split_within, at_root, index_within}
use Rattle.migration.proofs.sources.source_on.Goals as goal

pub loop-turn-preserved : goal.loop-turn-preserved
loop-turn-preserved c =
    let turns = c.args.turns.now in
    let left = c.loop-turn.left - 1 in
    let count : left + (c.loop-turn.turn-index + 1) ≡ length turns = omega (arith, c.loop-turn.invariant.count, c.loop-turn-test.true) in
    let within : left < length turns = omega (arith, count) in
    record {
      count = count;
      known = with_split_within c.args.side left c.args.column (length turns) c.turn-item.result c.loop-turn.found c.with_turn-found.result c.with_turn-found.ensures within c.loop-turn.invariant.known;
      left = source_more c.args.side c.args.problem.now c.args.column turns c.loop-turn.turn-index left c.turn-item.result c.loop-turn.found c.with_turn-found.result _ c.loop-turn-test.true c.turn-item.is count c.with_turn-found.ensures c.loop-turn.invariant.left;
    }

pub returns-clause-source : goal.returns-clause-source
returns-clause-source c =
    let past : length c.args.turns.now ≤ c.loop-turn.turn-index = omega (arith, c.loop-turn-test.false) in
    at_root c.args.side c.args.problem.now c.args.column c.args.turns.now c.loop-turn.turn-index c.own_bound.result c.loop-turn.found c.past_own.result _ past c.own_bound.ensures c.past_own.ensures c.loop-turn.invariant.left

pub returns-clause-index : goal.returns-clause-index
returns-clause-index c = index_within c.args.side c.own_bound.result c.loop-turn.found c.past_own.result (length c.args.turns.now) _ c.past_own.ensures c.requires c.loop-turn.invariant.known
