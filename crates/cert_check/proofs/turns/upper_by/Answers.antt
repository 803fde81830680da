use Rattle.std.proofs.Common.{◌+◌, take, reverse}
use Rattle.std.specs.Option.{option_map}
use Rattle.rational.specs.Rational.{whole}
use Rattle.cert_check.proofs.Turning.{one_later}
use Rattle.cert_check.proofs.Walk.{upper_later}
use Rattle.cert_check.proofs.turns.upper_by.Goals as goal

pub loop-turn-preserved : goal.loop-turn-preserved
loop-turn-preserved c p =
    let turns = c.args.turns.now in
    let place = c.loop-turn.turn-index in
    let more = one_later turns place c.turn-item.result c.loop-turn-test.true c.turn-item.is in
    upper_later p c.turn-item.result (reverse (take place turns)) (reverse (take (place + 1) turns)) c.args.column (option_map whole c.loop-turn.found) (option_map whole c.upper.result) (option_map whole c.lesser_bound-found.result) more c.upper.ensures c.lesser_bound-found.ensures (c.loop-turn.invariant p)
