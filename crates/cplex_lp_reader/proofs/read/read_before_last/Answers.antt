-- A token at a time.
use Rattle.std.proofs.Common.{◌+◌, ◌<◌, length, arith}
use Rattle.cplex_lp_reader.proofs.Ahead.{token-goes, token-stops}
use Rattle.cplex_lp_reader.proofs.read.read_before_last.Goals as goal

pub returns-in-Err : goal.returns-in-Err
returns-in-Err c = λ end more.
    let behind : c.loop-i.i + 1 < length c.args.tokens.now = omega (arith, c.loop-i-test.true, c.saturating_sub-last.ensures) in
    token-stops c.args.profile.now end c.loop-i.draft c.read_token.new.draft c.args.tokens.now c.after.result.now more c.loop-i.i c.index-tokens-i.result c.in-Err.error _ _ behind c.index-tokens-i.is c.after.ensures c.in-Err.ensures (c.loop-i.invariant end more)

pub loop-i-preserved : goal.loop-i-preserved
loop-i-preserved c = λ end more.
    let behind : c.loop-i.i + 1 < length c.args.tokens.now = omega (arith, c.loop-i-test.true, c.saturating_sub-last.ensures) in
    token-goes c.args.profile.now end c.loop-i.draft c.read_token.new.draft c.args.tokens.now c.after.result.now more c.loop-i.i c.index-tokens-i.result _ behind c.index-tokens-i.is c.after.ensures c.in-Ok.ensures (c.loop-i.invariant end more)
