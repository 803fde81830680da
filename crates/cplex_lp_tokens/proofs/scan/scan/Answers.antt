-- One more lexeme is read.
use Rattle.std.proofs.Common.{◌<◌, length, rules, arith}
use Rattle.cplex_lp_tokens.proofs.Scanned.{scanned, fewer}
use Rattle.cplex_lp_tokens.proofs.scan.scan.Goals as goal

pub loop-tokens-preserved : goal.loop-tokens-preserved
loop-tokens-preserved c =
    let more : 0 < length c.loop-tokens.rest.now = search rules in
    let less : length c.after-rest.result.now < length c.loop-tokens.rest.now = fewer _ c.loop-tokens.rest.now _ c.after-rest.ensures c.lexeme_at-lexeme.ensures.some more in (
      scanned c.args.line c.loop-tokens.rest.now c.lexeme_at-lexeme.result c.lexeme_at-lexeme.ensures.value more c.lexeme_at-lexeme.ensures.some _ c.loop-tokens.tokens.items c.push_lexeme.new.tokens.items c.after-rest.result.now (c.loop-tokens.invariant).0 c.in_ok-push_lexeme.ensures c.after-rest.ensures,
      omega (arith, less, (c.loop-tokens.invariant).1),
      λ _. omega (arith, less, (c.loop-tokens.invariant).1),
    )
