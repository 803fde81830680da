-- One more lexeme is read.
use Rattle.std.proofs.Common.{rules, ◌≡◌, ◌<◌, ◌-◌, ◌∙◌, length, [], ◌∷◌, ◌++◌}
use Rattle.gmpl_lexer.proofs.Scanned.{IsNext, gap-read, token-read, fault-read, bad-read, all-read, lines-within, left-within, rest-within}
use Rattle.gmpl_lexer.proofs.tokens.read_tokens.Goals as goal

pub loop-rest-preserved-in-Gap : goal.loop-rest-preserved-in-Gap
loop-rest-preserved-in-Gap c =
    let more : 0 < length c.loop-rest.rest.now = search rules in
    let x = c.lexeme_at-lexeme.ensures in
    let next : IsNext c.loop-rest.begins (length c.args.text.now) c.loop-rest.rest.now c.lexeme_at-lexeme.result = record { is = x.value; more = more; some = x.some; fits = x.within more; within = c.loop-rest.invariant.1.1 } in (
      gap-read c.loop-rest.begins c.loop-rest.line (length c.args.text.now) c.line_feeds-line.result c.loop-rest.rest.now c.after-rest.result.now c.lexeme_at-lexeme.result _ c.loop-rest.items.items next c.in-Gap.is c.line_feeds-line.ensures.value c.after-rest.ensures c.loop-rest.invariant.0,
      (lines-within c.loop-rest.line c.line_feeds-line.result c.lexeme_at-lexeme.result.size (length c.args.text.now) c.loop-rest.rest.now c.after-rest.result.now c.line_feeds-line.ensures.within c.after-rest.ensures c.loop-rest.invariant.1.0, rest-within _ _ _ _ c.after-rest.ensures c.loop-rest.invariant.1.1),
    )

pub loop-rest-preserved : goal.loop-rest-preserved
loop-rest-preserved c =
    let more : 0 < length c.loop-rest.rest.now = search rules in
    let x = c.lexeme_at-lexeme.ensures in
    let next : IsNext c.loop-rest.begins (length c.args.text.now) c.loop-rest.rest.now c.lexeme_at-lexeme.result = record { is = x.value; more = more; some = x.some; fits = x.within more; within = c.loop-rest.invariant.1.1 } in
    let pushed : c.push.new.self.items ≡ c.loop-rest.items.items ++ record { kind = c.in-Token.kind; at = length c.args.text.now - length c.loop-rest.rest.now; line = c.loop-rest.line; text = c.in-Ok.text.now } ∷ [] = rw (← c.new.ensures) c.in_ok-push-in-Ok.ensures.items in (
      rw c.begins_behind-begins.ensures (token-read c.loop-rest.begins c.loop-rest.line (length c.args.text.now) c.loop-rest.rest.now c.after-rest.result.now c.in-Ok.text.now c.lexeme_at-lexeme.result c.in-Token.kind _ c.loop-rest.items.items c.push.new.self.items next c.in-Token.is c.in-Ok.ensures.ok c.after-rest.ensures pushed c.loop-rest.invariant.0),
      (left-within c.loop-rest.line _ _ _ _ c.after-rest.ensures c.loop-rest.invariant.1.0, rest-within _ _ _ _ c.after-rest.ensures c.loop-rest.invariant.1.1),
    )

pub returns-in-Err : goal.returns-in-Err
returns-in-Err c =
    let more : 0 < length c.loop-rest.rest.now = search rules in
    let x = c.lexeme_at-lexeme.ensures in
    let next : IsNext c.loop-rest.begins (length c.args.text.now) c.loop-rest.rest.now c.lexeme_at-lexeme.result = record { is = x.value; more = more; some = x.some; fits = x.within more; within = c.loop-rest.invariant.1.1 } in
    record { tokens = c.from_vec.ensures ∙ fault-read c.loop-rest.begins c.loop-rest.line (length c.args.text.now) c.loop-rest.rest.now c.after-rest.result.now c.lexeme_at-lexeme.result c.in-Token.kind c.in-Err.kind _ c.loop-rest.items.items next c.in-Token.is c.in-Err.ensures.err c.after-rest.ensures c.loop-rest.invariant.0 }

pub returns-in-Bad : goal.returns-in-Bad
returns-in-Bad c =
    let more : 0 < length c.loop-rest.rest.now = search rules in
    let x = c.lexeme_at-lexeme.ensures in
    let next : IsNext c.loop-rest.begins (length c.args.text.now) c.loop-rest.rest.now c.lexeme_at-lexeme.result = record { is = x.value; more = more; some = x.some; fits = x.within more; within = c.loop-rest.invariant.1.1 } in
    record { tokens = c.from_vec-in-Bad.ensures ∙ bad-read c.loop-rest.begins c.loop-rest.line (length c.args.text.now) c.loop-rest.rest.now c.lexeme_at-lexeme.result c.in-Bad.kind _ c.loop-rest.items.items next c.in-Bad.is c.loop-rest.invariant.0 }

pub returns : goal.returns
returns c =
    let none : length c.loop-rest.rest.now ≡ 0 = search rules in
    record { tokens = c.from_vec-2.ensures ∙ all-read c.loop-rest.begins (length c.args.text.now - length c.loop-rest.rest.now) c.loop-rest.line c.loop-rest.rest.now _ c.loop-rest.items.items none c.loop-rest.invariant.0 }
