-- One more lexeme is read.
use Rattle.std.proofs.Common.{rules, ◌≡◌, ◌<◌, ◌-◌, ◌∙◌, length, [], ◌∷◌, ◌++◌}
use Rattle.gmpl_lexer.proofs.DataScanned.{IsNext, gap-read, token-read, fault-read, bad-read, all-read, starts-past, lines-within, left-within, rest-within}
use Rattle.gmpl_lexer.proofs.data_tokens.read_data_tokens.Goals as goal

pub returns-then-start-text : goal.returns-then-start-text
returns-then-start-text c = record { tokens = c.from_vec.ensures ∙ starts-past c.args.start c.args.text.now c.new-items.result.items c.new-items.ensures.items c.if-start-text.true }

pub loop-rest-preserved-in-Gap : goal.loop-rest-preserved-in-Gap
loop-rest-preserved-in-Gap c =
    let more : 0 < length c.loop-rest.rest.now = search rules in
    let x = c.data_lexeme_at-lexeme.ensures in
    let left = c.after-rest-in-loop-rest in
    let feeds = c.line_feeds-line-in-Gap in
    let next : IsNext (length c.args.text.now) c.loop-rest.rest.now c.data_lexeme_at-lexeme.result = record { is = x.value; more = more; some = x.some; fits = x.within more; within = c.loop-rest.invariant.1.1 } in (
      gap-read c.loop-rest.line (length c.args.text.now) feeds.result c.loop-rest.rest.now left.result.now c.data_lexeme_at-lexeme.result _ c.loop-rest.items.items next c.in-Gap.is feeds.ensures.value left.ensures c.loop-rest.invariant.0,
      (lines-within c.loop-rest.line feeds.result c.data_lexeme_at-lexeme.result.size (length c.args.text.now) c.loop-rest.rest.now left.result.now feeds.ensures.within left.ensures c.loop-rest.invariant.1.0, rest-within _ _ _ _ left.ensures c.loop-rest.invariant.1.1),
    )

pub loop-rest-preserved : goal.loop-rest-preserved
loop-rest-preserved c =
    let more : 0 < length c.loop-rest.rest.now = search rules in
    let x = c.data_lexeme_at-lexeme.ensures in
    let left = c.after-rest-in-loop-rest in
    let next : IsNext (length c.args.text.now) c.loop-rest.rest.now c.data_lexeme_at-lexeme.result = record { is = x.value; more = more; some = x.some; fits = x.within more; within = c.loop-rest.invariant.1.1 } in
    let pushed : c.push.new.self.items ≡ c.loop-rest.items.items ++ record { kind = c.in-Ok.token.kind; at = length c.args.text.now - length c.loop-rest.rest.now; line = c.loop-rest.line; text = c.in-Ok.token.text.now } ∷ [] = rw (← c.new.ensures) c.in_ok-push-in-Ok.ensures.items in (
      token-read c.loop-rest.line (length c.args.text.now) c.loop-rest.rest.now left.result.now c.in-Ok.token.text.now c.data_lexeme_at-lexeme.result c.in-Token.kind c.in-Ok.token.kind _ c.loop-rest.items.items c.push.new.self.items next c.in-Token.is c.in-Ok.ensures.ok c.in-Ok.ensures.text left.ensures pushed c.loop-rest.invariant.0,
      (left-within c.loop-rest.line _ _ _ _ left.ensures c.loop-rest.invariant.1.0, rest-within _ _ _ _ left.ensures c.loop-rest.invariant.1.1),
    )

pub returns-in-Err : goal.returns-in-Err
returns-in-Err c =
    let more : 0 < length c.loop-rest.rest.now = search rules in
    let x = c.data_lexeme_at-lexeme.ensures in
    let left = c.after-rest-in-loop-rest in
    let next : IsNext (length c.args.text.now) c.loop-rest.rest.now c.data_lexeme_at-lexeme.result = record { is = x.value; more = more; some = x.some; fits = x.within more; within = c.loop-rest.invariant.1.1 } in
    record { tokens = c.from_vec-in-Err.ensures ∙ fault-read c.loop-rest.line (length c.args.text.now) c.loop-rest.rest.now left.result.now c.data_lexeme_at-lexeme.result c.in-Token.kind c.in-Err.kind _ c.loop-rest.items.items next c.in-Token.is c.in-Err.ensures.err left.ensures c.loop-rest.invariant.0 }

pub returns-in-Bad : goal.returns-in-Bad
returns-in-Bad c =
    let more : 0 < length c.loop-rest.rest.now = search rules in
    let x = c.data_lexeme_at-lexeme.ensures in
    let next : IsNext (length c.args.text.now) c.loop-rest.rest.now c.data_lexeme_at-lexeme.result = record { is = x.value; more = more; some = x.some; fits = x.within more; within = c.loop-rest.invariant.1.1 } in
    record { tokens = c.from_vec-in-Bad.ensures ∙ bad-read c.loop-rest.line (length c.args.text.now) c.loop-rest.rest.now c.data_lexeme_at-lexeme.result c.in-Bad.kind _ c.loop-rest.items.items next c.in-Bad.is c.loop-rest.invariant.0 }

pub returns : goal.returns
returns c =
    let none : length c.loop-rest.rest.now ≡ 0 = search rules in
    record { tokens = c.from_vec-2.ensures ∙ all-read (length c.args.text.now - length c.loop-rest.rest.now) c.loop-rest.line c.loop-rest.rest.now _ c.loop-rest.items.items none c.loop-rest.invariant.0 }
