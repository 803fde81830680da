-- A text that is UTF-8 is its bytes.
use Rattle.std.proofs.Common.{◌≡◌, Ok, Err, IfOk, IfErr, subst}
use Rattle.std.proofs.lemmas.Str.{IsUtf8-from_is_utf8, is_utf8-from_IsUtf8}
use Rattle.gmpl_lexer.proofs.Texts.{text-of-utf8, text-of-others}
use Rattle.gmpl_lexer.proofs.tokens.token_text.Goals as goal

pub returns-in-Ok-clause-ok : goal.returns-in-Ok-clause-ok
returns-in-Ok-clause-ok c =
    let e = c.in-Ok.ensures in
    subst (λ answer. IfOk c.text_by_kind.result (λ t. answer ≡ Ok t.now)) (text-of-utf8 c.args.kind c.in-Ok.text.now c.args.bytes.now c.args.rest.now e.cases.0 (is_utf8-from_IsUtf8 _ e.cases.1)) c.text_by_kind.ensures.ok

pub returns-in-Ok-clause-err : goal.returns-in-Ok-clause-err
returns-in-Ok-clause-err c =
    let e = c.in-Ok.ensures in
    subst (λ answer. IfErr c.text_by_kind.result (λ fault. answer ≡ Err fault)) (text-of-utf8 c.args.kind c.in-Ok.text.now c.args.bytes.now c.args.rest.now e.cases.0 (is_utf8-from_IsUtf8 _ e.cases.1)) c.text_by_kind.ensures.err

pub returns-in-Err-clause-err : goal.returns-in-Err-clause-err
returns-in-Err-clause-err c = let e = c.in-Err.ensures in text-of-others c.args.kind c.args.bytes.now c.args.rest.now (λ is. e.cases.0 (IsUtf8-from_is_utf8 _ is))
