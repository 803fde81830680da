-- A text that is UTF-8 is its bytes.
use Rattle.std.proofs.Common.{◌≡◌, ◌∙◌, Err, sym}
use Rattle.std.proofs.lemmas.Str.{IsUtf8-from_is_utf8, is_utf8-from_IsUtf8}
use Rattle.gmpl_lexer.specs.DataTokens.{token_kind}
use Rattle.gmpl_lexer.proofs.TokenKinds.{kind-of-utf8, kind-of-others, handed-on}
use Rattle.gmpl_lexer.proofs.data_tokens.token_kind.Goals as goal

pub returns-in_err-kind-in-Ok-clause-err : goal.returns-in_err-kind-in-Ok-clause-err
returns-in_err-kind-in-Ok-clause-err c =
    let e = c.in-Ok.ensures in
    handed-on c.from_residual.result c.in_err-kind-in-Ok.field-0.0 (λ fault. token_kind c.args.kind c.args.bytes.now ≡ Err fault) c.from_residual.ensures.1
    (sym (kind-of-utf8 c.args.kind c.in-Ok.text.now c.args.bytes.now e.cases.0 (is_utf8-from_IsUtf8 _ e.cases.1)) ∙ sym c.in_err-kind-in-Ok.ensures)

pub returns-in_ok-kind-in-Ok-clause-ok : goal.returns-in_ok-kind-in-Ok-clause-ok
returns-in_ok-kind-in-Ok-clause-ok c =
    let e = c.in-Ok.ensures in
    sym (kind-of-utf8 c.args.kind c.in-Ok.text.now c.args.bytes.now e.cases.0 (is_utf8-from_IsUtf8 _ e.cases.1)) ∙ sym c.in_ok-kind-in-Ok.ensures

pub returns-in-Err-clause-err : goal.returns-in-Err-clause-err
returns-in-Err-clause-err c = let e = c.in-Err.ensures in kind-of-others c.args.kind c.args.bytes.now (λ is. e.cases.0 (IsUtf8-from_is_utf8 _ is))
