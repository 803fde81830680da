-- The text of a token, by whether its bytes are UTF-8.
use Rattle.std.proofs.Common.{◌≡◌, ℕ, List, Bool, true, false, Result, Err, refl, ap, ◌∙◌, if◌then◌else◌}
use Rattle.std.specs.Str.{is_utf8}
use Rattle.gmpl_token.specs.declared.kind.TokenKind.{TokenKind}
use Rattle.gmpl_token.specs.declared.token.LexFaultKind.{LexFaultKind}
use Rattle.gmpl_token.specs.declared.token.LexFaultKind.TheVariants.{BadByte}
use Rattle.gmpl_lexer.specs.Tokens.{text_by_kind, token_text}

first-chosen : (b : Bool) (answer : Result (List ℕ) LexFaultKind) → b ≡ true → answer ≡ (if b then answer else Err BadByte)
first-chosen b answer is = rw is refl

second-chosen : (b : Bool) (answer : Result (List ℕ) LexFaultKind) → (b ≡ true → ⊥) → (if b then answer else Err BadByte) ≡ Err BadByte
second-chosen true answer isnt = absurd (isnt refl)
second-chosen false answer isnt = refl

pub text-of-utf8 : (kind : TokenKind) (text bytes after : List ℕ) → text ≡ bytes → is_utf8 bytes ≡ true → text_by_kind kind text after ≡ token_text kind bytes after
text-of-utf8 kind text bytes after same is = ap (λ t. text_by_kind kind t after) same ∙ first-chosen (is_utf8 bytes) (text_by_kind kind bytes after) is

pub text-of-others : (kind : TokenKind) (bytes after : List ℕ) → (is_utf8 bytes ≡ true → ⊥) → token_text kind bytes after ≡ Err BadByte
text-of-others kind bytes after isnt = second-chosen (is_utf8 bytes) (text_by_kind kind bytes after) isnt
