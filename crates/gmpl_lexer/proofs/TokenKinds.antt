-- The kind of a token, by whether its bytes are UTF-8.
use Rattle.std.proofs.Common.{◌≡◌, ℕ, List, Bool, true, false, Result, Ok, Err, IfErr, IsErrAnd, refl, sym, subst, ap, ◌∙◌, if◌then◌else◌}
use Rattle.std.specs.Str.{is_utf8}
use Rattle.gmpl_token.specs.declared.kind.TokenKind.{TokenKind}
use Rattle.gmpl_token.specs.declared.token.LexFaultKind.{LexFaultKind}
use Rattle.gmpl_token.specs.declared.token.LexFaultKind.TheVariants.{BadByte}
use Rattle.gmpl_lexer.specs.DataTokens.{kind_by, token_kind}

first-chosen : (b : Bool) (answer : Result TokenKind LexFaultKind) → b ≡ true → answer ≡ (if b then answer else Err BadByte)
first-chosen b answer is = rw is refl

second-chosen : (b : Bool) (answer : Result TokenKind LexFaultKind) → (b ≡ true → ⊥) → (if b then answer else Err BadByte) ≡ Err BadByte
second-chosen true answer isnt = absurd (isnt refl)
second-chosen false answer isnt = refl

pub kind-of-utf8 : (kind : TokenKind) (text bytes : List ℕ) → text ≡ bytes → is_utf8 bytes ≡ true → kind_by kind text ≡ token_kind kind bytes
kind-of-utf8 kind text bytes same is = ap (kind_by kind) same ∙ first-chosen (is_utf8 bytes) (kind_by kind bytes) is

pub kind-of-others : (kind : TokenKind) (bytes : List ℕ) → (is_utf8 bytes ≡ true → ⊥) → token_kind kind bytes ≡ Err BadByte
kind-of-others kind bytes isnt = second-chosen (is_utf8 bytes) (kind_by kind bytes) isnt

-- a fault that is handed on
pub handed-on : {A : Type 0} (r : Result A LexFaultKind) (e : LexFaultKind) (P : LexFaultKind → Type 0) → IsErrAnd r (λ d. d ≡ e) → P e → IfErr r P
handed-on (Ok a) e P is holds = tt
handed-on (Err d) e P is holds = subst P (sym is) holds
