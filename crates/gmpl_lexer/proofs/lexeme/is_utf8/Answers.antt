use Rattle.std.proofs.Common.{◌≡◌, Bool, true, false, refl, sym}
use Rattle.std.proofs.lemmas.Str.{IsUtf8-from_is_utf8, is_utf8-from_IsUtf8}
use Rattle.gmpl_lexer.proofs.lexeme.is_utf8.Goals as goal

false_if : (b : Bool) → (b ≡ true → ⊥) → false ≡ b
false_if true isnt = absurd (isnt refl)
false_if false isnt = refl

pub returns-in-Ok : goal.returns-in-Ok
returns-in-Ok c = let e = c.in-Ok.ensures in sym (is_utf8-from_IsUtf8 _ e.cases.1)

pub returns-in-Err : goal.returns-in-Err
returns-in-Err c = let e = c.in-Err.ensures in false_if _ (λ is. e.cases.0 (IsUtf8-from_is_utf8 _ is))
