-- What is UTF-8 is a text, and nothing else is.
use Rattle.std.proofs.Common.{◌≡◌, ℕ, List, Bool, true, false, Some, None, refl, ◌∙◌, if◌then◌else◌}
use Rattle.std.proofs.lemmas.Str.{IsUtf8-from_is_utf8, is_utf8-from_IsUtf8}
use Rattle.gmpl_blocks.proofs.strings.utf8_text.Goals as goal

some_if : (b : Bool) (made bytes : List ℕ) → made ≡ bytes → b ≡ true → Some made ≡ (if b then Some bytes else None)
some_if b made bytes same is = rw (is, same) refl

none_if : (b : Bool) (bytes : List ℕ) → (b ≡ true → ⊥) → None ≡ (if b then Some bytes else None)
none_if true bytes isnt = absurd (isnt refl)
none_if false bytes isnt = refl

pub returns-in_ok-made-in-Ok : goal.returns-in_ok-made-in-Ok
returns-in_ok-made-in-Ok c = let e = c.in-Ok.ensures in some_if _ _ _ (c.in_ok-made-in-Ok.ensures ∙ e.cases.0) (is_utf8-from_IsUtf8 _ e.cases.1)

pub returns-in-Err : goal.returns-in-Err
returns-in-Err c = let e = c.in-Err.ensures in none_if _ _ (λ is. e.cases.0 (IsUtf8-from_is_utf8 _ is))
