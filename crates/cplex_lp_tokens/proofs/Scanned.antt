-- A line's tokens are those of what stands at its start, then those of the rest.
use Rattle.std.proofs.Common.{zero, suc, ◌≡◌, ℕ, ◌-◌, ◌<◌, List, [], ◌∷◌, ◌++◌, length, take, drop, Option, Some, None, refl, ap, sym, ◌∙◌, append_assoc, arith}
use Rattle.std.proofs.lemmas.List.{length-drop}
use Rattle.cplex_lp_tokens.specs.declared.token.TokenKind.{TokenKind}
use Rattle.cplex_lp_tokens.specs.declared.lexeme.Lexeme.{Lexeme}
use Rattle.cplex_lp_tokens.specs.Lexemes.{lexeme_at}
use Rattle.cplex_lp_tokens.specs.Tokens.{Token, with_lexeme, tokens_after}

skipped : (line n : ℕ) (bs : List ℕ) → tokens_after line n bs ≡ tokens_after line 0 (drop n bs)
skipped line zero bs = refl
skipped line (suc n) [] = refl
skipped line (suc n) (b ∷ bs) = skipped line n bs

before : (line : ℕ) (kind : Option TokenKind) (text : List ℕ) (more : List Token) → with_lexeme line kind text more ≡ with_lexeme line kind text [] ++ more
before line None text more = refl
before line (Some kind) text more = refl

one-less : (line n : ℕ) (b : ℕ) (bs : List ℕ) → 0 < n → tokens_after line (n - 1) bs ≡ tokens_after line 0 (drop n (b ∷ bs))
one-less line zero b bs h = absurd (omega arith)
one-less line (suc n) b bs h = let e : suc n - 1 ≡ n = omega arith in rw e (skipped line n bs)

pub next-lexeme : (line : ℕ) (rest : List ℕ) → 0 < length rest → 0 < (lexeme_at rest).size → tokens_after line 0 rest ≡ with_lexeme line (lexeme_at rest).kind (take (lexeme_at rest).size rest) [] ++ tokens_after line 0 (drop (lexeme_at rest).size rest)
next-lexeme line [] h k = absurd (omega arith)
next-lexeme line (b ∷ bs) h k = let n = (lexeme_at (b ∷ bs)).size in ap (with_lexeme line (lexeme_at (b ∷ bs)).kind (take n (b ∷ bs))) (one-less line n b bs k) ∙ before line (lexeme_at (b ∷ bs)).kind (take n (b ∷ bs)) (tokens_after line 0 (drop n (b ∷ bs)))

pub scanned : (line : ℕ) (rest : List ℕ) (l : Lexeme) → l ≡ lexeme_at rest → 0 < length rest → 0 < l.size → (whole old new : List Token) (left : List ℕ) → whole ≡ old ++ tokens_after line 0 rest → new ≡ old ++ with_lexeme line l.kind (take l.size rest) [] → left ≡ drop l.size rest → whole ≡ new ++ tokens_after line 0 left
scanned line rest l is h k whole old new left e f g =
    let some : 0 < (lexeme_at rest).size = rw (← is) k in
    let one : new ≡ old ++ with_lexeme line (lexeme_at rest).kind (take (lexeme_at rest).size rest) [] = rw (← is) f in
    let end : left ≡ drop (lexeme_at rest).size rest = rw (← is) g in
    e ∙ ap (λ ts. old ++ ts) (next-lexeme line rest h some) ∙ (rw (one, end) (sym (append_assoc old (with_lexeme line (lexeme_at rest).kind (take (lexeme_at rest).size rest) []) (tokens_after line 0 (drop (lexeme_at rest).size rest)))))

-- what is left after some bytes is less
pub fewer : (n : ℕ) (rest left : List ℕ) → left ≡ drop n rest → 0 < n → 0 < length rest → length left < length rest
fewer n rest left is some more = omega (arith, ap (λ (xs : List ℕ). length xs) is, length-drop n rest, some, more)
