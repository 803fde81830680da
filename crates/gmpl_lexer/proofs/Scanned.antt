-- The tokens of a text are those of its first lexeme, then those of the rest.
use Rattle.std.proofs.Common.{zero, suc, ◌≡◌, ℕ, ◌+◌, ◌-◌, ◌<◌, ◌≤◌, List, [], ◌∷◌, ◌++◌, length, take, drop, Some, None, Ok, Err, Bool, refl, ap, sym, ◌∙◌, append_assoc, append-nil, arith}
use Rattle.std.proofs.lemmas.List.{length-drop, length-take}
use Rattle.std.specs.List.{count_by}
use Rattle.gmpl_token.specs.declared.kind.TokenKind.{TokenKind}
use Rattle.gmpl_token.specs.declared.token.LexFaultKind.{LexFaultKind}
use Rattle.gmpl_token.specs.Token.{Token, Tokens}
use Rattle.gmpl_lexer.specs.declared.lexeme.Lexeme.{Lexeme}
use Rattle.gmpl_lexer.specs.declared.lexeme.LexemeKind.{LexemeKind}
use Rattle.gmpl_lexer.specs.declared.lexeme.LexemeKind.TheVariants as l
use Rattle.gmpl_lexer.specs.Bytes.{is_line_feed}
use Rattle.gmpl_lexer.specs.Lexemes.{lexeme_at}
use Rattle.gmpl_lexer.specs.Tokens.{tokens_from, followed_by, with_text, with_lexeme, token_text, begins_behind, stopped}

skipped : (begins : Bool) (at line n : ℕ) (bs : List ℕ) → tokens_from begins at line n bs ≡ tokens_from begins (at + n) line 0 (drop n bs)
unfolding tokens_from
skipped begins at line zero bs = let e : at + 0 ≡ at = omega arith in rw e refl
skipped begins at line (suc n) [] = refl
skipped begins at line (suc n) (b ∷ bs) = let e : at + suc n ≡ at + 1 + n = omega arith in rw e (skipped begins (at + 1) line n bs)

-- behind a first byte and so many less one
behind : (begins : Bool) (line whole n b : ℕ) (bs : List ℕ) → 0 < n → n ≤ length (b ∷ bs) → length (b ∷ bs) ≤ whole
    → tokens_from begins (whole - length (b ∷ bs) + 1) line (n - 1) bs ≡ tokens_from begins (whole - length (drop n (b ∷ bs))) line 0 (drop n (b ∷ bs))
behind begins line whole zero b bs some fits h = absurd (omega arith)
behind begins line whole (suc n) b bs some fits h =
    let d : suc n - 1 ≡ n = omega arith in
    let at : whole - length (b ∷ bs) + 1 + n ≡ whole - length (drop n bs) = omega (arith, length-drop n bs) in
    rw d (skipped begins (whole - length (b ∷ bs) + 1) line n bs ∙ ap (λ a. tokens_from begins a line 0 (drop n bs)) at)

same_go : (kind : LexemeKind) (begins : Bool) (at line : ℕ) (bytes after : List ℕ) (f g : Bool → ℕ → Tokens) → ((b : Bool) (n : ℕ) → f b n ≡ g b n)
    → with_lexeme kind begins at line bytes after f ≡ with_lexeme kind begins at line bytes after g
same_go l.Gap begins at line bytes after f g h = h begins (line + count_by is_line_feed bytes)
same_go (l.Token kind) begins at line bytes after f g h = ap (with_text kind at line (token_text kind bytes after)) (h (begins_behind kind) line)
same_go (l.Bad kind) begins at line bytes after f g h = refl

first-lexeme : (begins : Bool) (line whole : ℕ) (rest : List ℕ) → 0 < length rest → 0 < (lexeme_at begins rest).size → (lexeme_at begins rest).size ≤ length rest → length rest ≤ whole
    → tokens_from begins (whole - length rest) line 0 rest ≡ with_lexeme (lexeme_at begins rest).kind begins (whole - length rest) line (take (lexeme_at begins rest).size rest) (drop (lexeme_at begins rest).size rest) (λ b n. tokens_from b (whole - length (drop (lexeme_at begins rest).size rest)) n 0 (drop (lexeme_at begins rest).size rest))
unfolding tokens_from
first-lexeme begins line whole [] more some fits h = absurd (omega arith)
first-lexeme begins line whole (b ∷ bs) more some fits h =
    let size = (lexeme_at begins (b ∷ bs)).size in
    same_go (lexeme_at begins (b ∷ bs)).kind begins (whole - length (b ∷ bs)) line (take size (b ∷ bs)) (drop size (b ∷ bs))
    (λ c n. tokens_from c (whole - length (b ∷ bs) + 1) n (size - 1) bs) (λ c n. tokens_from c (whole - length (drop size (b ∷ bs))) n 0 (drop size (b ∷ bs)))
    (λ c n. behind c n whole size b bs some fits h)

-- what stands at the start of the rest, which fits in it
pub record IsNext (begins : Bool) (whole : ℕ) (rest : List ℕ) (x : Lexeme) : Type 0 where
  pub is : x ≡ lexeme_at begins rest
  pub more : 0 < length rest
  pub some : 0 < x.size
  pub fits : x.size ≤ length rest
  pub within : length rest ≤ whole

pub next-lexeme : (begins : Bool) (line whole : ℕ) (rest : List ℕ) (x : Lexeme) → IsNext begins whole rest x
    → tokens_from begins (whole - length rest) line 0 rest ≡ with_lexeme x.kind begins (whole - length rest) line (take x.size rest) (drop x.size rest) (λ b n. tokens_from b (whole - length (drop x.size rest)) n 0 (drop x.size rest))
next-lexeme begins line whole rest x next =
    let some : 0 < (lexeme_at begins rest).size = rw (← next.is) next.some in
    let fits : (lexeme_at begins rest).size ≤ length rest = rw (← next.is) next.fits in
    rw next.is (first-lexeme begins line whole rest next.more some fits next.within)

pub gap-read : (begins : Bool) (line whole feeds : ℕ) (rest left : List ℕ) (x : Lexeme) (all : Tokens) (items : List Token) → IsNext begins whole rest x → x.kind ≡ l.Gap
    → feeds ≡ count_by is_line_feed (take x.size rest) → left ≡ drop x.size rest → all ≡ followed_by items (tokens_from begins (whole - length rest) line 0 rest)
    → all ≡ followed_by items (tokens_from begins (whole - length left) (line + feeds) 0 left)
gap-read begins line whole feeds rest left x all items next is fed behind e =
    let one = next-lexeme begins line whole rest x next in
    let two = ap (λ k. with_lexeme k begins (whole - length rest) line (take x.size rest) (drop x.size rest) (λ b n. tokens_from b (whole - length (drop x.size rest)) n 0 (drop x.size rest))) is in
    e ∙ ap (followed_by items) (one ∙ two) ∙ (rw (fed, behind) refl)

-- a token that is read, with its text or what is wrong with it
token-next : (begins : Bool) (line whole : ℕ) (rest left : List ℕ) (x : Lexeme) (kind : TokenKind) → IsNext begins whole rest x → x.kind ≡ l.Token kind → left ≡ drop x.size rest
    → tokens_from begins (whole - length rest) line 0 rest ≡ with_text kind (whole - length rest) line (token_text kind (take x.size rest) left) (tokens_from (begins_behind kind) (whole - length left) line 0 left)
token-next begins line whole rest left x kind next is behind =
    let one = next-lexeme begins line whole rest x next in
    let two = ap (λ k. with_lexeme k begins (whole - length rest) line (take x.size rest) (drop x.size rest) (λ b n. tokens_from b (whole - length (drop x.size rest)) n 0 (drop x.size rest))) is in
    one ∙ two ∙ (rw behind refl)

more_items : (items : List Token) (t : Token) (more : Tokens) → followed_by items (record { items = t ∷ more.items; fault = more.fault }) ≡ followed_by (items ++ t ∷ []) more
more_items items t more = ap (λ (all : List Token). record { items = all; fault = more.fault }) (sym (append_assoc items (t ∷ []) more.items))

pub token-read : (begins : Bool) (line whole : ℕ) (rest left text : List ℕ) (x : Lexeme) (kind : TokenKind) (all : Tokens) (items more : List Token) → IsNext begins whole rest x → x.kind ≡ l.Token kind
    → token_text kind (take x.size rest) left ≡ Ok text → left ≡ drop x.size rest → more ≡ items ++ record { kind = kind; at = whole - length rest; line = line; text = text } ∷ []
    → all ≡ followed_by items (tokens_from begins (whole - length rest) line 0 rest)
    → all ≡ followed_by more (tokens_from (begins_behind kind) (whole - length left) line 0 left)
token-read begins line whole rest left text x kind all items more next is good behind pushed e =
    let one = token-next begins line whole rest left x kind next is behind in
    let two = ap (λ t. with_text kind (whole - length rest) line t (tokens_from (begins_behind kind) (whole - length left) line 0 left)) good in
    e ∙ ap (followed_by items) (one ∙ two) ∙ more_items items (record { kind = kind; at = whole - length rest; line = line; text = text }) (tokens_from (begins_behind kind) (whole - length left) line 0 left) ∙ (rw pushed refl)

ended : (at line : ℕ) (kind : LexFaultKind) (items : List Token) → followed_by items (stopped at line kind) ≡ record { items = items; fault = Some (record { at = at; line = line; kind = kind }) }
ended at line kind items = ap (λ (all : List Token). record { items = all; fault = Some (record { at = at; line = line; kind = kind }) }) (append-nil items)

pub fault-read : (begins : Bool) (line whole : ℕ) (rest left : List ℕ) (x : Lexeme) (kind : TokenKind) (fault : LexFaultKind) (all : Tokens) (items : List Token) → IsNext begins whole rest x → x.kind ≡ l.Token kind
    → token_text kind (take x.size rest) left ≡ Err fault → left ≡ drop x.size rest
    → all ≡ followed_by items (tokens_from begins (whole - length rest) line 0 rest)
    → record { items = items; fault = Some (record { at = whole - length rest; line = line; kind = fault }) } ≡ all
fault-read begins line whole rest left x kind fault all items next is wrong behind e =
    let one = token-next begins line whole rest left x kind next is behind in
    let two = ap (λ t. with_text kind (whole - length rest) line t (tokens_from (begins_behind kind) (whole - length left) line 0 left)) wrong in
    sym (e ∙ ap (followed_by items) (one ∙ two) ∙ ended (whole - length rest) line fault items)

pub bad-read : (begins : Bool) (line whole : ℕ) (rest : List ℕ) (x : Lexeme) (kind : LexFaultKind) (all : Tokens) (items : List Token) → IsNext begins whole rest x → x.kind ≡ l.Bad kind
    → all ≡ followed_by items (tokens_from begins (whole - length rest) line 0 rest)
    → record { items = items; fault = Some (record { at = whole - length rest; line = line; kind = kind }) } ≡ all
bad-read begins line whole rest x kind all items next is e =
    let one = next-lexeme begins line whole rest x next in
    let two = ap (λ k. with_lexeme k begins (whole - length rest) line (take x.size rest) (drop x.size rest) (λ b n. tokens_from b (whole - length (drop x.size rest)) n 0 (drop x.size rest))) is in
    sym (e ∙ ap (followed_by items) (one ∙ two) ∙ ended (whole - length rest) line kind items)

pub all-read : (begins : Bool) (at line : ℕ) (rest : List ℕ) (all : Tokens) (items : List Token) → length rest ≡ 0 → all ≡ followed_by items (tokens_from begins at line 0 rest)
    → record { items = items; fault = None } ≡ all
unfolding tokens_from
all-read begins at line [] all items none e = sym (e ∙ ap (λ (ts : List Token). record { items = ts; fault = None }) (append-nil items))
all-read begins at line (b ∷ bs) all items none e = absurd (omega arith)

-- lines are counted within the bytes that are passed
pub lines-within : (line feeds size whole : ℕ) (rest left : List ℕ) → feeds ≤ length (take size rest) → left ≡ drop size rest → line + length rest ≤ whole + 1 → line + feeds + length left ≤ whole + 1
lines-within line feeds size whole rest left few is h =
    let l : length left ≡ length rest - size = rw is (length-drop size rest) in
    let t = length-take size rest in
    omega (arith, l, t)

pub left-within : (n size whole : ℕ) (rest left : List ℕ) → left ≡ drop size rest → n + length rest ≤ whole → n + length left ≤ whole
left-within n size whole rest left is h = let l : length left ≡ length rest - size = rw is (length-drop size rest) in omega (arith, l)

pub rest-within : (size whole : ℕ) (rest left : List ℕ) → left ≡ drop size rest → length rest ≤ whole → length left ≤ whole
rest-within size whole rest left is h = let l : length left ≡ length rest - size = rw is (length-drop size rest) in omega (arith, l)
