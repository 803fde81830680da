-- The tokens of a text are those of its first lexeme, then those of the rest.
use Rattle.std.proofs.Common.{zero, suc, ◌≡◌, ℕ, ◌+◌, ◌-◌, ◌<◌, ◌≤◌, List, [], ◌∷◌, ◌++◌, length, take, drop, Some, None, Ok, Err, refl, ap, sym, ◌∙◌, append_assoc, append-nil, arith}
use Rattle.std.proofs.lemmas.List.{length-drop, length-take, drop_all}
use Rattle.std.specs.List.{count_by}
use Rattle.gmpl_token.specs.declared.kind.TokenKind.{TokenKind}
use Rattle.gmpl_token.specs.declared.token.LexFaultKind.{LexFaultKind}
use Rattle.gmpl_token.specs.Token.{Token, Tokens}
use Rattle.gmpl_lexer.specs.declared.lexeme.Lexeme.{Lexeme}
use Rattle.gmpl_lexer.specs.declared.lexeme.LexemeKind.{LexemeKind}
use Rattle.gmpl_lexer.specs.declared.lexeme.LexemeKind.TheVariants as l
use Rattle.gmpl_lexer.specs.Bytes.{is_line_feed}
use Rattle.gmpl_lexer.specs.Tokens.{followed_by, stopped}
use Rattle.gmpl_lexer.specs.Symbols.{data_lexeme_at}
use Rattle.gmpl_lexer.specs.DataTokens.{tokens_from, with_kind, with_lexeme, token_kind, data_tokens}

skipped : (at line n : ℕ) (bs : List ℕ) → tokens_from at line n bs ≡ tokens_from (at + n) line 0 (drop n bs)
unfolding tokens_from
skipped at line zero bs = let e : at + 0 ≡ at = omega arith in rw e refl
skipped at line (suc n) [] = refl
skipped at line (suc n) (b ∷ bs) = let e : at + suc n ≡ at + 1 + n = omega arith in rw e (skipped (at + 1) line n bs)

-- behind a first byte and so many less one
behind : (line whole n b : ℕ) (bs : List ℕ) → 0 < n → n ≤ length (b ∷ bs) → length (b ∷ bs) ≤ whole
    → tokens_from (whole - length (b ∷ bs) + 1) line (n - 1) bs ≡ tokens_from (whole - length (drop n (b ∷ bs))) line 0 (drop n (b ∷ bs))
behind line whole zero b bs some fits h = absurd (omega arith)
behind line whole (suc n) b bs some fits h =
    let d : suc n - 1 ≡ n = omega arith in
    let at : whole - length (b ∷ bs) + 1 + n ≡ whole - length (drop n bs) = omega (arith, length-drop n bs) in
    rw d (skipped (whole - length (b ∷ bs) + 1) line n bs ∙ ap (λ a. tokens_from a line 0 (drop n bs)) at)

same_go : (kind : LexemeKind) (at line : ℕ) (bytes : List ℕ) (f g : ℕ → Tokens) → ((n : ℕ) → f n ≡ g n) → with_lexeme kind at line bytes f ≡ with_lexeme kind at line bytes g
same_go l.Gap at line bytes f g h = h (line + count_by is_line_feed bytes)
same_go (l.Token kind) at line bytes f g h = ap (with_kind (token_kind kind bytes) at line bytes) (h line)
same_go (l.Bad kind) at line bytes f g h = refl

first-lexeme : (line whole : ℕ) (rest : List ℕ) → 0 < length rest → 0 < (data_lexeme_at rest).size → (data_lexeme_at rest).size ≤ length rest → length rest ≤ whole
    → tokens_from (whole - length rest) line 0 rest ≡ with_lexeme (data_lexeme_at rest).kind (whole - length rest) line (take (data_lexeme_at rest).size rest) (λ n. tokens_from (whole - length (drop (data_lexeme_at rest).size rest)) n 0 (drop (data_lexeme_at rest).size rest))
unfolding tokens_from
first-lexeme line whole [] more some fits h = absurd (omega arith)
first-lexeme line whole (b ∷ bs) more some fits h =
    let size = (data_lexeme_at (b ∷ bs)).size in
    same_go (data_lexeme_at (b ∷ bs)).kind (whole - length (b ∷ bs)) line (take size (b ∷ bs))
    (λ n. tokens_from (whole - length (b ∷ bs) + 1) n (size - 1) bs) (λ n. tokens_from (whole - length (drop size (b ∷ bs))) n 0 (drop size (b ∷ bs)))
    (λ n. behind n whole size b bs some fits h)

-- what stands at the start of the rest, which fits in it
pub record IsNext (whole : ℕ) (rest : List ℕ) (x : Lexeme) : Type 0 where
  pub is : x ≡ data_lexeme_at rest
  pub more : 0 < length rest
  pub some : 0 < x.size
  pub fits : x.size ≤ length rest
  pub within : length rest ≤ whole

next-lexeme : (line whole : ℕ) (rest : List ℕ) (x : Lexeme) → IsNext whole rest x
    → tokens_from (whole - length rest) line 0 rest ≡ with_lexeme x.kind (whole - length rest) line (take x.size rest) (λ n. tokens_from (whole - length (drop x.size rest)) n 0 (drop x.size rest))
next-lexeme line whole rest x next =
    let some : 0 < (data_lexeme_at rest).size = rw (← next.is) next.some in
    let fits : (data_lexeme_at rest).size ≤ length rest = rw (← next.is) next.fits in
    rw next.is (first-lexeme line whole rest next.more some fits next.within)

pub gap-read : (line whole feeds : ℕ) (rest left : List ℕ) (x : Lexeme) (all : Tokens) (items : List Token) → IsNext whole rest x → x.kind ≡ l.Gap
    → feeds ≡ count_by is_line_feed (take x.size rest) → left ≡ drop x.size rest → all ≡ followed_by items (tokens_from (whole - length rest) line 0 rest)
    → all ≡ followed_by items (tokens_from (whole - length left) (line + feeds) 0 left)
gap-read line whole feeds rest left x all items next is fed behind e =
    let one = next-lexeme line whole rest x next in
    let two = ap (λ k. with_lexeme k (whole - length rest) line (take x.size rest) (λ n. tokens_from (whole - length (drop x.size rest)) n 0 (drop x.size rest))) is in
    e ∙ ap (followed_by items) (one ∙ two) ∙ (rw (fed, behind) refl)

-- a token that is read, with its kind or what is wrong with it
token-next : (line whole : ℕ) (rest left : List ℕ) (x : Lexeme) (kind : TokenKind) → IsNext whole rest x → x.kind ≡ l.Token kind → left ≡ drop x.size rest
    → tokens_from (whole - length rest) line 0 rest ≡ with_kind (token_kind kind (take x.size rest)) (whole - length rest) line (take x.size rest) (tokens_from (whole - length left) line 0 left)
token-next line whole rest left x kind next is behind =
    let one = next-lexeme line whole rest x next in
    let two = ap (λ k. with_lexeme k (whole - length rest) line (take x.size rest) (λ n. tokens_from (whole - length (drop x.size rest)) n 0 (drop x.size rest))) is in
    one ∙ two ∙ (rw behind refl)

more_items : (items : List Token) (t : Token) (more : Tokens) → followed_by items (record { items = t ∷ more.items; fault = more.fault }) ≡ followed_by (items ++ t ∷ []) more
more_items items t more = ap (λ (all : List Token). record { items = all; fault = more.fault }) (sym (append_assoc items (t ∷ []) more.items))

pub token-read : (line whole : ℕ) (rest left text : List ℕ) (x : Lexeme) (kind found : TokenKind) (all : Tokens) (items more : List Token) → IsNext whole rest x → x.kind ≡ l.Token kind
    → token_kind kind (take x.size rest) ≡ Ok found → text ≡ take x.size rest → left ≡ drop x.size rest → more ≡ items ++ record { kind = found; at = whole - length rest; line = line; text = text } ∷ []
    → all ≡ followed_by items (tokens_from (whole - length rest) line 0 rest)
    → all ≡ followed_by more (tokens_from (whole - length left) line 0 left)
token-read line whole rest left text x kind found all items more next is good spelled behind pushed e =
    let one = token-next line whole rest left x kind next is behind in
    let two = ap (λ t. with_kind t (whole - length rest) line (take x.size rest) (tokens_from (whole - length left) line 0 left)) good in
    e ∙ ap (followed_by items) (one ∙ two) ∙ more_items items (record { kind = found; at = whole - length rest; line = line; text = take x.size rest }) (tokens_from (whole - length left) line 0 left) ∙ (rw (pushed, spelled) refl)

ended : (at line : ℕ) (kind : LexFaultKind) (items : List Token) → followed_by items (stopped at line kind) ≡ record { items = items; fault = Some (record { at = at; line = line; kind = kind }) }
ended at line kind items = ap (λ (all : List Token). record { items = all; fault = Some (record { at = at; line = line; kind = kind }) }) (append-nil items)

pub fault-read : (line whole : ℕ) (rest left : List ℕ) (x : Lexeme) (kind : TokenKind) (fault : LexFaultKind) (all : Tokens) (items : List Token) → IsNext whole rest x → x.kind ≡ l.Token kind
    → token_kind kind (take x.size rest) ≡ Err fault → left ≡ drop x.size rest
    → all ≡ followed_by items (tokens_from (whole - length rest) line 0 rest)
    → record { items = items; fault = Some (record { at = whole - length rest; line = line; kind = fault }) } ≡ all
fault-read line whole rest left x kind fault all items next is wrong behind e =
    let one = token-next line whole rest left x kind next is behind in
    let two = ap (λ t. with_kind t (whole - length rest) line (take x.size rest) (tokens_from (whole - length left) line 0 left)) wrong in
    sym (e ∙ ap (followed_by items) (one ∙ two) ∙ ended (whole - length rest) line fault items)

pub bad-read : (line whole : ℕ) (rest : List ℕ) (x : Lexeme) (kind : LexFaultKind) (all : Tokens) (items : List Token) → IsNext whole rest x → x.kind ≡ l.Bad kind
    → all ≡ followed_by items (tokens_from (whole - length rest) line 0 rest)
    → record { items = items; fault = Some (record { at = whole - length rest; line = line; kind = kind }) } ≡ all
bad-read line whole rest x kind all items next is e =
    let one = next-lexeme line whole rest x next in
    let two = ap (λ k. with_lexeme k (whole - length rest) line (take x.size rest) (λ n. tokens_from (whole - length (drop x.size rest)) n 0 (drop x.size rest))) is in
    sym (e ∙ ap (followed_by items) (one ∙ two) ∙ ended (whole - length rest) line kind items)

pub all-read : (at line : ℕ) (rest : List ℕ) (all : Tokens) (items : List Token) → length rest ≡ 0 → all ≡ followed_by items (tokens_from at line 0 rest)
    → record { items = items; fault = None } ≡ all
unfolding tokens_from
all-read at line [] all items none e = sym (e ∙ ap (λ (ts : List Token). record { items = ts; fault = None }) (append-nil items))
all-read at line (b ∷ bs) all items none e = absurd (omega arith)

-- nothing stands behind the end
pub starts-past : (start : ℕ) (text : List ℕ) (items : List Token) → items ≡ [] → length text < start → record { items = items; fault = None } ≡ data_tokens start text
unfolding tokens_from
starts-past start text items is past = let none : drop start text ≡ [] = drop_all start text (omega arith) in rw (none, is) refl

-- lines are counted within the bytes that are passed
pub lines-within : (line feeds size whole : ℕ) (rest left : List ℕ) → feeds ≤ length (take size rest) → left ≡ drop size rest → line + length rest ≤ whole + 1 → line + feeds + length left ≤ whole + 1
lines-within line feeds size whole rest left few is h =
    let l : length left ≡ length rest - size = rw is (length-drop size rest) in
    let t = length-take size rest in
    omega (arith, l, t)

pub left-within : (n size whole : ℕ) (rest left : List ℕ) → left ≡ drop size rest → n + length rest ≤ whole → n + length left ≤ whole
left-within n size whole rest left is h = let l : length left ≡ length rest - size = rw is (length-drop size rest) in omega (arith, l)

pub rest-within : (size whole : ℕ) (rest left : List ℕ) → left ≡ drop size rest → length rest ≤ whole → length left ≤ whole
rest-within size whole rest left is h = let l : length left ≡ length rest - size = rw is (length-drop size rest) in omega (arith, l)
