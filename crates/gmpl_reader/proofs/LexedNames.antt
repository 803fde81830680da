-- A token of a text that is a name has letters, digits and underscores.
use Rattle.std.proofs.Common.{◌≡◌, zero, suc, ℕ, ◌+◌, ◌-◌, ◌==◌, Bool, true, false, ◌&&◌, ◌||◌, if◌then◌else◌, List, [], ◌∷◌, take, drop, Option, Some, None, Result, Ok, Err, IfOk, codes, refl, arith}
use Rattle.std.specs.List.{list_all, position_or_len}
use Rattle.std.specs.Int.{is_in_range}
use Rattle.std.specs.Str.{is_utf8}
use Rattle.rational.specs.Rational.{Rational}
use Rattle.fraction.specs.declared.read.ReadFault.{ReadFault}
use Rattle.fraction.specs.declared.read.ReadFault.TheVariants.{NotANumber, TooWide as TooWideNumber}
use Rattle.fraction.specs.Literal.{read_of}
use Rattle.gmpl_token.specs.declared.kind.TokenKind.{TokenKind}
use Rattle.gmpl_token.specs.declared.kind.TokenKind.TheVariants as k
use Rattle.gmpl_token.specs.declared.token.LexFaultKind.{LexFaultKind}
use Rattle.gmpl_token.specs.declared.token.LexFaultKind.TheVariants.{BadByte}
use Rattle.gmpl_token.specs.Token.{Tokens}
use Rattle.gmpl_lexer.specs.Bytes.{byte, line_feed, carriage_return, next_is, begins_with, is_blank, is_quote, begins_name, is_no_name_byte, is_before_name}
use Rattle.gmpl_lexer.specs.Words.{long_delimiter, short_delimiter, bracket}
use Rattle.gmpl_lexer.specs.Numbers.{literal_length}
use Rattle.gmpl_lexer.specs.Strings.{string_length, closes_comment, comment_length}
use Rattle.gmpl_lexer.specs.Lexemes.{gap, token, name_at, word_at, short_at, long_at, string_of, comment_or_other, lexeme_at}
use Rattle.gmpl_lexer.specs.Tokens.{number_text, text_by_kind, token_text, begins_behind, with_text, with_lexeme, tokens_from, tokens_of}
use Rattle.gmpl_member_names.specs.Names.{is_name_byte}
use Rattle.gmpl_rows.specs.Premises.{IsName}
use Rattle.gmpl_reader.proofs.NamedTokens.{HasText, AreNamed, any_kind}

-- both ways of a test
either_way : {A : Type 0} (P : A → Type 0) (b : Bool) (x y : A) → (b ≡ true → P x) → (b ≡ false → P y) → P (if b then x else y)
either_way P true x y f g = f refl
either_way P false x y f g = g refl

-- ---- the bytes of a name

letter : (digit upper lower underscore : Bool) → ((upper || lower) || underscore) ≡ true → (((digit || upper) || lower) || underscore) ≡ true
letter true upper lower underscore h = refl
letter false upper lower underscore h = h

name_bytes_by : (b : ℕ) (bs : List ℕ) (is : Bool) → is_name_byte b ≡ is → list_all is_name_byte (take (position_or_len is_no_name_byte bs) bs) ≡ true
    → list_all is_name_byte (take (position_or_len is_no_name_byte (b ∷ bs)) (b ∷ bs)) ≡ true
name_bytes_by b bs true e h =
    let next : 1 + position_or_len is_no_name_byte bs ≡ suc (position_or_len is_no_name_byte bs) = omega arith in
    rw (e, next, e) h
name_bytes_by b bs false e h = rw e refl

name_bytes : (bs : List ℕ) → list_all is_name_byte (take (position_or_len is_no_name_byte bs) bs) ≡ true
name_bytes [] = refl
name_bytes (b ∷ bs) = name_bytes_by b bs (is_name_byte b) refl (name_bytes bs)

begun_name : (b : ℕ) (bs : List ℕ) → begins_name b ≡ true → IsName (take (1 + position_or_len is_no_name_byte bs) (b ∷ bs))
begun_name b bs begins =
    let next : 1 + position_or_len is_no_name_byte bs ≡ suc (position_or_len is_no_name_byte bs) = omega arith in
    let first : is_name_byte b ≡ true = letter (is_in_range 48 57 b) (is_in_range 65 90 b) (is_in_range 97 122 b) (b == byte (codes "_")) begins in
    rw (next, first) (name_bytes bs)

-- ---- delimiters are no names

-- no token of this kind is a name
abbrev IsUnnamed : Option TokenKind → Type 0
IsUnnamed None = Unit {0}
IsUnnamed (Some kind) = (text : List ℕ) → HasText kind text

first_of_two : (b : Bool) (x y : Option TokenKind) → IsUnnamed x → IsUnnamed y → IsUnnamed (if b then x else y)
first_of_two true x y f g = f
first_of_two false x y f g = g

long_unnamed : (text : List ℕ) → IsUnnamed (long_delimiter text)
long_unnamed text =
    first_of_two (begins_with text (codes "**")) _ _ (λ _. tt)
    (first_of_two (begins_with text (codes "..")) _ _ (λ _. tt)
    (first_of_two (begins_with text (codes ":=")) _ _ (λ _. tt)
    (first_of_two (begins_with text (codes "<=")) _ _ (λ _. tt)
    (first_of_two (begins_with text (codes ">=")) _ _ (λ _. tt)
    (first_of_two (begins_with text (codes "<>")) _ _ (λ _. tt)
    (first_of_two (begins_with text (codes "!=")) _ _ (λ _. tt)
    (first_of_two (begins_with text (codes "==")) _ _ (λ _. tt)
    (first_of_two (begins_with text (codes "&&")) _ _ (λ _. tt)
    (first_of_two (begins_with text (codes "||")) _ _ (λ _. tt)
    (first_of_two (begins_with text (codes "<-")) _ _ (λ _. tt) tt))))))))))

bracket_unnamed : (b : ℕ) → IsUnnamed (bracket b)
bracket_unnamed b =
    first_of_two (b == byte (codes "(")) _ _ (λ _. tt)
    (first_of_two (b == byte (codes ")")) _ _ (λ _. tt)
    (first_of_two (b == byte (codes "[")) _ _ (λ _. tt)
    (first_of_two (b == byte (codes "]")) _ _ (λ _. tt)
    (first_of_two (b == byte (codes "{")) _ _ (λ _. tt)
    (first_of_two (b == byte (codes "}")) _ _ (λ _. tt)
    (first_of_two (b == byte (codes ".")) _ _ (λ _. tt)
    (first_of_two (b == byte (codes ",")) _ _ (λ _. tt)
    (first_of_two (b == byte (codes ":")) _ _ (λ _. tt)
    (first_of_two (b == byte (codes ";")) _ _ (λ _. tt)
    (first_of_two (b == byte (codes "~")) _ _ (λ _. tt) tt))))))))))

short_unnamed : (b : ℕ) → IsUnnamed (short_delimiter b)
short_unnamed b =
    first_of_two (b == byte (codes "+")) _ _ (λ _. tt)
    (first_of_two (b == byte (codes "-")) _ _ (λ _. tt)
    (first_of_two (b == byte (codes "*")) _ _ (λ _. tt)
    (first_of_two (b == byte (codes "/")) _ _ (λ _. tt)
    (first_of_two (b == byte (codes "^")) _ _ (λ _. tt)
    (first_of_two (b == byte (codes "&")) _ _ (λ _. tt)
    (first_of_two (b == byte (codes "<")) _ _ (λ _. tt)
    (first_of_two (b == byte (codes ">")) _ _ (λ _. tt)
    (first_of_two (b == byte (codes "=")) _ _ (λ _. tt)
    (first_of_two (b == byte (codes "!")) _ _ (λ _. tt) (bracket_unnamed b))))))))))

-- ---- the text of a token is its bytes

number_texts : (value : Result Rational ReadFault) (text after : List ℕ) → IfOk (number_text value text after) (λ _. Unit {0})
number_texts (Err TooWideNumber) text after = tt
number_texts (Err NotANumber) text after = either_way (λ (r : Result (List ℕ) LexFaultKind). IfOk r (λ _. Unit {0})) (is_before_name after) _ _ (λ _. tt) (λ _. tt)
number_texts (Ok value) text after = either_way (λ (r : Result (List ℕ) LexFaultKind). IfOk r (λ _. Unit {0})) (is_before_name after) _ _ (λ _. tt) (λ _. tt)

text_by_kind_has : (kind : TokenKind) (text after : List ℕ) → HasText kind text → IfOk (text_by_kind kind text after) (HasText kind)
text_by_kind_has k.NumericLiteral text after h = number_texts (read_of text) text after
text_by_kind_has kind text after h = h

token_text_has : (kind : TokenKind) (bytes after : List ℕ) → HasText kind bytes → IfOk (token_text kind bytes after) (HasText kind)
token_text_has kind bytes after h =
    either_way (λ (r : Result (List ℕ) LexFaultKind). IfOk r (HasText kind)) (is_utf8 bytes) (text_by_kind kind bytes after) (Err BadByte) (λ _. text_by_kind_has kind bytes after h) (λ _. tt)

with_text_named : (kind : TokenKind) (at line : ℕ) (text : Result (List ℕ) LexFaultKind) (tokens : Tokens) → IfOk text (HasText kind) → AreNamed tokens.items → AreNamed (with_text kind at line text tokens).items
with_text_named kind at line (Ok text) tokens h named = (h, named)
with_text_named kind at line (Err fault) tokens h named = tt

-- ---- what stands at a place

abbrev TypeOf : {A : Type 0} → A → Type 0
TypeOf {A} a = A

abbrev Lexeme : Type 0
Lexeme = TypeOf (gap 0)

-- before tokens of which the names have such texts stands such a token, or none
module _ (begins : Bool) (at line b : ℕ) (bs : List ℕ) (go : Bool → ℕ → Tokens) (named : (c : Bool) (n : ℕ) → AreNamed (go c n).items) where
  abbrev IsGood : Lexeme → Type 0
  IsGood x = AreNamed (with_lexeme x.kind begins at line (take x.size (b ∷ bs)) (drop x.size (b ∷ bs)) go).items

  good_token : (size : ℕ) (kind : TokenKind) → HasText kind (take size (b ∷ bs)) → IsGood (token size kind)
  good_token size kind h =
      with_text_named kind at line (token_text kind (take size (b ∷ bs)) (drop size (b ∷ bs))) (go (begins_behind kind) line) (token_text_has kind (take size (b ∷ bs)) (drop size (b ∷ bs)) h) (named (begins_behind kind) line)

  good_gap : (size : ℕ) → IsGood (gap size)
  good_gap size = named _ _

  good_short : (kind : Option TokenKind) → IsUnnamed kind → IsGood (short_at kind)
  good_short (Some kind) h = good_token 1 kind (h _)
  good_short None h = tt

  good_long : (kind : Option TokenKind) → IsUnnamed kind → IsGood (long_at kind b)
  good_long (Some kind) h = good_token 2 kind (h _)
  good_long None h = good_short (short_delimiter b) (short_unnamed b)

  good_string : (quote size : ℕ) (text : List ℕ) → IsGood (string_of quote size text)
  good_string quote size text =
      either_way IsGood (next_is quote (drop size text)) _ _ (λ _. good_token (size + 2) k.StringLiteral tt)
      (λ _. either_way IsGood (is_utf8 (take size text)) _ _ (λ _. tt) (λ _. tt))

  good_name : begins_name b ≡ true → IsGood (name_at (b ∷ bs) bs)
  good_name h = good_token _ _ (any_kind _ _ (begun_name b bs h))

  good_word : begins_name b ≡ true → IsGood (word_at begins (b ∷ bs) bs)
  good_word h = either_way IsGood (begins && begins_with (b ∷ bs) (codes "s.t.")) _ _ (λ _. good_token 4 k.SubjectTo tt) (λ _. good_name h)

  good_comment : IsGood (comment_or_other (b ∷ bs) b)
  good_comment =
      either_way IsGood (begins_with (b ∷ bs) (codes "/*")) _ _
      (λ _. either_way IsGood (closes_comment (drop (comment_length (drop 2 (b ∷ bs))) (drop 2 (b ∷ bs)))) _ _ (λ _. good_gap _) (λ _. tt))
      (λ _. either_way IsGood (literal_length (b ∷ bs) == 0) _ _ (λ _. good_long (long_delimiter (b ∷ bs)) (long_unnamed (b ∷ bs))) (λ _. good_token _ k.NumericLiteral tt))

  good_lexeme : IsGood (lexeme_at begins (b ∷ bs))
  good_lexeme =
      either_way IsGood (is_blank b) _ _ (λ _. good_gap 1)
      (λ _. either_way IsGood (b == carriage_return) _ _ (λ _. either_way IsGood (next_is line_feed bs) _ _ (λ _. good_gap 2) (λ _. tt))
      (λ _. either_way IsGood (b == byte (codes "#")) _ _ (λ _. good_gap _)
      (λ _. either_way IsGood (is_quote b) _ _ (λ _. good_string b (string_length b bs) bs)
      (λ _. either_way IsGood (begins_name b) _ _ (λ h. good_word h) (λ _. good_comment)))))

-- ---- from left to right

named_from : (begins : Bool) (at line passed : ℕ) (text : List ℕ) → AreNamed (tokens_from begins at line passed text).items
unfolding tokens_from
named_from begins at line zero [] = tt
named_from begins at line (suc passed) [] = tt
named_from begins at line (suc passed) (b ∷ bs) = named_from begins (at + 1) line passed bs
named_from begins at line zero (b ∷ bs) =
    good_lexeme begins at line b bs (λ begins_next next_line. tokens_from begins_next (at + 1) next_line ((lexeme_at begins (b ∷ bs)).size - 1) bs)
    (λ c n. named_from c (at + 1) n ((lexeme_at begins (b ∷ bs)).size - 1) bs)

pub lexed_named : (text : List ℕ) → AreNamed (tokens_of text).items
lexed_named text = named_from true 0 1 0 text
