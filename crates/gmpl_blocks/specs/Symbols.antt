-- Symbols of a data section (GNU MathProg Language Reference, chapter on model data).
use Rattle.std.specs.Prelude.{ℕ, zero, suc, Bool, true, false, List, [], ◌∷◌, ◌++◌, length, Option, Some, None, Result, Ok, Err, if◌then◌else◌}
use Rattle.std.specs.Str.{bytes_eq}
use Rattle.rational.specs.Rational.{Rational}
use Rattle.fraction.specs.declared.read.ReadFault.{ReadFault}
use Rattle.fraction.specs.Literal.{read_of}
use Rattle.gmpl_token.specs.declared.kind.TokenKind.{TokenKind}
use Rattle.gmpl_token.specs.declared.kind.TokenKind.TheVariants as k
use Rattle.gmpl_value.specs.declared.symbol.Symbol.{Symbol}
use Rattle.gmpl_value.specs.declared.symbol.Symbol.TheVariants.{Number, Word}
use Rattle.gmpl_blocks.specs.Input.{Input, kind, spelling, next}
use Rattle.gmpl_blocks.specs.Rules.{Rule, ◌>>=◌, ◌>>◌, pure, refuse, peek, ahead, take_token, eat, given}
use Rattle.gmpl_blocks.specs.Strings.{string_text}

-- ---- a symbol

abbrev pub numbered : Result Rational ReadFault → Rule Symbol
numbered (Ok value) = take_token >> pure (Number value)
numbered (Err fault) = refuse

-- a number that fits, as each number among the tokens of a text does
abbrev pub numeric : Rule Symbol
numeric = ahead >>= (λ text. numbered (read_of text))

abbrev pub bare : Rule Symbol
bare = take_token >>= (λ text. pure (Word text))

abbrev pub string : Rule Symbol
string = ahead >>= (λ text. given (string_text text) (λ said. take_token >> pure (Word said)) refuse)

abbrev pub symbol_by : Option TokenKind → Rule Symbol
symbol_by (Some k.NumericLiteral) = numeric
symbol_by (Some k.Name) = bare
symbol_by (Some k.StringLiteral) = string
symbol_by _ = refuse

-- a number, or a string with quotes or without
unfoldable pub symbol : Rule Symbol
symbol = peek >>= symbol_by

-- a symbol comes next
abbrev pub begins_symbol : Option TokenKind → Bool
begins_symbol (Some k.NumericLiteral) = true
begins_symbol (Some k.Name) = true
begins_symbol (Some k.StringLiteral) = true
begins_symbol _ = false

-- behind an optional comma
unfoldable pub next_symbol : Rule Symbol
next_symbol = eat k.Comma >> symbol

-- ---- bare words

abbrev pub is_word_by : Option TokenKind → List ℕ → List ℕ → Bool
is_word_by (Some k.Name) text wanted = bytes_eq text wanted
is_word_by _ text wanted = false

-- this bare word comes next
unfoldable pub is_word : List ℕ → Input → Bool
is_word wanted i = is_word_by (kind i) (spelling i) wanted

unfoldable pub after_word : List ℕ → Input → Input
after_word wanted i = if is_word wanted i then next i else i

-- if it comes next
abbrev pub word : List ℕ → Rule Bool
word wanted = λ i. Ok (is_word wanted i, after_word wanted i)

-- ---- slots

-- a slot of a slice: its symbol, or none where it is to be filled
abbrev pub Slot : Type 0
Slot = Option Symbol

abbrev pub slot_by : Option TokenKind → Rule Slot
slot_by (Some k.Times) = take_token >> pure None
slot_by _ = symbol >>= (λ s. pure (Some s))

unfoldable pub slot : Rule Slot
slot = peek >>= slot_by

-- behind a comma or none
unfoldable pub next_slot : Rule Slot
next_slot = eat k.Comma >> slot

-- The number bounds the turns; each turn takes a token, so that the count of the tokens left is enough.
unfoldable pub slots_from : TokenKind → ℕ → List Slot → Rule (List Slot)
slots_from close zero found = refuse
slots_from close (suc n) found = do
  is_closed ← eat close
  if is_closed then pure found else (next_slot >>= (λ s. slots_from close n (found ++ s ∷ [])))

abbrev pub further_slots : TokenKind → List Slot → Rule (List Slot)
further_slots close found = λ i. slots_from close (length i.rest) found i

-- slot { [","] slot }* and what closes the slice
unfoldable pub slots : TokenKind → Rule (List Slot)
slots close = do
  first ← slot
  further_slots close (first ∷ [])

-- ---- the symbols of columns

unfoldable pub columns_from : ℕ → List Symbol → Rule (List Symbol)
columns_from zero found = refuse
columns_from (suc n) found = do
  is_closed ← eat k.Assign
  if is_closed then pure found else (next_symbol >>= (λ s. columns_from n (found ++ s ∷ [])))

abbrev pub further_columns : List Symbol → Rule (List Symbol)
further_columns found = λ i. columns_from (length i.rest) found i

-- sym { [","] sym }* ":="
unfoldable pub columns : Rule (List Symbol)
columns = do
  first ← symbol
  further_columns (first ∷ [])
