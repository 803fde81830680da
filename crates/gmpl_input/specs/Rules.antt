-- Rules: from the tokens that are left to a value and the tokens behind it, or to the first fault.
use Rattle.std.specs.Prelude.{◌≡◌, ℕ, zero, suc, Bool, if◌then◌else◌, List, [], ◌∷◌, ◌++◌, length, Option, Some, None, Result, Ok, Err}
use Rattle.gmpl_token.specs.declared.kind.TokenKind.{TokenKind}
use Rattle.gmpl_token.specs.declared.kind.TokenKind.TheVariants as k
use Rattle.gmpl_syntax.specs.declared.fault.SyntaxFaultKind.{SyntaxFaultKind}
use Rattle.gmpl_input.specs.declared.error.ParseError.{ParseError}
use Rattle.gmpl_input.specs.declared.error.ParseError.TheVariants.{Fault, NoMemory}
use Rattle.gmpl_input.specs.Input.{Input, kind, spelling, next, refusal, sees}

abbrev pub Outcome : Type 0 → Type 0
Outcome A = Result (A × Input) SyntaxFaultKind

abbrev pub Rule : Type 0 → Type 0
Rule A = Input → Outcome A

-- ---- one rule behind another

abbrev pub and_then : {A B : Type 0} → Outcome A → (A → Rule B) → Outcome B
and_then (Ok p) f = f p.0 p.1
and_then (Err e) f = Err e

infixl 10 ◌>>=◌
abbrev pub ◌>>=◌ : {A B : Type 0} → Rule A → (A → Rule B) → Rule B
p >>= f = λ i. and_then (p i) f

infixl 10 ◌>>◌
abbrev pub ◌>>◌ : {A B : Type 0} → Rule A → Rule B → Rule B
p >> q = p >>= (λ _. q)

abbrev pub pure : {A : Type 0} → A → Rule A
pure a = λ i. Ok (a, i)

infixr 11 ◌<$>◌
abbrev pub ◌<$>◌ : {A B : Type 0} → (A → B) → Rule A → Rule B
f <$> p = p >>= (λ x. pure (f x))

-- ---- the next token

abbrev pub fault : {A : Type 0} → SyntaxFaultKind → Rule A
fault why = λ i. Err why

abbrev pub refuse : {A : Type 0} → Rule A
refuse = λ i. Err (refusal i)

-- its kind, and its text
abbrev pub peek : Rule (Option TokenKind)
peek = λ i. Ok (kind i, i)

abbrev pub ahead : Rule (List ℕ)
ahead = λ i. Ok (spelling i, i)

-- whatever its kind
abbrev pub take_token : Rule (List ℕ)
take_token = λ i. Ok (spelling i, next i)

unfoldable pub after : TokenKind → Input → Input
after wanted i = if sees wanted i then next i else i

-- if it is of this kind
abbrev pub eat : TokenKind → Rule Bool
eat wanted = λ i. Ok (sees wanted i, after wanted i)

unfoldable pub expect : TokenKind → Rule (Unit {0})
expect wanted = λ i. if sees wanted i then Ok (tt, next i) else refuse i

-- ---- what may be there or not

-- goes on with what is there, or without
abbrev pub given : {A B : Type 0} → Option A → (A → Rule B) → Rule B → Rule B
given (Some a) some none = some a
given None some none = none

-- what was announced, where it was
abbrev pub optional : {A : Type 0} → Bool → Rule A → Rule (Option A)
optional is_there rule = if is_there then Some <$> rule else pure None

-- ---- lists

-- The number bounds the turns; each turn takes a token, so that the count of the tokens left is enough.
unfoldable pub further_from : {A : Type 0} → Rule A → ℕ → List A → Rule (List A)
further_from item zero found = pure found
further_from item (suc n) found = do
  has_more ← eat k.Comma
  if has_more then (item >>= (λ x. further_from item n (found ++ x ∷ []))) else pure found

-- { "," item }* behind what was found
abbrev pub further : {A : Type 0} → Rule A → List A → Rule (List A)
further item found = λ i. further_from item (length i.rest) found i

-- ---- what code ensures that reads by a rule: the rule's value and what is left behind it, or its fault

abbrev pub Reads : {A : Type 0} → Outcome A → Result A ParseError → Input → Type 0
Reads outcome (Ok a) new = outcome ≡ Ok (a, new)
Reads outcome (Err (Fault why)) new = outcome ≡ Err why
Reads outcome (Err NoMemory) new = Unit {0}
