-- Rules: from the tokens that are left to a value and the tokens behind it, or to the first fault.
use Rattle.std.specs.Prelude.{◌≡◌, ℕ, Bool, if◌then◌else◌, List, Option, Some, None, Result, Ok, Err}
use Rattle.gmpl_token.specs.declared.kind.TokenKind.{TokenKind}
use Rattle.gmpl_blocks.specs.declared.fault.DataFaultKind.{DataFaultKind}
use Rattle.gmpl_blocks.specs.declared.fault.DataError.{DataError}
use Rattle.gmpl_blocks.specs.declared.fault.DataError.TheVariants.{Fault, NoMemory}
use Rattle.gmpl_blocks.specs.Input.{Input, kind, spelling, next, refusal, sees}

abbrev pub Outcome : Type 0 → Type 0
Outcome A = Result (A × Input) DataFaultKind

abbrev pub Rule : Type 0 → Type 0
Rule A = Input → Outcome A

-- ---- one rule behind another

abbrev pub and_then : {A B : Type 0} → Outcome A → (A → Rule B) → Outcome B
and_then (Ok p) f = f p.0 p.1
and_then (Err e) f = Err e

infixl 10 ◌>>=◌
abbrev pub ◌>>=◌ : {A B : Type 0} → Rule A → (A → Rule B) → Rule B
p >>= f = λ i. and_then (p i) f

infixl 10 ◌>>◌
abbrev pub ◌>>◌ : {A B : Type 0} → Rule A → Rule B → Rule B
p >> q = p >>= (λ _. q)

abbrev pub pure : {A : Type 0} → A → Rule A
pure a = λ i. Ok (a, i)

-- ---- the next token

abbrev pub fault : {A : Type 0} → DataFaultKind → Rule A
fault why = λ i. Err why

abbrev pub refuse : {A : Type 0} → Rule A
refuse = λ i. Err (refusal i)

-- its kind, and its text
abbrev pub peek : Rule (Option TokenKind)
peek = λ i. Ok (kind i, i)

abbrev pub ahead : Rule (List ℕ)
ahead = λ i. Ok (spelling i, i)

-- whatever its kind
abbrev pub take_token : Rule (List ℕ)
take_token = λ i. Ok (spelling i, next i)

unfoldable pub after : TokenKind → Input → Input
after wanted i = if sees wanted i then next i else i

-- if it is of this kind
abbrev pub eat : TokenKind → Rule Bool
eat wanted = λ i. Ok (sees wanted i, after wanted i)

unfoldable pub expect : TokenKind → Rule (Unit {0})
expect wanted = λ i. if sees wanted i then Ok (tt, next i) else refuse i

-- goes on with what is there, or without
abbrev pub given : {A B : Type 0} → Option A → (A → Rule B) → Rule B → Rule B
given (Some a) some none = some a
given None some none = none

-- what is judged without a token
abbrev pub judged : {A : Type 0} → Result A DataFaultKind → Rule A
judged (Ok a) = pure a
judged (Err e) = fault e

-- ---- what code ensures that reads by a rule: the rule's value and what is left behind it, or its fault

abbrev pub Reads : {A : Type 0} → Outcome A → Result A DataError → Input → Type 0
Reads outcome (Ok a) new = outcome ≡ Ok (a, new)
Reads outcome (Err (Fault why)) new = outcome ≡ Err why
Reads outcome (Err NoMemory) new = Unit {0}

-- the same of what is judged without a token
abbrev pub Judges : {A : Type 0} → Result A DataFaultKind → Result A DataError → Type 0
Judges outcome (Ok a) = outcome ≡ Ok a
Judges outcome (Err (Fault why)) = outcome ≡ Err why
Judges outcome (Err NoMemory) = Unit {0}
