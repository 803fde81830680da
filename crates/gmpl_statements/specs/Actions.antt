-- Statements that a `for` may hold, and the `for` statement (GNU MathProg Language Reference, section on the for statement).
use Rattle.std.specs.Prelude.{◌≡◌, ◌<◌, ℕ, zero, suc, Bool, true, false, if◌then◌else◌, List, [], ◌∷◌, ◌++◌, length, Result, Ok, Err}
use Rattle.gmpl_token.specs.declared.kind.TokenKind.TheVariants as k
use Rattle.gmpl_syntax.specs.declared.fault.SyntaxFaultKind.TheVariants.{TooDeep}
use Rattle.gmpl_syntax.specs.declared.expression.Indexing.{Indexing}
use Rattle.gmpl_syntax.specs.declared.statement.Action.{Action}
use Rattle.gmpl_syntax.specs.declared.statement.Action.TheVariants as a
use Rattle.gmpl_input.specs.declared.error.ParseError.{ParseError}
use Rattle.gmpl_input.specs.declared.error.ParseError.TheVariants.{Fault}
use Rattle.gmpl_input.specs.Input.{sees}
use Rattle.gmpl_input.specs.Rules.{Rule, ◌>>=◌, ◌>>◌, ◌<$>◌, pure, refuse, fault, peek, ahead, take_token, eat, expect}
use Rattle.gmpl_words.specs.declared.statements.Beginning.{Beginning}
use Rattle.gmpl_words.specs.declared.statements.Beginning.TheVariants as b
use Rattle.gmpl_words.specs.Statements.{begins_with}
use Rattle.gmpl_expressions.specs.declared.reader.Reader.{Reader}
use Rattle.gmpl_expressions.specs.Grammar.{indexing_expression}
use Rattle.gmpl_statements.specs.Parts.{titled_name}
use Rattle.gmpl_statements.specs.Tables.{table_output}
use Rattle.gmpl_statements.specs.Simple.{check, display, printf}

-- ---- the heads of a `for`

-- dom [ ":" ]
unfoldable pub one_head : ℕ → Rule Indexing
one_head depth = do
  domain ← indexing_expression depth
  has_colon ← eat k.Colon
  pure domain

abbrev pub is_for : Beginning → Bool
is_for b.For = true
is_for _ = false

-- { "for" dom [ ":" ] }* behind what was found. The number bounds the turns; each turn takes a token, so that the count of the
-- tokens left is enough.
unfoldable pub heads_from : ℕ → ℕ → List Indexing → Rule (List Indexing)
heads_from depth zero found = pure found
heads_from depth (suc n) found = do
  kind ← peek
  text ← ahead
  if is_for (begins_with kind text) then (take_token >> (one_head depth >>= (λ x. heads_from depth n (found ++ x ∷ [])))) else pure found

-- dom [ ":" ] { "for" dom [ ":" ] }*: none of them is deeper than another
unfoldable pub heads : ℕ → Rule (List Indexing)
heads depth = do
  first ← one_head depth
  (λ i. heads_from depth (length i.rest) (first ∷ []) i)

-- ---- its body

-- { inner }* before "}"; the number bounds the turns
unfoldable pub actions_from : Rule Action → ℕ → List Action → Rule (List Action)
actions_from action zero found = pure found
actions_from action (suc n) found = λ i. if sees k.CloseBrace i then pure found i else (action >>= (λ x. actions_from action n (found ++ x ∷ []))) i

abbrev pub actions : Rule Action → Rule (List Action)
actions action = λ i. actions_from action (length i.rest) [] i

-- N [ string ] and a table that is written
unfoldable pub written_table : ℕ → Rule Action
written_table depth = do
  name ← titled_name
  a.TableOutput <$> table_output depth name

module _ (depth : ℕ) (block : Rule (List Action)) where
  abbrev pub simple_by : Beginning → Rule Action
  simple_by b.Check = take_token >> check depth
  simple_by b.Display = take_token >> display depth
  simple_by b.Printf = take_token >> printf depth
  simple_by b.Table = take_token >> written_table depth
  simple_by _ = refuse

  -- an inner statement that is no `for`
  unfoldable pub simple : Rule Action
  simple = do
    kind ← peek
    text ← ahead
    simple_by (begins_with kind text)

  -- inner | "{" { inner }* "}"
  unfoldable pub body : Rule (List Action)
  body = do
    has_brace ← eat k.OpenBrace
    if has_brace then block else ((λ x. x ∷ []) <$> simple)

  -- behind "for": heads and a body
  unfoldable pub looped : Rule Action
  looped = do
    heads ← heads depth
    inner ← body
    pure (a.For heads inner)

  abbrev pub action_by : Beginning → Rule Action
  action_by b.For = take_token >> looped
  action_by beginning = simple_by beginning

  unfoldable pub action_with : Rule Action
  action_with = do
    kind ← peek
    text ← ahead
    action_by (begins_with kind text)

-- { inner }* "}", where so many more tokens may be open
unfoldable pub block_in : ℕ → Rule (List Action) → Rule (List Action)
block_in depth block = do
  all ← actions (action_with depth block)
  expect k.CloseBrace
  pure all

-- behind "{", where so many may be open from there on, this one included
unfoldable pub block : ℕ → Rule (List Action)
block zero = fault TooDeep
block (suc n) = block_in n (block n)

-- a statement that a `for` may hold, where so many more tokens may be open
abbrev pub action : ℕ → Rule Action
action depth = action_with depth (block depth)

-- what code knows that goes into a block: what may be read there, or that it is too deep
abbrev pub GoesInto : ℕ → Result Reader ParseError → Type 0
GoesInto depth (Ok reader) = (block depth ≡ block_in reader.depth (block reader.depth)) × (reader.depth < depth)
GoesInto depth (Err error) = (block depth ≡ fault TooDeep) × (error ≡ Fault TooDeep)
