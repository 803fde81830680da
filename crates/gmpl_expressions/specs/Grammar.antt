-- Expressions (GNU MathProg Language Reference, chapter on expressions), the strongest operation first.
use Rattle.std.specs.Prelude.{◌≡◌, ◌<◌, ℕ, zero, suc, ◌+◌, nat_lt, if◌then◌else◌, List, [], ◌∷◌, ◌++◌, length, Option, Some, None, Result, Ok, Err}
use Rattle.gmpl_token.specs.declared.kind.TokenKind.{TokenKind}
use Rattle.gmpl_token.specs.declared.kind.TokenKind.TheVariants as k
use Rattle.gmpl_syntax.specs.declared.fault.SyntaxFaultKind.TheVariants.{TooDeep}
use Rattle.gmpl_syntax.specs.declared.expression.Sign.{Sign}
use Rattle.gmpl_syntax.specs.declared.expression.Sign.TheVariants as sign
use Rattle.gmpl_syntax.specs.declared.expression.Operator.{Operator}
use Rattle.gmpl_syntax.specs.declared.expression.Relation.{Relation}
use Rattle.gmpl_syntax.specs.declared.expression.Function.{Function}
use Rattle.gmpl_syntax.specs.declared.expression.Function.TheVariants as f
use Rattle.gmpl_syntax.specs.declared.expression.Iteration.{Iteration}
use Rattle.gmpl_syntax.specs.declared.expression.Iteration.TheVariants as i
use Rattle.gmpl_syntax.specs.declared.expression.Suffix.{Suffix}
use Rattle.gmpl_syntax.specs.declared.expression.Expr.{Expr, out-Expr}
use Rattle.gmpl_syntax.specs.declared.expression.Expr.TheVariants as e
use Rattle.gmpl_syntax.specs.declared.expression.Link.{Link, roll-Link}
use Rattle.gmpl_syntax.specs.declared.expression.Indexing.{Indexing, roll-Indexing}
use Rattle.gmpl_syntax.specs.declared.expression.Entry.{Entry, roll-Entry}
use Rattle.gmpl_syntax.specs.Index.{components}
use Rattle.gmpl_input.specs.declared.error.ParseError.{ParseError}
use Rattle.gmpl_input.specs.declared.error.ParseError.TheVariants.{Fault}
use Rattle.gmpl_input.specs.Rules.{Rule, ◌>>=◌, ◌>>◌, ◌<$>◌, pure, refuse, fault, peek, ahead, take_token, eat, expect, given, further_from, further, optional}
use Rattle.gmpl_words.specs.declared.operators.Level.{Level}
use Rattle.gmpl_words.specs.declared.operators.Level.TheVariants as level
use Rattle.gmpl_words.specs.Operators.{operator, relation, denied_relation}
use Rattle.gmpl_words.specs.Functions.{iteration_word, function_word, suffix_word, fewest_more, most_more}
use Rattle.gmpl_expressions.specs.declared.reader.Reader.{Reader}
use Rattle.gmpl_expressions.specs.Literals.{number, string}
use Rattle.gmpl_expressions.specs.Trees.{is_index}

-- ---- chains of the operators of one level

abbrev pub chained : Expr → List Link → Expr
chained first [] = first
chained first (link ∷ links) = e.Chain first (link ∷ links)

-- The number bounds the turns; each turn takes a token, so that the count of the tokens left is enough.
unfoldable pub links_from : (Option TokenKind → Option Operator) → Rule Expr → ℕ → List Link → Rule (List Link)
links_from operator part zero found = pure found
links_from operator part (suc n) found = do
  kind ← peek
  given (operator kind) (λ op. take_token >> (part >>= (λ x. links_from operator part n (found ++ roll-Link (record { operator = op; operand = x }) ∷ [])))) (pure found)

abbrev pub links : (Option TokenKind → Option Operator) → Rule Expr → Rule (List Link)
links operator part = λ i. links_from operator part (length i.rest) [] i

-- part { operator part }*, from left to right
unfoldable pub chain : (Option TokenKind → Option Operator) → Rule Expr → Rule Expr
chain operator part = do
  first ← part
  others ← links operator part
  pure (chained first others)

-- ---- what may be read behind an opening token: one more than before is open there

pub record Inside : Type 0 where
  pub group : Rule (List Expr)
  pub subscripts : Rule (List Expr)
  pub arguments : Function → Rule (List Expr)
  pub braces : Rule Indexing
  pub indexing : Rule Indexing
  pub iterated : Iteration → Rule Expr
  pub conditional : Rule Expr
  pub with_sign : Sign → Rule Expr
  pub negated : Rule Expr
  pub exponent : Rule Expr

-- "val" | "lb" | "ub", behind a point (chapter on statements: variable statement, constraint statement)
abbrev pub suffix_by : Option TokenKind → Rule Suffix
suffix_by (Some k.Name) = ahead >>= (λ word. given (suffix_word word) (λ suffix. take_token >> pure suffix) refuse)
suffix_by _ = refuse

unfoldable pub suffix : Rule Suffix
suffix = peek >>= suffix_by

module _ (inside : Inside) where
  -- ---- primary expressions

  -- dummy indices, parameters and variables: N [ "[" E { "," E }* "]" ] [ "." suffix ]
  unfoldable pub reference : List ℕ → Rule Expr
  reference name = do
    has_subscripts ← eat k.OpenBracket
    subscripts ← if has_subscripts then inside.subscripts else pure []
    has_suffix ← eat k.Point
    e.Named name subscripts <$> optional has_suffix suffix

  -- function references and iterated expressions: their words mean them only before `(` and `{`
  abbrev pub named_before : List ℕ → Option TokenKind → Rule Expr
  named_before name (Some k.OpenParenthesis) =
      given (function_word name) (λ function. take_token >> (e.Call function <$> inside.arguments function)) (reference name)
  named_before name (Some k.OpenBrace) = given (iteration_word name) inside.iterated (reference name)
  named_before name _ = reference name

  unfoldable pub named : Rule Expr
  named = do
    name ← take_token
    kind ← peek
    named_before name kind

  abbrev pub primary_by : Option TokenKind → Rule Expr
  primary_by (Some k.NumericLiteral) = e.Number <$> number
  primary_by (Some k.StringLiteral) = e.Text <$> string
  primary_by (Some k.Name) = named
  primary_by (Some k.OpenParenthesis) = take_token >> (e.Group <$> inside.group)
  primary_by (Some k.OpenBrace) = take_token >> (e.Braces <$> inside.braces)
  primary_by (Some k.If) = take_token >> inside.conditional
  primary_by _ = refuse

  unfoldable pub primary : Rule Expr
  primary = peek >>= primary_by

  -- ---- arithmetic and symbolic operators

  -- primary [ "**" ( signed | power ) ]
  unfoldable pub power : Rule Expr
  power = do
    base ← primary
    is_raised ← eat k.Power
    if is_raised then e.Power base <$> inside.exponent else pure base

  abbrev pub signed_by : Option TokenKind → Rule Expr
  signed_by (Some k.Plus) = take_token >> inside.with_sign sign.Plus
  signed_by (Some k.Minus) = take_token >> inside.with_sign sign.Minus
  signed_by _ = power

  -- ( "+" | "-" ) signed | power
  unfoldable pub signed : Rule Expr
  signed = peek >>= signed_by

  -- signed { ( "*" | "/" | "div" | "mod" ) signed }*
  abbrev pub product : Rule Expr
  product = chain (operator level.Product) signed

  -- product { ( "+" | "-" | "less" ) product }*
  abbrev pub sum : Rule Expr
  sum = chain (operator level.Sum) product

  -- sum { "&" sum }*
  abbrev pub join : Rule Expr
  join = chain (operator level.Join) sum

  -- ---- set operators

  -- arithmetic sets: join [ ".." join [ "by" join ] ]
  unfoldable pub range : Rule Expr
  range = do
    first ← join
    goes_on ← eat k.DotDot
    if goes_on then (do
      last ← join
      has_step ← eat k.By
      e.Range first last <$> optional has_step join) else pure first

  -- range { "cross" range }*
  abbrev pub cross : Rule Expr
  cross = chain (operator level.Cross) range

  -- cross { "inter" cross }*
  abbrev pub inter : Rule Expr
  inter = chain (operator level.Inter) cross

  -- E: inter { ( "union" | "diff" | "symdiff" ) inter }*
  abbrev pub union : Rule Expr
  union = chain (operator level.Union) inter

  -- ---- relational and logical operators

  abbrev pub compared : Expr → Option Relation → Rule Expr
  compared left (Some relation) = take_token >> (e.Compared relation left <$> union)
  compared left None = refuse

  -- "not" ( "in" | "within" ) union, behind the left part
  unfoldable pub not_related : Expr → Rule Expr
  not_related left = do
    take_token
    kind ← peek
    compared left (denied_relation kind)

  abbrev pub related_by : Expr → Option TokenKind → Option Relation → Rule Expr
  related_by left kind (Some relation) = compared left (Some relation)
  related_by left (Some k.Not) None = not_related left
  related_by left _ None = pure left

  -- union [ ( rel | [ "not" ] "in" | [ "not" ] "within" ) union ]
  unfoldable pub related : Rule Expr
  related = do
    left ← union
    kind ← peek
    related_by left kind (relation kind)

  abbrev pub negation_by : Option TokenKind → Rule Expr
  negation_by (Some k.Not) = take_token >> inside.negated
  negation_by _ = related

  -- "not" negation | related
  unfoldable pub negation : Rule Expr
  negation = peek >>= negation_by

  -- negation { "and" negation }*
  abbrev pub conjunction : Rule Expr
  conjunction = chain (operator level.And) negation

  -- L: conjunction { "or" conjunction }*
  abbrev pub logical : Rule Expr
  logical = chain (operator level.Or) conjunction

  -- the parts of a chain of this level
  unfoldable pub part : Level → Rule Expr
  part level.Or = conjunction
  part level.And = negation
  part level.Union = inter
  part level.Inter = cross
  part level.Cross = range
  part level.Join = sum
  part level.Sum = product
  part level.Product = signed

  -- ---- behind an opening token

  -- parenthesized expressions and tuples: L { "," E }* ")"
  unfoldable pub group : Rule (List Expr)
  group = do
    first ← logical
    all ← further union (first ∷ [])
    expect k.CloseParenthesis
    pure all

  -- E { "," E }* "]"
  unfoldable pub subscripts : Rule (List Expr)
  subscripts = do
    first ← union
    all ← further union (first ∷ [])
    expect k.CloseBracket
    pure all

  -- E { "," E }* ")", as many as the function takes
  unfoldable pub some_arguments : Function → Rule (List Expr)
  some_arguments function = do
    first ← union
    all ← (λ i. further_from union (most_more function (length i.rest)) (first ∷ []) i)
    if nat_lt (length all) (fewest_more function + 1) then refuse else expect k.CloseParenthesis
    pure all

  -- a function that is left out may take none
  abbrev pub arguments : Function → Rule (List Expr)
  arguments f.LeftOut = do
    is_empty ← eat k.CloseParenthesis
    if is_empty then pure [] else some_arguments f.LeftOut
  arguments function = some_arguments function

  abbrev pub entry_over : Expr → Rule Entry
  entry_over index = take_token >> ((λ set. roll-Entry (record { index = Some (components index); set = set })) <$> union)

  abbrev pub entry_by : Expr → Option TokenKind → Rule Entry
  entry_by first (Some k.In) = if is_index (out-Expr first) then entry_over first else refuse
  entry_by first _ = pure (roll-Entry (record { index = None; set = first }))

  -- [ index "in" ] E
  unfoldable pub entry : Rule Entry
  entry = do
    first ← union
    kind ← peek
    entry_by first kind

  abbrev pub condition : Rule (Option Expr)
  condition = do
    is_there ← eat k.Colon
    optional is_there logical

  -- indexing expressions: entry { "," entry }* [ ":" L ] "}"
  unfoldable pub indexing : Rule Indexing
  indexing = do
    first ← entry
    entries ← further entry (first ∷ [])
    condition ← condition
    expect k.CloseBrace
    pure (roll-Indexing (record { entries = entries; condition = condition }))

  -- literal sets and indexing expressions; `{}` is the empty set
  unfoldable pub braces : Rule Indexing
  braces = do
    is_empty ← eat k.CloseBrace
    if is_empty then pure (roll-Indexing (record { entries = []; condition = None })) else indexing

  -- what an iteration goes over: `setof` a sum or texts joined, `forall` and `exists` a condition without `or`, others a product
  abbrev pub integrand : Iteration → Rule Expr
  integrand i.Setof = join
  integrand i.Forall = conjunction
  integrand i.Exists = conjunction
  integrand _ = product

  -- iterated expressions: dom and what it governs
  unfoldable pub iterated : Iteration → Rule Expr
  iterated iteration = do
    expect k.OpenBrace
    over ← inside.indexing
    e.Iterated iteration over <$> integrand iteration

  -- conditional expressions: L "then" E [ "else" E ]
  unfoldable pub conditional : Rule Expr
  conditional = do
    condition ← logical
    expect k.Then
    first ← union
    has_other ← eat k.Else
    e.If condition first <$> optional has_other union

  unfoldable pub with_sign : Sign → Rule Expr
  with_sign sign = e.Signed sign <$> signed

  unfoldable pub negated : Rule Expr
  negated = e.Not <$> negation

-- ---- how much may be open

-- where nothing more may be open
abbrev pub closed : Inside
closed = record {
  group = fault TooDeep;
  subscripts = fault TooDeep;
  arguments = λ _. fault TooDeep;
  braces = fault TooDeep;
  indexing = fault TooDeep;
  iterated = λ _. fault TooDeep;
  conditional = fault TooDeep;
  with_sign = λ _. fault TooDeep;
  negated = fault TooDeep;
  exponent = fault TooDeep;
}

abbrev pub enclosed_in : Inside → Inside
enclosed_in inside = record {
  group = group inside;
  subscripts = subscripts inside;
  arguments = arguments inside;
  braces = braces inside;
  indexing = indexing inside;
  iterated = iterated inside;
  conditional = conditional inside;
  with_sign = with_sign inside;
  negated = negated inside;
  exponent = signed inside;
}

-- behind an opening token, where so many may be open from there on, that one included
unfoldable pub inside : ℕ → Inside
inside zero = closed
inside (suc n) = enclosed_in (inside n)

abbrev pub max_depth : ℕ
max_depth = 50

-- ---- for the statements: where so many more may be open

-- E
unfoldable pub expression : ℕ → Rule Expr
expression depth = union (inside depth)

-- L
unfoldable pub logical_expression : ℕ → Rule Expr
logical_expression depth = logical (inside depth)

-- dom
unfoldable pub indexing_expression : ℕ → Rule Indexing
indexing_expression depth = expect k.OpenBrace >> (inside depth).indexing

-- ---- what code knows that goes one level deeper: what may be read there, or that it is too deep

abbrev pub GoesDeeper : ℕ → Result Reader ParseError → Type 0
GoesDeeper depth (Ok reader) = (inside depth ≡ enclosed_in (inside reader.depth)) × (reader.depth < depth)
GoesDeeper depth (Err error) = (inside depth ≡ closed) × (error ≡ Fault TooDeep)
