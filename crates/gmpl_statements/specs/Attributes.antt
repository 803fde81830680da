-- Attributes of sets, parameters and variables (GNU MathProg Language Reference, sections on the set, the parameter and the
-- variable statement).
use Rattle.std.specs.Prelude.{ℕ, zero, suc, List, [], ◌∷◌, ◌++◌, length, Option, Some, if◌then◌else◌}
use Rattle.rational.specs.Rational.{Rational}
use Rattle.gmpl_token.specs.declared.kind.TokenKind.{TokenKind}
use Rattle.gmpl_token.specs.declared.kind.TokenKind.TheVariants as k
use Rattle.gmpl_syntax.specs.declared.statement.Attribute.{Attribute}
use Rattle.gmpl_syntax.specs.declared.statement.Attribute.TheVariants as a
use Rattle.gmpl_input.specs.Rules.{Rule, ◌>>=◌, ◌>>◌, ◌<$>◌, pure, refuse, peek, ahead, take_token, eat, given}
use Rattle.gmpl_words.specs.declared.attributes.Declared.{Declared}
use Rattle.gmpl_words.specs.declared.attributes.AttributeWord.{AttributeWord}
use Rattle.gmpl_words.specs.declared.attributes.AttributeWord.TheVariants as w
use Rattle.gmpl_words.specs.Attributes.{attribute_word, fits, noted}
use Rattle.gmpl_expressions.specs.Literals.{number}
use Rattle.gmpl_expressions.specs.Grammar.{expression}

abbrev pub literal_by : Option TokenKind → Rule Rational
literal_by (Some k.NumericLiteral) = number
literal_by _ = refuse

unfoldable pub literal : Rule Rational
literal = peek >>= literal_by

-- behind the attribute's word: "dimen" literal | "integer" | "binary" | "symbolic" | word E
abbrev pub attribute_value : ℕ → AttributeWord → Rule Attribute
attribute_value depth w.Dimension = a.Dimension <$> literal
attribute_value depth (w.Restriction relation) = a.Restriction relation <$> expression depth
attribute_value depth w.Assigned = a.Assigned <$> expression depth
attribute_value depth w.Default = a.Default <$> expression depth
attribute_value depth w.Integer = pure a.Integer
attribute_value depth w.Binary = pure a.Binary
attribute_value depth w.Symbolic = pure a.Symbolic

unfoldable pub attribute : ℕ → AttributeWord → Rule Attribute
attribute depth word = take_token >> attribute_value depth word

-- { [ "," ] attribute }*: those that stand together. The number bounds the turns; each turn takes a token, so that the count
-- of the tokens left is enough.
unfoldable pub attributes_from : ℕ → Declared → ℕ → List AttributeWord → List Attribute → Rule (List Attribute)
attributes_from depth declared zero words found = pure found
attributes_from depth declared (suc n) words found = do
  has_comma ← eat k.Comma
  kind ← peek
  text ← ahead
  given (attribute_word declared kind text)
      (λ word. if fits declared words word then (attribute depth word >>= (λ x. attributes_from depth declared n (noted declared words word) (found ++ x ∷ []))) else refuse)
      (if has_comma then refuse else pure found)

abbrev pub attributes : ℕ → Declared → Rule (List Attribute)
attributes depth declared = λ i. attributes_from depth declared (length i.rest) [] [] i
