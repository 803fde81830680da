-- The rules of expressions leave names as they are.
use Rattle.std.proofs.Common.{ℕ, zero, suc, ◌+◌, nat_lt, List, [], ◌∷◌, ◌++◌, length, Option, Some, None, Result, Ok, Err}
use Rattle.rational.specs.Rational.{Rational}
use Rattle.fraction.specs.declared.read.ReadFault.{ReadFault}
use Rattle.fraction.specs.Literal.{read_of}
use Rattle.gmpl_token.specs.declared.kind.TokenKind.{TokenKind}
use Rattle.gmpl_token.specs.declared.kind.TokenKind.TheVariants as k
use Rattle.gmpl_syntax.specs.declared.expression.Sign.{Sign}
use Rattle.gmpl_syntax.specs.declared.expression.Sign.TheVariants as sign
use Rattle.gmpl_syntax.specs.declared.expression.Operator.{Operator}
use Rattle.gmpl_syntax.specs.declared.expression.Relation.{Relation}
use Rattle.gmpl_syntax.specs.declared.expression.Function.{Function}
use Rattle.gmpl_syntax.specs.declared.expression.Function.TheVariants as f
use Rattle.gmpl_syntax.specs.declared.expression.Iteration.{Iteration}
use Rattle.gmpl_syntax.specs.declared.expression.Iteration.TheVariants as i
use Rattle.gmpl_syntax.specs.declared.expression.Expr.{Expr, out-Expr}
use Rattle.gmpl_syntax.specs.declared.expression.Link.{Link, roll-Link}
use Rattle.gmpl_input.specs.Input.{kind, spelling, next, sees}
use Rattle.gmpl_input.specs.Rules.{Rule, after, expect, further_from, optional}
use Rattle.gmpl_words.specs.declared.operators.Level.TheVariants as level
use Rattle.gmpl_words.specs.Operators.{operator, relation, denied_relation}
use Rattle.gmpl_words.specs.Functions.{iteration_word, function_word, suffix_word, fewest_more, most_more}
use Rattle.gmpl_expressions.specs.Literals.{numbered, number, string_text, string}
use Rattle.gmpl_expressions.specs.Trees.{is_index}
use Rattle.gmpl_expressions.specs.Grammar.{Inside, closed, enclosed_in, inside, expression, logical_expression, indexing_expression, links_from, chain, suffix_by, suffix, reference, named_before, named, primary_by, primary, power, signed_by, signed, product, sum, join, range, cross, inter, union, compared, not_related, related_by, related, negation_by, negation, conjunction, logical, group, subscripts, some_arguments, arguments, entry_over, entry_by, entry, condition, indexing, braces, integrand, iterated, conditional, with_sign, negated}
use Rattle.gmpl_reader.proofs.KeptTokens.{Kept, Keeps, then_left, made_left, next_kept, after_kept, either_rule, given_left, expect_keeps, optional_keeps, further_from_keeps, further_keeps}

-- ---- literals

numbered_keeps : (value : Result Rational ReadFault) → Keeps (numbered value)
numbered_keeps (Ok value) i h = next_kept i h
numbered_keeps (Err fault) i h = tt

pub number_keeps : Keeps number
unfolding number
number_keeps i h = numbered_keeps (read_of (spelling i)) i h

pub string_keeps : Keeps string
unfolding string
string_keeps i h = given_left (string_text (spelling i)) _ _ i (λ _. next_kept i h) tt

-- ---- chains

links_from_keeps : (operator : Option TokenKind → Option Operator) (part : Rule Expr) → Keeps part → (n : ℕ) (found : List Link) → Keeps (links_from operator part n found)
unfolding links_from
links_from_keeps operator part keeps zero found i h = h
links_from_keeps operator part keeps (suc n) found i h =
    given_left (operator (kind i)) _ _ i
    (λ which. then_left (part (next i)) _ (keeps (next i) (next_kept i h)) (λ x j left. links_from_keeps operator part keeps n (found ++ roll-Link (record { operator = which; operand = x }) ∷ []) j left))
    h

chain_keeps : (operator : Option TokenKind → Option Operator) (part : Rule Expr) → Keeps part → Keeps (chain operator part)
unfolding chain
chain_keeps operator part keeps i h =
    then_left (part i) _ (keeps i h) (λ first j left. then_left (links_from operator part (length j.rest) [] j) _ (links_from_keeps operator part keeps (length j.rest) [] j left) (λ _ _ end. end))

-- ---- what may be read behind an opening token

record InsideKeeps (inside : Inside) : Type 0 where
  group_kept : Keeps inside.group
  subscripts_kept : Keeps inside.subscripts
  arguments_kept : (function : Function) → Keeps (inside.arguments function)
  braces_kept : Keeps inside.braces
  indexing_kept : Keeps inside.indexing
  iterated_kept : (iteration : Iteration) → Keeps (inside.iterated iteration)
  conditional_kept : Keeps inside.conditional
  with_sign_kept : (sign : Sign) → Keeps (inside.with_sign sign)
  negated_kept : Keeps inside.negated
  exponent_kept : Keeps inside.exponent

suffix_by_keeps : (kind : Option TokenKind) → Keeps (suffix_by kind)
suffix_by_keeps (Some k.Name) i h = given_left (suffix_word (spelling i)) _ _ i (λ _. next_kept i h) tt
suffix_by_keeps _ i h = tt

suffix_keeps : Keeps suffix
unfolding suffix
suffix_keeps i h = suffix_by_keeps (kind i) i h

module _ (inside : Inside) (keeps : InsideKeeps inside) where
  -- ---- primary expressions

  reference_keeps : (name : List ℕ) → Keeps (reference inside name)
  unfolding reference
  reference_keeps name i h =
      let j = after k.OpenBracket i in
      let kept : Kept j = after_kept k.OpenBracket i h in
      then_left _ _ (either_rule (sees k.OpenBracket i) inside.subscripts _ j (keeps.subscripts_kept j kept) kept)
      (λ subscripts n left. made_left _ (optional (sees k.Point n) suffix) (optional_keeps (sees k.Point n) suffix suffix_keeps) (after k.Point n) (after_kept k.Point n left))

  named_before_keeps : (name : List ℕ) (kind : Option TokenKind) → Keeps (named_before inside name kind)
  named_before_keeps name (Some k.OpenParenthesis) i h =
      given_left (function_word name) _ _ i (λ function. made_left _ (inside.arguments function) (keeps.arguments_kept function) (next i) (next_kept i h)) (reference_keeps name i h)
  named_before_keeps name (Some k.OpenBrace) i h = given_left (iteration_word name) _ _ i (λ iteration. keeps.iterated_kept iteration i h) (reference_keeps name i h)
  named_before_keeps name _ i h = reference_keeps name i h

  named_keeps : Keeps (named inside)
  unfolding named
  named_keeps i h = named_before_keeps (spelling i) (kind (next i)) (next i) (next_kept i h)

  primary_by_keeps : (kind : Option TokenKind) → Keeps (primary_by inside kind)
  primary_by_keeps (Some k.NumericLiteral) i h = made_left _ number number_keeps i h
  primary_by_keeps (Some k.StringLiteral) i h = made_left _ string string_keeps i h
  primary_by_keeps (Some k.Name) i h = named_keeps i h
  primary_by_keeps (Some k.OpenParenthesis) i h = made_left _ inside.group keeps.group_kept (next i) (next_kept i h)
  primary_by_keeps (Some k.OpenBrace) i h = made_left _ inside.braces keeps.braces_kept (next i) (next_kept i h)
  primary_by_keeps (Some k.If) i h = keeps.conditional_kept (next i) (next_kept i h)
  primary_by_keeps _ i h = tt

  primary_keeps : Keeps (primary inside)
  unfolding primary
  primary_keeps i h = primary_by_keeps (kind i) i h

  -- ---- arithmetic and symbolic operators

  power_keeps : Keeps (power inside)
  unfolding power
  power_keeps i h =
      then_left (primary inside i) _ (primary_keeps i h)
      (λ base j left. either_rule (sees k.Power j) _ _ (after k.Power j) (made_left _ inside.exponent keeps.exponent_kept (after k.Power j) (after_kept k.Power j left)) (after_kept k.Power j left))

  signed_by_keeps : (kind : Option TokenKind) → Keeps (signed_by inside kind)
  signed_by_keeps (Some k.Plus) i h = keeps.with_sign_kept sign.Plus (next i) (next_kept i h)
  signed_by_keeps (Some k.Minus) i h = keeps.with_sign_kept sign.Minus (next i) (next_kept i h)
  signed_by_keeps _ i h = power_keeps i h

  signed_keeps : Keeps (signed inside)
  unfolding signed
  signed_keeps i h = signed_by_keeps (kind i) i h

  product_keeps : Keeps (product inside)
  product_keeps = chain_keeps (operator level.Product) (signed inside) signed_keeps

  sum_keeps : Keeps (sum inside)
  sum_keeps = chain_keeps (operator level.Sum) (product inside) product_keeps

  join_keeps : Keeps (join inside)
  join_keeps = chain_keeps (operator level.Join) (sum inside) sum_keeps

  -- ---- set operators

  range_keeps : Keeps (range inside)
  unfolding range
  range_keeps i h =
      then_left (join inside i) _ (join_keeps i h)
      (λ first j left.
      let n = after k.DotDot j in
      let kept : Kept n = after_kept k.DotDot j left in
      either_rule (sees k.DotDot j) _ _ n
      (then_left (join inside n) _ (join_keeps n kept) (λ last m more. made_left _ (optional (sees k.By m) (join inside)) (optional_keeps (sees k.By m) (join inside) join_keeps) (after k.By m) (after_kept k.By m more)))
      kept)

  cross_keeps : Keeps (cross inside)
  cross_keeps = chain_keeps (operator level.Cross) (range inside) range_keeps

  inter_keeps : Keeps (inter inside)
  inter_keeps = chain_keeps (operator level.Inter) (cross inside) cross_keeps

  union_keeps : Keeps (union inside)
  union_keeps = chain_keeps (operator level.Union) (inter inside) inter_keeps

  -- ---- relational and logical operators

  compared_keeps : (left : Expr) (which : Option Relation) → Keeps (compared inside left which)
  compared_keeps left (Some which) i h = made_left _ (union inside) union_keeps (next i) (next_kept i h)
  compared_keeps left None i h = tt

  not_related_keeps : (left : Expr) → Keeps (not_related inside left)
  unfolding not_related
  not_related_keeps left i h = compared_keeps left (denied_relation (kind (next i))) (next i) (next_kept i h)

  related_by_keeps : (left : Expr) (kind : Option TokenKind) (which : Option Relation) → Keeps (related_by inside left kind which)
  related_by_keeps left kind (Some which) i h = compared_keeps left (Some which) i h
  related_by_keeps left (Some k.Not) None i h = not_related_keeps left i h
  related_by_keeps left _ None i h = h

  related_keeps : Keeps (related inside)
  unfolding related
  related_keeps i h = then_left (union inside i) _ (union_keeps i h) (λ first j left. related_by_keeps first (kind j) (relation (kind j)) j left)

  negation_by_keeps : (kind : Option TokenKind) → Keeps (negation_by inside kind)
  negation_by_keeps (Some k.Not) i h = keeps.negated_kept (next i) (next_kept i h)
  negation_by_keeps _ i h = related_keeps i h

  negation_keeps : Keeps (negation inside)
  unfolding negation
  negation_keeps i h = negation_by_keeps (kind i) i h

  conjunction_keeps : Keeps (conjunction inside)
  conjunction_keeps = chain_keeps (operator level.And) (negation inside) negation_keeps

  logical_keeps : Keeps (logical inside)
  logical_keeps = chain_keeps (operator level.Or) (conjunction inside) conjunction_keeps

  -- ---- behind an opening token

  group_keeps : Keeps (group inside)
  unfolding group
  group_keeps i h =
      then_left (logical inside i) _ (logical_keeps i h)
      (λ first j left. then_left (further_from (union inside) (length j.rest) (first ∷ []) j) _ (further_keeps (union inside) union_keeps (first ∷ []) j left)
      (λ all n more. then_left (expect k.CloseParenthesis n) _ (expect_keeps k.CloseParenthesis n more) (λ _ _ end. end)))

  subscripts_keeps : Keeps (subscripts inside)
  unfolding subscripts
  subscripts_keeps i h =
      then_left (union inside i) _ (union_keeps i h)
      (λ first j left. then_left (further_from (union inside) (length j.rest) (first ∷ []) j) _ (further_keeps (union inside) union_keeps (first ∷ []) j left)
      (λ all n more. then_left (expect k.CloseBracket n) _ (expect_keeps k.CloseBracket n more) (λ _ _ end. end)))

  some_arguments_keeps : (function : Function) → Keeps (some_arguments inside function)
  unfolding some_arguments
  some_arguments_keeps function i h =
      then_left (union inside i) _ (union_keeps i h)
      (λ first j left. then_left (further_from (union inside) (most_more function (length j.rest)) (first ∷ []) j) _ (further_from_keeps (union inside) union_keeps (most_more function (length j.rest)) (first ∷ []) j left)
      (λ all n more. then_left _ _ (either_rule (nat_lt (length all) (fewest_more function + 1)) _ (expect k.CloseParenthesis) n tt (expect_keeps k.CloseParenthesis n more)) (λ _ _ end. end)))

  arguments_keeps : (function : Function) → Keeps (arguments inside function)
  arguments_keeps f.LeftOut i h =
      either_rule (sees k.CloseParenthesis i) _ (some_arguments inside f.LeftOut) (after k.CloseParenthesis i) (after_kept k.CloseParenthesis i h) (some_arguments_keeps f.LeftOut (after k.CloseParenthesis i) (after_kept k.CloseParenthesis i h))
  arguments_keeps function i h = some_arguments_keeps function i h

  entry_by_keeps : (first : Expr) (kind : Option TokenKind) → Keeps (entry_by inside first kind)
  entry_by_keeps first (Some k.In) i h = either_rule (is_index (out-Expr first)) (entry_over inside first) _ i (made_left _ (union inside) union_keeps (next i) (next_kept i h)) tt
  entry_by_keeps first _ i h = h

  entry_keeps : Keeps (entry inside)
  unfolding entry
  entry_keeps i h = then_left (union inside i) _ (union_keeps i h) (λ first j left. entry_by_keeps first (kind j) j left)

  condition_keeps : Keeps (condition inside)
  condition_keeps i h = optional_keeps (sees k.Colon i) (logical inside) logical_keeps (after k.Colon i) (after_kept k.Colon i h)

  indexing_keeps : Keeps (indexing inside)
  unfolding indexing
  indexing_keeps i h =
      then_left (entry inside i) _ (entry_keeps i h)
      (λ first j left. then_left (further_from (entry inside) (length j.rest) (first ∷ []) j) _ (further_keeps (entry inside) entry_keeps (first ∷ []) j left)
      (λ all n more. then_left (condition inside n) _ (condition_keeps n more)
      (λ held m kept. then_left (expect k.CloseBrace m) _ (expect_keeps k.CloseBrace m kept) (λ _ _ end. end))))

  braces_keeps : Keeps (braces inside)
  unfolding braces
  braces_keeps i h =
      either_rule (sees k.CloseBrace i) _ (indexing inside) (after k.CloseBrace i) (after_kept k.CloseBrace i h) (indexing_keeps (after k.CloseBrace i) (after_kept k.CloseBrace i h))

  integrand_keeps : (iteration : Iteration) → Keeps (integrand inside iteration)
  integrand_keeps i.Setof = join_keeps
  integrand_keeps i.Forall = conjunction_keeps
  integrand_keeps i.Exists = conjunction_keeps
  integrand_keeps _ = product_keeps

  iterated_keeps : (iteration : Iteration) → Keeps (iterated inside iteration)
  unfolding iterated
  iterated_keeps iteration i h =
      then_left (expect k.OpenBrace i) _ (expect_keeps k.OpenBrace i h)
      (λ _ j left. then_left (inside.indexing j) _ (keeps.indexing_kept j left) (λ over n more. made_left _ (integrand inside iteration) (integrand_keeps iteration) n more))

  conditional_keeps : Keeps (conditional inside)
  unfolding conditional
  conditional_keeps i h =
      then_left (logical inside i) _ (logical_keeps i h)
      (λ held j left. then_left (expect k.Then j) _ (expect_keeps k.Then j left)
      (λ _ n more. then_left (union inside n) _ (union_keeps n more)
      (λ first m kept. made_left _ (optional (sees k.Else m) (union inside)) (optional_keeps (sees k.Else m) (union inside) union_keeps) (after k.Else m) (after_kept k.Else m kept))))

  with_sign_keeps : (which : Sign) → Keeps (with_sign inside which)
  unfolding with_sign
  with_sign_keeps which = made_left _ (signed inside) signed_keeps

  negated_keeps : Keeps (negated inside)
  unfolding negated
  negated_keeps = made_left _ (negation inside) negation_keeps

  enclosed_keeps : InsideKeeps (enclosed_in inside)
  enclosed_keeps = record {
    group_kept = group_keeps;
    subscripts_kept = subscripts_keeps;
    arguments_kept = arguments_keeps;
    braces_kept = braces_keeps;
    indexing_kept = indexing_keeps;
    iterated_kept = iterated_keeps;
    conditional_kept = conditional_keeps;
    with_sign_kept = with_sign_keeps;
    negated_kept = negated_keeps;
    exponent_kept = signed_keeps;
  }

-- ---- how much may be open

closed_keeps : InsideKeeps closed
closed_keeps = record {
  group_kept = λ _ _. tt;
  subscripts_kept = λ _ _. tt;
  arguments_kept = λ _ _ _. tt;
  braces_kept = λ _ _. tt;
  indexing_kept = λ _ _. tt;
  iterated_kept = λ _ _ _. tt;
  conditional_kept = λ _ _. tt;
  with_sign_kept = λ _ _ _. tt;
  negated_kept = λ _ _. tt;
  exponent_kept = λ _ _. tt;
}

inside_keeps : (depth : ℕ) → InsideKeeps (inside depth)
unfolding inside
inside_keeps zero = closed_keeps
inside_keeps (suc depth) = enclosed_keeps (inside depth) (inside_keeps depth)

pub expression_keeps : (depth : ℕ) → Keeps (expression depth)
unfolding expression
expression_keeps depth = union_keeps (inside depth) (inside_keeps depth)

pub logical_expression_keeps : (depth : ℕ) → Keeps (logical_expression depth)
unfolding logical_expression
logical_expression_keeps depth = logical_keeps (inside depth) (inside_keeps depth)

pub indexing_expression_keeps : (depth : ℕ) → Keeps (indexing_expression depth)
unfolding indexing_expression
indexing_expression_keeps depth i h = then_left (expect k.OpenBrace i) _ (expect_keeps k.OpenBrace i h) (λ _ j left. (inside_keeps depth).indexing_kept j left)
