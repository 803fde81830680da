-- A formula that is written with parentheses round each operand is read as its tree: by induction on the formula, its operator
-- case by case.
use Rattle.std.specs.Prelude.{◌≡◌, refl, ◌≤◌, ℕ, zero, suc, Bool, true, false, List, [], ◌∷◌, length, None, Ok}
use Rattle.std.proofs.Common.{arith}
use Rattle.std.proofs.Math.Nat.{le-max_left, le-max_right}
use Rattle.rational.specs.Rational.{Rational}
use Rattle.fraction.specs.Literal.{read_of}
use Rattle.gmpl_token.specs.declared.kind.TokenKind.TheVariants as k
use Rattle.gmpl_token.specs.Token.{Token}
use Rattle.gmpl_syntax.specs.declared.fault.SyntaxFaultKind.{SyntaxFaultKind}
use Rattle.gmpl_syntax.specs.declared.expression.Operator.{Operator}
use Rattle.gmpl_syntax.specs.declared.expression.Operator.TheVariants as o
use Rattle.gmpl_syntax.specs.declared.expression.Expr.{Expr}
use Rattle.gmpl_syntax.specs.declared.expression.Expr.TheVariants as e
use Rattle.gmpl_input.specs.Input.{Input, kind, spelling, next, same_kind, sees}
use Rattle.gmpl_input.specs.Rules.{Rule, after, expect, further_from}
use Rattle.gmpl_words.specs.declared.operators.Level.TheVariants as level
use Rattle.gmpl_words.specs.Operators.{operator}
use Rattle.gmpl_expressions.specs.Literals.{number as number_rule}
use Rattle.gmpl_expressions.specs.Grammar.{Inside, inside, group as group_rule, primary, named, reference, signed, product, sum, range, cross, inter, negation, conjunction, logical, union, logical_expression}
use Rattle.gmpl_laws.specs.Reading.{spelled, mark, joined}
use Rattle.gmpl_laws.specs.Formulas.{Formula, number, name, binary, HasValues, group, tree, mark_of, written, depth_of, IsReadBack}
use Rattle.gmpl_laws.proofs.Chains.{with_one, IsOperand, Ends, as_signed, as_product, as_sum, as_range, as_cross, as_inter, as_negation, as_conjunction, from_conjunction, from_union, from_inter, from_cross, from_join, from_sum, from_product, from_operand}

abbrev at : List Token → SyntaxFaultKind → Input
at rest end = record { rest = rest; end = end }

-- ---- what ends a formula: a parenthesis or a semicolon

abbrev stop : Bool → Token
stop true = mark k.CloseParenthesis
stop false = mark k.Semicolon

stops : (s : Bool) (rest : List Token) (end : SyntaxFaultKind) → Ends (at (stop s ∷ rest) end)
unfolding kind sees same_kind operator
stops true rest end = record { no_power = refl; no_product = refl; no_sum = refl; no_join = refl; no_dots = refl; no_cross = refl; no_inter = refl; no_union = refl; no_relation = λ _ _. refl; no_and = refl; no_or = refl }
stops false rest end = record { no_power = refl; no_product = refl; no_sum = refl; no_join = refl; no_dots = refl; no_cross = refl; no_inter = refl; no_union = refl; no_relation = λ _ _. refl; no_and = refl; no_or = refl }

-- ---- operands

number_operand : (inside : Inside) (text : List ℕ) (value : Rational) (rest : List Token) (end : SyntaxFaultKind) → read_of text ≡ Ok value → IsOperand inside (at (spelled k.NumericLiteral text ∷ rest) end) (at rest end) (e.Number value)
unfolding kind spelling next primary number_rule
number_operand inside text value rest end is = record { read = rw is refl; unsigned = refl; affirmed = refl }

name_operand : (inside : Inside) (text : List ℕ) (s : Bool) (rest : List Token) (end : SyntaxFaultKind) → IsOperand inside (at (spelled k.Name text ∷ stop s ∷ rest) end) (at (stop s ∷ rest) end) (e.Named text [] None)
unfolding kind spelling next sees same_kind after primary named reference
name_operand inside text true rest end = record { read = refl; unsigned = refl; affirmed = refl }
name_operand inside text false rest end = record { read = refl; unsigned = refl; affirmed = refl }

-- behind what was found stands no comma
no_more : (item : Rule Expr) (n : ℕ) (found : List Expr) (rest : List Token) (end : SyntaxFaultKind) → further_from item n found (at (stop true ∷ rest) end) ≡ Ok (found, at (stop true ∷ rest) end)
unfolding further_from kind sees same_kind after
no_more item zero found rest end = refl
no_more item (suc n) found rest end = refl

group_read : (n : ℕ) (i : Input) (rest : List Token) (end : SyntaxFaultKind) (x : Expr) → logical (inside n) i ≡ Ok (x, at (stop true ∷ rest) end) → group_rule (inside n) i ≡ Ok (x ∷ [], at rest end)
unfolding group_rule expect kind next sees same_kind
group_read n i rest end x read = rw (read, no_more (union (inside n)) (length (stop true ∷ rest)) (x ∷ []) rest end) refl

group_operand : (n : ℕ) (tokens rest : List Token) (end : SyntaxFaultKind) (x : Expr) → logical (inside n) (at tokens end) ≡ Ok (x, at (stop true ∷ rest) end)
    → IsOperand (inside (suc n)) (at (mark k.OpenParenthesis ∷ tokens) end) (at rest end) (group x)
unfolding kind spelling next primary inside
group_operand n tokens rest end x read = record { read = rw (group_read n (at tokens end) rest end x read) refl; unsigned = refl; affirmed = refl }

-- ---- two operands with an operator

joined_read : (which : Operator) (inside : Inside) (i k : Input) (rest : List Token) (end : SyntaxFaultKind) (x y : Expr)
    → IsOperand inside i (at (mark (mark_of which) ∷ rest) end) x → IsOperand inside (at rest end) k y → Ends k
    → logical inside i ≡ Ok (joined x which y, k)
unfolding kind next sees same_kind operator
joined_read o.Times inside i k rest end x y first second ends =
    from_product inside i k _ ends first.affirmed (with_one (operator level.Product) (signed inside) i k _ rest end o.Times x y (as_signed inside i _ x first refl) refl (as_signed inside _ k y second ends.no_power) ends.no_product)
joined_read o.Over inside i k rest end x y first second ends =
    from_product inside i k _ ends first.affirmed (with_one (operator level.Product) (signed inside) i k _ rest end o.Over x y (as_signed inside i _ x first refl) refl (as_signed inside _ k y second ends.no_power) ends.no_product)
joined_read o.Div inside i k rest end x y first second ends =
    from_product inside i k _ ends first.affirmed (with_one (operator level.Product) (signed inside) i k _ rest end o.Div x y (as_signed inside i _ x first refl) refl (as_signed inside _ k y second ends.no_power) ends.no_product)
joined_read o.Mod inside i k rest end x y first second ends =
    from_product inside i k _ ends first.affirmed (with_one (operator level.Product) (signed inside) i k _ rest end o.Mod x y (as_signed inside i _ x first refl) refl (as_signed inside _ k y second ends.no_power) ends.no_product)
joined_read o.Plus inside i k rest end x y first second ends =
    from_sum inside i k _ ends first.affirmed (with_one (operator level.Sum) (product inside) i k _ rest end o.Plus x y (as_product inside i _ x first refl refl) refl (as_product inside _ k y second ends.no_power ends.no_product) ends.no_sum)
joined_read o.Minus inside i k rest end x y first second ends =
    from_sum inside i k _ ends first.affirmed (with_one (operator level.Sum) (product inside) i k _ rest end o.Minus x y (as_product inside i _ x first refl refl) refl (as_product inside _ k y second ends.no_power ends.no_product) ends.no_sum)
joined_read o.Less inside i k rest end x y first second ends =
    from_sum inside i k _ ends first.affirmed (with_one (operator level.Sum) (product inside) i k _ rest end o.Less x y (as_product inside i _ x first refl refl) refl (as_product inside _ k y second ends.no_power ends.no_product) ends.no_sum)
joined_read o.Join inside i k rest end x y first second ends =
    from_join inside i k _ ends first.affirmed (with_one (operator level.Join) (sum inside) i k _ rest end o.Join x y (as_sum inside i _ x first refl refl refl) refl (as_sum inside _ k y second ends.no_power ends.no_product ends.no_sum) ends.no_join)
joined_read o.Cross inside i k rest end x y first second ends =
    from_cross inside i k _ ends first.affirmed (with_one (operator level.Cross) (range inside) i k _ rest end o.Cross x y (as_range inside i _ x first refl refl refl refl refl) refl (as_range inside _ k y second ends.no_power ends.no_product ends.no_sum ends.no_join ends.no_dots) ends.no_cross)
joined_read o.Inter inside i k rest end x y first second ends =
    from_inter inside i k _ ends first.affirmed (with_one (operator level.Inter) (cross inside) i k _ rest end o.Inter x y (as_cross inside i _ x first refl refl refl refl refl refl) refl (as_cross inside _ k y second ends.no_power ends.no_product ends.no_sum ends.no_join ends.no_dots ends.no_cross) ends.no_inter)
joined_read o.Union inside i k rest end x y first second ends =
    from_union inside i k _ ends first.affirmed (with_one (operator level.Union) (inter inside) i k _ rest end o.Union x y (as_inter inside i _ x first refl refl refl refl refl refl refl) refl (as_inter inside _ k y second ends.no_power ends.no_product ends.no_sum ends.no_join ends.no_dots ends.no_cross ends.no_inter) ends.no_union)
joined_read o.Diff inside i k rest end x y first second ends =
    from_union inside i k _ ends first.affirmed (with_one (operator level.Union) (inter inside) i k _ rest end o.Diff x y (as_inter inside i _ x first refl refl refl refl refl refl refl) refl (as_inter inside _ k y second ends.no_power ends.no_product ends.no_sum ends.no_join ends.no_dots ends.no_cross ends.no_inter) ends.no_union)
joined_read o.Symdiff inside i k rest end x y first second ends =
    from_union inside i k _ ends first.affirmed (with_one (operator level.Union) (inter inside) i k _ rest end o.Symdiff x y (as_inter inside i _ x first refl refl refl refl refl refl refl) refl (as_inter inside _ k y second ends.no_power ends.no_product ends.no_sum ends.no_join ends.no_dots ends.no_cross ends.no_inter) ends.no_union)
joined_read o.And inside i k rest end x y first second ends =
    from_conjunction inside i k _ ends first.affirmed (with_one (operator level.And) (negation inside) i k _ rest end o.And x y (as_negation inside i _ x first refl refl refl refl refl refl refl refl (λ _ _. refl)) refl (as_negation inside _ k y second ends.no_power ends.no_product ends.no_sum ends.no_join ends.no_dots ends.no_cross ends.no_inter ends.no_union ends.no_relation) ends.no_and)
joined_read o.Or inside i k rest end x y first second ends =
    with_one (operator level.Or) (conjunction inside) i k _ rest end o.Or x y (as_conjunction inside i _ x first refl refl refl refl refl refl refl refl (λ _ _. refl) refl) refl (as_conjunction inside _ k y second ends.no_power ends.no_product ends.no_sum ends.no_join ends.no_dots ends.no_cross ends.no_inter ends.no_union ends.no_relation ends.no_and) ends.no_or

-- ---- a formula, before a parenthesis or a semicolon

formula_read : (formula : Formula) (n : ℕ) (s : Bool) (rest : List Token) (end : SyntaxFaultKind) → HasValues formula → depth_of formula ≤ n
    → logical (inside n) (at (written formula (stop s ∷ rest)) end) ≡ Ok (tree formula, at (stop s ∷ rest) end)
formula_read (number text value) n s rest end has within = from_operand (inside n) _ _ _ (number_operand (inside n) text value (stop s ∷ rest) end has) (stops s rest end)
formula_read (name text) n s rest end has within = from_operand (inside n) _ _ _ (name_operand (inside n) text s rest end) (stops s rest end)
formula_read (binary which left right) zero s rest end has within = absurd (omega arith)
formula_read (binary which left right) (suc n) s rest end has within =
    let l = le-max_left (depth_of left) (depth_of right) in
    let r = le-max_right (depth_of left) (depth_of right) in
    let behind = mark (mark_of which) ∷ mark k.OpenParenthesis ∷ written right (stop true ∷ stop s ∷ rest) in
    joined_read which (inside (suc n)) _ _ _ end _ _
    (group_operand n (written left (stop true ∷ behind)) behind end (tree left) (formula_read left n true behind end has.0 (omega arith)))
    (group_operand n (written right (stop true ∷ stop s ∷ rest)) (stop s ∷ rest) end (tree right) (formula_read right n true (stop s ∷ rest) end has.1 (omega arith)))
    (stops s rest end)

pub is_read_back : (formula : Formula) (depth : ℕ) (rest : List Token) (end : SyntaxFaultKind) → HasValues formula → depth_of formula ≤ depth → IsReadBack formula depth rest end
unfolding logical_expression
is_read_back formula depth rest end has within = formula_read formula depth false rest end has within
