-- What reads an operand reads it on each level where no operator of the level follows, and with one operator that follows.
use Rattle.std.specs.Prelude.{◌≡◌, refl, ℕ, zero, suc, false, List, [], ◌∷◌, length, Option, Some, None, Ok}
use Rattle.std.proofs.Common.{◌∙◌}
use Rattle.gmpl_token.specs.declared.kind.TokenKind.{TokenKind}
use Rattle.gmpl_token.specs.declared.kind.TokenKind.TheVariants as k
use Rattle.gmpl_token.specs.Token.{Token}
use Rattle.gmpl_syntax.specs.declared.fault.SyntaxFaultKind.{SyntaxFaultKind}
use Rattle.gmpl_syntax.specs.declared.expression.Operator.{Operator}
use Rattle.gmpl_syntax.specs.declared.expression.Expr.{Expr}
use Rattle.gmpl_syntax.specs.declared.expression.Link.{Link, roll-Link}
use Rattle.gmpl_input.specs.Input.{Input, kind, next, sees}
use Rattle.gmpl_input.specs.Rules.{Rule, after}
use Rattle.gmpl_words.specs.declared.operators.Level.TheVariants as level
use Rattle.gmpl_words.specs.Operators.{operator, relation}
use Rattle.gmpl_expressions.specs.Grammar.{Inside, chain, links_from, primary, power, signed, signed_by, product, sum, join, range, cross, inter, union, related, related_by, negation, negation_by, conjunction, logical}
use Rattle.gmpl_laws.specs.Reading.{joined}

-- ---- chains

no_links : (op : Option TokenKind → Option Operator) (part : Rule Expr) (n : ℕ) (found : List Link) (j : Input) → op (kind j) ≡ None → links_from op part n found j ≡ Ok (found, j)
unfolding links_from
no_links op part zero found j none = refl
no_links op part (suc n) found j none = rw none refl

one_link : (op : Option TokenKind → Option Operator) (part : Rule Expr) (n : ℕ) (j k : Input) (which : Operator) (y : Expr) → op (kind j) ≡ Some which → part (next j) ≡ Ok (y, k) → op (kind k) ≡ None
    → links_from op part (suc n) [] j ≡ Ok (roll-Link (record { operator = which; operand = y }) ∷ [], k)
unfolding links_from
one_link op part n j k which y some read none = rw (some, read) (no_links op part n (roll-Link (record { operator = which; operand = y }) ∷ []) k none)

pub alone : (op : Option TokenKind → Option Operator) (part : Rule Expr) (i j : Input) (x : Expr) → part i ≡ Ok (x, j) → op (kind j) ≡ None → chain op part i ≡ Ok (x, j)
unfolding chain
alone op part i j x read none = rw (read, no_links op part (length j.rest) [] j none) refl

pub with_one : (op : Option TokenKind → Option Operator) (part : Rule Expr) (i k : Input) (token : Token) (rest : List Token) (end : SyntaxFaultKind) (which : Operator) (x y : Expr)
    → part i ≡ Ok (x, record { rest = token ∷ rest; end = end }) → op (kind (record { rest = token ∷ rest; end = end })) ≡ Some which
    → part (next (record { rest = token ∷ rest; end = end })) ≡ Ok (y, k) → op (kind k) ≡ None
    → chain op part i ≡ Ok (joined x which y, k)
unfolding chain
with_one op part i k token rest end which x y first some second none =
    let links = one_link op part (length rest) (record { rest = token ∷ rest; end = end }) k which y some second none in
    rw (first, links) refl

-- ---- from an operand up

-- a primary expression that is read here, with no sign and no `not` before it
pub record IsOperand (inside : Inside) (i j : Input) (x : Expr) : Type 0 where
  pub read : primary inside i ≡ Ok (x, j)
  pub unsigned : signed_by inside (kind i) i ≡ power inside i
  pub affirmed : negation_by inside (kind i) i ≡ related inside i

-- no operator goes on here
pub record Ends (j : Input) : Type 0 where
  pub no_power : sees k.Power j ≡ false
  pub no_product : operator level.Product (kind j) ≡ None
  pub no_sum : operator level.Sum (kind j) ≡ None
  pub no_join : operator level.Join (kind j) ≡ None
  pub no_dots : sees k.DotDot j ≡ false
  pub no_cross : operator level.Cross (kind j) ≡ None
  pub no_inter : operator level.Inter (kind j) ≡ None
  pub no_union : operator level.Union (kind j) ≡ None
  pub no_relation : (inside : Inside) (x : Expr) → related_by inside x (kind j) (relation (kind j)) j ≡ Ok (x, j)
  pub no_and : operator level.And (kind j) ≡ None
  pub no_or : operator level.Or (kind j) ≡ None

unraised : (inside : Inside) (i j : Input) (x : Expr) → primary inside i ≡ Ok (x, j) → sees k.Power j ≡ false → power inside i ≡ Ok (x, j)
unfolding power after
unraised inside i j x read none = rw (read, none) refl

without_sign : (inside : Inside) (i : Input) → signed_by inside (kind i) i ≡ power inside i → signed inside i ≡ power inside i
unfolding signed
without_sign inside i same = same

single : (inside : Inside) (i j : Input) (x : Expr) → join inside i ≡ Ok (x, j) → sees k.DotDot j ≡ false → range inside i ≡ Ok (x, j)
unfolding range after
single inside i j x read none = rw (read, none) refl

unrelated : (inside : Inside) (i j : Input) (x : Expr) → union inside i ≡ Ok (x, j) → related_by inside x (kind j) (relation (kind j)) j ≡ Ok (x, j) → related inside i ≡ Ok (x, j)
unfolding related
unrelated inside i j x read none = rw read none

without_not : (inside : Inside) (i : Input) → negation_by inside (kind i) i ≡ related inside i → negation inside i ≡ related inside i
unfolding negation
without_not inside i same = same

-- ---- the first operand, or the last, on each level

module _ (inside : Inside) (i j : Input) (x : Expr) (o : IsOperand inside i j x) (power_none : sees k.Power j ≡ false) where
  pub as_signed : signed inside i ≡ Ok (x, j)
  as_signed = without_sign inside i o.unsigned ∙ unraised inside i j x o.read power_none

  module _ (product_none : operator level.Product (kind j) ≡ None) where
    pub as_product : product inside i ≡ Ok (x, j)
    as_product = alone (operator level.Product) (signed inside) i j x as_signed product_none

    module _ (sum_none : operator level.Sum (kind j) ≡ None) where
      pub as_sum : sum inside i ≡ Ok (x, j)
      as_sum = alone (operator level.Sum) (product inside) i j x as_product sum_none

      module _ (join_none : operator level.Join (kind j) ≡ None) (dots_none : sees k.DotDot j ≡ false) where
        pub as_range : range inside i ≡ Ok (x, j)
        as_range = single inside i j x (alone (operator level.Join) (sum inside) i j x as_sum join_none) dots_none

        module _ (cross_none : operator level.Cross (kind j) ≡ None) where
          pub as_cross : cross inside i ≡ Ok (x, j)
          as_cross = alone (operator level.Cross) (range inside) i j x as_range cross_none

          module _ (inter_none : operator level.Inter (kind j) ≡ None) where
            pub as_inter : inter inside i ≡ Ok (x, j)
            as_inter = alone (operator level.Inter) (cross inside) i j x as_cross inter_none

            module _ (union_none : operator level.Union (kind j) ≡ None) (relation_none : (inside : Inside) (x : Expr) → related_by inside x (kind j) (relation (kind j)) j ≡ Ok (x, j)) where
              pub as_negation : negation inside i ≡ Ok (x, j)
              as_negation = without_not inside i o.affirmed ∙ unrelated inside i j x (alone (operator level.Union) (inter inside) i j x as_inter union_none) (relation_none inside x)

              pub as_conjunction : operator level.And (kind j) ≡ None → conjunction inside i ≡ Ok (x, j)
              as_conjunction and_none = alone (operator level.And) (negation inside) i j x as_negation and_none

-- ---- from a level up to `or`, behind which no operator goes on

module _ (inside : Inside) (i j : Input) (x : Expr) (ends : Ends j) (affirmed : negation_by inside (kind i) i ≡ related inside i) where
  pub from_conjunction : conjunction inside i ≡ Ok (x, j) → logical inside i ≡ Ok (x, j)
  from_conjunction read = alone (operator level.Or) (conjunction inside) i j x read ends.no_or

  pub from_union : union inside i ≡ Ok (x, j) → logical inside i ≡ Ok (x, j)
  from_union read = from_conjunction (alone (operator level.And) (negation inside) i j x (without_not inside i affirmed ∙ unrelated inside i j x read (ends.no_relation inside x)) ends.no_and)

  pub from_inter : inter inside i ≡ Ok (x, j) → logical inside i ≡ Ok (x, j)
  from_inter read = from_union (alone (operator level.Union) (inter inside) i j x read ends.no_union)

  pub from_cross : cross inside i ≡ Ok (x, j) → logical inside i ≡ Ok (x, j)
  from_cross read = from_inter (alone (operator level.Inter) (cross inside) i j x read ends.no_inter)

  pub from_join : join inside i ≡ Ok (x, j) → logical inside i ≡ Ok (x, j)
  from_join read = from_cross (alone (operator level.Cross) (range inside) i j x (single inside i j x read ends.no_dots) ends.no_cross)

  pub from_sum : sum inside i ≡ Ok (x, j) → logical inside i ≡ Ok (x, j)
  from_sum read = from_join (alone (operator level.Join) (sum inside) i j x read ends.no_join)

  pub from_product : product inside i ≡ Ok (x, j) → logical inside i ≡ Ok (x, j)
  from_product read = from_sum (alone (operator level.Sum) (product inside) i j x read ends.no_sum)

  pub from_signed : signed inside i ≡ Ok (x, j) → logical inside i ≡ Ok (x, j)
  from_signed read = from_product (alone (operator level.Product) (signed inside) i j x read ends.no_product)

pub from_operand : (inside : Inside) (i j : Input) (x : Expr) → IsOperand inside i j x → Ends j → logical inside i ≡ Ok (x, j)
from_operand inside i j x o ends = from_signed inside i j x ends o.affirmed (as_signed inside i j x o ends.no_power)
