-- How operators of neighbouring levels bind: each example computes.
use Rattle.std.specs.Prelude.{refl, [], ◌∷◌, None}
use Rattle.gmpl_token.specs.declared.kind.TokenKind.TheVariants as k
use Rattle.gmpl_syntax.specs.declared.expression.Sign.TheVariants as sign
use Rattle.gmpl_syntax.specs.declared.expression.Operator.TheVariants as o
use Rattle.gmpl_syntax.specs.declared.expression.Relation.TheVariants as r
use Rattle.gmpl_syntax.specs.declared.expression.Expr.TheVariants as e
use Rattle.gmpl_syntax.specs.declared.expression.Link.{roll-Link}
use Rattle.gmpl_input.specs.Input.{kind, spelling, next, refusal, same_kind, sees}
use Rattle.gmpl_input.specs.Rules.{after, expect, further_from}
use Rattle.gmpl_words.specs.Operators.{operator, denied_relation}
use Rattle.gmpl_expressions.specs.Grammar.{chain, links_from, part, suffix, reference, named, primary, power, signed, range, not_related, related, negation, negated, with_sign, inside, logical_expression}
use Rattle.gmpl_laws.specs.Reading.{mark, name_a, name_b, name_c, a, b, c, joined, reads, binds_tighter}

-- a ** b ** c
pub power_from_the_right : reads (name_a ∷ mark k.Power ∷ name_b ∷ mark k.Power ∷ name_c ∷ []) (e.Power a (e.Power b c))
unfolding kind spelling next refusal same_kind sees after expect further_from operator denied_relation chain links_from part suffix reference named primary power signed range not_related related negation negated with_sign inside logical_expression
power_from_the_right = refl

-- - a ** b, and a ** - b
pub power_before_sign : reads (mark k.Minus ∷ name_a ∷ mark k.Power ∷ name_b ∷ []) (e.Signed sign.Minus (e.Power a b))
    × reads (name_a ∷ mark k.Power ∷ mark k.Minus ∷ name_b ∷ []) (e.Power a (e.Signed sign.Minus b))
unfolding kind spelling next refusal same_kind sees after expect further_from operator denied_relation chain links_from part suffix reference named primary power signed range not_related related negation negated with_sign inside logical_expression
power_before_sign = (refl, refl)

-- - a * b, and a * - b
pub sign_before_product : reads (mark k.Minus ∷ name_a ∷ mark k.Times ∷ name_b ∷ []) (joined (e.Signed sign.Minus a) o.Times b)
    × reads (name_a ∷ mark k.Times ∷ mark k.Minus ∷ name_b ∷ []) (joined a o.Times (e.Signed sign.Minus b))
unfolding kind spelling next refusal same_kind sees after expect further_from operator denied_relation chain links_from part suffix reference named primary power signed range not_related related negation negated with_sign inside logical_expression
sign_before_product = (refl, refl)

-- * and +
pub product_before_sum : binds_tighter k.Times o.Times k.Plus o.Plus
unfolding kind spelling next refusal same_kind sees after expect further_from operator denied_relation chain links_from part suffix reference named primary power signed range not_related related negation negated with_sign inside logical_expression
product_before_sum = (refl, refl)

-- less and &
pub sum_before_join : binds_tighter k.Less o.Less k.Join o.Join
unfolding kind spelling next refusal same_kind sees after expect further_from operator denied_relation chain links_from part suffix reference named primary power signed range not_related related negation negated with_sign inside logical_expression
sum_before_join = (refl, refl)

-- a & b .. c, and a .. b & c
pub join_before_range : reads (name_a ∷ mark k.Join ∷ name_b ∷ mark k.DotDot ∷ name_c ∷ []) (e.Range (joined a o.Join b) c None)
    × reads (name_a ∷ mark k.DotDot ∷ name_b ∷ mark k.Join ∷ name_c ∷ []) (e.Range a (joined b o.Join c) None)
unfolding kind spelling next refusal same_kind sees after expect further_from operator denied_relation chain links_from part suffix reference named primary power signed range not_related related negation negated with_sign inside logical_expression
join_before_range = (refl, refl)

-- a .. b cross c, and a cross b .. c
pub range_before_cross : reads (name_a ∷ mark k.DotDot ∷ name_b ∷ mark k.Cross ∷ name_c ∷ []) (joined (e.Range a b None) o.Cross c)
    × reads (name_a ∷ mark k.Cross ∷ name_b ∷ mark k.DotDot ∷ name_c ∷ []) (joined a o.Cross (e.Range b c None))
unfolding kind spelling next refusal same_kind sees after expect further_from operator denied_relation chain links_from part suffix reference named primary power signed range not_related related negation negated with_sign inside logical_expression
range_before_cross = (refl, refl)

-- cross and inter
pub cross_before_inter : binds_tighter k.Cross o.Cross k.Inter o.Inter
unfolding kind spelling next refusal same_kind sees after expect further_from operator denied_relation chain links_from part suffix reference named primary power signed range not_related related negation negated with_sign inside logical_expression
cross_before_inter = (refl, refl)

-- inter and diff
pub inter_before_union : binds_tighter k.Inter o.Inter k.Diff o.Diff
unfolding kind spelling next refusal same_kind sees after expect further_from operator denied_relation chain links_from part suffix reference named primary power signed range not_related related negation negated with_sign inside logical_expression
inter_before_union = (refl, refl)

-- a union b < c, and a < b union c
pub union_before_relation : reads (name_a ∷ mark k.Union ∷ name_b ∷ mark k.Below ∷ name_c ∷ []) (e.Compared r.Below (joined a o.Union b) c)
    × reads (name_a ∷ mark k.Below ∷ name_b ∷ mark k.Union ∷ name_c ∷ []) (e.Compared r.Below a (joined b o.Union c))
unfolding kind spelling next refusal same_kind sees after expect further_from operator denied_relation chain links_from part suffix reference named primary power signed range not_related related negation negated with_sign inside logical_expression
union_before_relation = (refl, refl)

-- not a < b, and a not in b
pub relation_before_not : reads (mark k.Not ∷ name_a ∷ mark k.Below ∷ name_b ∷ []) (e.Not (e.Compared r.Below a b))
    × reads (name_a ∷ mark k.Not ∷ mark k.In ∷ name_b ∷ []) (e.Compared r.NotIn a b)
unfolding kind spelling next refusal same_kind sees after expect further_from operator denied_relation chain links_from part suffix reference named primary power signed range not_related related negation negated with_sign inside logical_expression
relation_before_not = (refl, refl)

-- not a and b, and a and not b
pub not_before_and : reads (mark k.Not ∷ name_a ∷ mark k.And ∷ name_b ∷ []) (joined (e.Not a) o.And b)
    × reads (name_a ∷ mark k.And ∷ mark k.Not ∷ name_b ∷ []) (joined a o.And (e.Not b))
unfolding kind spelling next refusal same_kind sees after expect further_from operator denied_relation chain links_from part suffix reference named primary power signed range not_related related negation negated with_sign inside logical_expression
not_before_and = (refl, refl)

-- and and or
pub and_before_or : binds_tighter k.And o.And k.Or o.Or
unfolding kind spelling next refusal same_kind sees after expect further_from operator denied_relation chain links_from part suffix reference named primary power signed range not_related related negation negated with_sign inside logical_expression
and_before_or = (refl, refl)

-- a - b + c is one chain
pub one_level_from_the_left : reads (name_a ∷ mark k.Minus ∷ name_b ∷ mark k.Plus ∷ name_c ∷ []) (e.Chain a (roll-Link (record { operator = o.Minus; operand = b }) ∷ roll-Link (record { operator = o.Plus; operand = c }) ∷ []))
unfolding kind spelling next refusal same_kind sees after expect further_from operator denied_relation chain links_from part suffix reference named primary power signed range not_related related negation negated with_sign inside logical_expression
one_level_from_the_left = refl
