-- Relations between two values: the left side is taken before the right one is evaluated.
use Rattle.std.specs.Prelude.{Bool, true, false, not, Ok, Err}
use Rattle.std.specs.declared.cmp.Ordering.{Ordering}
use Rattle.std.specs.declared.cmp.Ordering.TheVariants.{Less, Equal, Greater}
use Rattle.gmpl_syntax.specs.declared.expression.Relation.{Relation}
use Rattle.gmpl_syntax.specs.declared.expression.Relation.TheVariants as r
use Rattle.gmpl_value.specs.declared.symbol.Symbol.{Symbol}
use Rattle.gmpl_value.specs.SymbolOrder.{symbol_order}
use Rattle.gmpl_value.specs.Sets.{is_member, is_within}
use Rattle.gmpl_value.specs.Outcome.{Outcome, then_do}
use Rattle.gmpl_operations.specs.declared.value.Value.{Value}
use Rattle.gmpl_operations.specs.declared.value.Value.TheVariants.{Scalar, Truth, Group, Elements}
use Rattle.gmpl_operations.specs.Values.{symbol_in, set_in, tuple_in}

abbrev pub is_less : Ordering → Bool
is_less Less = true
is_less _ = false

abbrev pub is_equal : Ordering → Bool
is_equal Equal = true
is_equal _ = false

abbrev pub is_greater : Ordering → Bool
is_greater Greater = true
is_greater _ = false

-- how two symbols stand to each other, in the order of symbols
abbrev pub stands : Relation → Ordering → Bool
stands r.Below order = is_less order
stands r.AtMost order = not (is_greater order)
stands r.Equal order = is_equal order
stands r.AtLeast order = not (is_less order)
stands r.Above order = is_greater order
stands r.Unequal order = not (is_equal order)
stands _ order = false

abbrev pub compared : Relation → Symbol → Symbol → Bool
compared relation s t = stands relation (symbol_order s t)

-- the left side: an element of `in`, a set of `within`, else a symbol
abbrev pub left_side : Relation → Value → Outcome Value
left_side r.In v = then_do (λ t. Ok (Group t)) (tuple_in v)
left_side r.NotIn v = then_do (λ t. Ok (Group t)) (tuple_in v)
left_side r.Within v = then_do (λ s. Ok (Elements s)) (set_in v)
left_side r.NotWithin v = then_do (λ s. Ok (Elements s)) (set_in v)
left_side _ v = then_do (λ s. Ok (Scalar s)) (symbol_in v)

abbrev pub member_of : Value → Value → Outcome Bool
member_of left right = then_do (λ t. then_do (λ s. Ok (is_member s t)) (set_in right)) (tuple_in left)

abbrev pub within : Value → Value → Outcome Bool
within left right = then_do (λ s. then_do (λ t. Ok (is_within s t)) (set_in right)) (set_in left)

abbrev pub scalars_related : Relation → Value → Value → Outcome Bool
scalars_related relation left right = then_do (λ s. then_do (λ t. Ok (compared relation s t)) (symbol_in right)) (symbol_in left)

abbrev pub negated : Outcome Bool → Outcome Bool
negated = then_do (λ b. Ok (not b))

-- whether the relation holds
abbrev pub related : Relation → Value → Value → Outcome Bool
related r.In left right = member_of left right
related r.NotIn left right = negated (member_of left right)
related r.Within left right = within left right
related r.NotWithin left right = negated (within left right)
related r.Below left right = scalars_related r.Below left right
related r.AtMost left right = scalars_related r.AtMost left right
related r.Equal left right = scalars_related r.Equal left right
related r.AtLeast left right = scalars_related r.AtLeast left right
related r.Above left right = scalars_related r.Above left right
related r.Unequal left right = scalars_related r.Unequal left right
