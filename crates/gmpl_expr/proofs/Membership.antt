-- What `in` and `not in` come to.
use Rattle.std.proofs.Common.{◌≡◌, List, Ok, Err, refl}
use Rattle.gmpl_syntax.specs.declared.expression.Relation.TheVariants as r
use Rattle.gmpl_value.specs.declared.symbol.Symbol.{Symbol}
use Rattle.gmpl_value.specs.Sets.{is_member}
use Rattle.gmpl_value.specs.Outcome.{Outcome, then_do}
use Rattle.gmpl_operations.specs.declared.value.Value.{Value}
use Rattle.gmpl_operations.specs.declared.value.Value.TheVariants.{Group}
use Rattle.gmpl_operations.specs.Values.{as_truth, set_in, tuple_in}
use Rattle.gmpl_operations.specs.Relations.{left_side, negated, related}
use Rattle.gmpl_meaning.specs.Parts.{Meant}
use Rattle.gmpl_meaning.specs.Expressions.{compared}
use Rattle.gmpl_expr.specs.Membership.{is_element}

in_tuple : (x : Outcome (List Symbol)) (y : Outcome Value) → then_do (λ l. then_do (λ v. as_truth (related r.In l v)) y) (then_do (λ t. Ok (Group t)) x) ≡ as_truth (then_do (λ t. then_do (λ s. Ok (is_member s t)) (then_do set_in y)) x)
in_tuple (Err f) y = refl
in_tuple (Ok t) (Err f) = refl
in_tuple (Ok t) (Ok w) = refl

in_value : (x y : Outcome Value) → then_do (λ l. then_do (λ v. as_truth (related r.In l v)) y) (then_do (left_side r.In) x) ≡ as_truth (then_do (λ t. then_do (λ s. Ok (is_member s t)) (then_do set_in y)) (then_do tuple_in x))
in_value (Err f) y = refl
in_value (Ok v) y = in_tuple (tuple_in v) y

pub compared_in : (left right : Meant) (b : List Symbol) → compared r.In left right b ≡ as_truth (is_element left right b)
compared_in left right b = in_value (left.value b) (right.value b)

not_in_tuple : (x : Outcome (List Symbol)) (y : Outcome Value) → then_do (λ l. then_do (λ v. as_truth (related r.NotIn l v)) y) (then_do (λ t. Ok (Group t)) x) ≡ as_truth (negated (then_do (λ t. then_do (λ s. Ok (is_member s t)) (then_do set_in y)) x))
not_in_tuple (Err f) y = refl
not_in_tuple (Ok t) (Err f) = refl
not_in_tuple (Ok t) (Ok w) = refl

not_in_value : (x y : Outcome Value) → then_do (λ l. then_do (λ v. as_truth (related r.NotIn l v)) y) (then_do (left_side r.NotIn) x) ≡ as_truth (negated (then_do (λ t. then_do (λ s. Ok (is_member s t)) (then_do set_in y)) (then_do tuple_in x)))
not_in_value (Err f) y = refl
not_in_value (Ok v) y = not_in_tuple (tuple_in v) y

pub compared_not_in : (left right : Meant) (b : List Symbol) → compared r.NotIn left right b ≡ as_truth (negated (is_element left right b))
compared_not_in left right b = not_in_value (left.value b) (right.value b)
