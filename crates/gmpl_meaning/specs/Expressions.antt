-- What an expression whose names are resolved comes to, from left to right up to the first fault (GNU MathProg Language Reference,
-- chapter on expressions). Members are what they are demanded to be (`demand`).
use Rattle.std.specs.Prelude.{ℕ, pos, Bool, true, false, ◌||◌, Option, Some, None, Ok, Err, List, [], ◌∷◌, ◌++◌, map, length, slice_get, if◌then◌else◌}
use Rattle.rational.specs.Rational.{Rational, zero_ℚ, one_ℚ, whole}
use Rattle.rational.specs.Compare.{is_zero}
use Rattle.gmpl_syntax.specs.declared.expression.Function.{Function}
use Rattle.gmpl_syntax.specs.declared.expression.Function.TheVariants as f
use Rattle.gmpl_syntax.specs.declared.expression.Iteration.{Iteration}
use Rattle.gmpl_syntax.specs.declared.expression.Iteration.TheVariants as i
use Rattle.gmpl_syntax.specs.declared.expression.Operator.{Operator}
use Rattle.gmpl_syntax.specs.declared.expression.Operator.TheVariants as o
use Rattle.gmpl_syntax.specs.declared.expression.Relation.{Relation}
use Rattle.gmpl_syntax.specs.declared.expression.Suffix.{Suffix}
use Rattle.gmpl_resolved.specs.declared.expression.Meaning.{Meaning as Name}
use Rattle.gmpl_resolved.specs.declared.expression.Meaning.TheVariants as name
use Rattle.gmpl_resolved.specs.declared.expression.Component.{Component}
use Rattle.gmpl_resolved.specs.declared.expression.Component.TheOpen.{Component-F, Expr-F, Entry-F, Indexing-F, Link-F}
use Rattle.gmpl_resolved.specs.declared.expression.Component.TheFolds.{fold-Component, fold-Expr, fold-Entry, fold-Indexing, fold-Link}
use Rattle.gmpl_resolved.specs.declared.expression.Expr.{Expr}
use Rattle.gmpl_resolved.specs.declared.expression.Indexing.{Indexing}
use Rattle.gmpl_resolved.specs.declared.expression.Entry.{Entry}
use Rattle.gmpl_resolved.specs.declared.expression.Link.{Link}
use Rattle.gmpl_resolved.specs.declared.statement.Numbered.{Numbered}
use Rattle.gmpl_resolved.specs.declared.statement.Statement.{Statement}
use Rattle.gmpl_resolved.specs.declared.statement.Statement.TheVariants as statement
use Rattle.gmpl_value.specs.declared.symbol.Symbol.{Symbol}
use Rattle.gmpl_value.specs.declared.symbol.Symbol.TheVariants.{Number, Word}
use Rattle.gmpl_value.specs.Range.{range_of}
use Rattle.gmpl_value.specs.Sets.{Elements as Set, with_element}
use Rattle.gmpl_value.specs.declared.eval_fault.EvalFault.{EvalFault}
use Rattle.gmpl_value.specs.declared.eval_fault.EvalFault.TheVariants.{NoValue, NotANumber, DivZero}
use Rattle.gmpl_value.specs.Outcome.{Outcome, then_do}
use Rattle.gmpl_functions.specs.Powers.{power_of}
use Rattle.gmpl_functions.specs.Strings.{length_of}
use Rattle.gmpl_operations.specs.declared.value.Value.{Value}
use Rattle.gmpl_operations.specs.declared.value.Value.TheVariants.{Scalar, Truth, Group, Elements}
use Rattle.gmpl_operations.specs.Values.{number_in, symbol_in, truth_in, set_in, tuple_in, of_number, as_number, as_truth, as_elements}
use Rattle.gmpl_operations.specs.Operators.{taken, decides, applied}
use Rattle.gmpl_operations.specs.Relations.{left_side, related}
use Rattle.gmpl_operations.specs.Functions.{of_numbers, sliced, signed}
use Rattle.gmpl_operations.specs.Iterations.{joined, is_decided, ended}
use Rattle.gmpl_meaning.specs.declared.walk.Element.{Element}
use Rattle.gmpl_meaning.specs.declared.walk.Walk.{Walk}
use Rattle.gmpl_meaning.specs.Parts.{Bindings, Meaning, Demanding, Meant, MeantComponent, MeantEntry, MeantIndexing, MeantLink, meant}
use Rattle.gmpl_meaning.specs.Walks.{walked}

-- ---- lists

abbrev pub symbols : List Symbol → List Meant → Bindings → Outcome (List Symbol)
symbols found [] b = Ok found
symbols found (x ∷ xs) b = then_do (λ s. symbols (found ++ s ∷ []) xs b) (then_do symbol_in (x.value b))

abbrev pub numbers : List Rational → List Meant → Bindings → Outcome (List Rational)
numbers found [] b = Ok found
numbers found (x ∷ xs) b = then_do (λ q. numbers (found ++ q ∷ []) xs b) (then_do number_in (x.value b))

-- ---- names

abbrev pub bound_to : Option Symbol → Outcome Value
bound_to (Some s) = Ok (Scalar s)
bound_to None = Err NoValue

-- an index, or behind its subscripts a member
abbrev pub named : Demanding → Name → List Meant → Option Suffix → Meaning
named demand (name.Index place) subscripts suffix b = bound_to (slice_get b place)
named demand (name.Object place) subscripts suffix b = then_do (demand place suffix) (symbols [] subscripts b)

abbrev pub declares_set_by : Statement → Bool
declares_set_by (statement.Set d) = true
declares_set_by _ = false

abbrev pub declares_set : Option Numbered → Bool
declares_set None = false
declares_set (Some x) = declares_set_by x.statement

abbrev pub names_set : List Numbered → Name → Bool
names_set statements (name.Index place) = false
names_set statements (name.Object place) = declares_set (slice_get statements place)

-- ---- functions

abbrev pub counted : Set → Outcome Value
counted s = Ok (of_number (whole (pos (length s))))

abbrev pub size : List Meant → Meaning
size [] b = Err NotANumber
size (x ∷ xs) b = then_do counted (then_do set_in (x.value b))

abbrev pub text_length : List Meant → Meaning
text_length [] b = Err NotANumber
text_length (x ∷ xs) b = then_do (λ s. Ok (of_number (length_of s))) (then_do symbol_in (x.value b))

abbrev pub substring : List Meant → Meaning
substring [] b = Err NotANumber
substring (x ∷ xs) b = then_do (λ s. then_do (λ ns. then_do (λ t. Ok (Scalar t)) (sliced s ns)) (numbers [] xs b)) (then_do symbol_in (x.value b))

abbrev pub function_of : Function → List Meant → Meaning
function_of function xs b = then_do (λ ns. as_number (of_numbers function ns)) (numbers [] xs b)

abbrev pub called : Function → List Meant → Meaning
called f.Card xs b = size xs b
called f.Length xs b = text_length xs b
called f.Substr xs b = substring xs b
called function xs b = function_of function xs b

-- ---- groups

-- one part in parentheses is that part, several are a tuple
abbrev pub group : List Meant → Meaning
group (x ∷ []) b = x.value b
group xs b = then_do (λ t. Ok (Group t)) (symbols [] xs b)

abbrev pub group_is_set : List Meant → Bool
group_is_set (x ∷ []) = x.is_set
group_is_set _ = false

-- ---- braces

abbrev pub has : {A : Type 0} → Option A → Bool
has None = false
has (Some a) = true

abbrev pub is_indexed : List MeantEntry → Bool
is_indexed [] = false
is_indexed (entry ∷ entries) = if has entry.index then true else is_indexed entries

abbrev pub begins_with_set : List MeantEntry → Bool
begins_with_set [] = false
begins_with_set (entry ∷ entries) = entry.set.is_set

-- an indexing expression, where an entry has an index or the first is a set, and else elements
abbrev pub is_indexing : MeantIndexing → Bool
is_indexing indexing = if has indexing.condition then true else if is_indexed indexing.entries then true else begins_with_set indexing.entries

-- a fault behind the elements, where there is one
abbrev pub unless : {A : Type 0} → Option EvalFault → Outcome A → Outcome A
unless None answer = answer
unless (Some fault) answer = Err fault

abbrev pub added : Set → List Symbol → Outcome Value
added found t = as_elements (with_element found t)

-- the set of the elements that are gone over
abbrev pub gathered : Set → List Element → Option EvalFault → Outcome Value
gathered found [] fault = unless fault (Ok (Elements found))
gathered found (x ∷ xs) fault = then_do (λ s. gathered s xs fault) (then_do set_in (added found x.tuple))

-- the set of elements that are listed
abbrev pub listed : Set → List MeantEntry → Meaning
listed found [] b = Ok (Elements found)
listed found (entry ∷ entries) b = then_do (λ t. then_do (λ s. listed s entries b) (then_do set_in (added found t))) (then_do tuple_in (entry.set.value b))

abbrev pub set_over : Walk → Outcome Value
set_over w = gathered [] w.elements w.fault

abbrev pub braces : MeantIndexing → Meaning
braces indexing b = if is_indexing indexing then set_over (walked indexing b) else listed [] indexing.entries b

-- ---- iterations

-- behind the last element, or where what is left can't change the value
abbrev pub closed : Iteration → Option Value → Option EvalFault → Outcome Value
closed iteration total fault = if is_decided iteration total then ended iteration total else unless fault (ended iteration total)

abbrev pub gone_over : Iteration → Meant → Bindings → Option Value → List Element → Option EvalFault → Outcome Value
gone_over iteration body b total [] fault = closed iteration total fault
gone_over iteration body b total (x ∷ xs) fault =
    if is_decided iteration total then ended iteration total
    else then_do (λ t. gone_over iteration body b t xs fault) (then_do (joined iteration total) (body.value (b ++ x.indices)))

abbrev pub iterated : Iteration → Meant → Bindings → Walk → Outcome Value
iterated iteration body b w = gone_over iteration body b None w.elements w.fault

abbrev pub iterates_to_set : Iteration → Bool
iterates_to_set i.Setof = true
iterates_to_set _ = false

-- ---- choices

-- what is written without `else`: 0, or the empty set
abbrev pub nothing : Bool → Value
nothing true = Elements []
nothing false = of_number zero_ℚ

abbrev pub otherwise : Bool → Option Meant → Meaning
otherwise is_set None b = Ok (nothing is_set)
otherwise is_set (Some x) b = x.value b

abbrev pub conditional : Meant → Meant → Option Meant → Meaning
conditional condition first other b = then_do (λ t. if t then first.value b else otherwise first.is_set other b) (then_do truth_in (condition.value b))

-- ---- chains

-- an operator on the value so far: the left operand is taken first, and the right one is evaluated where the left doesn't decide
abbrev pub linked : MeantLink → Bindings → Value → Outcome Value
linked link b left =
    then_do (λ l. if decides link.operator l then Ok l else then_do (applied link.operator l) (link.operand.value b)) (taken link.operator left)

abbrev pub links_from : Value → List MeantLink → Bindings → Outcome Value
links_from left [] b = Ok left
links_from left (link ∷ links) b = then_do (λ v. links_from v links b) (linked link b left)

abbrev pub chain : Meant → List MeantLink → Meaning
chain first links b = then_do (λ v. links_from v links b) (first.value b)

abbrev pub makes_set : Operator → Bool
makes_set o.Union = true
makes_set o.Diff = true
makes_set o.Symdiff = true
makes_set o.Inter = true
makes_set o.Cross = true
makes_set _ = false

abbrev pub chain_is_set : Meant → List MeantLink → Bool
chain_is_set first [] = first.is_set
chain_is_set first (link ∷ links) = makes_set link.operator

-- ---- ranges, comparisons and the rest

abbrev pub number_at : Meant → Bindings → Outcome Rational
number_at x b = then_do number_in (x.value b)

abbrev pub step_of : Option Meant → Bindings → Outcome Rational
step_of None b = Ok one_ℚ
step_of (Some x) b = number_at x b

abbrev pub range_by : Rational → Rational → Rational → Outcome Value
range_by from to by = if is_zero by then Err DivZero else as_elements (range_of from to by)

abbrev pub range : Meant → Meant → Option Meant → Meaning
range first last step b = then_do (λ from. then_do (λ to. then_do (λ by. range_by from to by) (step_of step b)) (number_at last b)) (number_at first b)

abbrev pub compared : Relation → Meant → Meant → Meaning
compared relation left right b =
    then_do (λ l. then_do (λ r. as_truth (related relation l r)) (right.value b)) (then_do (left_side relation) (left.value b))

abbrev pub power : Meant → Meant → Meaning
power base exponent b = then_do (λ x. then_do (λ n. as_number (power_of x n)) (number_at exponent b)) (number_at base b)

abbrev pub negation : Meant → Meaning
negation part b = then_do (λ t. Ok (Truth (if t then false else true))) (then_do truth_in (part.value b))

module _ (statements : List Numbered) (demand : Demanding) where
  abbrev pub component_step : Component-F MeantComponent Meant MeantEntry MeantIndexing MeantLink → MeantComponent
  component_step Component-F.New = None
  component_step (Component-F.Value x) = Some x

  abbrev pub expr_step : Expr-F MeantComponent Meant MeantEntry MeantIndexing MeantLink → Meant
  expr_step (Expr-F.Number q) = meant false (λ b. Ok (of_number q))
  expr_step (Expr-F.Text text) = meant false (λ b. Ok (Scalar (Word text)))
  expr_step (Expr-F.Named called subscripts suffix) = meant (names_set statements called) (named demand called subscripts suffix)
  expr_step (Expr-F.Call function xs) = meant false (called function xs)
  expr_step (Expr-F.Group parts) = meant (group_is_set parts) (group parts)
  expr_step (Expr-F.Braces indexing) = meant true (braces indexing)
  expr_step (Expr-F.Iterated iteration indexing body) = meant (iterates_to_set iteration) (λ b. iterated iteration body b (walked indexing b))
  expr_step (Expr-F.If condition first other) = meant first.is_set (conditional condition first other)
  expr_step (Expr-F.Signed sign part) = meant false (λ b. then_do (signed sign) (part.value b))
  expr_step (Expr-F.Power base exponent) = meant false (power base exponent)
  expr_step (Expr-F.Chain first links) = meant (chain_is_set first links) (chain first links)
  expr_step (Expr-F.Range first last step) = meant true (range first last step)
  expr_step (Expr-F.Compared relation left right) = meant false (compared relation left right)
  expr_step (Expr-F.Not part) = meant false (negation part)

  abbrev pub entry_step : Entry-F MeantComponent Meant MeantEntry MeantIndexing MeantLink → MeantEntry
  entry_step entry = record { index = entry.index; set = entry.set }

  abbrev pub indexing_step : Indexing-F MeantComponent Meant MeantEntry MeantIndexing MeantLink → MeantIndexing
  indexing_step indexing = record { entries = indexing.entries; condition = indexing.condition }

  abbrev pub link_step : Link-F MeantComponent Meant MeantEntry MeantIndexing MeantLink → MeantLink
  link_step link = record { operator = link.operator; operand = link.operand }

  -- what an expression means
  abbrev pub meaning : Expr → Meant
  meaning = fold-Expr MeantComponent Meant MeantEntry MeantIndexing MeantLink component_step expr_step entry_step indexing_step link_step

  abbrev pub meanings : List Expr → List Meant
  meanings = map meaning

  abbrev pub optional_meaning : Option Expr → Option Meant
  optional_meaning None = None
  optional_meaning (Some x) = Some (meaning x)

  abbrev pub component_meaning : Component → MeantComponent
  component_meaning = fold-Component MeantComponent Meant MeantEntry MeantIndexing MeantLink component_step expr_step entry_step indexing_step link_step

  abbrev pub component_meanings : List Component → List MeantComponent
  component_meanings = map component_meaning

  abbrev pub entry_meaning : Entry → MeantEntry
  entry_meaning = fold-Entry MeantComponent Meant MeantEntry MeantIndexing MeantLink component_step expr_step entry_step indexing_step link_step

  abbrev pub entry_meanings : List Entry → List MeantEntry
  entry_meanings = map entry_meaning

  -- what an indexing expression means
  abbrev pub indexing_meaning : Indexing → MeantIndexing
  indexing_meaning = fold-Indexing MeantComponent Meant MeantEntry MeantIndexing MeantLink component_step expr_step entry_step indexing_step link_step

  abbrev pub link_meaning : Link → MeantLink
  link_meaning = fold-Link MeantComponent Meant MeantEntry MeantIndexing MeantLink component_step expr_step entry_step indexing_step link_step

  abbrev pub link_meanings : List Link → List MeantLink
  link_meanings = map link_meaning
