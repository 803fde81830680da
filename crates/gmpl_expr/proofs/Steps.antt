-- Loops over parts that are handed as they were evaluated: one turn more, or its fault; and what is asked in a row.
use Rattle.std.proofs.Common.{◌≡◌, ◌∙◌, ◌<◌, ◌+◌, ℕ, Bool, false, if◌then◌else◌, Option, Ok, Err, List, [], ◌∷◌, ◌++◌, length, drop, get_or, IsErrAnd, refl, ap, sym, subst}
use Rattle.std.proofs.lemmas.List.{at_drop_more}
use Rattle.rational.specs.Rational.{Rational}
use Rattle.gmpl_syntax.specs.declared.expression.Relation.{Relation}
use Rattle.gmpl_resolved.specs.declared.statement.Attribute.{Attribute}
use Rattle.gmpl_resolved.specs.declared.statement.Attribute.TheVariants as a
use Rattle.gmpl_resolved.specs.declared.statement.Numbered.{Numbered}
use Rattle.gmpl_resolved.specs.declared.expression.Component.{Component}
use Rattle.gmpl_resolved.specs.declared.expression.Entry.{Entry}
use Rattle.gmpl_resolved.specs.declared.expression.Expr.{Expr}
use Rattle.gmpl_value.specs.declared.symbol.Symbol.{Symbol}
use Rattle.gmpl_value.specs.declared.eval_fault.EvalFault.{EvalFault}
use Rattle.gmpl_value.specs.declared.eval_fault.EvalFault.TheVariants as f
use Rattle.gmpl_value.specs.Outcome.{Outcome, Faults, Gives, then_do}
use Rattle.gmpl_operations.specs.Values.{number_in, symbol_in}
use Rattle.gmpl_data.specs.declared.tables.LoadedModel.{LoadedModel}
use Rattle.gmpl_meaning.specs.Parts.{Bindings, Demanding}
use Rattle.gmpl_meaning.specs.Domains as domains
use Rattle.gmpl_meaning.specs.Expressions as spec
use Rattle.gmpl_meaning.specs.Restrictions as restrictions
use Rattle.gmpl_meaning.specs.Walks as walks
use Rattle.gmpl_expr.specs.At as at

then_then : {A B C : Type 0} (go : B → Outcome C) (step : A → Outcome B) (o : Outcome A) → then_do (λ a. then_do go (step a)) o ≡ then_do go (then_do step o)
then_then go step (Ok a) = refl
then_then go step (Err fault) = refl

-- the fault of a part is the whole's
fault_of : {A B : Type 0} (go : A → Outcome B) (fault : EvalFault) (o : Outcome A) → Faults fault o → Faults fault (then_do go o)
fault_of go f.NoValue o h = ap (then_do go) h
fault_of go f.OutOfDomain o h = ap (then_do go) h
fault_of go f.Restriction o h = ap (then_do go) h
fault_of go f.DivZero o h = ap (then_do go) h
fault_of go f.NotWhole o h = ap (then_do go) h
fault_of go f.NotANumber o h = ap (then_do go) h
fault_of go f.Nonlinear o h = ap (then_do go) h
fault_of go f.BadFormat o h = ap (then_do go) h
fault_of go f.Depth o h = ap (then_do go) h
fault_of go f.TooMany o h = ap (then_do go) h
fault_of go f.NoDual o h = ap (then_do go) h
fault_of go (f.NoFit n) o h = ap (then_do go) h
fault_of go f.NoMemory o h = tt

handed : {B : Type 0} (r : Outcome B) (fault : EvalFault) (o : Outcome B) → IsErrAnd r (λ d. d ≡ fault) → Faults fault o → Gives r o
handed (Ok b) fault o is h = absurd is
handed (Err d) fault o is h = subst (λ x. Faults x o) (sym is) h

-- a loop whose turn takes a state on, and what is left behind it
module _ {X S B : Type 0} (left : List X → S → Outcome B) (turn : X → S → Outcome S) (xs : List X) (i : ℕ) (x : X) (whole : Outcome B) (so_far : S)
    (begun : whole ≡ left (drop i xs) so_far) (within : i < length xs) (is : x ≡ get_or xs i x)
    (unrolled : left (x ∷ drop (i + 1) xs) so_far ≡ then_do (left (drop (i + 1) xs)) (turn x so_far)) where
  in_turn : whole ≡ then_do (left (drop (i + 1) xs)) (turn x so_far)
  in_turn = begun ∙ at_drop_more (λ ys. left ys so_far) xs i x within ∙ ap (λ y. left (y ∷ drop (i + 1) xs) so_far) (sym is) ∙ unrolled

  pub one_more : (behind : S) → turn x so_far ≡ Ok behind → whole ≡ left (drop (i + 1) xs) behind
  one_more behind found = in_turn ∙ ap (then_do (left (drop (i + 1) xs))) found

  pub one_fault : (result : Outcome B) (fault : EvalFault) → IsErrAnd result (λ d. d ≡ fault) → Faults fault (turn x so_far) → Gives result whole
  one_fault result fault is_fault h = subst (Gives result) (sym in_turn) (handed result fault (then_do (left (drop (i + 1) xs)) (turn x so_far)) is_fault (fault_of (left (drop (i + 1) xs)) fault (turn x so_far) h))

module _ (model : LoadedModel) (height : ℕ) (b : Bindings) where
  -- symbols
  abbrev pub symbols_left : List Expr → List Symbol → Outcome (List Symbol)
  symbols_left xs found = spec.symbols found (at.exprs model height xs) b

  abbrev pub symbol_turn : Expr → List Symbol → Outcome (List Symbol)
  symbol_turn x found = then_do (λ s. Ok (found ++ s ∷ [])) (then_do symbol_in ((at.expr model height x).value b))

  pub symbols_unrolled : (x : Expr) (xs : List Expr) (found : List Symbol) → symbols_left (x ∷ xs) found ≡ then_do (symbols_left xs) (symbol_turn x found)
  symbols_unrolled x xs found = then_then (symbols_left xs) (λ s. Ok (found ++ s ∷ [])) (then_do symbol_in ((at.expr model height x).value b))

  -- numbers
  abbrev pub numbers_left : List Expr → List Rational → Outcome (List Rational)
  numbers_left xs found = spec.numbers found (at.exprs model height xs) b

  abbrev pub number_turn : Expr → List Rational → Outcome (List Rational)
  number_turn x found = then_do (λ q. Ok (found ++ q ∷ [])) (then_do number_in ((at.expr model height x).value b))

  pub numbers_unrolled : (x : Expr) (xs : List Expr) (found : List Rational) → numbers_left (x ∷ xs) found ≡ then_do (numbers_left xs) (number_turn x found)
  numbers_unrolled x xs found = then_then (numbers_left xs) (λ q. Ok (found ++ q ∷ [])) (then_do number_in ((at.expr model height x).value b))

  -- components of an index
  abbrev pub components_left : List Component → List (Option Symbol) → Outcome (List (Option Symbol))
  components_left xs found = walks.component_values found (at.components model height xs) b

  abbrev pub component_turn : Component → List (Option Symbol) → Outcome (List (Option Symbol))
  component_turn x found = then_do (λ s. Ok (found ++ s ∷ [])) (walks.component_value (at.component model height x) b)

  pub components_unrolled : (x : Component) (xs : List Component) (found : List (Option Symbol)) → components_left (x ∷ xs) found ≡ then_do (components_left xs) (component_turn x found)
  components_unrolled x xs found = then_then (components_left xs) (λ s. Ok (found ++ s ∷ [])) (walks.component_value (at.component model height x) b)

-- entries that take subscripts: the indices in scope, and the subscripts that are left
module _ (model : LoadedModel) (height : ℕ) where
  abbrev pub entries_left : List Entry → Bindings × List Symbol → Outcome Bindings
  entries_left xs r = domains.within_entries (at.entries model height xs) r.0 r.1

  abbrev pub entry_turn : Entry → Bindings × List Symbol → Outcome (Bindings × List Symbol)
  entry_turn x r = domains.within_entry (at.entry model height x) r.0 r.1

  pub entries_unrolled : (x : Entry) (xs : List Entry) (r : Bindings × List Symbol) → entries_left (x ∷ xs) r ≡ then_do (entries_left xs) (entry_turn x r)
  entries_unrolled x xs r = refl

-- three that are asked in a row, and what is done behind them
pub behind_three : {A : Type 0} (go : Unit {0} → Outcome A) (first second third : Outcome (Unit {0}))
    → then_do go (then_do (λ _. then_do (λ _. third) second) first) ≡ then_do (λ _. then_do (λ _. then_do go third) second) first
behind_three go (Err fault) second third = refl
behind_three go (Ok done) (Err fault) third = refl
behind_three go (Ok done) (Ok other) third = refl

-- a relation other than `in`
pub relation_meets : (statements : List Numbered) (demand : Demanding) (b : Bindings) (symbolic : Bool) (attribute : Attribute) (relation : Relation) (x : Expr) (s : Symbol) (result : Outcome (Unit {0}))
    → attribute ≡ a.Restriction relation x → restrictions.is_in relation ≡ false → Gives result (restrictions.meets statements demand b symbolic relation x s)
    → Gives result (restrictions.relation_holds statements demand b symbolic attribute s)
relation_meets statements demand b symbolic attribute relation x s result is not_in given =
    subst (λ y. Gives result (restrictions.relation_holds statements demand b symbolic y s)) (sym is)
    (subst (λ t. Gives result (if t then Ok tt else restrictions.meets statements demand b symbolic relation x s)) (sym not_in) given)
