-- Going over elements one by one comes to what going over their list does.
use Rattle.std.proofs.Common.{◌≡◌, ◌∙◌, Bool, true, false, Option, Some, None, Ok, Err, List, [], ◌∷◌, ◌++◌, refl, sym, ap, if◌then◌else◌}
use Rattle.std.proofs.lemmas.List.{append-nil, append_assoc}
use Rattle.gmpl_syntax.specs.declared.expression.Iteration.{Iteration}
use Rattle.gmpl_syntax.specs.declared.expression.Iteration.TheVariants as i
use Rattle.gmpl_value.specs.declared.symbol.Symbol.{Symbol}
use Rattle.gmpl_value.specs.declared.eval_fault.EvalFault.{EvalFault}
use Rattle.gmpl_value.specs.Sets.{Elements as Set}
use Rattle.gmpl_value.specs.Outcome.{Outcome, then_do}
use Rattle.gmpl_operations.specs.declared.value.Value.{Value}
use Rattle.gmpl_operations.specs.Iterations.{joined, is_decided, ended}
use Rattle.gmpl_operations.specs.Patterns.{Pattern, matched}
use Rattle.gmpl_meaning.specs.declared.walk.Element.{Element}
use Rattle.gmpl_meaning.specs.declared.walk.EntryValue.{EntryValue}
use Rattle.gmpl_meaning.specs.declared.walk.Walk.{Walk}
use Rattle.gmpl_meaning.specs.Parts.{Bindings, Meant, MeantEntry, MeantIndexing}
use Rattle.gmpl_meaning.specs.Expressions.{closed, gone_over, iterated}
use Rattle.gmpl_meaning.specs.Walks.{walk, element, with_match, with_matches, entry_value, unless_fault, extended, over_entries, kept_by, holds, filtered, under, walked}
use Rattle.gmpl_expr.specs.OneByOne as one_by_one
use Rattle.gmpl_expr.specs.OneByOne.{SoFar, GoingOn}

-- ---- steps that go over a list

then_same : {A B : Type 0} (f g : A → Outcome B) (o : Outcome A) → ((a : A) → f a ≡ g a) → then_do f o ≡ then_do g o
then_same f g (Err e) same = refl
then_same f g (Ok a) same = same a

-- these elements, and behind them those of a walk, where no fault comes before
abbrev followed_by : List Element → Option EvalFault → Walk → Walk
followed_by xs None w = walk (xs ++ w.elements) w.fault
followed_by xs (Some f) w = walk xs (Some f)

abbrev followed : Walk → Walk → Walk
followed v w = followed_by v.elements v.fault w

-- entries and conditions are both of this form
module _ {A : Type 0} (value : Element → Outcome A) (add : List Element → Element → A → List Element) (behind : (found : List Element) (x : Element) (a : A) → add found x a ≡ found ++ add [] x a) where
  abbrev step : List Element → List Element → Option EvalFault → Walk
  step found [] fault = walk found fault
  step found (x ∷ xs) fault = unless_fault found (value x) (λ a. step (add found x a) xs fault)

  abbrev stepped : Walk → Walk
  stepped w = step [] w.elements w.fault

  -- what is found before stands before
  abbrev FoundBefore : List Element → Option EvalFault → Type 0
  FoundBefore xs fault = (found : List Element) → step found xs fault ≡ followed (walk found None) (step [] xs fault)

  found_before_step : (found : List Element) (x : Element) (xs : List Element) (fault : Option EvalFault) (o : Outcome A) → FoundBefore xs fault → unless_fault found o (λ a. step (add found x a) xs fault) ≡ followed (walk found None) (unless_fault [] o (λ a. step (add [] x a) xs fault))
  found_before_step found x xs fault (Err g) before = ap (λ l. walk l (Some g)) (sym (append-nil found))
  found_before_step found x xs fault (Ok a) before =
      let rest = step [] xs fault in
      before (add found x a)
      ∙ ap (λ l. walk (l ++ rest.elements) rest.fault) (behind found x a)
      ∙ ap (λ l. walk l rest.fault) (append_assoc found (add [] x a) rest.elements)
      ∙ ap (followed (walk found None)) (sym (before (add [] x a)))

  found_before : (xs : List Element) (fault : Option EvalFault) → FoundBefore xs fault
  found_before [] fault found = ap (λ l. walk l fault) (sym (append-nil found))
  found_before (x ∷ xs) fault found = found_before_step found x xs fault (value x) (found_before xs fault)

  -- one list behind another
  split_step : (found : List Element) (x : Element) (xs ys : List Element) (fault : Option EvalFault) (o : Outcome A) → ((f : List Element) → step f (xs ++ ys) fault ≡ followed (step f xs None) (step [] ys fault)) → unless_fault found o (λ a. step (add found x a) (xs ++ ys) fault) ≡ followed (unless_fault found o (λ a. step (add found x a) xs None)) (step [] ys fault)
  split_step found x xs ys fault (Err g) rest = refl
  split_step found x xs ys fault (Ok a) rest = rest (add found x a)

  split : (xs ys : List Element) (fault : Option EvalFault) (found : List Element) → step found (xs ++ ys) fault ≡ followed (step found xs None) (step [] ys fault)
  split [] ys fault found = found_before ys fault found
  split (x ∷ xs) ys fault found = split_step found x xs ys fault (value x) (split xs ys fault)

  -- nothing comes behind a fault
  faulty_step : (found : List Element) (x : Element) (xs : List Element) (g : EvalFault) (w : Walk) (o : Outcome A) → ((f : List Element) → step f xs (Some g) ≡ followed (step f xs (Some g)) w) → unless_fault found o (λ a. step (add found x a) xs (Some g)) ≡ followed (unless_fault found o (λ a. step (add found x a) xs (Some g))) w
  faulty_step found x xs g w (Err h) rest = refl
  faulty_step found x xs g w (Ok a) rest = rest (add found x a)

  faulty : (xs : List Element) (g : EvalFault) (w : Walk) (found : List Element) → step found xs (Some g) ≡ followed (step found xs (Some g)) w
  faulty [] g w found = refl
  faulty (x ∷ xs) g w found = faulty_step found x xs g w (value x) (faulty xs g w)

  distributes_by : (xs : List Element) (fault : Option EvalFault) (w : Walk) → stepped (followed_by xs fault w) ≡ followed (step [] xs fault) (stepped w)
  distributes_by xs None w = split xs w.elements w.fault []
  distributes_by xs (Some g) w = faulty xs g (stepped w) []

  distributes : (v w : Walk) → stepped (followed v w) ≡ followed (stepped v) (stepped w)
  distributes v w = distributes_by v.elements v.fault w

-- ---- entries and the condition

add_matches_step : (found : List Element) (x : Element) (p : Pattern) (t : List Symbol) (ts : Set) (m : Option (List Symbol)) → ((f : List Element) → with_matches f x p ts ≡ f ++ with_matches [] x p ts) → with_matches (with_match found x t m) x p ts ≡ found ++ with_matches (with_match [] x t m) x p ts
add_matches_step found x p t ts None rest = rest found
add_matches_step found x p t ts (Some new) rest =
    let one = element (x.indices ++ new) (x.tuple ++ t) ∷ [] in
    rest (found ++ one) ∙ append_assoc found one (with_matches [] x p ts) ∙ ap (λ l. found ++ l) (sym (rest one))

add_matches : (x : Element) (p : Pattern) (ts : Set) (found : List Element) → with_matches found x p ts ≡ found ++ with_matches [] x p ts
add_matches x p [] found = sym (append-nil found)
add_matches x p (t ∷ ts) found = add_matches_step found x p t ts (matched p t) (add_matches x p ts)

add_kept : (found : List Element) (x : Element) (t : Bool) → kept_by found x t ≡ found ++ kept_by [] x t
add_kept found x true = refl
add_kept found x false = sym (append-nil found)

module _ (entry : MeantEntry) (b : Bindings) where
  abbrev entry_at : Element → Outcome EntryValue
  entry_at x = entry_value entry (b ++ x.indices)

  abbrev add_entry : List Element → Element → EntryValue → List Element
  add_entry found x v = with_matches found x v.pattern v.set

  extended_step : (found : List Element) (x : Element) (xs : List Element) (fault : Option EvalFault) (o : Outcome EntryValue) → ((f : List Element) → extended entry b f xs fault ≡ step entry_at add_entry (λ f y v. add_matches y v.pattern v.set f) f xs fault) → unless_fault found o (λ v. extended entry b (with_matches found x v.pattern v.set) xs fault) ≡ unless_fault found o (λ v. step entry_at add_entry (λ f y v. add_matches y v.pattern v.set f) (add_entry found x v) xs fault)
  extended_step found x xs fault (Err g) rest = refl
  extended_step found x xs fault (Ok v) rest = rest (with_matches found x v.pattern v.set)

  extended_is : (xs : List Element) (fault : Option EvalFault) (found : List Element) → extended entry b found xs fault ≡ step entry_at add_entry (λ f y v. add_matches y v.pattern v.set f) found xs fault
  extended_is [] fault found = refl
  extended_is (x ∷ xs) fault found = extended_step found x xs fault (entry_at x) (extended_is xs fault)

  extended_distributes : (v w : Walk) → extended entry b [] (followed v w).elements (followed v w).fault ≡ followed (extended entry b [] v.elements v.fault) (extended entry b [] w.elements w.fault)
  extended_distributes v w =
      extended_is (followed v w).elements (followed v w).fault []
      ∙ distributes entry_at add_entry (λ f y a. add_matches y a.pattern a.set f) v w
      ∙ sym (λ j. followed (extended_is v.elements v.fault [] j) (extended_is w.elements w.fault [] j))

module _ (condition : Meant) (b : Bindings) where
  abbrev holds_at : Element → Outcome Bool
  holds_at x = holds condition (b ++ x.indices)

  filtered_step : (found : List Element) (x : Element) (xs : List Element) (fault : Option EvalFault) (o : Outcome Bool) → ((f : List Element) → filtered condition b f xs fault ≡ step holds_at kept_by add_kept f xs fault) → unless_fault found o (λ t. filtered condition b (kept_by found x t) xs fault) ≡ unless_fault found o (λ t. step holds_at kept_by add_kept (kept_by found x t) xs fault)
  filtered_step found x xs fault (Err g) rest = refl
  filtered_step found x xs fault (Ok t) rest = rest (kept_by found x t)

  filtered_is : (xs : List Element) (fault : Option EvalFault) (found : List Element) → filtered condition b found xs fault ≡ step holds_at kept_by add_kept found xs fault
  filtered_is [] fault found = refl
  filtered_is (x ∷ xs) fault found = filtered_step found x xs fault (holds_at x) (filtered_is xs fault)

  filtered_distributes : (v w : Walk) → filtered condition b [] (followed v w).elements (followed v w).fault ≡ followed (filtered condition b [] v.elements v.fault) (filtered condition b [] w.elements w.fault)
  filtered_distributes v w =
      filtered_is (followed v w).elements (followed v w).fault []
      ∙ distributes holds_at kept_by add_kept v w
      ∙ sym (λ j. followed (filtered_is v.elements v.fault [] j) (filtered_is w.elements w.fault [] j))

-- ---- what is gone over behind some elements

-- the entries that are left, and then the condition
abbrev rest_of : Option Meant → List MeantEntry → Bindings → Walk → Walk
rest_of condition entries b w = under condition b (over_entries entries b w)

under_distributes : (condition : Option Meant) (b : Bindings) (v w : Walk) → under condition b (followed v w) ≡ followed (under condition b v) (under condition b w)
under_distributes None b v w = refl
under_distributes (Some c) b v w = filtered_distributes c b v w

rest_distributes : (condition : Option Meant) (entries : List MeantEntry) (b : Bindings) (v w : Walk) → rest_of condition entries b (followed v w) ≡ followed (rest_of condition entries b v) (rest_of condition entries b w)
rest_distributes condition [] b v w = under_distributes condition b v w
rest_distributes condition (entry ∷ entries) b v w =
    ap (rest_of condition entries b) (extended_distributes entry b v w)
    ∙ rest_distributes condition entries b (extended entry b [] v.elements v.fault) (extended entry b [] w.elements w.fault)

-- over no element
rest_of_none : (condition : Option Meant) (entries : List MeantEntry) (b : Bindings) (fault : Option EvalFault) → rest_of condition entries b (walk [] fault) ≡ walk [] fault
rest_of_none None [] b fault = refl
rest_of_none (Some c) [] b fault = refl
rest_of_none condition (entry ∷ entries) b fault = rest_of_none condition entries b fault

-- ---- the value so far

not_decided : (iteration : Iteration) → is_decided iteration None ≡ false
not_decided i.Sum = refl
not_decided i.Prod = refl
not_decided i.Min = refl
not_decided i.Max = refl
not_decided i.Setof = refl
not_decided i.Forall = refl
not_decided i.Exists = refl

module _ (iteration : Iteration) (body : Meant) (b : Bindings) where
  -- with the values at these elements, up to where it is decided
  abbrev passed : List Element → Option Value → SoFar
  passed [] total = Ok total
  passed (x ∷ xs) total = if is_decided iteration total then Ok total else then_do (passed xs) (then_do (joined iteration total) (body.value (b ++ x.indices)))

  abbrev behind : Option EvalFault → Option Value → SoFar
  behind None total = Ok total
  behind (Some f) total = if is_decided iteration total then Ok total else Err f

  abbrev along : Walk → Option Value → SoFar
  along w total = then_do (behind w.fault) (passed w.elements total)

  -- where it is decided, nothing changes it
  behind_decided : (fault : Option EvalFault) (total : Option Value) → is_decided iteration total ≡ true → behind fault total ≡ Ok total
  behind_decided None total decided = refl
  behind_decided (Some f) total decided = rw decided refl

  passed_decided : (xs : List Element) (total : Option Value) → is_decided iteration total ≡ true → passed xs total ≡ Ok total
  passed_decided [] total decided = refl
  passed_decided (x ∷ xs) total decided = rw decided refl

  along_decided : (w : Walk) (total : Option Value) → is_decided iteration total ≡ true → along w total ≡ Ok total
  along_decided w total decided = ap (then_do (behind w.fault)) (passed_decided w.elements total decided) ∙ behind_decided w.fault total decided

  -- its end
  ends_none : (total : Option Value) (d : Bool) → (if d then ended iteration total else ended iteration total) ≡ ended iteration total
  ends_none total true = refl
  ends_none total false = refl

  ends_some : (f : EvalFault) (total : Option Value) (d : Bool) → (if d then ended iteration total else Err f) ≡ then_do (ended iteration) (if d then Ok total else Err f)
  ends_some f total true = refl
  ends_some f total false = refl

  ends_behind : (fault : Option EvalFault) (total : Option Value) → closed iteration total fault ≡ then_do (ended iteration) (behind fault total)
  ends_behind None total = ends_none total (is_decided iteration total)
  ends_behind (Some f) total = ends_some f total (is_decided iteration total)

  ends_more : (fault : Option EvalFault) (xs : List Element) (total : Option Value) (d : Bool) (o : SoFar) → is_decided iteration total ≡ d → ((t : Option Value) → gone_over iteration body b t xs fault ≡ then_do (ended iteration) (then_do (behind fault) (passed xs t)))
      → (if d then ended iteration total else then_do (λ t. gone_over iteration body b t xs fault) o) ≡ then_do (ended iteration) (then_do (behind fault) (if d then Ok total else then_do (passed xs) o))
  ends_more fault xs total true o is rest = ap (then_do (ended iteration)) (sym (behind_decided fault total is))
  ends_more fault xs total false (Err g) is rest = refl
  ends_more fault xs total false (Ok t) is rest = rest t

  ends_so : (fault : Option EvalFault) (xs : List Element) (total : Option Value) → gone_over iteration body b total xs fault ≡ then_do (ended iteration) (then_do (behind fault) (passed xs total))
  ends_so fault [] total = ends_behind fault total
  ends_so fault (x ∷ xs) total = ends_more fault xs total (is_decided iteration total) (then_do (joined iteration total) (body.value (b ++ x.indices))) refl (ends_so fault xs)

  -- elements behind elements
  passed_more : (xs ys : List Element) (total : Option Value) (d : Bool) (o : SoFar) → is_decided iteration total ≡ d → ((t : Option Value) → passed (xs ++ ys) t ≡ then_do (passed ys) (passed xs t))
      → (if d then Ok total else then_do (passed (xs ++ ys)) o) ≡ then_do (passed ys) (if d then Ok total else then_do (passed xs) o)
  passed_more xs ys total true o is rest = sym (passed_decided ys total is)
  passed_more xs ys total false (Err g) is rest = refl
  passed_more xs ys total false (Ok t) is rest = rest t

  passed_all : (xs ys : List Element) (total : Option Value) → passed (xs ++ ys) total ≡ then_do (passed ys) (passed xs total)
  passed_all [] ys total = refl
  passed_all (x ∷ xs) ys total = passed_more xs ys total (is_decided iteration total) (then_do (joined iteration total) (body.value (b ++ x.indices))) refl (passed_all xs ys)

  along_none : (w : Walk) (o : SoFar) → then_do (behind w.fault) (then_do (passed w.elements) o) ≡ then_do (along w) (then_do (behind None) o)
  along_none w (Err g) = refl
  along_none w (Ok t) = refl

  along_fault_by : (g : EvalFault) (w : Walk) (total : Option Value) (d : Bool) → is_decided iteration total ≡ d → (if d then Ok total else Err g) ≡ then_do (along w) (if d then Ok total else Err g)
  along_fault_by g w total true is = sym (along_decided w total is)
  along_fault_by g w total false is = refl

  along_fault : (g : EvalFault) (w : Walk) (o : SoFar) → then_do (behind (Some g)) o ≡ then_do (along w) (then_do (behind (Some g)) o)
  along_fault g w (Err h) = refl
  along_fault g w (Ok t) = along_fault_by g w t (is_decided iteration t) refl

  along_by : (xs : List Element) (fault : Option EvalFault) (w : Walk) (total : Option Value) → along (followed_by xs fault w) total ≡ then_do (along w) (along (walk xs fault) total)
  along_by xs None w total = ap (then_do (behind w.fault)) (passed_all xs w.elements total) ∙ along_none w (passed xs total)
  along_by xs (Some g) w total = along_fault g w (passed xs total)

  along_followed : (v w : Walk) (total : Option Value) → along (followed v w) total ≡ then_do (along w) (along v total)
  along_followed v w total = along_by v.elements v.fault w total

-- ---- one by one

module _ (iteration : Iteration) (condition : Option Meant) (body : Meant) (b : Bindings) where
  abbrev rest_along : List MeantEntry → Walk → Option Value → SoFar
  rest_along entries w total = along iteration body b (rest_of condition entries b w) total

  -- the meaning of going on at an element
  abbrev GoesOn : List MeantEntry → Element → Type 0
  GoesOn entries x = (total : Option Value) → is_decided iteration total ≡ false → one_by_one.over_entries iteration condition body entries (b ++ x.indices) total ≡ rest_along entries (walk (x ∷ []) None) total

  body_so : (o : SoFar) → o ≡ then_do (λ t. Ok t) (then_do (λ t. Ok t) o)
  body_so (Err g) = refl
  body_so (Ok t) = refl

  body_at : (x : Element) (total : Option Value) → is_decided iteration total ≡ false → one_by_one.with_body iteration condition body (b ++ x.indices) total ≡ along iteration body b (walk (x ∷ []) None) total
  body_at x total open_yet = rw open_yet (body_so (then_do (joined iteration total) (body.value (b ++ x.indices))))

  -- behind the last entry, where the condition holds
  with_kept : (x : Element) (total : Option Value) (t : Bool) → is_decided iteration total ≡ false → (if t then one_by_one.with_body iteration condition body (b ++ x.indices) total else Ok total) ≡ along iteration body b (walk (kept_by [] x t) None) total
  with_kept x total true open_yet = body_at x total open_yet
  with_kept x total false open_yet = refl

  where_it_holds : (c : Meant) (x : Element) (total : Option Value) (o : Outcome Bool) → is_decided iteration total ≡ false
      → then_do (λ t. if t then one_by_one.with_body iteration condition body (b ++ x.indices) total else Ok total) o ≡ along iteration body b (unless_fault [] o (λ t. filtered c b (kept_by [] x t) [] None)) total
  where_it_holds c x total (Err g) open_yet = rw open_yet refl
  where_it_holds c x total (Ok t) open_yet = with_kept x total t open_yet

  at_last : (own : Option Meant) (x : Element) (total : Option Value) → is_decided iteration total ≡ false
      → one_by_one.if_holds iteration condition body (one_by_one.with_body iteration condition body) own (b ++ x.indices) total ≡ along iteration body b (under own b (walk (x ∷ []) None)) total
  at_last None x total open_yet = body_at x total open_yet
  at_last (Some c) x total open_yet = where_it_holds c x total (holds c (b ++ x.indices)) open_yet

  -- over the tuples of an entry's set
  module _ (entries : List MeantEntry) (goes_on : (y : Element) → GoesOn entries y) (x : Element) (p : Pattern) where
    abbrev go : GoingOn
    go = one_by_one.over_entries iteration condition body entries

    abbrev over : Set → Option Value → SoFar
    over ts total = one_by_one.over_tuples iteration condition body go (b ++ x.indices) p ts total

    abbrev found_by : Set → Walk
    found_by ts = walk (with_matches [] x p ts) None

    abbrev one_by : List Symbol → Option (List Symbol) → Walk
    one_by t m = walk (with_match [] x t m) None

    matched_at : (t : List Symbol) (m : Option (List Symbol)) (total : Option Value) → is_decided iteration total ≡ false → one_by_one.at_inner iteration condition body go (one_by_one.inner (b ++ x.indices) m) total ≡ rest_along entries (one_by t m) total
    matched_at t None total open_yet = sym (ap (λ w. along iteration body b w total) (rest_of_none condition entries b None))
    matched_at t (Some new) total open_yet =
        ap (λ l. go l total) (append_assoc b x.indices new) ∙ goes_on (element (x.indices ++ new) (x.tuple ++ t)) total open_yet

    -- a tuple, and then the others
    in_turn : (t : List Symbol) (ts : Set) (total : Option Value) → rest_along entries (found_by (t ∷ ts)) total ≡ then_do (rest_along entries (found_by ts)) (rest_along entries (one_by t (matched p t)) total)
    in_turn t ts total =
        ap (λ l. rest_along entries (walk l None) total) (add_matches x p ts (with_match [] x t (matched p t)))
        ∙ ap (λ w. along iteration body b w total) (rest_distributes condition entries b (one_by t (matched p t)) (found_by ts))
        ∙ along_followed iteration body b (rest_of condition entries b (one_by t (matched p t))) (rest_of condition entries b (found_by ts)) total

    over_one : (t : List Symbol) (ts : Set) (total : Option Value) (d : Bool) → is_decided iteration total ≡ d → ((u : Option Value) → over ts u ≡ rest_along entries (found_by ts) u)
        → (if d then Ok total else then_do (over ts) (one_by_one.at_inner iteration condition body go (one_by_one.inner (b ++ x.indices) (matched p t)) total)) ≡ rest_along entries (found_by (t ∷ ts)) total
    over_one t ts total true is rest = sym (along_decided iteration body b (rest_of condition entries b (found_by (t ∷ ts))) total is)
    over_one t ts total false is rest =
        ap (then_do (over ts)) (matched_at t (matched p t) total is)
        ∙ then_same (over ts) (rest_along entries (found_by ts)) (rest_along entries (one_by t (matched p t)) total) rest
        ∙ sym (in_turn t ts total)

    over_all : (ts : Set) (total : Option Value) → over ts total ≡ rest_along entries (found_by ts) total
    over_all [] total = sym (ap (λ w. along iteration body b w total) (rest_of_none condition entries b None))
    over_all (t ∷ ts) total = over_one t ts total (is_decided iteration total) refl (over_all ts)

  at_entry : (entries : List MeantEntry) (entry : MeantEntry) (x : Element) (total : Option Value) (o : Outcome EntryValue) → is_decided iteration total ≡ false → ((y : Element) → GoesOn entries y)
      → then_do (λ v. one_by_one.over_tuples iteration condition body (one_by_one.over_entries iteration condition body entries) (b ++ x.indices) v.pattern v.set total) o ≡ rest_along entries (unless_fault [] o (λ v. extended entry b (with_matches [] x v.pattern v.set) [] None)) total
  at_entry entries entry x total (Err g) open_yet goes_on = sym (ap (λ w. along iteration body b w total) (rest_of_none condition entries b (Some g)) ∙ rw open_yet refl)
  at_entry entries entry x total (Ok v) open_yet goes_on = over_all entries goes_on x v.pattern v.set total

  goes_on : (entries : List MeantEntry) (x : Element) → GoesOn entries x
  goes_on [] x total open_yet = at_last condition x total open_yet
  goes_on (entry ∷ entries) x total open_yet = at_entry entries entry x total (entry_value entry (b ++ x.indices)) open_yet (goes_on entries)

-- one by one, and over the list
pub is_iterated : (iteration : Iteration) (indexing : MeantIndexing) (body : Meant) (b : Bindings) → then_do (ended iteration) (one_by_one.over_entries iteration indexing.condition body indexing.entries b None) ≡ iterated iteration body b (walked indexing b)
is_iterated iteration indexing body b =
    ap (λ l. then_do (ended iteration) (one_by_one.over_entries iteration indexing.condition body indexing.entries l None)) (sym (append-nil b))
    ∙ ap (then_do (ended iteration)) (goes_on iteration indexing.condition body b indexing.entries (element [] []) None (not_decided iteration))
    ∙ sym (ends_so iteration body b (walked indexing b).fault (walked indexing b).elements None)
