-- Tuples that are put to a set in turn.
use Rattle.std.proofs.Common.{◌≡◌, ◌++◌, ◌∷◌, [], List, Result, Ok, Err, refl, ap, sym, subst, ◌∙◌, ℕ, ◌+◌, ◌<◌, length, drop, get_or}
use Rattle.std.proofs.lemmas.List.{at_drop_more}
use Rattle.std.specs.List.{flat_map}
use Rattle.std.specs.Result.{IsErrAnd}
use Rattle.gmpl_value.specs.declared.symbol.Symbol.{Symbol}
use Rattle.gmpl_value.specs.declared.fault.SetFault.{SetFault}
use Rattle.gmpl_value.specs.declared.fault.SetFault.TheVariants.{TooMany, NoFit, NoMemory}
use Rattle.gmpl_value.specs.Follows.{then_do, Faults, GivesAs}
use Rattle.gmpl_value.specs.Sets.{Elements, with_element, with_all, joined_with}

-- those of a list and then those of another
pub with_all_append : (xs : Elements) (ts us : List (List Symbol)) → with_all xs (ts ++ us) ≡ then_do (λ more. with_all more us) (with_all xs ts)
with_all_append xs [] us = refl
with_all_append xs (t ∷ ts) us = by (with_element xs t) (λ more. with_all_append more ts us)
  where
    by : (r : Result Elements SetFault) → ((more : Elements) → with_all more (ts ++ us) ≡ then_do (λ more. with_all more us) (with_all more ts)) → then_do (λ more. with_all more (ts ++ us)) r ≡ then_do (λ more. with_all more us) (then_do (λ more. with_all more ts) r)
    by (Err f) rest = refl
    by (Ok more) rest = rest more

-- a fault ends what follows
pub faults_then : {A B : Type 0} (f : SetFault) (go : A → Result B SetFault) (answer : Result A SetFault) → Faults f answer → Faults f (then_do go answer)
faults_then TooMany go answer is = ap (then_do go) is
faults_then (NoFit n) go answer is = ap (then_do go) is
faults_then NoMemory go answer is = tt

-- a fault that a call hands on
pub handed_on : {A B : Type 0} (view : A → B) (result : Result A SetFault) (f : SetFault) (answer : Result B SetFault) → IsErrAnd result (λ d. d ≡ f) → Faults f answer → GivesAs view result answer
handed_on view (Ok a) f answer never h = absurd never
handed_on view (Err d) f answer is h = subst (λ d. Faults d answer) (sym is) h

-- one more element of the first set in a cross
module _ (items first second found : Elements) (i : ℕ) (t : List Symbol) where
  next_joined : items ≡ first → i < length items → t ≡ get_or items i t → with_all found (flat_map (joined_with second) (drop i first)) ≡ then_do (λ more. with_all more (flat_map (joined_with second) (drop (i + 1) first))) (with_all found (joined_with second t))
  next_joined same below item =
      let below_first : i < length first = subst (λ l. i < length l) same below in
      let item_first : t ≡ get_or first i t = subst (λ l. t ≡ get_or l i t) same item in
      at_drop_more (λ rest. with_all found (flat_map (joined_with second) rest)) first i t below_first
      ∙ ap (λ u. with_all found (flat_map (joined_with second) (u ∷ drop (i + 1) first))) (sym item_first)
      ∙ with_all_append found (joined_with second t) (flat_map (joined_with second) (drop (i + 1) first))

  pub joined_on : (new : Elements) → items ≡ first → i < length items → t ≡ get_or items i t → with_all found (joined_with second t) ≡ Ok new → with_all new (flat_map (joined_with second) (drop (i + 1) first)) ≡ with_all found (flat_map (joined_with second) (drop i first))
  joined_on new same below item is = sym (next_joined same below item ∙ ap (then_do (λ more. with_all more (flat_map (joined_with second) (drop (i + 1) first)))) is)

  pub joined_fails : (f : SetFault) → items ≡ first → i < length items → t ≡ get_or items i t → Faults f (with_all found (joined_with second t)) → Faults f (with_all found (flat_map (joined_with second) (drop i first)))
  joined_fails f same below item fails = subst (Faults f) (sym (next_joined same below item)) (faults_then f _ (with_all found (joined_with second t)) fails)
