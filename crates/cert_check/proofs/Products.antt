-- Sums of products, one list after another.
use Rattle.std.proofs.Common.{◌≡◌, ◌∙◌, ℕ, suc, ◌+◌, ◌<◌, length, get_or, drop, drop-cons, add-one, Bool, false, cond, List, [], ◌∷◌, ◌++◌, Result, Ok, Err, refl, sym, ap}
use Rattle.rational.specs.Rational.{Rational, zero_ℚ}
use Rattle.fraction.specs.declared.frac.NoFit.{NoFit}
use Rattle.instance.specs.Sums.{and_then}
use Rattle.milp.specs.Form.{Entry}
use Rattle.milp.specs.Problem.{Column}
use Rattle.rational.specs.Compare.{is_same}
use Rattle.verdicts.specs.Certificate.{Item}
use Rattle.cert_check.specs.Sums.{Product, products, with_product, with_products, item_products, are_forms}

pub next : {X : Type 0} (xs : List X) (i : ℕ) (x : X) → i < length xs → x ≡ get_or xs i x → drop i xs ≡ x ∷ drop (i + 1) xs
next xs i x h e = rw (add-one i) (drop-cons xs i x h ∙ ap (λ y. y ∷ drop (suc i) xs) (sym e))

pub products_then : (total : Rational) (ps qs : List Product) → with_products total (ps ++ qs) ≡ and_then (with_products total ps) (λ t. with_products t qs)
products_then total [] qs = refl
products_then total (p ∷ ps) qs = go (with_product total p.weight p.factor) (λ t. products_then t ps qs)
  where
    go : (r : Result Rational NoFit) → ((t : Rational) → with_products t (ps ++ qs) ≡ and_then (with_products t ps) (λ t. with_products t qs)) → and_then r (λ t. with_products t (ps ++ qs)) ≡ and_then (and_then r (λ t. with_products t ps)) (λ t. with_products t qs)
    go (Ok t) h = h t
    go (Err e) h = refl

item_more : (f : ℕ → List Entry) (items : List Item) (i : ℕ) (it : Item) (j : ℕ) (total : Rational) (r all : Result Rational NoFit) → i < length items → it ≡ get_or items i it → with_products total (item_products f (drop i items) j) ≡ all → r ≡ with_products total (products it.weight (f it.index) j) → and_then r (λ t. with_products t (item_products f (drop (i + 1) items) j)) ≡ all
item_more f items i it j total r all h is inv e =
    let start : with_products total (products it.weight (f it.index) j ++ item_products f (drop (i + 1) items) j) ≡ all = rw (next items i it h is) at inv in
    ap (λ r. and_then r (λ t. with_products t (item_products f (drop (i + 1) items) j))) e ∙ sym (products_then total (products it.weight (f it.index) j) (item_products f (drop (i + 1) items) j)) ∙ start

pub item_ok : (f : ℕ → List Entry) (items : List Item) (i : ℕ) (it : Item) (j : ℕ) (total t : Rational) (all : Result Rational NoFit) → i < length items → it ≡ get_or items i it → with_products total (item_products f (drop i items) j) ≡ all → Ok t ≡ with_products total (products it.weight (f it.index) j) → with_products t (item_products f (drop (i + 1) items) j) ≡ all
item_ok f items i it j total t all h is inv e = item_more f items i it j total (Ok t) all h is inv e

pub item_fault : (f : ℕ → List Entry) (items : List Item) (i : ℕ) (it : Item) (j : ℕ) (total : Rational) (d : NoFit) (all : Result Rational NoFit) → i < length items → it ≡ get_or items i it → with_products total (item_products f (drop i items) j) ≡ all → Err d ≡ with_products total (products it.weight (f it.index) j) → Err d ≡ all
item_fault f items i it j total d all h is inv e = item_more f items i it j total (Err d) all h is inv e

pub forms_differ : (f : ℕ → List Product) (wanted : ℕ → Rational) (cs : List Column) (j : ℕ) (c : Column) (v : Rational) (all : Result Bool NoFit) → j < length cs → c ≡ get_or cs j c → are_forms f wanted j (drop j cs) ≡ all → Ok v ≡ with_products zero_ℚ (f j) → is_same v (wanted j) ≡ false → Ok false ≡ all
forms_differ f wanted cs j c v all h is inv e test =
    let start : and_then (with_products zero_ℚ (f j)) (λ v. cond (is_same v (wanted j)) (are_forms f wanted (j + 1) (drop (j + 1) cs)) (Ok false)) ≡ all = rw (next cs j c h is) at inv in
    let here : and_then (Ok v) (λ v. cond (is_same v (wanted j)) (are_forms f wanted (j + 1) (drop (j + 1) cs)) (Ok false)) ≡ all = ap (λ r. and_then r (λ v. cond (is_same v (wanted j)) (are_forms f wanted (j + 1) (drop (j + 1) cs)) (Ok false))) e ∙ start in
    rw test at here
