-- Where an answer's fault, if it has one, is on a pair of site numbers.
use Rattle.std.proofs.Common.{◌≡◌, ◌∙◌, List, [], ◌∷◌, ◌++◌, length, map, take, slice_get, Bool, true, false, cond, ◌⊎◌, inl, inr, Some, Result, Ok, Err, IfOk, IfErr, refl, sym, ap, subst}
use mathlib.Core.Path.{ap₂}
use Rattle.rational.specs.Rational.{Rational, zero_ℚ, ◌+ℚ◌, ◌*ℚ◌}
use Rattle.rational.proofs.Laws as Q
use Rattle.fraction.specs.declared.frac.NoFit.{NoFit}
use Rattle.fraction.specs.declared.frac.Op.TheVariants.{Add, Mul}
use Rattle.fraction.specs.Fits.{fits, sum_fits}
use Rattle.fraction.specs.Answers.{add_answer, mul_answer}
use Rattle.instance.specs.Sums.{and_then}
use Rattle.basis.specs.Numbers.{Numbers, IsSiteNumber, base_number, sum_of_products, IsSitePair, left_base, next_product, sum_onto}
use Rattle.cert_check.specs.Sums.{and_also, with_product, Product, with_products}
use Rattle.cert_check.proofs.Laws.{product_ok}
use Rattle.search_node.specs.Faults.{IsSiteFault}

-- its fault, if it has one, is an operation on a pair of site numbers that does not fit
abbrev pub Told : Numbers → {A : Type 0} → Result A NoFit → Type 0
Told ns r = IfErr r (IsSiteFault ns)

pub then_told : (ns : Numbers) {A B : Type 0} → (r : Result A NoFit) (f : A → Result B NoFit) (P : A → Type 0) → Told ns r → IfOk r P → ((a : A) → P a → Told ns (f a)) → Told ns (and_then r f)
then_told ns (Ok a) f P h q k = k a q
then_told ns (Err e) f P h q k = h

-- where nothing has to be known of what comes before
pub next_told : (ns : Numbers) {A B : Type 0} → (r : Result A NoFit) (f : A → Result B NoFit) → Told ns r → ((a : A) → Told ns (f a)) → Told ns (and_then r f)
next_told ns (Ok a) f h k = k a
next_told ns (Err e) f h k = h

pub also_told : (ns : Numbers) (r rest : Result Bool NoFit) → Told ns r → (r ≡ Ok true → Told ns rest) → Told ns (and_also r rest)
also_told ns (Ok true) rest h k = k refl
also_told ns (Ok false) rest h k = tt
also_told ns (Err e) rest h k = h

pub cond_told : (ns : Numbers) (t : Bool) (r s : Result Bool NoFit) → Told ns r → Told ns s → Told ns (cond t r s)
cond_told ns true r s h k = h
cond_told ns false r s h k = k

pub add_told : (ns : Numbers) (a b : Rational) → IsSitePair ns a b → Told ns (add_answer a b)
add_told ns a b h = go (sum_fits a b) refl
  where
    go : (t : Bool) → sum_fits a b ≡ t → IfErr (cond t (Ok (a +ℚ b)) (Err (record { a = a; op = Add; b = b }))) (IsSiteFault ns)
    go true e = tt
    go false e = record { numbers = h; not_fit = e }

pub mul_told : (ns : Numbers) (a b : Rational) → ns.base a → ns.base b → Told ns (mul_answer a b)
mul_told ns a b h k = go (fits (a *ℚ b)) refl
  where
    go : (t : Bool) → fits (a *ℚ b) ≡ t → IfErr (cond t (Ok (a *ℚ b)) (Err (record { a = a; op = Mul; b = b }))) (IsSiteFault ns)
    go true e = tt
    go false e = record { numbers = left_base h (base_number k); not_fit = e }

fits_is : (t : Bool) (v : Rational) (e : NoFit) → IfOk (cond t (Ok v) (Err e)) (λ w. w ≡ v)
fits_is true v e = refl
fits_is false v e = tt

pub product_told : (ns : Numbers) (total a b : Rational) → ns.base a → ns.base b → IsSitePair ns total (a *ℚ b) → Told ns (with_product total a b)
product_told ns total a b h k pair =
    then_told ns (mul_answer a b) (λ p. add_answer total p) (λ p. p ≡ a *ℚ b) (mul_told ns a b h k) (fits_is (fits (a *ℚ b)) (a *ℚ b) _)
    (λ p e. let P : Rational → Type 0 = IsSitePair ns total in add_told ns total p (subst P (sym e) pair))

-- ---- along a list of products

take_done : (done rest : List Rational) → take (length done) (done ++ rest) ≡ done
take_done [] rest = refl
take_done (a ∷ done) rest = ap (λ (t : List Rational). a ∷ t) (take_done done rest)

get_next : (done : List Rational) (a : Rational) (rest : List Rational) → slice_get (done ++ (a ∷ rest)) (length done) ≡ Some a
get_next [] a rest = refl
get_next (b ∷ done) a rest = get_next done a rest

pub sum_one_more : (s : Rational) (done : List Rational) (a : Rational) → sum_onto s (done ++ (a ∷ [])) ≡ sum_onto s done +ℚ a
sum_one_more s [] a = refl
sum_one_more s (b ∷ done) a = sum_one_more (s +ℚ b) done a

pub one_more : (done : List Rational) (a : Rational) (rest : List Rational) → (done ++ (a ∷ [])) ++ rest ≡ done ++ (a ∷ rest)
one_more [] a rest = refl
one_more (b ∷ done) a rest = ap (λ (t : List Rational). b ∷ t) (one_more done a rest)

pub next_pair : (ns : Numbers) (numbers done : List Rational) (a : Rational) (rest : List Rational) → ns.products numbers → numbers ≡ done ++ (a ∷ rest) → IsSitePair ns (sum_onto zero_ℚ done) a
next_pair ns numbers done a rest h e =
    next_product numbers (length done) h
    (sym (ap (λ (xs : List Rational). sum_onto zero_ℚ (take (length done) xs)) e ∙ ap (sum_onto zero_ℚ) (take_done done (a ∷ rest))))
    (ap (λ (xs : List Rational). slice_get xs (length done)) e ∙ get_next done a rest)

-- the sum of the whole list is a site number
take_all : (numbers : List Rational) → take (length numbers) numbers ≡ numbers
take_all [] = refl
take_all (a ∷ numbers) = ap (λ (t : List Rational). a ∷ t) (take_all numbers)

pub whole_sum : (ns : Numbers) (numbers : List Rational) → ns.products numbers → IsSiteNumber ns (sum_onto zero_ℚ numbers)
whole_sum ns numbers h = sum_of_products numbers (length numbers) h (sym (ap (sum_onto zero_ℚ) (take_all numbers)))

-- the numbers are the products in order, but for some that are 0 and left out
abbrev pub Thinned : List Product → List Rational → Type 0
Thinned [] [] = Unit {0}
Thinned (p ∷ ps) [] = ⊥
Thinned [] (a ∷ rest) = (a ≡ zero_ℚ) × Thinned [] rest
Thinned (p ∷ ps) (a ∷ rest) = ((p.weight *ℚ p.factor ≡ a) × Thinned ps rest) ⊎ ((a ≡ zero_ℚ) × Thinned (p ∷ ps) rest)

-- the factors of the products are base numbers
abbrev pub AreBase : Numbers → List Product → Type 0
AreBase ns [] = Unit {0}
AreBase ns (p ∷ ps) = (ns.base p.weight × ns.base p.factor) × AreBase ns ps

pub products_told : (ns : Numbers) (numbers : List Rational) → ns.products numbers → (rest done : List Rational) → numbers ≡ done ++ rest → (ps : List Product) (total : Rational) → total ≡ sum_onto zero_ℚ done → Thinned ps rest → AreBase ns ps → Told ns (with_products total ps)
products_told ns numbers h [] done e [] total is thin base = tt
products_told ns numbers h [] done e (p ∷ ps) total is thin base = absurd thin
products_told ns numbers h (a ∷ rest) done e [] total is thin base = tt
products_told ns numbers h (a ∷ rest) done e (p ∷ ps) total is (inl thin) base =
    let P : Rational → Type 0 = λ t. IsSitePair ns t (p.weight *ℚ p.factor) in
    let R : Rational → Type 0 = λ b. IsSitePair ns (sum_onto zero_ℚ done) b in
    then_told ns (with_product total p.weight p.factor) (λ t. with_products t ps) (λ t. t ≡ total +ℚ p.weight *ℚ p.factor)
    (product_told ns total p.weight p.factor base.0.0 base.0.1 (subst P (sym is) (subst R (sym thin.0) (next_pair ns numbers done a rest h e))))
    (product_ok total p.weight p.factor)
    (λ t et. products_told ns numbers h rest (done ++ (a ∷ [])) (e ∙ sym (one_more done a rest)) ps t (et ∙ ap₂ ◌+ℚ◌ is thin.0 ∙ sym (sum_one_more zero_ℚ done a)) thin.1 base.1)
products_told ns numbers h (a ∷ rest) done e (p ∷ ps) total is (inr thin) base =
    products_told ns numbers h rest (done ++ (a ∷ [])) (e ∙ sym (one_more done a rest)) (p ∷ ps) total
    (is ∙ sym (Q.add-zero (sum_onto zero_ℚ done)) ∙ ap (λ (b : Rational). sum_onto zero_ℚ done +ℚ b) (sym thin.0) ∙ sym (sum_one_more zero_ℚ done a)) thin.1 base

-- from the first product on
pub all_told : (ns : Numbers) (numbers : List Rational) → ns.products numbers → (ps : List Product) → Thinned ps numbers → AreBase ns ps → Told ns (with_products zero_ℚ ps)
all_told ns numbers h ps thin base = products_told ns numbers h numbers [] refl ps zero_ℚ refl thin base

-- ---- lists one after the other

skip_one : (a : Rational) (ps : List Product) (ns : List Rational) → a ≡ zero_ℚ → Thinned ps ns → Thinned ps (a ∷ ns)
skip_one a [] ns e h = (e, h)
skip_one a (p ∷ ps) ns e h = inr (e, h)

pub thinned-append : (ns ms : List Rational) (ps qs : List Product) → Thinned ps ns → Thinned qs ms → Thinned (ps ++ qs) (ns ++ ms)
thinned-append [] ms [] qs h k = k
thinned-append [] ms (p ∷ ps) qs h k = absurd h
thinned-append (a ∷ ns) ms [] qs h k = skip_one a qs (ns ++ ms) h.0 (thinned-append ns ms [] qs h.1 k)
thinned-append (a ∷ ns) ms (p ∷ ps) qs (inl h) k = inl (h.0, thinned-append ns ms ps qs h.1 k)
thinned-append (a ∷ ns) ms (p ∷ ps) qs (inr h) k = inr (h.0, thinned-append ns ms (p ∷ ps) qs h.1 k)

pub base-append : (ns : Numbers) (ps qs : List Product) → AreBase ns ps → AreBase ns qs → AreBase ns (ps ++ qs)
base-append ns [] qs h k = k
base-append ns (p ∷ ps) qs h k = (h.0, base-append ns ps qs h.1 k)

-- ---- what a sum of products is

pub products_sum : (total : Rational) (ps : List Product) → IfOk (with_products total ps) (λ v. v ≡ sum_onto total (map (λ (p : Product). p.weight *ℚ p.factor) ps))
products_sum total [] = refl
products_sum total (p ∷ ps) = go (with_product total p.weight p.factor) (product_ok total p.weight p.factor) (λ t. products_sum t ps)
  where
    go : (r : Result Rational NoFit) → IfOk r (λ v. v ≡ total +ℚ p.weight *ℚ p.factor)
        → ((t : Rational) → IfOk (with_products t ps) (λ v. v ≡ sum_onto t (map (λ (p : Product). p.weight *ℚ p.factor) ps)))
        → IfOk (and_then r (λ t. with_products t ps)) (λ v. v ≡ sum_onto (total +ℚ p.weight *ℚ p.factor) (map (λ (p : Product). p.weight *ℚ p.factor) ps))
    go (Ok t) h k = let P : Rational → Type 0 = λ u. IfOk (with_products t ps) (λ v. v ≡ sum_onto u (map (λ (p : Product). p.weight *ℚ p.factor) ps)) in subst P h (k t)
    go (Err e) h k = tt
