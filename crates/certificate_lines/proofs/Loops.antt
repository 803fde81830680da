-- The loops over the fields of a line.
use Rattle.std.proofs.Common.{◌≡◌, ◌∙◌, ℕ, zero, suc, ◌+◌, ◌-◌, ◌≤◌, ◌<◌, List, [], ◌∷◌, ◌++◌, length, get_or, drop, drop-cons, add-one, map, true, false, Result, Ok, Err, refl, sym, ap, arith}
use Rattle.std.proofs.lemmas.List.{append-nil, drop_all}
use Rattle.std.specs.Borrow.{Bor}
use Rattle.rational.specs.Rational.{Rational}
use Rattle.certificate_lines.specs.declared.fault.FaultKind.{FaultKind}
use Rattle.certificate_lines.specs.declared.fault.FaultKind.TheVariants.{BadLine}
use Rattle.certificate_lines.specs.Fields.{number_of, numbers_of, entry_of, form_of, item_of, is_of, items_of}
use Rattle.certificate.specs.Written.{rank_of}
use Rattle.milp.specs.Form.{Entry}
use Rattle.verdicts.specs.Certificate.{Item}
use Rattle.certificate_lines.proofs.Fronts.{with_front, with_front-cons, with_front_of, with_front_of-cons}

abbrev pub texts : List (Bor (List ℕ)) → List (List ℕ)
texts fields = map (λ f. f.now) fields

pub texts_more : (fields : List (Bor (List ℕ))) (i : ℕ) (d : Bor (List ℕ)) → i < length fields → texts (drop i fields) ≡ (get_or fields i d).now ∷ texts (drop (i + 1) fields)
texts_more fields i d lt = let split : drop i fields ≡ get_or fields i d ∷ drop (i + 1) fields = rw (add-one, drop-cons fields i d) refl in ap texts split

pub texts_none : (fields : List (Bor (List ℕ))) (i : ℕ) → length fields ≤ i → texts (drop i fields) ≡ []
texts_none fields i le = ap texts (drop_all i fields le)

pub drop-map : (i : ℕ) (fields : List (Bor (List ℕ))) → drop i (texts fields) ≡ texts (drop i fields)
drop-map zero fields = refl
drop-map (suc i) [] = refl
drop-map (suc i) (f ∷ fs) = drop-map i fs

length-texts : (fields : List (Bor (List ℕ))) → length (texts fields) ≡ length fields
length-texts [] = refl
length-texts (f ∷ fs) = ap suc (length-texts fs)

-- ---- numbers

pub numbers_more : (fields : List (Bor (List ℕ))) (i : ℕ) (d : Bor (List ℕ)) (count : ℕ) (front : List Rational) (v : Rational) (total : Result (List Rational) FaultKind) → i < length fields → i < count → number_of (get_or fields i d).now ≡ Ok v
    → with_front front (numbers_of (count - i) (texts (drop i fields))) ≡ total → with_front (front ++ v ∷ []) (numbers_of (count - (i + 1)) (texts (drop (i + 1) fields))) ≡ total
unfolding numbers_of
numbers_more fields i d count front v total lt room read so_far =
    let n : count - i ≡ suc (count - (i + 1)) = omega arith in
    let one : with_front front (numbers_of (count - i) (texts (drop i fields))) ≡ with_front (front ++ v ∷ []) (numbers_of (count - (i + 1)) (texts (drop (i + 1) fields))) = rw (n, texts_more fields i d lt, read) (with_front-cons front v (numbers_of (count - (i + 1)) (texts (drop (i + 1) fields)))) in
    sym one ∙ so_far

pub numbers_fault : (fields : List (Bor (List ℕ))) (i : ℕ) (d : Bor (List ℕ)) (count : ℕ) (front : List Rational) (kind : FaultKind) (total : Result (List Rational) FaultKind) → i < length fields → i < count → number_of (get_or fields i d).now ≡ Err kind
    → with_front front (numbers_of (count - i) (texts (drop i fields))) ≡ total → total ≡ Err kind
unfolding numbers_of
numbers_fault fields i d count front kind total lt room read so_far =
    let n : count - i ≡ suc (count - (i + 1)) = omega arith in
    let one : with_front front (numbers_of (count - i) (texts (drop i fields))) ≡ Err kind = rw (n, texts_more fields i d lt, read) refl in
    sym so_far ∙ one

pub numbers_surplus : (fields : List (Bor (List ℕ))) (i : ℕ) (d : Bor (List ℕ)) (count : ℕ) (front : List Rational) (total : Result (List Rational) FaultKind) → i < length fields → count ≤ i
    → with_front front (numbers_of (count - i) (texts (drop i fields))) ≡ total → total ≡ Err BadLine
unfolding numbers_of
numbers_surplus fields i d count front total lt room so_far =
    let n : count - i ≡ 0 = omega arith in
    let one : with_front front (numbers_of (count - i) (texts (drop i fields))) ≡ Err BadLine = rw (n, texts_more fields i d lt) refl in
    sym so_far ∙ one

pub numbers_missing : (fields : List (Bor (List ℕ))) (i count : ℕ) (front : List Rational) (total : Result (List Rational) FaultKind) → length fields ≤ i → i < count
    → with_front front (numbers_of (count - i) (texts (drop i fields))) ≡ total → total ≡ Err BadLine
unfolding numbers_of
numbers_missing fields i count front total le room so_far =
    let n : count - i ≡ suc (count - (i + 1)) = omega arith in
    let one : with_front front (numbers_of (count - i) (texts (drop i fields))) ≡ Err BadLine = rw (n, texts_none fields i le) refl in
    sym so_far ∙ one

pub numbers_all : (fields : List (Bor (List ℕ))) (i count : ℕ) (front : List Rational) (total : Result (List Rational) FaultKind) → length fields ≤ i → count ≤ i
    → with_front front (numbers_of (count - i) (texts (drop i fields))) ≡ total → total ≡ Ok front
unfolding numbers_of
numbers_all fields i count front total le room so_far =
    let n : count - i ≡ 0 = omega arith in
    let one : with_front front (numbers_of (count - i) (texts (drop i fields))) ≡ Ok front = rw (n, texts_none fields i le) (ap (λ (xs : List Rational). Ok xs) (append-nil front)) in
    sym so_far ∙ one

-- ---- forms

pub form_more : (fields : List (Bor (List ℕ))) (i : ℕ) (d : Bor (List ℕ)) (least : ℕ) (front : List Entry) (e : Entry) (total : Result (List Entry) FaultKind) → i < length fields → entry_of least (get_or fields i d).now ≡ Ok e
    → with_front front (form_of least (texts (drop i fields))) ≡ total → with_front (front ++ e ∷ []) (form_of (e.column + 1) (texts (drop (i + 1) fields))) ≡ total
unfolding form_of
form_more fields i d least front e total lt read so_far =
    let one : with_front front (form_of least (texts (drop i fields))) ≡ with_front (front ++ e ∷ []) (form_of (e.column + 1) (texts (drop (i + 1) fields))) = rw (texts_more fields i d lt, read) (with_front-cons front e (form_of (e.column + 1) (texts (drop (i + 1) fields)))) in
    sym one ∙ so_far

pub form_fault : (fields : List (Bor (List ℕ))) (i : ℕ) (d : Bor (List ℕ)) (least : ℕ) (front : List Entry) (kind : FaultKind) (total : Result (List Entry) FaultKind) → i < length fields → entry_of least (get_or fields i d).now ≡ Err kind
    → with_front front (form_of least (texts (drop i fields))) ≡ total → total ≡ Err kind
unfolding form_of
form_fault fields i d least front kind total lt read so_far =
    let one : with_front front (form_of least (texts (drop i fields))) ≡ Err kind = rw (texts_more fields i d lt, read) refl in
    sym so_far ∙ one

pub form_all : (fields : List (Bor (List ℕ))) (i least : ℕ) (front : List Entry) (total : Result (List Entry) FaultKind) → length fields ≤ i
    → with_front front (form_of least (texts (drop i fields))) ≡ total → total ≡ Ok front
unfolding form_of
form_all fields i least front total le so_far =
    let one : with_front front (form_of least (texts (drop i fields))) ≡ Ok front = rw (texts_none fields i le) (ap (λ (xs : List Entry). Ok xs) (append-nil front)) in
    sym so_far ∙ one

-- ---- items

pub items_more : (kind : ℕ) (fields : List (Bor (List ℕ))) (i : ℕ) (d : Bor (List ℕ)) (least : ℕ) (front : List Item) (item : Item) (total : Result (List Item × List (List ℕ)) FaultKind) → i < length fields
    → is_of kind (get_or fields i d).now ≡ true → item_of least (drop 1 (get_or fields i d).now) ≡ Ok item
    → with_front_of front (items_of kind least (texts (drop i fields))) ≡ total → with_front_of (front ++ item ∷ []) (items_of kind (rank_of item + 1) (texts (drop (i + 1) fields))) ≡ total
unfolding items_of
items_more kind fields i d least front item total lt is read so_far =
    let one : with_front_of front (items_of kind least (texts (drop i fields))) ≡ with_front_of (front ++ item ∷ []) (items_of kind (rank_of item + 1) (texts (drop (i + 1) fields))) = rw (texts_more fields i d lt, is, read) (with_front_of-cons front item (items_of kind (rank_of item + 1) (texts (drop (i + 1) fields)))) in
    sym one ∙ so_far

pub items_fault : (kind : ℕ) (fields : List (Bor (List ℕ))) (i : ℕ) (d : Bor (List ℕ)) (least : ℕ) (front : List Item) (fault : FaultKind) (total : Result (List Item × List (List ℕ)) FaultKind) → i < length fields
    → is_of kind (get_or fields i d).now ≡ true → item_of least (drop 1 (get_or fields i d).now) ≡ Err fault
    → with_front_of front (items_of kind least (texts (drop i fields))) ≡ total → total ≡ Err fault
unfolding items_of
items_fault kind fields i d least front fault total lt is read so_far =
    let one : with_front_of front (items_of kind least (texts (drop i fields))) ≡ Err fault = rw (texts_more fields i d lt, is, read) refl in
    sym so_far ∙ one

pub items_other : (kind : ℕ) (fields : List (Bor (List ℕ))) (i : ℕ) (d : Bor (List ℕ)) (least : ℕ) (front : List Item) (total : Result (List Item × List (List ℕ)) FaultKind) → i < length fields
    → is_of kind (get_or fields i d).now ≡ false
    → with_front_of front (items_of kind least (texts (drop i fields))) ≡ total → total ≡ Ok (front, drop i (texts fields))
unfolding items_of
items_other kind fields i d least front total lt is so_far =
    let rest : texts (drop i fields) ≡ drop i (texts fields) = sym (drop-map i fields) in
    let more : texts (drop i fields) ≡ (get_or fields i d).now ∷ texts (drop (i + 1) fields) = texts_more fields i d lt in
    let one : with_front_of front (items_of kind least (texts (drop i fields))) ≡ Ok (front ++ [], (get_or fields i d).now ∷ texts (drop (i + 1) fields)) = rw (more, is) refl in
    sym so_far ∙ one ∙ ap (λ (xs : List Item). Ok (xs, (get_or fields i d).now ∷ texts (drop (i + 1) fields))) (append-nil front) ∙ ap (λ (ys : List (List ℕ)). Ok (front, ys)) (sym more ∙ rest)

pub items_all : (kind : ℕ) (fields : List (Bor (List ℕ))) (i least : ℕ) (front : List Item) (total : Result (List Item × List (List ℕ)) FaultKind) → length fields ≤ i
    → with_front_of front (items_of kind least (texts (drop i fields))) ≡ total → total ≡ Ok (front, drop (length fields) (texts fields))
unfolding items_of
items_all kind fields i least front total le so_far =
    let nothing : drop (length fields) (texts fields) ≡ [] = drop_all (length fields) (texts fields) (omega (arith, length-texts fields)) in
    let one : with_front_of front (items_of kind least (texts (drop i fields))) ≡ Ok (front ++ [], []) = rw (texts_none fields i le) refl in
    sym so_far ∙ one ∙ ap (λ (xs : List Item). Ok (xs, [])) (append-nil front) ∙ ap (λ (ys : List (List ℕ)). Ok (front, ys)) (sym nothing)
