-- The branch above a place: what it says of the way, and how it is found from those of the places before.
use Rattle.std.proofs.Common.{◌≡◌, ◌∙◌, ℕ, zero, suc, ◌<◌, ◌≤◌, List, [], ◌∷◌, length, get_or, take, reverse, Bool, true, false, Option, Some, None, refl, sym, ap, subst, arith}
use Rattle.std.proofs.lemmas.List.{length-reverse, length-take-le}
use Rattle.verdicts.specs.Certificate.{TreeNode, Branch, Empty, Bound, Split}
use Rattle.verdicts.specs.Preorder.{way_to}
use Rattle.certificate.specs.declared.split.Side.{Side}
use Rattle.certificate.specs.declared.split.Side.TheVariants.{Low, High}
use Rattle.certificate.specs.declared.tree.Parent.{Parent}
use Rattle.certificate.specs.declared.split.Turn.{Turn}
use Rattle.certificate.specs.Ways.{side_of, way, IsLastTurn}
use Rattle.certificate.specs.Parents.{IsTurnUnder, parent_to, parent_of}
use Rattle.certificate.proofs.Elements.{back, element_at}

-- the nodes before a place, the latest first
abbrev before : List TreeNode → ℕ → List TreeNode
before nodes place = reverse (take place nodes)

before_length : (nodes : List TreeNode) (n : ℕ) → n ≤ length nodes → length (before nodes n) ≡ n
before_length nodes n h = length-reverse (take n nodes) ∙ length-take-le n nodes h

abbrev place_of : Option Parent → ℕ
place_of None = 0
place_of (Some p) = p.place

abbrev high : Side → Bool
high Low = false
high High = true

abbrev is_high : Option Parent → Bool
is_high None = false
is_high (Some p) = high p.side

-- ---- climbing: the place after a subtree

none_past : (nodes : List TreeNode) (skip : ℕ) → parent_to nodes skip ≡ None → parent_to nodes (suc skip) ≡ None
none_past [] skip e = refl
none_past (Empty w ∷ xs) skip e = none_past xs (suc skip) e
none_past (Bound w ∷ xs) skip e = none_past xs (suc skip) e
none_past (Branch s ∷ xs) zero e = cc
none_past (Branch s ∷ xs) (suc zero) e = cc
none_past (Branch s ∷ xs) (suc (suc skip)) e = none_past xs (suc skip) e

low_past : (nodes : List TreeNode) (skip place : ℕ) → parent_to nodes skip ≡ Some (record { place = place; side = Low }) → parent_to nodes (suc skip) ≡ Some (record { place = place; side = High })
low_past [] skip place e = cc
low_past (Empty w ∷ xs) skip place e = low_past xs (suc skip) place e
low_past (Bound w ∷ xs) skip place e = low_past xs (suc skip) place e
low_past (Branch s ∷ xs) zero place e = let same : length xs ≡ place = ap place_of e in ap (λ n. Some (record { place = n; side = High })) same
low_past (Branch s ∷ xs) (suc zero) place e = let never : true ≡ false = ap is_high e in cc
low_past (Branch s ∷ xs) (suc (suc skip)) place e = low_past xs (suc skip) place e

high_over : (nodes : List TreeNode) (n skip place : ℕ) (x : TreeNode) → n ≤ length nodes
    → ((k : ℕ) → parent_to (before nodes n) k ≡ Some (record { place = place; side = High }) → parent_to (before nodes n) (suc k) ≡ parent_to (before nodes place) 1)
    → parent_to (x ∷ before nodes n) skip ≡ Some (record { place = place; side = High }) → parent_to (x ∷ before nodes n) (suc skip) ≡ parent_to (before nodes place) 1
high_over nodes n skip place (Empty w) h more e = more (suc skip) e
high_over nodes n skip place (Bound w) h more e = more (suc skip) e
high_over nodes n zero place (Branch s) h more e = let never : false ≡ true = ap is_high e in cc
high_over nodes n (suc zero) place (Branch s) h more e =
    let there : length (before nodes n) ≡ place = ap place_of e in
    let same : n ≡ place = sym (before_length nodes n h) ∙ there in
    ap (λ m. parent_to (before nodes m) 1) same
high_over nodes n (suc (suc skip)) place (Branch s) h more e = more (suc skip) e

high_past : (nodes : List TreeNode) (n skip place : ℕ) → n ≤ length nodes → parent_to (before nodes n) skip ≡ Some (record { place = place; side = High }) → parent_to (before nodes n) (suc skip) ≡ parent_to (before nodes place) 1
high_past nodes zero skip place h e = cc
high_past nodes (suc n) skip place h e =
    let x = element_at nodes n (omega arith) in
    let all : before nodes (suc n) ≡ x.0 ∷ before nodes n = back nodes n x.0 (omega arith) x.1 in
    let here : parent_to (x.0 ∷ before nodes n) skip ≡ Some (record { place = place; side = High }) = ap (λ xs. parent_to xs skip) (sym all) ∙ e in
    ap (λ xs. parent_to xs (suc skip)) all ∙ high_over nodes n skip place x.0 (omega arith) (λ k. high_past nodes n k place (omega arith)) here

with_side : (p : Parent) (s : Side) → p.side ≡ s → p ≡ record { place = p.place; side = s }
with_side p s e = ap (λ x. record { place = p.place; side = x }) e

pub root_past : (nodes : List TreeNode) (n : ℕ) (o : Option Parent) → None ≡ parent_of nodes n → parent_to (before nodes n) 1 ≡ o → None ≡ o
root_past nodes n o e inv = sym (none_past (before nodes n) 0 (sym e)) ∙ inv

pub past_low : (nodes : List TreeNode) (n : ℕ) (p : Parent) (o : Option Parent) → Some p ≡ parent_of nodes n → p.side ≡ Low → parent_to (before nodes n) 1 ≡ o → Some (record { place = p.place; side = High }) ≡ o
past_low nodes n p o e low inv = sym (low_past (before nodes n) 0 p.place (sym e ∙ ap Some (with_side p Low low))) ∙ inv

pub past_high : (nodes : List TreeNode) (n : ℕ) (p : Parent) (o : Option Parent) → n ≤ length nodes → Some p ≡ parent_of nodes n → p.side ≡ High → parent_to (before nodes n) 1 ≡ o → parent_to (before nodes p.place) 1 ≡ o
past_high nodes n p o h e high inv = sym (high_past nodes n 0 p.place h (sym e ∙ ap Some (with_side p High high))) ∙ inv

-- ---- the way

any_default : {X : Type 0} (xs : List X) (n : ℕ) (a b : X) → n < length xs → get_or xs n a ≡ get_or xs n b
any_default [] n a b h = absurd (omega arith)
any_default (y ∷ ys) zero a b h = refl
any_default (y ∷ ys) (suc n) a b h = any_default ys n a b (omega arith)

-- what the branch above a place says of the way there
abbrev IsAbove : (nodes : List TreeNode) → ℕ → ℕ → Option Parent → Type 0
IsAbove nodes n skip None = way_to (before nodes n) skip ≡ []
IsAbove nodes n skip (Some p) = (p.place < n) × (s : Split) × ((x : TreeNode) → get_or nodes p.place x ≡ Branch s) × (way_to (before nodes n) skip ≡ side_of s p.side ∷ way nodes p.place)

longer : (nodes : List TreeNode) (n skip more : ℕ) (o : Option Parent) → way_to (before nodes (suc n)) skip ≡ way_to (before nodes n) more → IsAbove nodes n more o → IsAbove nodes (suc n) skip o
longer nodes n skip more None e is = e ∙ is
longer nodes n skip more (Some p) e is = (omega (arith, is.0), is.1, is.2, e ∙ is.3)

above_over : (nodes : List TreeNode) (n skip : ℕ) (x : TreeNode) (o : Option Parent) → n < length nodes → x ≡ get_or nodes n x → before nodes (suc n) ≡ x ∷ before nodes n
    → ((k : ℕ) → parent_to (before nodes n) k ≡ o → IsAbove nodes n k o)
    → parent_to (x ∷ before nodes n) skip ≡ o → IsAbove nodes (suc n) skip o
above_over nodes n skip (Empty w) o h is all more e = longer nodes n skip (suc skip) o (ap (λ xs. way_to xs skip) all) (more (suc skip) e)
above_over nodes n skip (Bound w) o h is all more e = longer nodes n skip (suc skip) o (ap (λ xs. way_to xs skip) all) (more (suc skip) e)
above_over nodes n zero (Branch s) o h is all more e =
    let there : length (before nodes n) ≡ n = before_length nodes n (omega arith) in
    let same : Some (record { place = n; side = Low }) ≡ o = ap (λ m. Some (record { place = m; side = Low })) (sym there) ∙ e in
    subst (IsAbove nodes (suc n) zero) same (omega arith, s, λ y. any_default nodes n y (Branch s) h ∙ sym is, ap (λ xs. way_to xs zero) all)
above_over nodes n (suc zero) (Branch s) o h is all more e =
    let there : length (before nodes n) ≡ n = before_length nodes n (omega arith) in
    let same : Some (record { place = n; side = High }) ≡ o = ap (λ m. Some (record { place = m; side = High })) (sym there) ∙ e in
    subst (IsAbove nodes (suc n) 1) same (omega arith, s, λ y. any_default nodes n y (Branch s) h ∙ sym is, ap (λ xs. way_to xs 1) all)
above_over nodes n (suc (suc skip)) (Branch s) o h is all more e = longer nodes n (suc (suc skip)) (suc skip) o (ap (λ xs. way_to xs (suc (suc skip))) all) (more (suc skip) e)

is_above : (nodes : List TreeNode) (n skip : ℕ) (o : Option Parent) → n ≤ length nodes → parent_to (before nodes n) skip ≡ o → IsAbove nodes n skip o
is_above nodes zero skip None h e = refl
is_above nodes zero skip (Some p) h e = cc
is_above nodes (suc n) skip o h e =
    let x = element_at nodes n (omega arith) in
    let all : before nodes (suc n) ≡ x.0 ∷ before nodes n = back nodes n x.0 (omega arith) x.1 in
    above_over nodes n skip x.0 o (omega arith) x.1 all (λ k. is_above nodes n k o (omega arith)) (ap (λ xs. parent_to xs skip) (sym all) ∙ e)

pub no_turn : (nodes : List TreeNode) (n : ℕ) → n ≤ length nodes → None ≡ parent_of nodes n → way nodes n ≡ []
no_turn nodes n h e = is_above nodes n 0 None h (sym e)

pub parent_before : (nodes : List TreeNode) (n : ℕ) (p : Parent) → n ≤ length nodes → Some p ≡ parent_of nodes n → p.place < n
parent_before nodes n p h e = (is_above nodes n 0 (Some p) h (sym e)).0

-- the turn to a branch above is the last one
last : (nodes : List TreeNode) (n : ℕ) (p : Parent) (s : Split) (t : Option Turn) → p.place < n → way nodes n ≡ side_of s p.side ∷ way nodes p.place → IsTurnUnder (Branch s) p t → IsLastTurn nodes n t
last nodes n p s None less is under = absurd under
last nodes n p s (Some t) less is under =
    let at_place : way nodes n ≡ side_of s p.side ∷ way nodes t.place = subst (λ k. way nodes n ≡ side_of s p.side ∷ way nodes k) (sym under.place) is in
    let on_side : way nodes n ≡ side_of s t.side ∷ way nodes t.place = subst (λ d. way nodes n ≡ side_of s d ∷ way nodes t.place) (sym under.side) at_place in
    (subst (λ k. k < n) (sym under.place) less, subst (λ u. way nodes n ≡ side_of u t.side ∷ way nodes t.place) (sym under.split_is) on_side)

pub turn_is : (nodes : List TreeNode) (n : ℕ) (p : Parent) (x : TreeNode) (t : Option Turn) → n ≤ length nodes → Some p ≡ parent_of nodes n → x ≡ get_or nodes p.place x → IsTurnUnder x p t → IsLastTurn nodes n t
turn_is nodes n p x t h e is turn =
    let all = is_above nodes n 0 (Some p) h (sym e) in
    let branch : Branch all.1 ≡ x = sym (all.2 x) ∙ sym is in
    last nodes n p all.1 t all.0 all.3 (subst (λ y. IsTurnUnder y p t) (sym branch) turn)

-- ---- what the nodes stand for
