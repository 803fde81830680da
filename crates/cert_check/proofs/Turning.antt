-- The way to the place behind a node, and the turns from the root on.
use Rattle.std.proofs.Common.{◌≡◌, ◌∙◌, ℕ, zero, suc, ◌+◌, ◌<◌, ◌≤◌, ◌==◌, true, false, List, [], ◌∷◌, ◌++◌, length, get_or, take, reverse, slice_get, Some, None, refl, sym, ap, add-one, arith}
use Rattle.std.proofs.lemmas.Bool.Decides.{nat_tests}
use Rattle.std.proofs.lemmas.Option.{slice_get-get_or}
use Rattle.std.proofs.lemmas.List.{reverse-append}
use mathlib.Core.List.{reverse_aux}
use Rattle.verdicts.specs.Certificate.{TreeNode, Branch, Empty, Bound, Side}
use Rattle.verdicts.specs.Certificate as of
use Rattle.verdicts.specs.Proves.{way_get}
use Rattle.verdicts.specs.Preorder.{way_to}
use Rattle.certificate.specs.Ways.{way}
use Rattle.certificate.proofs.Laws.{back}
use Rattle.cert_check.specs.Walk.{turned, past_node, over_side}

-- ---- past a node

over : (before : List TreeNode) (skip : ℕ) → way_to before (suc skip) ≡ turned (way_to before skip)
over [] skip = refl
over (Empty w ∷ before) skip = over before (suc skip)
over (Bound w ∷ before) skip = over before (suc skip)
over (Branch s ∷ before) zero = refl
over (Branch s ∷ before) (suc zero) = over before zero
over (Branch s ∷ before) (suc (suc skip)) = over before (suc skip)

past : (node : TreeNode) (before : List TreeNode) → way_to (node ∷ before) 0 ≡ past_node node (way_to before 0)
past (Branch s) before = refl
past (Empty w) before = over before zero
past (Bound w) before = over before zero

pub way_past : (nodes : List TreeNode) (k : ℕ) (node : TreeNode) → k < length nodes → node ≡ get_or nodes k node → past_node node (way nodes k) ≡ way nodes (k + 1)
way_past nodes k node h is = let all : reverse (take (k + 1) nodes) ≡ node ∷ reverse (take k nodes) = rw (add-one k) (back nodes k node h is) in sym (ap (λ xs. way_to xs 0) all ∙ past node (reverse (take k nodes)))

-- ---- the turns from the root on

-- the latest comes first
pub latest : (ts : List Side) (t : Side) → reverse (ts ++ t ∷ []) ≡ t ∷ reverse ts
latest ts t = reverse-append ts (t ∷ [])

pub one_later : (ts : List Side) (i : ℕ) (t : Side) → i < length ts → t ≡ get_or ts i t → reverse (take (i + 1) ts) ≡ t ∷ reverse (take i ts)
one_later ts i t h is = rw (add-one i) (back ts i t h is)

-- a way has no split past its length
none_past : (sides : List Side) (i : ℕ) → length sides ≤ i → way_get sides i ≡ None
none_past [] i h = refl
none_past (s ∷ sides) i h = let other : (i == length sides) ≡ false = grind (arith, nat_tests) in rw other (none_past sides i (omega arith))

-- what comes later leaves the splits before it
before_onto : (sides ts : List Side) (i : ℕ) → i < length sides → way_get (reverse_aux ts sides) i ≡ way_get sides i
before_onto sides [] i h = refl
before_onto sides (t ∷ ts) i h =
    let other : (i == length sides) ≡ false = grind (arith, nat_tests) in
    before_onto (t ∷ sides) ts i (omega arith) ∙ rw other refl

behind_onto : (sides ts : List Side) (i n : ℕ) → n ≡ length sides + i → way_get (reverse_aux ts sides) n ≡ slice_get ts i
behind_onto sides [] i n e = none_past sides n (omega arith)
behind_onto sides (t ∷ ts) zero n e =
    let it : (n == length sides) ≡ true = grind (arith, nat_tests) in
    before_onto (t ∷ sides) ts n (omega arith) ∙ rw it refl
behind_onto sides (t ∷ ts) (suc i) n e = behind_onto (t ∷ sides) ts i n (omega arith)

turn_found : (ts : List Side) (i : ℕ) → way_get (reverse ts) i ≡ slice_get ts i
turn_found ts i = behind_onto [] ts i i (omega arith)

pub turn_there : (ts : List Side) (i : ℕ) (t : Side) → i < length ts → t ≡ get_or ts i t → Some t ≡ way_get (reverse ts) i
turn_there ts i t h is = sym (turn_found ts i ∙ slice_get-get_or ts i t h ∙ ap Some (sym is))

pub turn_missing : (ts : List Side) (i : ℕ) → length ts ≤ i → None ≡ way_get (reverse ts) i
turn_missing ts i h = sym (turn_found ts i ∙ beyond ts i h)
  where
    beyond : (ts : List Side) (i : ℕ) → length ts ≤ i → slice_get ts i ≡ None
    beyond [] i h = refl
    beyond (t ∷ ts) zero h = absurd (omega arith)
    beyond (t ∷ ts) (suc i) h = beyond ts i (omega arith)

-- ---- back to the latest low side

is_high : (t : Side) (sides : List Side) → None ≡ over_side t → turned (t ∷ sides) ≡ turned sides
is_high (of.High s) sides e = refl
is_high (of.Low s) sides e = cc

pub back_over : (ts rest : List Side) (t : Side) (all : List Side) → ts ≡ rest ++ t ∷ [] → None ≡ over_side t → turned (reverse ts) ≡ all → turned (reverse rest) ≡ all
back_over ts rest t all is high inv = sym (ap turned (ap reverse is ∙ latest rest t) ∙ is_high t (reverse rest) high) ∙ inv
