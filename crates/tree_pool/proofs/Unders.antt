-- The leaf that is leased under a number.
use Rattle.std.proofs.Common.{◌≡◌, ◌∙◌, ℕ, ◌≤◌, ◌==◌, cond, Bool, true, false, List, [], ◌∷◌, refl, ap, Option, Some, None, arith}
use Rattle.std.proofs.lemmas.Bool.Decides.{nat_tests}
use Rattle.certificate.specs.declared.split.Side.{Side}
use Rattle.certificate.specs.declared.split.Side.TheVariants.{Low, High}
use Rattle.search_tree.specs.declared.leaf.Lease.{Lease}
use Rattle.search_tree.specs.declared.leaf.Leaf.{Leaf}
use Rattle.search_tree.specs.declared.leaf.Leaf.TheVariants.{Leased}
use Rattle.search_tree.specs.Tree.{Tree, Divided, AtLeaf, at_place, replaced, lease_of, leased_under, of_lease}
use Rattle.tree_pool.specs.Grown.{is_under, put_under}

abbrev one_or_none : Bool → ℕ
one_or_none t = cond t 1 0

same : (m n : ℕ) → m ≡ n → (m == n) ≡ true
same m n e = grind (arith, nat_tests)

-- such a leaf counts
counts : (t : Tree) (w : List Side) (a : Lease) (n : ℕ) → at_place t w ≡ Some (AtLeaf (Leased a)) → a.number ≡ n → 1 ≤ leased_under n t
counts (AtLeaf l) [] a n h e = at_leaf l h
  where
    at_leaf : (l : Leaf) → Some (AtLeaf l) ≡ Some (AtLeaf (Leased a)) → 1 ≤ leased_under n (AtLeaf l)
    at_leaf l h =
        let is : l ≡ Leased a = cc in
        let one : leased_under n (AtLeaf l) ≡ 1 = ap (λ m. leased_under n (AtLeaf m)) is ∙ ap one_or_none (same a.number n e) in
        omega arith
counts (AtLeaf l) (side ∷ w) a n h e = cc
counts (Divided s low high) [] a n h e = cc
counts (Divided s low high) (Low ∷ w) a n h e = let more = counts low w a n h e in omega arith
counts (Divided s low high) (High ∷ w) a n h e = let more = counts high w a n h e in omega arith

-- where it is the only one, one way leads to it
pub one_way : (t : Tree) (w v : List Side) (a b : Lease) (n : ℕ) → at_place t w ≡ Some (AtLeaf (Leased a)) → a.number ≡ n → at_place t v ≡ Some (AtLeaf (Leased b)) → b.number ≡ n → leased_under n t ≤ 1 → w ≡ v
one_way (AtLeaf l) [] [] a b n h e k f one = refl
one_way (AtLeaf l) [] (side ∷ v) a b n h e k f one = cc
one_way (AtLeaf l) (side ∷ w) v a b n h e k f one = cc
one_way (Divided s low high) [] v a b n h e k f one = cc
one_way (Divided s low high) (Low ∷ w) [] a b n h e k f one = cc
one_way (Divided s low high) (High ∷ w) [] a b n h e k f one = cc
one_way (Divided s low high) (Low ∷ w) (Low ∷ v) a b n h e k f one = ap (λ sides. Low ∷ sides) (one_way low w v a b n h e k f (omega arith))
one_way (Divided s low high) (High ∷ w) (High ∷ v) a b n h e k f one = ap (λ sides. High ∷ sides) (one_way high w v a b n h e k f (omega arith))
one_way (Divided s low high) (Low ∷ w) (High ∷ v) a b n h e k f one = let first = counts low w a n h e in let second = counts high v b n k f in absurd (omega arith)
one_way (Divided s low high) (High ∷ w) (Low ∷ v) a b n h e k f one = let first = counts high w a n h e in let second = counts low v b n k f in absurd (omega arith)

none_put : (t : Tree) (n : ℕ) (u : Tree) → leased_under n t ≡ 0 → put_under n u t ≡ t
none_put (Divided s low high) n u none = rw (none_put low n u (omega arith), none_put high n u (omega arith)) refl
none_put (AtLeaf leaf) n u none = go (lease_of leaf) none
  where
    by_test : (t : Bool) → one_or_none t ≡ 0 → cond t u (AtLeaf leaf) ≡ AtLeaf leaf
    by_test true e = cc
    by_test false e = refl

    go : (o : Option Lease) → of_lease (λ lease. one_or_none (lease.number == n)) o ≡ 0 → cond (is_under n o) u (AtLeaf leaf) ≡ AtLeaf leaf
    go None e = refl
    go (Some lease) e = by_test (lease.number == n) e

-- where it is the only one, the other tree stands in its place
pub put_is : (t : Tree) (w : List Side) (a : Lease) (n : ℕ) (u : Tree) → at_place t w ≡ Some (AtLeaf (Leased a)) → a.number ≡ n → leased_under n t ≤ 1 → put_under n u t ≡ replaced t w u
put_is (AtLeaf l) [] a n u h e one = at_leaf l h
  where
    at_leaf : (l : Leaf) → Some (AtLeaf l) ≡ Some (AtLeaf (Leased a)) → put_under n u (AtLeaf l) ≡ u
    at_leaf l h = let is : l ≡ Leased a = cc in ap (λ m. put_under n u (AtLeaf m)) is ∙ ap (λ t. cond t u (AtLeaf (Leased a))) (same a.number n e)
put_is (AtLeaf l) (side ∷ w) a n u h e one = cc
put_is (Divided s low high) [] a n u h e one = cc
put_is (Divided s low high) (Low ∷ w) a n u h e one = let more = counts low w a n h e in rw (put_is low w a n u h e (omega arith), none_put high n u (omega arith)) refl
put_is (Divided s low high) (High ∷ w) a n u h e one = let more = counts high w a n h e in rw (put_is high w a n u h e (omega arith), none_put low n u (omega arith)) refl
