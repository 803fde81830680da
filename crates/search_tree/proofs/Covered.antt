-- A kept board covers each better point.
use Rattle.std.proofs.Common.{◌≡◌, ℕ, zero, suc, List, [], ◌∷◌, ◌++◌, take, true, refl, Option, Some, None, IfSome, slice_get, ⊎_elim, inl, inr}
use Rattle.rational.specs.Rational.{Rational}
use Rattle.rational.proofs.Laws as Q
use Rattle.milp.specs.Problem.{Problem}
use Rattle.milp.specs.Points.{Feasible}
use Rattle.verdicts.specs.Certificate.{Two, Side as SideOf, Low, High, Weights, Derived, Empty, Bound}
use Rattle.verdicts.specs.Proves.{derived_passes, node_passes, AllDerived, TakesAll}
use Rattle.verdicts.proofs.Laws.{derived_more, derived_sound, leaf_bound, leaf_empty, on_a_side}
use Rattle.search_tree.specs.declared.leaf.Leaf.TheVariants.{Todo, Treated, Leased, Refuted, Bounded, NotFitting, AtLimit}
use Rattle.search_tree.specs.Tree.{Tree, Divided, AtLeaf, AllSplits, AllLeaves, SomeLeaf}
use Rattle.search_tree.specs.Nodes.{IsHonestSplit, Beats, KeepsLeaf}
use Rattle.search_tree.specs.Board.{Board, value_of}
use Rattle.search_tree.specs.Kept.{AllPass, IsKept, IsCovered, LiesIn}
use Rattle.search_tree.proofs.Passing.{node_test, cut_tests, of_first, of_others}
use Rattle.search_tree.proofs.HonestSplits.{whole_form}

-- each cut holds where those before it do
cuts_from : (p : Problem) (x : List Rational) → Feasible p x → (before ds : List Derived) → AllDerived x before → ((k : ℕ) → IfSome (slice_get ds k) (λ d. derived_passes p (before ++ take k ds) d ≡ true)) → AllDerived x ds
cuts_from p x f before [] held h k = tt
cuts_from p x f before (d ∷ ds) held h zero = derived_sound p before x d f held (of_first (λ all e. derived_passes p all e ≡ true) before ds d h)
cuts_from p x f before (d ∷ ds) held h (suc k) =
    let P : List Derived → Derived → Type 0 = λ all e. derived_passes p all e ≡ true in
    cuts_from p x f (before ++ d ∷ []) ds (derived_more x before d held (derived_sound p before x d f held (of_first P before ds d h))) (of_others P before ds d h) k

cuts_hold : (p : Problem) (ds : List Derived) → AllPass p ds → (x : List Rational) → Feasible p x → AllDerived x ds
cuts_hold p ds h x f = cuts_from p x f [] ds (λ k. tt) (cut_tests p ds h)

-- no better point is on the sides taken to a leaf whose test passes
none_bounded : (p : Problem) (goal : Option Rational) (ds : List Derived) (sides : List SideOf) (w : Weights) (x : List Rational) → AllDerived x ds → node_passes p Two goal ds sides (Bound w) ≡ true → Feasible p x → Beats p goal x → TakesAll x sides → ⊥
none_bounded p None ds sides w x d t f b i = cc
none_bounded p (Some v) ds sides w x d t f b i = Q.lt-not-le _ _ b (leaf_bound p Two v ds sides w x t f.relaxed i d)

lies : (p : Problem) (ds : List Derived) (limit : ℕ) (goal : Option Rational) (x : List Rational) → AllDerived x ds → Feasible p x → Beats p goal x → (t : Tree) (sides : List SideOf) → AllSplits (IsHonestSplit p ds) sides t → AllLeaves (KeepsLeaf p ds limit goal) sides t → TakesAll x sides → SomeLeaf (LiesIn x) sides t
lies p ds limit goal x d f b (Divided s low high) sides splits leaves i =
    ⊎_elim (λ l. inl (lies p ds limit goal x d f b low (Low s ∷ sides) splits.1 leaves.0 (l, i))) (λ l. inr (lies p ds limit goal x d f b high (High s ∷ sides) splits.2 leaves.1 (l, i))) (on_a_side p s x f (whole_form p ds sides s splits.0))
lies p ds limit goal x d f b (AtLeaf (Todo hint)) sides splits leaves i = (refl, i)
lies p ds limit goal x d f b (AtLeaf (Treated hint)) sides splits leaves i = (refl, i)
lies p ds limit goal x d f b (AtLeaf (Leased lease)) sides splits leaves i = (refl, i)
lies p ds limit goal x d f b (AtLeaf (Refuted w)) sides splits leaves i = absurd (leaf_empty p Two goal ds sides w x (node_test p goal ds sides (Empty w) leaves) f.relaxed i d)
lies p ds limit goal x d f b (AtLeaf (Bounded w)) sides splits leaves i = absurd (none_bounded p goal ds sides w x d (node_test p goal ds sides (Bound w) leaves) f b i)
lies p ds limit goal x d f b (AtLeaf (NotFitting e)) sides splits leaves i = (refl, i)
lies p ds limit goal x d f b (AtLeaf (AtLimit bases)) sides splits leaves i = (refl, i)

pub covered : (b : Board) → IsKept b → IsCovered b
covered b k = record { covers = λ x f better. lies b.problem b.cuts b.pivot_limit (value_of b) x (cuts_hold b.problem b.cuts k.cuts x f) f better b.tree [] k.splits k.leaves tt }
