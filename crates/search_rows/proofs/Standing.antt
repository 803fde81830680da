-- Trees that may be put in the place of a leased leaf, and nodes that are over the problem's columns.
use Rattle.std.proofs.Common.{◌≡◌, ◌∙◌, ℕ, zero, suc, ◌<◌, ◌≤◌, ◌⊎◌, ⊎_elim, List, [], ◌∷◌, length, Bool, true, false, is_some, refl, sym, ap, subst, Option, Some, None, IfSome, slice_get, Result, Ok, Err, IfOk, arith}
use Rattle.milp.specs.Form.{Entry}
use Rattle.milp.specs.Problem.{Column, Problem}
use Rattle.verdicts.specs.WeightedSums.{AllBelow}
use Rattle.verdicts.specs.Certificate.{Split, Side as SideOf, Low as LowOf, High as HighOf, Derived}
use Rattle.verdicts.specs.Proves.{is_integer}
use Rattle.certificate.specs.Written.{column_form, split_column}
use Rattle.basis.specs.Node.{IsOverColumns, split_form, integer_at}
use Rattle.search_tree.specs.declared.leaf.Lease.{Lease}
use Rattle.search_tree.specs.declared.leaf.Leaf.{Leaf}
use Rattle.search_tree.specs.declared.leaf.Leaf.TheVariants.{Todo, Treated, Leased, Refuted, Bounded, NotFitting, AtLimit}
use Rattle.search_tree.specs.Tree.{Tree, Divided, AtLeaf, IsTodo, AllLeaves, sides_to}
use Rattle.search_tree.specs.Nodes.{KeepsLeaf}
use Rattle.search_tree.specs.Board.{Board, value_of, IsTold}
use Rattle.search_tree.specs.Honest.{AreHonest, IsHonestWay}
use Rattle.search_tree.specs.Finished.{IsThere}
use Rattle.search_tree.specs.Kept.{closed_node}
use Rattle.branch_search.specs.declared.treatment.Fractional.{Fractional}
use Rattle.branch_search.specs.declared.fragment.Fragment.{Fragment}
use Rattle.branch_search.specs.Treatment.{IsToSplit}
use Rattle.branch_search.specs.Grown.{IsFragment, AreTodoOrClosed, best_with}
use Rattle.branch_search.proofs.Growth.{none_leased_in}
use Rattle.rational.specs.Rational.{Rational}
use Rattle.search_rows.specs.Trees.{MayStand, LeadTo, IsLeafOf}

pub if_ok : {A E : Type 0} (r : Result A E) (P Q : A → Type 0) → ((x : A) → P x → Q x) → IfOk r P → IfOk r Q
if_ok (Ok x) P Q f h = f x h
if_ok (Err e) P Q f h = tt

-- ---- splits on the way

known : (columns : List Column) (j : ℕ) → is_integer (slice_get columns j) ≡ true → j < length columns
known [] j h = cc
known (c ∷ columns) zero h = omega arith
known (c ∷ columns) (suc j) h = let k = known columns j h in omega (arith, k)

own_column : (p : Problem) (s : Split) → s.form ≡ column_form (split_column s) → integer_at p (split_column s) ≡ true → AllBelow (length p.columns) s.form
own_column p s e h = let P : List Entry → Type 0 = AllBelow (length p.columns) in subst P (sym e) (known p.columns (split_column s) h, tt)

on_columns : (p : Problem) (ds : List Derived) (sides : List SideOf) → AreHonest p ds sides → (k : ℕ) → IfSome (slice_get sides k) (λ side. AllBelow (length p.columns) (split_form side))
on_columns p ds [] h k = tt
on_columns p ds (LowOf s ∷ sides) h zero = own_column p s h.0.form h.0.integer
on_columns p ds (HighOf s ∷ sides) h zero = own_column p s h.0.form h.0.integer
on_columns p ds (LowOf s ∷ sides) h (suc k) = on_columns p ds sides h.1 k
on_columns p ds (HighOf s ∷ sides) h (suc k) = on_columns p ds sides h.1 k

pub over_columns : (p : Problem) (ds : List Derived) (limit : ℕ) (sides : List SideOf) (q : Problem) (qs : List Derived) → q ≡ p → qs ≡ [] → IsOverColumns q [] [] → IsHonestWay p ds limit sides → IsOverColumns q qs sides
over_columns p ds limit sides q qs e none root way =
    let P : List Derived → Type 0 = λ cuts. IsOverColumns q cuts sides in
    let H : Problem → Type 0 = λ r. AreHonest r ds sides in
    subst P (sym none) (record { objective = root.objective; rows = root.rows; derived = λ k. tt; splits = on_columns q ds sides (subst H (sym e) way.splits) })

-- ---- trees

pub untouched : (b : Board) (lease : Lease) (hint : Unit {0}) (t : Tree) → t ≡ AtLeaf (Todo hint) → MayStand b lease t
untouched b lease hint t e = subst (MayStand b lease) (sym e) (λ way there. record {
  is_leased = there;
  sound = record { splits = tt; goal = None; is_told = tt; leaves = tt; none_leased = refl };
  within = omega arith;
  worthwhile = tt;
})

pub leaf_stands : (b : Board) (lease : Lease) (sides : List SideOf) (leaf : Leaf) (t : Tree) → LeadTo b lease sides → IsLeafOf b sides leaf → IfSome (value_of b) (λ v. IsTold v b.log) → t ≡ AtLeaf leaf → MayStand b lease t
leaf_stands b lease sides leaf t lead h told e = subst (MayStand b lease) (sym e) (λ way there.
    let P : List SideOf → Type 0 = λ at. KeepsLeaf b.problem b.cuts b.pivot_limit (value_of b) at leaf in
    record {
      is_leased = there;
      sound = record { splits = tt; goal = value_of b; is_told = told; leaves = subst P (lead way there) h.kept; none_leased = h.not_leased };
      within = omega arith;
      worthwhile = tt;
    })

pub split_stands : (b : Board) (lease : Lease) (sides : List SideOf) (f : Fractional) (low high : Unit {0}) (t : Tree) → LeadTo b lease sides → IsToSplit b.problem b.cuts sides lease.best f → 1 ≤ lease.grant
    → t ≡ Divided f.split (AtLeaf (Todo low)) (AtLeaf (Todo high)) → MayStand b lease t
split_stands b lease sides f low high t lead h grant e = subst (MayStand b lease) (sym e) (λ way there.
    let P : List SideOf → Type 0 = λ at. IsToSplit b.problem b.cuts at lease.best f in
    let here = subst P (lead way there) h in
    record {
      is_leased = there;
      sound = record { splits = (here.split, tt, tt); goal = None; is_told = tt; leaves = (tt, tt); none_leased = (refl, refl) };
      within = omega (arith, grant);
      worthwhile = (record { point = here.treated.point; is_optimum = here.treated.is_optimum; beats = here.treated.beats }, tt, tt);
    })

-- ---- trees that grow

pub none_there : (best : Option Rational) (t : Bool) → t ≡ is_some best → t ≡ false → best ≡ None
none_there None t e h = refl
none_there (Some v) t e h = cc

-- a leaf that is to be worked on, or closed, says the same whatever the limit of steps
of_any_limit : (p : Problem) (ds : List Derived) (one other : ℕ) (goal : Option Rational) (sides : List SideOf) (leaf : Leaf) → IsTodo leaf ⊎ IsThere (closed_node leaf) → KeepsLeaf p ds one goal sides leaf → KeepsLeaf p ds other goal sides leaf
of_any_limit p ds one other goal sides (Todo hint) h k = tt
of_any_limit p ds one other goal sides (Treated hint) h k = k
of_any_limit p ds one other goal sides (Leased lease) h k = tt
of_any_limit p ds one other goal sides (Refuted w) h k = k
of_any_limit p ds one other goal sides (Bounded w) h k = k
of_any_limit p ds one other goal sides (NotFitting e) h k = k
of_any_limit p ds one other goal sides (AtLimit bases) h k = absurd (⊎_elim (λ a. a) (λ b. b) h)

of_tree : (p : Problem) (ds : List Derived) (one other : ℕ) (goal : Option Rational) (sides : List SideOf) (t : Tree) → AreTodoOrClosed t → AllLeaves (KeepsLeaf p ds one goal) sides t → AllLeaves (KeepsLeaf p ds other goal) sides t
of_tree p ds one other goal sides (Divided s low high) h k = (of_tree p ds one other goal (LowOf s ∷ sides) low h.0 k.0, of_tree p ds one other goal (HighOf s ∷ sides) high h.1 k.1)
of_tree p ds one other goal sides (AtLeaf leaf) h k = of_any_limit p ds one other goal sides leaf h k

fragment_stands : (b : Board) (lease : Lease) (sides : List SideOf) (f : Fragment) → LeadTo b lease sides → IsFragment b.problem b.cuts 100 sides lease.best lease.grant f → lease.best ≡ None → f.found ≡ None → MayStand b lease f.tree
fragment_stands b lease sides f lead h none alone = λ way there.
    let R : List SideOf → Type 0 = λ at. IsFragment b.problem b.cuts 100 at lease.best lease.grant f in
    let here = subst R (lead way there) h in
    let goal : best_with b.problem lease.best f.found ≡ None = ap (best_with b.problem lease.best) alone ∙ none in
    let L : Option Rational → Type 0 = λ g. AllLeaves (KeepsLeaf b.problem b.cuts 100 g) (sides_to b.tree way []) f.tree in
    record {
      is_leased = there;
      sound = record {
        splits = here.tree.splits;
        goal = None;
        is_told = tt;
        leaves = of_tree b.problem b.cuts 100 b.pivot_limit None (sides_to b.tree way []) f.tree here.outcome.leaves (subst L goal here.tree.leaves);
        none_leased = none_leased_in f.tree (sides_to b.tree way []) here.outcome.leaves;
      };
      within = here.outcome.within;
      worthwhile = here.tree.worthwhile;
    }

pub grown_stands : (b : Board) (lease : Lease) (sides : List SideOf) (found : Option Fragment) (f : Fragment) (alone : Option Tree) → LeadTo b lease sides → found ≡ Some f → IfSome found (IsFragment b.problem b.cuts 100 sides lease.best lease.grant) → lease.best ≡ None
    → IfSome alone (λ t. (f.found ≡ None) × (f.tree ≡ t)) → IfSome alone (MayStand b lease)
grown_stands b lease sides found f None lead is h none alone = tt
grown_stands b lease sides found f (Some t) lead is h none alone =
    let P : Option Fragment → Type 0 = λ o. IfSome o (IsFragment b.problem b.cuts 100 sides lease.best lease.grant) in
    subst (MayStand b lease) alone.1 (fragment_stands b lease sides f lead (subst P is h) none alone.0)
