-- Trees that may be put in the place of a leased leaf.
use Rattle.std.proofs.Common.{◌≡◌, ◌∙◌, ℕ, List, [], cond, refl, sym, ap, subst, Option, Some, None, IfSome, option_map, Result, Ok, Err, IfErr, IfOk}
use Rattle.std.specs.Result.{result_ok}
use Rattle.std.proofs.lemmas.Option.{same_Some}
use Rattle.rational.specs.Rational.{Rational}
use Rattle.rational.proofs.Laws.{true_less}
use Rattle.milp.specs.Problem.{Problem}
use Rattle.milp.specs.Points.{objective_value}
use Rattle.verdicts.specs.Certificate.{Derived}
use Rattle.certificate.specs.declared.split.Side.{Side}
use Rattle.search_tree.specs.declared.leaf.Lease.{Lease}
use Rattle.search_tree.specs.declared.leaf.Leaf.TheVariants.{Leased}
use Rattle.search_tree.specs.Tree.{Tree, AtLeaf, at_place, sides_to}
use Rattle.search_tree.specs.Nodes.{Beats, IsTreated}
use Rattle.search_tree.specs.Board.{Board, value_of, IsTold, better_of}
use Rattle.search_tree.specs.Steps.{IsOffer, MayGraft}
use Rattle.tree_pool.specs.Places.{IsOpen}
use Rattle.branch_search.specs.declared.fault.LeafFault.{LeafFault}
use Rattle.branch_search.specs.declared.fragment.Fragment.{Fragment}
use Rattle.branch_search.specs.declared.fragment.Grown.{Grown}
use Rattle.branch_search.specs.declared.fragment.Grown.TheVariants.{Ready, Ungranted}
use Rattle.branch_search.specs.Faults.{IsLeafFault}
use Rattle.branch_search.specs.Grown.{IsHonestTree, IsOutcome, IsBetterPoint, best_with, IsUngranted, IsGrown}
use Rattle.branch_search.specs.Places.{GrowsAt, IsFragmentAt, MayStand}
use Rattle.branch_search.specs.Settled.{seat, IsLeft}
use Rattle.branch_search.proofs.Growth.{none_leased_in}

pub value_of_ok : {A E : Type 0} (r : Result A E) (x : A) (P : A → Type 0) → result_ok r ≡ Some x → IfOk r P → P x
value_of_ok (Ok y) x P e h = subst P (same_Some y x e) h
value_of_ok (Err f) x P e h = cc

-- what holds of a value that is handed on
pub made_so : {A E : Type 0} (r : Result A E) (x : A) (P : A → Type 0) → IfOk r (λ y. y ≡ x) → P x → IfOk r P
made_so (Ok y) x P is h = subst P (sym is) h
made_so (Err e) x P is h = tt

-- a tree that stands against the best value, which was told, may be grafted
pub may_graft : (b : Board) (lease : Lease) (best : Option Rational) (t : Tree) → IsOpen b.tree lease → MayStand b lease t → IsOutcome lease.grant t → best ≡ value_of b → IfSome best (λ v. IsTold v b.log) → (way : List Side) × MayGraft b way lease t
may_graft b lease best t is_open may outcome value told =
    let way = is_open.way in
    let there = is_open.there in
    let tree = may way there in
    let T : Option Rational → Type 0 = λ o. IfSome o (λ v. IsTold v b.log) in (
      way,
      record {
        is_leased = there;
        sound = record { splits = tree.splits; goal = value_of b; is_told = subst T value told; leaves = tree.leaves; none_leased = none_leased_in t (sides_to b.tree way []) outcome.leaves };
        within = outcome.within;
        worthwhile = tree.worthwhile;
      },
    )

-- ---- what grows where a lease is open

pub fragment_at : (b : Board) (lease : Lease) (grown : Grown) (fragment : Fragment) → GrowsAt b lease grown → grown ≡ Ready fragment → IsFragmentAt b lease fragment
fragment_at b lease grown fragment h is way there = subst (λ (g : Grown). IsGrown b.problem b.cuts b.pivot_limit (sides_to b.tree way []) lease.best lease.grant g) is (h way there)

pub left_leased : (b : Board) (lease : Lease) (grown : Grown) (hint : Unit {0}) → IsOpen b.tree lease → lease.best ≡ value_of b → GrowsAt b lease grown → grown ≡ Ungranted hint → IsLeft b lease b
left_leased b lease grown hint is_open best h is =
    let here : (way : List Side) → at_place b.tree way ≡ Some (AtLeaf (Leased lease)) → IsUngranted b.problem b.cuts (sides_to b.tree way []) lease.best lease.grant = λ way there. subst (λ (g : Grown). IsGrown b.problem b.cuts b.pivot_limit (sides_to b.tree way []) lease.best lease.grant g) is (h way there) in
    record {
      same = refl;
      grant = (here is_open.way is_open.there).none;
      treated = λ way there. subst (λ (o : Option Rational). IsTreated b.problem b.cuts (sides_to b.tree way []) o) best (here way there).treated;
    }

-- where no point was found, the tree stands against the best value
pub stands_at_once : (b : Board) (lease : Lease) (fragment : Fragment) → lease.best ≡ value_of b → IsFragmentAt b lease fragment → fragment.found ≡ None → MayStand b lease fragment.tree
stands_at_once b lease fragment best h none way there =
    let f = h way there in
    subst (λ (goal : Option Rational). IsHonestTree b.problem b.cuts b.pivot_limit (sides_to b.tree way []) lease.best goal fragment.tree) (ap (best_with b.problem lease.best) none ∙ best) f.tree

pub outcome_at : (b : Board) (lease : Lease) (fragment : Fragment) → IsOpen b.tree lease → IsFragmentAt b lease fragment → IsOutcome lease.grant fragment.tree
outcome_at b lease fragment is_open h = (h is_open.way is_open.there).outcome

pub with_point : (b : Board) (lease : Lease) (fragment : Fragment) (x : List Rational) → IsFragmentAt b lease fragment → fragment.found ≡ Some x → IsFragmentAt b lease (record { tree = fragment.tree; found = Some x })
with_point b lease fragment x h is = subst (λ (o : Option (List Rational)). IsFragmentAt b lease (record { tree = fragment.tree; found = o })) is h

-- ---- after a point was offered

pub point_at : (b : Board) (lease : Lease) (x : List Rational) (t : Tree) → IsOpen b.tree lease → IsFragmentAt b lease (record { tree = t; found = Some x }) → IsBetterPoint b.problem lease.best x
point_at b lease x t is_open h = (h is_open.way is_open.there).found

is_better : (p : Problem) (best : Option (List Rational)) (b : Option Rational) (x : List Rational) → b ≡ option_map (objective_value p) best → Beats p b x → objective_value p (better_of p best x) ≡ objective_value p x
is_better p None b x e h = refl
is_better p (Some y) b x e h =
    let B : Option Rational → Type 0 = λ o. Beats p o x in
    ap (λ t. objective_value p (cond t x y)) (true_less _ _ (subst B e h))

-- the tree stands against the value of the point
pub stands_then : (b : Board) (lease : Lease) (x : List Rational) (t : Tree) (best : Option Rational) (c : Board) → IsOpen b.tree lease → lease.best ≡ value_of b → IsFragmentAt b lease (record { tree = t; found = Some x }) → IsOffer b seat x best c → MayStand c lease t
stands_then b lease x t best c is_open is_best h o =
    let point = point_at b lease x t is_open h in
    let value : Some (objective_value b.problem x) ≡ Some (objective_value b.problem (better_of b.problem b.best x)) = ap Some (sym (is_better b.problem b.best lease.best x is_best point.beats)) in
    subst (λ (d : Board). MayStand d lease t) (sym o.new) (λ way there.
    subst (λ (goal : Option Rational). IsHonestTree b.problem b.cuts b.pivot_limit (sides_to b.tree way []) lease.best goal t) value (h way there).tree)

pub open_then : (b : Board) (lease : Lease) (x : List Rational) (best : Option Rational) (c : Board) → IsOpen b.tree lease → IsOffer b seat x best c → IsOpen c.tree lease
open_then b lease x best c is_open o = subst (λ (d : Board). IsOpen d.tree lease) (sym o.new) is_open

-- ---- faults

pub fault_on : {A : Type 0} (r : Result A LeafFault) (b : Board) (p : Problem) (ds : List Derived) (pivots : ℕ) → p ≡ b.problem → ds ≡ b.cuts → b.pivot_limit ≡ pivots → IfErr r (IsLeafFault p ds b.split_limit pivots) → IfErr r (IsLeafFault b.problem b.cuts b.split_limit b.pivot_limit)
fault_on r b p ds pivots problem cuts limit h =
    let P : Problem → Type 0 = λ q. IfErr r (IsLeafFault q ds b.split_limit pivots) in
    let D : List Derived → Type 0 = λ cs. IfErr r (IsLeafFault b.problem cs b.split_limit pivots) in
    let L : ℕ → Type 0 = λ n. IfErr r (IsLeafFault b.problem b.cuts b.split_limit n) in
    subst L (sym limit) (subst D cuts (subst P problem h))
