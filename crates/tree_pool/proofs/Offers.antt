-- A point that is offered: the event, and the best value after it.
use Rattle.std.proofs.Common.{◌≡◌, ◌∙◌, ℕ, List, Bool, true, false, refl, ap, cond, option_map, Option, Some, None, MatchOption, subst}
use Rattle.rational.specs.Rational.{Rational, ◌*ℚ◌}
use Rattle.milp.specs.Problem.{Problem}
use Rattle.milp.specs.Points.{Feasible, objective_value, sign_of}
use Rattle.milp.specs.declared.Direction.{Direction}
use Rattle.rational.specs.Compare.{is_less}
use Rattle.search_tree.specs.declared.event.Event.TheVariants.{Offering}
use Rattle.search_tree.specs.declared.event.Reply.TheVariants.{Best}
use Rattle.search_tree.specs.Board.{Board, after, better_of}
use Rattle.search_tree.specs.Kept.{HasSums}
use Rattle.search_tree.specs.Steps.{IsOffer, IsReplay, opening}
use Rattle.search_tree.proofs.Laws.{one_more}

-- the test of the value, and the best point after it
better_is : (p : Problem) (best : Option (List Rational)) (x : List Rational) (r : Bool) → MatchOption (option_map (objective_value p) best) (r ≡ true) (λ b. r ≡ is_less (sign_of p.direction *ℚ objective_value p x) (sign_of p.direction *ℚ b)) → cond r (Some x) best ≡ Some (better_of p best x)
better_is p None x r h = ap (λ t. cond t (Some x) None) h
better_is p (Some y) x r h = ap (λ t. cond t (Some x) (Some y)) h ∙ either (is_less (sign_of p.direction *ℚ objective_value p x) (sign_of p.direction *ℚ objective_value p y))
  where
    either : (t : Bool) → cond t (Some x) (Some y) ≡ Some (cond t x y)
    either true = refl
    either false = refl

either_value : (p : Problem) (best : Option (List Rational)) (x : List Rational) (r : Bool) → cond r (Some (objective_value p x)) (option_map (objective_value p) best) ≡ option_map (objective_value p) (cond r (Some x) best)
either_value p best x true = refl
either_value p best x false = refl

-- what the program compares is the point's own value and the best one
pub compared : (p : Problem) (best : Option (List Rational)) (x : List Rational) (v : Rational) (told : Option Rational) (direction : Direction) (r : Bool) → v ≡ objective_value p x → told ≡ option_map (objective_value p) best → direction ≡ p.direction
    → MatchOption told (r ≡ true) (λ b. r ≡ is_less (sign_of direction *ℚ v) (sign_of direction *ℚ b)) → cond r (Some x) best ≡ Some (better_of p best x)
compared p best x v told direction r value told_is same h =
    let A : Rational → Type 0 = λ w. MatchOption told (r ≡ true) (λ b. r ≡ is_less (sign_of direction *ℚ w) (sign_of direction *ℚ b)) in
    let B : Option Rational → Type 0 = λ o. MatchOption o (r ≡ true) (λ b. r ≡ is_less (sign_of direction *ℚ objective_value p x) (sign_of direction *ℚ b)) in
    let C : Direction → Type 0 = λ d. MatchOption (option_map (objective_value p) best) (r ≡ true) (λ b. r ≡ is_less (sign_of d *ℚ objective_value p x) (sign_of d *ℚ b)) in
    better_is p best x r (subst C same (subst B told_is (subst A value h)))

pub new_value : (p : Problem) (best : Option (List Rational)) (x : List Rational) (v : Rational) (told : Option Rational) (r : Bool) → v ≡ objective_value p x → told ≡ option_map (objective_value p) best → cond r (Some v) told ≡ option_map (objective_value p) (cond r (Some x) best)
new_value p best x v told r value told_is = ap (λ w. cond r (Some w) told) value ∙ ap (λ o. cond r (Some (objective_value p x)) o) told_is ∙ either_value p best x r

pub offer_is : (b : Board) (seat : ℕ) (x : List Rational) (best : Option Rational) (new : Option (List Rational)) → Feasible b.problem x → HasSums b.problem x → new ≡ Some (better_of b.problem b.best x) → best ≡ option_map (objective_value b.problem) new
    → IsOffer b seat x best (after b b.tree new (Offering seat x) (Best best))
offer_is b seat x best new feasible sums is_new is_best = record {
  feasible = feasible;
  sums = sums;
  is_best = is_best ∙ ap (option_map (objective_value b.problem)) is_new;
  new = ap (λ o. after b b.tree o (Offering seat x) (Best best)) is_new;
}

pub offer_replays : (b : Board) (seat : ℕ) (x : List Rational) (best : Option Rational) (new : Option (List Rational)) → IsReplay b → Feasible b.problem x → HasSums b.problem x → new ≡ Some (better_of b.problem b.best x) → best ≡ option_map (objective_value b.problem) new
    → IsReplay (after b b.tree new (Offering seat x) (Best best))
offer_replays b seat x best new h feasible sums is_new is_best =
    record { cuts = h.cuts; history = one_more (opening b) b.log b (after b b.tree new (Offering seat x) (Best best)) (record { event = Offering seat x; reply = Best best }) h.history (offer_is b seat x best new feasible sums is_new is_best) }
