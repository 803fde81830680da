-- What is known after a point was offered.
use Rattle.std.proofs.Common.{ℕ, ◌≡◌, ◌∙◌, List, [], ◌∷◌, ◌++◌, cond, Bool, true, false, Option, Some, None, refl, sym, ap, subst}
use Rattle.std.specs.Option.{IfSome}
use Rattle.rational.specs.Rational.{Rational, ◌≤ℚ◌, ◌*ℚ◌}
use Rattle.rational.specs.Compare.{is_less}
use Rattle.rational.proofs.Laws.{le_refl, less_false}
use Rattle.milp.specs.Problem.{Problem}
use Rattle.milp.specs.Points.{objective_value, sign_of}
use Rattle.verdicts.specs.Certificate.{Side as SideOf}
use Rattle.turn_pool.specs.Calls.{Called}
use Rattle.search_tree.specs.declared.leaf.Lease.{Lease}
use Rattle.search_tree.specs.declared.event.Event.TheVariants.{Offering}
use Rattle.search_tree.specs.declared.event.Reply.TheVariants.{Best}
use Rattle.search_tree.specs.declared.event.Entry.{Entry}
use Rattle.search_tree.specs.Board.{Board, IsTold, better_of}
use Rattle.search_tree.specs.Kept.{IsNoBetter}
use Rattle.search_tree.specs.Steps.{IsOffer}
use Rattle.board_pool.specs.Touched.{touched}
use Rattle.board_pool.specs.Searches.{log_of, IsOfSearch}
use Rattle.board_pool.specs.OpenLeases.{IsLeasedBelow}
use Rattle.shared_search.specs.Holders.{first_of, after_tries}
use Rattle.shared_search.specs.Leaves.{IsOffered}
use Rattle.shared_search.proofs.Views.{BoardView}
use Rattle.shared_search.proofs.LeavesPut.{all_told}

-- an offer of the pass leaves a lease open
abbrev pub OfferLeavesOpen : Type 0
OfferLeavesOpen = (v w : BoardView) (x : List Rational) (best : Option Rational) (lease : Lease) (sides : List SideOf) → Called touched log_of IsOfSearch (λ seat b (told : Option Rational) c. IsOffer b seat x told c) v best w
    → IsLeasedBelow v.key.first.value v.spans v.seen lease sides → IsLeasedBelow v.key.first.value w.spans w.seen lease sides

-- the better one of two points is no worse than either
no_worse_by : (p : Problem) (x y : List Rational) (b : Bool) → is_less (sign_of p.direction *ℚ objective_value p x) (sign_of p.direction *ℚ objective_value p y) ≡ b
    → sign_of p.direction *ℚ objective_value p (cond b x y) ≤ℚ sign_of p.direction *ℚ objective_value p x
no_worse_by p x y true is = le_refl _
no_worse_by p x y false is = less_false _ _ is

no_worse : (p : Problem) (best : Option (List Rational)) (x : List Rational) → IsNoBetter p (Some (objective_value p (better_of p best x))) (objective_value p x)
no_worse p None x = le_refl _
no_worse p (Some y) x = no_worse_by p x y (is_less (sign_of p.direction *ℚ objective_value p x) (sign_of p.direction *ℚ objective_value p y)) refl

pub offer_tells : OfferLeavesOpen → (v w : BoardView) (tries : List ℕ) (x : List Rational) (best : Option Rational) → Called touched log_of IsOfSearch (λ seat b (told : Option Rational) c. IsOffer b seat x told c) (after_tries v tries) best w → IsOffered v x best w
offer_tells leaves v w tries x best c =
    let first = first_of v in
    let e = c.event in
    let problem : c.before.problem ≡ first.problem = sym (ap (λ (b : Board). b.problem) e.new) ∙ c.replay.problem in
    let log : w.seen ≡ c.before.log ++ record { event = Offering v.own x; reply = Best best } ∷ [] = ap (λ (y : BoardView). y.seen) c.sees ∙ ap log_of e.new in
    let same : first_of w ≡ first = ap (λ (y : BoardView). first_of y) c.sees in
    record {
      is_told = subst (λ (l : List Entry). IfSome best (λ u. IsTold u l)) (sym log) (all_told c.before.log [] (record { event = Offering v.own x; reply = Best best }) best refl);
      no_worse = subst (λ (p : Problem). IsNoBetter p best (objective_value p x)) problem (subst (λ (o : Option Rational). IsNoBetter c.before.problem o (objective_value c.before.problem x)) (sym e.is_best) (no_worse c.before.problem c.before.best x));
      leases = λ lease sides is_open. subst (λ (b : Board). IsLeasedBelow b w.spans w.seen lease sides) (sym same) (leaves (after_tries v tries) w x best lease sides c is_open);
    }
