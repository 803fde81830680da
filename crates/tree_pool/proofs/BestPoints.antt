-- What a kept board's best point, and its value, are.
use Rattle.std.proofs.Common.{◌≡◌, ◌∙◌, ℕ, List, length, refl, sym, ap, is_some, option_map, Option, Some, None, IfSome}
use Rattle.rational.specs.Rational.{Rational}
use Rattle.milp.specs.Problem.{Problem}
use Rattle.milp.specs.Points.{Feasible, objective_value}
use Rattle.partial_certificate.specs.Written.{HasSize}
use Rattle.search_tree.specs.Kept.{HasSums}
use Rattle.tree_pool.specs.Shown.{reached, with_value}

pub best_size : (p : Problem) (best : Option (List Rational)) (n : ℕ) → n ≡ length p.columns → IfSome best (λ x. Feasible p x × HasSums p x) → IfSome best (λ x. length x ≡ n)
best_size p None n e h = tt
best_size p (Some x) n e h = h.0.relaxed.size ∙ sym e

pub best_known : (p : Problem) (best : Option (List Rational)) (value : Option Rational) → value ≡ option_map (objective_value p) best → is_some value ≡ is_some best
best_known p None value e = ap is_some e
best_known p (Some x) value e = ap is_some e

pub best_reached : (p : Problem) (best : Option (List Rational)) (value : Option Rational) → value ≡ option_map (objective_value p) best → with_value best value ≡ option_map (reached p) best
best_reached p None value e = refl
best_reached p (Some x) value e = ap (with_value (Some x)) e

pub reached_size : (p : Problem) (best : Option (List Rational)) (n : ℕ) → n ≡ length p.columns → IfSome best (λ x. Feasible p x × HasSums p x) → IfSome (option_map (reached p) best) (HasSize n)
reached_size p None n e h = tt
reached_size p (Some x) n e h = h.0.relaxed.size ∙ sym e
