-- The board of a search: its state, and what an event makes of it.
use Rattle.std.specs.Prelude.{ℕ, ◌+◌, ◌-◌, min, ◌≡◌, ◌⊎◌, List, [], ◌∷◌, ◌++◌, length, Option, Some, None, cond, option_map}
use Rattle.rational.specs.Compare.{is_less}
use Rattle.rational.specs.Rational.{Rational, ◌*ℚ◌}
use Rattle.milp.specs.Problem.{Problem}
use Rattle.milp.specs.Points.{objective_value, sign_of}
use Rattle.verdicts.specs.Certificate.{Derived}
use Rattle.search_tree.specs.declared.event.Event.{Event}
use Rattle.search_tree.specs.declared.event.Reply.{Reply}
use Rattle.search_tree.specs.declared.event.Reply.TheVariants.{Given, StillLeased, Best, Done}
use Rattle.search_tree.specs.declared.event.Entry.{Entry}
use Rattle.search_tree.specs.declared.leaf.Lease.{Lease}
use Rattle.search_tree.specs.Tree.{Tree, made, granted}

-- The cuts are derived rows. The log has the latest entry last.
pub record Board : Type 0 where
  pub problem : Problem
  pub cuts : List Derived
  pub split_limit : ℕ
  pub pivot_limit : ℕ
  pub tree : Tree
  pub best : Option (List Rational)
  pub log : List Entry

-- the value of the best point
abbrev pub value_of : Board → Option Rational
value_of b = option_map (objective_value b.problem) b.best

-- the best value that a reply tells
abbrev pub value_told : Reply → Option Rational
value_told (Given way lease) = lease.best
value_told (StillLeased count) = None
value_told (Best best) = best
value_told Done = None

-- v was told as the best value in a reply of the log
abbrev pub IsTold : Rational → List Entry → Type 0
IsTold v [] = ⊥
IsTold v (e ∷ log) = (value_told e.reply ≡ Some v) ⊎ IsTold v log

-- the board with this tree and best point, after one more event
abbrev pub after : Board → Tree → Option (List Rational) → Event → Reply → Board
after b tree best event reply = record {
  problem = b.problem;
  cuts = b.cuts;
  split_limit = b.split_limit;
  pivot_limit = b.pivot_limit;
  tree = tree;
  best = best;
  log = b.log ++ record { event = event; reply = reply } ∷ [];
}

-- no lease grants more splits
abbrev pub most_granted : ℕ
most_granted = 16

-- the splits that the limit leaves beside those that are made and granted, and at most `most_granted`
abbrev pub next_grant : Board → ℕ
next_grant b = min most_granted (b.split_limit - (made b.tree + granted b.tree))

abbrev pub next_lease : Board → Lease
next_lease b = record { number = length b.log; grant = next_grant b; best = value_of b }

-- the better one of a point and the best one, the best one where they are equal
abbrev pub better_of : Problem → Option (List Rational) → List Rational → List Rational
better_of p None x = x
better_of p (Some y) x = cond (is_less (sign_of p.direction *ℚ objective_value p x) (sign_of p.direction *ℚ objective_value p y)) x y
