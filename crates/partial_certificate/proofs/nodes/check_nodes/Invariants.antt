use Rattle.std.proofs.Common.{◌≡◌, ◌≤◌, ◌+◌, ◌-◌, length, map, [], ◌∷◌}
use Rattle.cert_check.specs.Outcome.{outcome}
use Rattle.partial_certificate.specs.Partial.{shape}
use Rattle.partial_certificate.specs.Outcome.{node_trials}
use Rattle.partial_certificate.proofs.Steps.{left}
use Rattle.partial_certificate.proofs.nodes.check_nodes.Given as goal

abbrev pub invariant-loop-k : goal.invariant-loop-k
invariant-loop-k l = record { within : l.k ≤ length l.tree; few : l.places ≤ l.k + 1; here : l.way ≡ record { nodes = map shape l.tree; place = l.k }; same : left l.problem l.goal l.derived l.tree l.k l.places ≡ outcome (node_trials l.problem l.goal l.derived 1 ([] ∷ []) l.tree) }

abbrev pub decreases-loop-k : goal.decreases-loop-k
decreases-loop-k l = length l.tree - l.k
