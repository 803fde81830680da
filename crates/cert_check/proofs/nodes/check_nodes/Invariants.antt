use Rattle.std.proofs.Common.{◌≡◌, ◌≤◌, ◌+◌, ◌-◌, length, [], ◌∷◌}
use Rattle.certificate.specs.Values.{version_of}
use Rattle.cert_check.specs.Outcome.{outcome, node_trials}
use Rattle.cert_check.proofs.Places.{left}
use Rattle.cert_check.proofs.nodes.check_nodes.Given as goal

abbrev pub invariant-loop-k : goal.invariant-loop-k
invariant-loop-k l = record { within : l.k ≤ length l.nodes; few : l.places ≤ l.k + 1; here : l.way ≡ record { nodes = l.initial.way.nodes; place = l.k }; same : left l.problem (version_of l.version) l.goal l.derived l.initial.way.nodes l.k l.places ≡ outcome (node_trials l.problem (version_of l.version) l.goal l.derived 1 ([] ∷ []) l.initial.way.nodes) }

abbrev pub decreases-loop-k : goal.decreases-loop-k
decreases-loop-k l = length l.nodes - l.k
