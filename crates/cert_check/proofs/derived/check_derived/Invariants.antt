use Rattle.std.proofs.Common.{◌≡◌, ◌+◌, [], take, drop}
use Rattle.certificate.specs.Values.{version_of}
use Rattle.cert_check.specs.Outcome.{outcome, derived_trials}
use Rattle.cert_check.proofs.derived.check_derived.Given as goal

abbrev pub invariant-loop-k : goal.invariant-loop-k
invariant-loop-k l = outcome (derived_trials l.problem (version_of l.version) (l.k + 1) (take l.k l.rows) (drop l.k l.rows)) ≡ outcome (derived_trials l.problem (version_of l.version) 1 [] l.rows)
