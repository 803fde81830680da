use Rattle.std.proofs.Common.{◌≡◌, length}
use Rattle.gmpl_functions.specs.Scalings.{scaled_terms}
use Rattle.gmpl_functions.proofs.ScalingSteps.{scaled_from}
use Rattle.gmpl_functions.proofs.form.scale_terms.Given as goal

abbrev pub invariant-loop-place : goal.invariant-loop-place
invariant-loop-place l = record {
  terms : scaled_from l.scaling l.place l.terms.entries ≡ scaled_terms l.scaling l.initial.terms.entries;
  count : length l.terms.entries ≡ length l.initial.terms.entries;
}
