-- What is left of the form.
use Rattle.std.proofs.Common.{◌≡◌, [], drop}
use Rattle.gmpl_generate.specs.Rows as spec
use Rattle.gmpl_generate.proofs.terms.terms_of.Given as goal

abbrev pub invariant-loop-place : goal.invariant-loop-place
invariant-loop-place l = (spec.terms_of l.model l.found.items (drop l.place l.form.terms) ≡ spec.terms_of l.model [] l.form.terms) × (l.context ≡ l.model)
