use Rattle.std.proofs.Common.{take, IsTrue}
use Rattle.std.specs.List.{AllByRecursion}
use Rattle.fraction.specs.Fits.{fits}
use Rattle.certificate.proofs.derived.entries_fit.Given as goal

abbrev pub invariant-loop-entry : goal.invariant-loop-entry
invariant-loop-entry l = AllByRecursion (λ e. IsTrue (fits e.coefficient)) (take l.entry-index l.form)
