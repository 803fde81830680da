use Rattle.std.proofs.Common.{◌∙◌, sym}
use Rattle.fraction.specs.Canonical.{quotient_of}
use Rattle.fraction.proofs.CanonicalLemmas.{fraction_kept}
use Rattle.fraction.proofs.canonical.canonical_fraction.Goals as goal

pub returns-in-Some : goal.returns-in-Some
returns-in-Some c = c.fraction.ensures ∙ fraction_kept (quotient_of c.args.text.now) c.in-Some.quotient (sym c.read_quotient.ensures.value ∙ c.in-Some.is)
