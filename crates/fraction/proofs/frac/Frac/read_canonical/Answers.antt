use Rattle.std.proofs.Common.{◌≡◌, ◌∙◌, sym, ap, subst, Ok}
use Rattle.std.specs.Prelude.{IsTrue, ◌↔◌}
use Rattle.fraction.specs.Fits.{fits}
use Rattle.fraction.specs.Text.{text_of}
use Rattle.fraction.specs.Canonical.{read_canonical_of}
use Rattle.fraction.proofs.CanonicalLaw.{exact_of}
use Rattle.fraction.proofs.frac.Frac.read_canonical.Goals as goal

pub returns-clause-exact : goal.returns-clause-exact
returns-clause-exact c = λ q.
    subst (λ r. (r ≡ Ok q) ↔ (IsTrue (fits q) × (c.args.text.now ≡ text_of q))) (sym (c.canonical_fraction.ensures ∙ ap read_canonical_of c.as_bytes.ensures.value)) (exact_of c.args.text.now q)
