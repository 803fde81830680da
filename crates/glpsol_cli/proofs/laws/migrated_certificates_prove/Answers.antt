use Rattle.std.proofs.Common.{◌≡◌, refl}
use Rattle.milp.specs.Problem.{Problem}
use Rattle.verdicts.specs.Certificate.{Certificate, Version, One, Two}
use Rattle.verdicts.specs.Proves.{Proves}
use Rattle.glpsol_cli.specs.Meaning.{from_version}
use Rattle.glpsol_cli.proofs.laws.migrated_certificates_prove.Goals as goal

pub returns : goal.returns
returns c = record { version = λ p d. is_two p d d.version refl; proves = λ p d h. proves p d h d.version refl }
  where
    is_two : (p : Problem) (d : Certificate) (v : Version) → d.version ≡ v → (from_version v p d).version ≡ Two
    is_two p d One e = refl
    is_two p d Two e = e

    proves : (p : Problem) (d : Certificate) → Proves p d → (v : Version) → d.version ≡ v → Proves p (from_version v p d)
    proves p d h One e = c.migrations_prove.ensures p d e h
    proves p d h Two e = h
