-- A bound keeps its column's name.
use Rattle.std.proofs.Common.{◌≡◌, refl}
use Rattle.rational.specs.Rational.{Rational}
use Rattle.milp.specs.Problem.{Column}
use Rattle.mps_draft.specs.declared.bound.BoundKind.{BoundKind}
use Rattle.mps_draft.specs.declared.bound.BoundKind.TheVariants.{Lower, Upper, Fixed, IntegerLower, IntegerUpper, Unbounded, NoLower, NoUpper, Binary}
use Rattle.mps_draft.specs.Bounds.{bounded}

pub bounded-name : (kind : BoundKind) (v : Rational) (c : Column) → (bounded kind v c).name ≡ c.name
bounded-name Lower v c = refl
bounded-name Upper v c = refl
bounded-name Fixed v c = refl
bounded-name IntegerLower v c = refl
bounded-name IntegerUpper v c = refl
bounded-name Unbounded v c = refl
bounded-name NoLower v c = refl
bounded-name NoUpper v c = refl
bounded-name Binary v c = refl
