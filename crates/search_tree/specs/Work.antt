-- What stops the work at a node.
use Rattle.std.specs.Prelude.{◌≡◌, List, Option, Some, Err}
use Rattle.rational.specs.Rational.{Rational}
use Rattle.milp.specs.Problem.{Problem}
use Rattle.fraction.specs.declared.frac.NoFit.{NoFit}
use Rattle.instance.specs.Sums.{value_answer}
use Rattle.verdicts.specs.Certificate.{Two, Side, Weights, Derived, Empty, Bound}
use Rattle.verdicts.specs.Migrated.{named}
use Rattle.basis.specs.Dictionary.{Dictionary}
use Rattle.basis.specs.Relaxation.{IsOptimalRelaxation, IsInfeasibleRelaxation, IsUnboundedRelaxation}
use Rattle.basis.specs.declared.Place.{Place}
use Rattle.cert_check.specs.Setting.{Setting}
use Rattle.cert_check.specs.Parts.{point_answer, ray_answer, node_answer}
use Rattle.simplex.specs.Answer.{IsNodeFault}

-- what the weights of a certificate's leaf stand on at a node: those of its splits among them
abbrev pub node_setting : Problem → List Derived → List Side → Setting
node_setting p ds sides = record { version = Two; problem = p; derived = ds; sides = sides }

-- e is an operation of the work at a node, and does not fit: one of the simplex method there, or the first that does not
-- fit in a test of what the method finds: of an optimal point, its value and its weights at a leaf, of the weights at an empty
-- leaf, of the ray of an unbounded node. At a leaf the weights name the splits on the way.
pub data IsWorkFault (p : Problem) (ds : List Derived) (sides : List Side) (e : NoFit) : Type 0 where
  in_method : IsNodeFault p ds sides e → IsWorkFault p ds sides e
  in_value : (x : List Rational) (w : Weights) (b : List Place) (d : Dictionary) → IsOptimalRelaxation p ds sides x w b d → value_answer p x ≡ Err e → IsWorkFault p ds sides e
  in_point : (x : List Rational) (w : Weights) (b : List Place) (d : Dictionary) → IsOptimalRelaxation p ds sides x w b d → point_answer p (Some x) ≡ Err e → IsWorkFault p ds sides e
  in_bound : (x : List Rational) (w : Weights) (b : List Place) (d : Dictionary) (goal : Option Rational) → IsOptimalRelaxation p ds sides x w b d → node_answer (node_setting p ds sides) goal (Bound (named p sides w)) ≡ Err e → IsWorkFault p ds sides e
  in_empty : (w : Weights) (goal : Option Rational) → IsInfeasibleRelaxation p ds sides w → node_answer (node_setting p ds sides) goal (Empty (named p sides w)) ≡ Err e → IsWorkFault p ds sides e
  in_ray : (x ray : List Rational) → IsUnboundedRelaxation p ds sides x ray → ray_answer p (Some ray) ≡ Err e → IsWorkFault p ds sides e
