-- What splits and leaves say of their nodes.
use Rattle.std.specs.Prelude.{ℕ, pos, ◌+ℤ◌, ◌≡◌, true, List, Option, Some, None, Ok}
use Rattle.rational.specs.Rational.{Rational, whole, ◌<ℚ◌, ◌*ℚ◌}
use Rattle.milp.specs.Form.{number_at}
use Rattle.milp.specs.Problem.{Problem}
use Rattle.milp.specs.Points.{IsWhole, IsBetter, objective_value, sign_of}
use Rattle.verdicts.specs.Certificate.{Split, Side, Derived, TreeNode, Empty, Bound}
use Rattle.certificate.specs.Written.{column_form, split_column}
use Rattle.basis.specs.Node.{system_of, integer_at, IsNodePoint}
use Rattle.cert_check.specs.Parts.{node_answer}
use Rattle.cert_check.specs.Outcome.{form_goal}
use Rattle.simplex.specs.Run.{IsLimited}
use Rattle.search_tree.specs.Pinned.{IsPinned}
use Rattle.search_tree.specs.Work.{node_setting, IsWorkFault}
use Rattle.search_tree.specs.declared.leaf.Leaf.{Leaf}
use Rattle.search_tree.specs.declared.leaf.Leaf.TheVariants.{Todo, Treated, Leased, Refuted, Bounded, NotFitting, AtLimit}

-- x is a point of the node's relaxation, and none of its points is better
pub record IsRelaxedOptimum (p : Problem) (ds : List Derived) (sides : List Side) (x : List Rational) : Type 0 where
  pub point : IsNodePoint p ds sides x
  pub none_better : (y : List Rational) → IsNodePoint p ds sides y → ¬ (IsBetter p y x)

-- The split is one of an integer column, whose number at an optimal point of the node's relaxation is strictly between its sides, and
-- is told by what rests at that point. So far out on a face of optimal points that has no end there is no honest split: the
-- numbers that can be told so are those of the vertices.
pub record IsHonestSplit (p : Problem) (ds : List Derived) (sides : List Side) (s : Split) : Type 0 where
  pub form : s.form ≡ column_form (split_column s)
  pub integer : integer_at p (split_column s) ≡ true
  pub point : List Rational
  pub is_optimum : IsRelaxedOptimum p ds sides point
  pub pinned : IsPinned (system_of p ds sides) point (split_column s)
  pub above : whole s.at <ℚ number_at point (split_column s)
  pub below : number_at point (split_column s) <ℚ whole (s.at +ℤ pos 1)

-- x is better than the value, or any point where there is none
abbrev pub Beats : Problem → Option Rational → List Rational → Type 0
Beats p None x = Unit {0}
Beats p (Some v) x = sign_of p.direction *ℚ objective_value p x <ℚ sign_of p.direction *ℚ v

-- the node's relaxation has an optimal point that beats the value
pub record IsWorthwhile (p : Problem) (ds : List Derived) (best : Option Rational) (sides : List Side) : Type 0 where
  pub point : List Rational
  pub is_optimum : IsRelaxedOptimum p ds sides point
  pub beats : Beats p best point

-- the node's relaxation has an optimal point that beats the value, and where an integer column isn't whole, as what rests there tells
pub record IsTreated (p : Problem) (ds : List Derived) (sides : List Side) (best : Option Rational) : Type 0 where
  pub point : List Rational
  pub is_optimum : IsRelaxedOptimum p ds sides point
  pub beats : Beats p best point
  pub column : ℕ
  pub integer : integer_at p column ≡ true
  pub pinned : IsPinned (system_of p ds sides) point column
  pub not_whole : ¬ (IsWhole (number_at point column))

-- the checker's test of the node passes, against the value `goal`, and all its operations fit
abbrev pub NodePasses : Problem → Option Rational → List Derived → List Side → TreeNode → Type 0
NodePasses p goal ds sides node = node_answer (node_setting p ds sides) (form_goal p goal) node ≡ Ok true

-- what a leaf says of its node; those that are bounded are tested against the value `goal`
abbrev pub KeepsLeaf : Problem → List Derived → ℕ → Option Rational → List Side → Leaf → Type 0
KeepsLeaf p ds limit goal sides (Todo hint) = Unit {0}
KeepsLeaf p ds limit goal sides (Treated hint) = IsTreated p ds sides None
KeepsLeaf p ds limit goal sides (Leased lease) = Unit {0}
KeepsLeaf p ds limit goal sides (Refuted w) = NodePasses p goal ds sides (Empty w)
KeepsLeaf p ds limit goal sides (Bounded w) = NodePasses p goal ds sides (Bound w)
KeepsLeaf p ds limit goal sides (NotFitting e) = IsWorkFault p ds sides e
KeepsLeaf p ds limit goal sides (AtLimit bases) = IsLimited (system_of p ds sides) limit bases
