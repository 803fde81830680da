-- What the simplex method tells of a node.
use Rattle.std.specs.Prelude.{ℕ, ◌≡◌, List}
use Rattle.milp.specs.Problem.{Problem}
use Rattle.verdicts.specs.Certificate.{Side, Derived}
use Rattle.basis.specs.Node.{system_of}
use Rattle.basis.specs.Operations.{IsNodeOperation}
use Rattle.basis.specs.Relaxation.{IsOptimalRelaxation, IsInfeasibleRelaxation, IsUnboundedRelaxation}
use Rattle.basis.specs.declared.Place.{Place}
use Rattle.basis.specs.declared.Place.TheVariants.{Basic, AtLower, AtUpper, AtZero}
use Rattle.fraction.specs.Answers.{DoesNotFit}
use Rattle.fraction.specs.declared.frac.NoFit.{NoFit}
use Rattle.search_node.specs.Sides.{sides_of}
use Rattle.search_node.specs.declared.node.Node.{Node}
use Rattle.search_node.specs.declared.fault.Site.{Site}
use Rattle.search_node.specs.declared.fault.Stuck.{Stuck}
use Rattle.search_node.specs.declared.fault.Stuck.TheVariants as S
use Rattle.dictionary.specs.Table.{dictionary_of, operation_of}
use Rattle.simplex.specs.Run.{IsLimited}
use Rattle.dictionary.specs.declared.fault.Fault.{Fault}
use Rattle.dictionary.specs.declared.fault.Fault.TheVariants as F
use Rattle.simplex.specs.declared.runs.RunFault.{RunFault}
use Rattle.simplex.specs.declared.runs.RunFault.TheVariants as R
use Rattle.simplex.specs.declared.answers.Relaxed.{Relaxed}
use Rattle.simplex.specs.declared.answers.Relaxed.TheVariants.{Optimal, Infeasible, Unbounded}
use Rattle.simplex.specs.declared.weights.Source.{Source}
use Rattle.simplex.specs.declared.weights.Source.TheVariants.{Row, MinusRow}

-- what is found holds of the node
abbrev pub IsRelaxed : Problem → List Derived → List Side → Relaxed → Type 0
IsRelaxed p ds sides (Optimal best) = IsOptimalRelaxation p ds sides best.point best.weights best.dictionary.places (dictionary_of best.dictionary)
IsRelaxed p ds sides (Infeasible w) = IsInfeasibleRelaxation p ds sides w
IsRelaxed p ds sides (Unbounded endless) = IsUnboundedRelaxation p ds sides endless.point endless.ray

-- e is an operation of the simplex method at the node, and does not fit
pub record IsNodeFault (p : Problem) (ds : List Derived) (sides : List Side) (e : NoFit) : Type 0 where
  pub operation : IsNodeOperation p ds sides e.a (operation_of e.op) e.b
  pub not_fit : DoesNotFit e

-- why the run at the node does not end
abbrev pub IsNodeStop : Problem → List Derived → List Side → ℕ → RunFault → Type 0
IsNodeStop p ds sides limit (R.NoFit f) = IsNodeFault p ds sides f
IsNodeStop p ds sides limit (R.PivotLimit bases) = IsLimited (system_of p ds sides) limit bases
IsNodeStop p ds sides limit R.NoMemory = Unit {0}

-- the site is at the node, and its operation is one of the simplex method there and does not fit
pub record IsSiteOf (p : Problem) (ds : List Derived) (node : Node) (site : Site) : Type 0 where
  pub same_node : site.node ≡ node
  pub fault : IsNodeFault p ds (sides_of node.splits) site.fault

-- why the node's relaxation is not solved
abbrev pub IsStuck : Problem → List Derived → Node → ℕ → Stuck → Type 0
IsStuck p ds node limit (S.NoFit site) = IsSiteOf p ds node site
IsStuck p ds node limit (S.PivotLimit bases) = IsLimited (system_of p ds (sides_of node.splits)) limit bases
IsStuck p ds node limit S.NoMemory = Unit {0}

-- it is not a limit of steps that stopped the work
abbrev pub IsUnlimited : Stuck → Type 0
IsUnlimited (S.NoFit site) = Unit {0}
IsUnlimited (S.PivotLimit bases) = ⊥
IsUnlimited S.NoMemory = Unit {0}

-- a fault beside the run, as one of the run
abbrev pub stop_of : Fault → RunFault
stop_of (F.NoFit f) = R.NoFit f
stop_of F.NoMemory = R.NoMemory

-- the numbers that are the weights of a blocked row: those of the row where the lower bound is passed, and else those times -1
abbrev pub source_of : Place → ℕ → Source
source_of Basic r = MinusRow r
source_of AtLower r = Row r
source_of AtUpper r = MinusRow r
source_of AtZero r = MinusRow r
