-- What the enums of the code stand for.
use Rattle.verdicts.specs.Certificate.{Version as VersionOf, Verdict as VerdictOf, Proof as ProofOf, TreeNode as NodeOf}
use Rattle.verdicts.specs.Certificate as of
use Rattle.certificate.specs.declared.certificate.Version.{Version}
use Rattle.certificate.specs.declared.certificate.Version.TheVariants.{One, Two}
use Rattle.certificate.specs.declared.certificate.Verdict.{Verdict}
use Rattle.certificate.specs.declared.certificate.Verdict.TheVariants.{Optimal, Infeasible, Unbounded}
use Rattle.certificate.specs.declared.derived.Proof.{Proof}
use Rattle.certificate.specs.declared.derived.Proof.TheVariants.{Plain, BySplit}
use Rattle.certificate.specs.declared.tree.TreeNode.{TreeNode}
use Rattle.certificate.specs.declared.tree.TreeNode.TheVariants.{Branch, Empty, Bound}

abbrev pub version_of : Version → VersionOf
version_of One = of.One
version_of Two = of.Two

abbrev pub verdict_of : Verdict → VerdictOf
verdict_of Optimal = of.Optimal
verdict_of Infeasible = of.Infeasible
verdict_of Unbounded = of.Unbounded

abbrev pub proof_of : Proof → ProofOf
proof_of (Plain w) = of.Plain w
proof_of (BySplit s) = of.BySplit s

abbrev pub node_of : TreeNode → NodeOf
node_of (Branch s) = of.Branch s
node_of (Empty w) = of.Empty w
node_of (Bound w) = of.Bound w
