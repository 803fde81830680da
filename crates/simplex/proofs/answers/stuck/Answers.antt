use Rattle.std.proofs.Common.{subst}
use Rattle.search_node.specs.Sides.{sides_of}
use Rattle.simplex.specs.Answer.{IsNodeStop}
use Rattle.simplex.proofs.answers.stuck.Goals as goal

pub returns-in-Ok : goal.returns-in-Ok
returns-in-Ok c = λ p ds limit h. record { same_node = c.in-Ok.ensures; fault = subst (IsNodeStop p ds (sides_of c.args.node.now.splits) limit) c.in-NoFit.is h }
