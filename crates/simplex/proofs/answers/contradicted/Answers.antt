use Rattle.search_node.specs.Sides.{sides_of}
use Rattle.simplex.proofs.NodeEnds.{made_contradicted}
use Rattle.simplex.proofs.answers.contradicted.Goals as goal

pub returns : goal.returns
returns c = made_contradicted c.args.instance.now c.args.derived.now (sides_of c.args.node.now.splits) c.args.v c.in_ok-contradiction_weights.field-0 c.requires c.in_ok-contradiction_weights.ensures
