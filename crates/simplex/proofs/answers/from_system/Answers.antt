use Rattle.search_node.specs.Sides.{sides_of}
use Rattle.simplex.proofs.NodeEnds.{split_stop}
use Rattle.simplex.proofs.answers.from_system.Goals as goal

pub returns-in-Err-clause-stop : goal.returns-in-Err-clause-stop
returns-in-Err-clause-stop c = split_stop c.args.instance.now c.args.derived.now (sides_of c.args.node.now.splits) c.args.pivot_limit c.in-Err.fault c.stop_of.result c.stop_of.ensures c.in-Err.ensures.err
