use Rattle.search_node.specs.Sides.{sides_of}
use Rattle.simplex.proofs.NodeEnds.{stop_kept, run_stop}
use Rattle.simplex.proofs.answers.run_on.Goals as goal

pub returns-in_err-ended-clause-stop : goal.returns-in_err-ended-clause-stop
returns-in_err-ended-clause-stop c =
    stop_kept c.from_residual.result c.in_err-ended.field-0.0 _ c.from_residual.ensures.1
    (run_stop c.args.instance.now c.args.derived.now (sides_of c.args.node.now.splits) c.args.system.now c.args.pivot_limit c.in_err-ended.field-0.0 c.requires.system c.in_err-ended.ensures.fault)
