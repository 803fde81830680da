use Rattle.search_node.specs.Sides.{sides_of}
use Rattle.simplex.proofs.NodeEnds.{made_blocked}
use Rattle.simplex.proofs.answers.blocked.Goals as goal

pub returns : goal.returns
returns c =
    made_blocked c.args.instance.now c.args.derived.now (sides_of c.args.node.now.splits) c.args.ended.now.dictionary c.args.ended.now.values.items c.args.r c.args.place c.blocking_source-source.result c.in_ok-weights.field-0 c.requires c.blocking_source-source.ensures
    c.in_ok-weights.ensures
