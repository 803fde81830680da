use Rattle.std.proofs.Common.{◌∙◌, length, ap}
use Rattle.milp.specs.Form.{number_at}
use Rattle.search_node.specs.Sides.{sides_of}
use Rattle.basis.specs.Weights.{numbers_from}
use Rattle.simplex.proofs.NodeEnds.{made_optimal}
use Rattle.simplex.proofs.answers.optimal.Goals as goal

pub returns : goal.returns
returns c =
    made_optimal c.args.instance.now c.args.derived.now (sides_of c.args.node.now.splits) c.args.ended.dictionary c.args.ended.values.items c.in_ok-point.point c.in_ok-weights.weights c.requires
    (c.in_ok-point.ensures ∙ ap (λ values. numbers_from 0 (length c.columns.result.now) (number_at values)) c.deref.ensures.value ∙ ap (λ columns. numbers_from 0 (length columns) (number_at c.args.ended.values.items)) c.columns.ensures) c.in_ok-weights.ensures
