use Rattle.std.proofs.Common.{◌≡◌, ◌∙◌, List, map, ap, subst}
use Rattle.std.specs.List.{AllByRecursion}
use Rattle.verdicts.specs.Certificate.{TreeNode}
use Rattle.certificate.specs.Written.{IsNode}
use Rattle.partial_certificate.specs.Partial.{shape}
use Rattle.partial_certificate.proofs.Marking.{marked_shapes}
use Rattle.partial_certificate.proofs.tree.PartialTree.shapes.Goals as goal

pub returns-clause-nodes : goal.returns-clause-nodes
returns-clause-nodes c = marked_shapes c.self.inside.marks.items c.self.inside.tree c.self.invariant ∙ ap (map shape) c.self.view_is

pub returns-clause-written : goal.returns-clause-written
returns-clause-written c =
    let same : c.self.inside.tree ≡ map shape c.args.self.now = marked_shapes c.self.inside.marks.items c.self.inside.tree c.self.invariant ∙ ap (map shape) c.self.view_is in
    subst (λ (xs : List TreeNode). AllByRecursion IsNode xs) same c.as_slice-nodes.ensures.written
