use Rattle.std.proofs.Common.{◌∙◌, length, ap}
use Rattle.partial_certificate.proofs.Marking.{marked_count}
use Rattle.partial_certificate.proofs.tree.PartialTree.len.Goals as goal

pub returns : goal.returns
returns c = record { count = c.len.ensures ∙ c.self.inside.marks.ok.0 ∙ marked_count c.self.inside.marks.items c.self.inside.tree c.self.invariant ∙ ap length c.self.view_is }
