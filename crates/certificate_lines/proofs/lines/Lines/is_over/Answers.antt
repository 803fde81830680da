use Rattle.std.proofs.Common.{◌∙◌, sym}
use Rattle.certificate_lines.proofs.Pieces.{nil-length, over_is}
use Rattle.certificate_lines.proofs.lines.Lines.is_over.Goals as goal

pub returns-else-not-self : goal.returns-else-not-self
returns-else-not-self c = c.is_empty.ensures ∙ sym (nil-length c.self.inside.bytes.now) ∙ over_is c.args.self.now c.self.inside.number c.self.inside.more c.self.inside.bytes.now c.self.view_is c.if-not-self.false
