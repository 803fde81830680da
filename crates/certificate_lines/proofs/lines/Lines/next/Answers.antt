use Rattle.certificate_lines.proofs.Pieces.{next_some}
use Rattle.certificate_lines.proofs.lines.Lines.next.Goals as goal

pub returns-in-Some : goal.returns-in-Some
returns-in-Some c = next_some c.args.self.now c.self.inside.number c.self.inside.more c.self.inside.bytes.now c.in-Some.text.now c.in-Some.rest.now c.self.view_is c.if-not-self.false c.in-Some.ensures.parts
