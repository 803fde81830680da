use Rattle.std.proofs.Common.{◌∙◌, ap, sym, map}
use Rattle.mps_reader.proofs.WholePieces.{pushed}
use Rattle.mps_reader.proofs.lines.add_whole.Goals as goal

pub returns-in_ok-push : goal.returns-in_ok-push
returns-in_ok-push c = ap (map (λ l. l.now)) c.in_ok-push.ensures.items ∙ pushed c.args.fields.now.items c.args.piece (sym c.is_empty.ensures ∙ c.if-not-is_empty.true) c.requires
