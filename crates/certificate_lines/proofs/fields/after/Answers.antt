use Rattle.std.proofs.Common.{sym, ap, ◌∙◌}
use Rattle.certificate_lines.proofs.Loops.{texts, drop-map}
use Rattle.certificate_lines.proofs.fields.after.Goals as goal

pub returns-clause-rest : goal.returns-clause-rest
returns-clause-rest c = ap texts c.split_at.ensures.back ∙ sym (drop-map c.args.count c.args.fields.now)
