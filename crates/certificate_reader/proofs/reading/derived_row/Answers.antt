use Rattle.certificate_reader.proofs.LinesTaken.{derive_form, proof_head}
use Rattle.certificate_reader.proofs.reading.derived_row.Goals as goal

pub proof_of_head-requires : goal.proof_of_head-requires
proof_of_head-requires c = proof_head c.derive_line.new.lines _ c.proof_line.new.lines c.in_ok-head.ensures

pub new-requires : goal.new-requires
new-requires c = derive_form c.args.lines.now (c.in_ok-bound.bound, c.in_ok-bound.form) c.derive_line.new.lines c.in_ok-bound.ensures
