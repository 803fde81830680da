use Rattle.certificate.specs.Values.{version_of}
use Rattle.certificate_reader.proofs.LinesTaken.{shown_tree}
use Rattle.certificate_reader.proofs.reading.infeasible.Goals as goal

pub infeasible-requires-clause-tree : goal.infeasible-requires-clause-tree
infeasible-requires-clause-tree c = (shown_tree (version_of c.args.version) c.args.lines.now (record { derived = c.in_ok-derived.derived; tree = c.in_ok-derived.tree }, c.shown.new.lines) c.in_ok-derived.ensures).0

pub infeasible-requires-clause-lines : goal.infeasible-requires-clause-lines
infeasible-requires-clause-lines c = (shown_tree (version_of c.args.version) c.args.lines.now (record { derived = c.in_ok-derived.derived; tree = c.in_ok-derived.tree }, c.shown.new.lines) c.in_ok-derived.ensures).1
