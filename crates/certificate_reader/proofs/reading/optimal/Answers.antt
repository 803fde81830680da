use Rattle.certificate.specs.Values.{version_of}
use Rattle.certificate_reader.proofs.LinesTaken.{point_size, shown_tree}
use Rattle.certificate_reader.proofs.reading.optimal.Goals as goal

pub optimal-requires-clause-size : goal.optimal-requires-clause-size
optimal-requires-clause-size c = point_size _ c.args.columns c.value_line.new.lines c.in_ok-point.point c.point_line.new.lines c.in_ok-point.ensures.point

pub optimal-requires-clause-tree : goal.optimal-requires-clause-tree
optimal-requires-clause-tree c = (shown_tree (version_of c.args.version) c.point_line.new.lines (record { derived = c.in_ok-derived.derived; tree = c.in_ok-derived.tree }, c.shown.new.lines) c.in_ok-derived.ensures).0

pub optimal-requires-clause-lines : goal.optimal-requires-clause-lines
optimal-requires-clause-lines c = (shown_tree (version_of c.args.version) c.point_line.new.lines (record { derived = c.in_ok-derived.derived; tree = c.in_ok-derived.tree }, c.shown.new.lines) c.in_ok-derived.ensures).1
