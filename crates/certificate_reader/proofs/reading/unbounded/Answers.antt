use Rattle.certificate_reader.proofs.LinesTaken.{point_size}
use Rattle.certificate_reader.proofs.reading.unbounded.Goals as goal

pub unbounded-requires-clause-point : goal.unbounded-requires-clause-point
unbounded-requires-clause-point c = point_size _ c.args.columns c.args.lines.now c.in_ok-point.point c.point_line.new.lines c.in_ok-point.ensures.point

pub unbounded-requires-clause-ray : goal.unbounded-requires-clause-ray
unbounded-requires-clause-ray c = point_size _ c.args.columns c.point_line.new.lines c.in_ok-ray.ray c.point_line-2.new.lines c.in_ok-ray.ensures.point
