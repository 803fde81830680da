use Rattle.std.proofs.Common.{arith, ◌-◌}
use Rattle.std.proofs.lemmas.Result.{err_from_is_err_and}
use Rattle.certificate.specs.Values.{version_of, node_of}
use Rattle.certificate.specs.Written.{open_after}
use Rattle.certificate_reader.specs.Reading.{nodes_at, node_in}
use Rattle.certificate_reader.proofs.LinesTaken.{nodes_more, nodes_fault, nodes_all, line_takes, open_after-le}
use Rattle.certificate_reader.proofs.reading.tree.Goals as goal

pub returns-in_err-node : goal.returns-in_err-node
returns-in_err-node c =
    let p = err_from_is_err_and c.from_residual.result c.from_residual.ensures.1 in
    rw (p.1, p.2) (nodes_fault (node_in (version_of c.args.version)) open_after c.in_err-node.field-0.0 c.loop-open.open c.loop-open.tree c.loop-open.lines _ c.loop-open-test.true c.in_err-node.ensures c.loop-open.invariant.read)

pub loop-open-preserved : goal.loop-open-preserved
loop-open-preserved c =
    let more = nodes_more (node_in (version_of c.args.version)) open_after c.loop-open.open c.loop-open.tree c.loop-open.lines (node_of c.in_ok-node.node) c.node_line.new.lines (nodes_at (version_of c.args.version) 1 c.args.lines.now) c.loop-open-test.true c.in_ok-node.ensures c.loop-open.invariant.read in
    let t = line_takes (node_in (version_of c.args.version)) c.loop-open.lines (node_of c.in_ok-node.node) c.node_line.new.lines c.in_ok-node.ensures in
    let least = open_after-le (node_of c.in_ok-node.node) (c.loop-open.open - 1) in
    record { read = rw (c.in_ok-push.ensures.ok, c.open_places-open.ensures.places) more; few = rw c.open_places-open.ensures.places (omega (arith, least, t.line, c.loop-open.invariant.few, c.loop-open-test.true)) }

pub returns : goal.returns
returns c = nodes_all (node_in (version_of c.args.version)) open_after c.loop-open.open c.loop-open.tree c.loop-open.lines (nodes_at (version_of c.args.version) 1 c.args.lines.now) (omega arith) c.loop-open.invariant.read
