use Rattle.std.proofs.Common.{arith, ◌-◌}
use Rattle.std.proofs.lemmas.Result.{err_from_is_err_and}
use Rattle.certificate_reader.proofs.LinesTaken.{nodes_more, nodes_fault, nodes_all, line_takes, open_after-le}
use Rattle.partial_certificate.specs.Partial.{shape}
use Rattle.partial_reader.specs.NodeLines.{line_node}
use Rattle.partial_reader.specs.Reading.{partial_node_in, opened, partial_nodes_at}
use Rattle.partial_reader.proofs.reading.tree.Goals as goal

pub returns-in_err-node : goal.returns-in_err-node
returns-in_err-node c =
    let p = err_from_is_err_and c.from_residual.result c.from_residual.ensures.1 in
    rw (p.1, p.2) (nodes_fault partial_node_in opened c.in_err-node.field-0.0 c.loop-open.open c.loop-open.tree c.loop-open.lines _ c.loop-open-test.true c.in_err-node.ensures c.loop-open.invariant.read)

pub loop-open-preserved : goal.loop-open-preserved
loop-open-preserved c =
    let node = line_node c.in_ok-node.node in
    let more = nodes_more partial_node_in opened c.loop-open.open c.loop-open.tree c.loop-open.lines node c.node_line.new.lines (partial_nodes_at 1 c.args.lines.now) c.loop-open-test.true c.in_ok-node.ensures c.loop-open.invariant.read in
    let t = line_takes partial_node_in c.loop-open.lines node c.node_line.new.lines c.in_ok-node.ensures in
    let least = open_after-le (shape node) (c.loop-open.open - 1) in
    record { read = rw (c.in_ok-push.ensures, c.opened-open.ensures) more; few = rw c.opened-open.ensures (omega (arith, least, t.line, c.loop-open.invariant.few, c.loop-open-test.true)) }

pub returns : goal.returns
returns c = nodes_all partial_node_in opened c.loop-open.open c.loop-open.tree c.loop-open.lines (partial_nodes_at 1 c.args.lines.now) (omega arith) c.loop-open.invariant.read
