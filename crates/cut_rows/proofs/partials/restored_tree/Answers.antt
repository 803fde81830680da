use Rattle.std.proofs.Common.{◌≤◌, length, arith}
use Rattle.partial_certificate.specs.Values.{partial_of}
use Rattle.row_columns.specs.Partials.{on_done}
use Rattle.row_columns.proofs.RemadePartials.{one_more, all_made, whole_made}
use Rattle.cut_rows.specs.Restored.{restored_node}
use Rattle.cut_rows.proofs.RestoredCertificates.{same_opened}
use Rattle.cut_rows.proofs.partials.restored_tree.Goals as goal

pub loop-place-preserved : goal.loop-place-preserved
loop-place-preserved c =
    one_more (on_done (restored_node c.args.problem.now)) c.args.tree.now c.loop-place.place (partial_of c.node-node.result) c.loop-place.made c.add_restored.new.made _ c.node-node.ensures.node c.in_ok-add_restored.ensures c.loop-place.invariant

pub returns-clause-exact : goal.returns-clause-exact
returns-clause-exact c =
    let size = c.len-place-end.ensures.count in
    let all : length c.args.tree.now ≤ c.loop-place.place = omega (arith, size, c.loop-place-test.false) in
    all_made (on_done (restored_node c.args.problem.now)) c.args.tree.now c.loop-place.place c.loop-place.made all c.loop-place.invariant

pub returns-clause-whole : goal.returns-clause-whole
returns-clause-whole c =
    let p = c.args.problem.now in
    let size = c.len-place-end.ensures.count in
    let all : length c.args.tree.now ≤ c.loop-place.place = omega (arith, size, c.loop-place-test.false) in
    whole_made (restored_node p) (same_opened p) c.args.tree.now c.loop-place.made (all_made (on_done (restored_node p)) c.args.tree.now c.loop-place.place c.loop-place.made all c.loop-place.invariant) c.requires
