use Rattle.std.proofs.Common.{◌≤◌, length, arith}
use Rattle.partial_certificate.specs.Values.{partial_of}
use Rattle.row_columns.proofs.RemadePartials.{one_more, all_made}
use Rattle.stopped_search.specs.Stopped.{open_again}
use Rattle.stopped_search.proofs.OpenedAgain.{whole_opened}
use Rattle.stopped_search.proofs.opening.opened_tree.Goals as goal

pub loop-place-preserved : goal.loop-place-preserved
loop-place-preserved c =
    one_more open_again c.args.tree.now c.loop-place.place (partial_of c.node-node.result) c.loop-place.made c.add_opened.new.made _ c.node-node.ensures.node c.in_ok-add_opened.ensures c.loop-place.invariant

pub returns-clause-exact : goal.returns-clause-exact
returns-clause-exact c =
    let size = c.len-place-end.ensures.count in
    let all : length c.args.tree.now ≤ c.loop-place.place = omega (arith, size, c.loop-place-test.false) in
    all_made open_again c.args.tree.now c.loop-place.place c.loop-place.made all c.loop-place.invariant

pub returns-clause-whole : goal.returns-clause-whole
returns-clause-whole c =
    let size = c.len-place-end.ensures.count in
    let all : length c.args.tree.now ≤ c.loop-place.place = omega (arith, size, c.loop-place-test.false) in
    whole_opened c.args.tree.now c.loop-place.made (all_made open_again c.args.tree.now c.loop-place.place c.loop-place.made all c.loop-place.invariant) c.requires
