-- One member more.
use Rattle.gmpl_rows.proofs.LaidOut.{at-place}
use Rattle.gmpl_rows.proofs.MemberNames.{used-more}
use Rattle.gmpl_rows.proofs.members.push_members.Goals as goal

pub loop-place-preserved : goal.loop-place-preserved
loop-place-preserved c =
    let ms = c.args.demanded.now.members in
    let member = at-place ms c.members-subscripts-items.result.now c.loop-place.place c.subscripts-item.result c.members-subscripts-items.ensures.members c.loop-place-test.true c.subscripts-item.is in
    used-more c.args.statement ms c.args.demanded.now.columns c.loop-place.place _ _ c.loop-place.members.items c.push_used.new.members.items _ member c.column.ensures c.in_ok-push_used.ensures c.loop-place.invariant
