-- One more number in a row.
use Rattle.std.proofs.Common.{◌≡◌, ◌<◌, nat_le, false, arith}
use Rattle.mps_draft.specs.Declaration.{entry_count}
use Rattle.mps_draft.proofs.Kept.{added-keeps, room-below}
use Rattle.mps_draft.proofs.draft.Draft.add_entry.Goals as goal

pub invariant_of-self-2 : goal.invariant_of-self-2
invariant_of-self-2 c =
    let k = c.self.invariant.0 in
    let room : nat_le c.args.most c.self.inside.entry_count ≡ false → entry_count c.self.inside.rows < 20_000_000 = λ e. let less = room-below c.args.most c.self.inside.entry_count c.requires e in omega (arith, less, k.counted) in
    (rw c.entries_of-more.ensures.value (added-keeps k c.args.name.now (nat_le c.args.most c.self.inside.entry_count) c.args.number c.add_entry.new.self room (rw c.len-columns.ensures.len at c.in_ok-add_entry.ensures.follows)), c.self.invariant.1)
