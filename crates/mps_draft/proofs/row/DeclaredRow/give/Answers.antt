-- The form stays in order.
use Rattle.std.proofs.Common.{◌<◌, sym, ap, arith}
use Rattle.instance.proofs.Laws.{entries_within}
use Rattle.mps_draft.specs.Declaration.{DeclaredRow}
use Rattle.mps_draft.proofs.Entries.{entries-push}
use Rattle.mps_draft.proofs.row.DeclaredRow.give.Goals as goal
use Rattle.mps_draft.proofs.row.DeclaredRow.give.Goals.{then-not-is_zero+in_ok-push_entry, else-not-is_zero}

pub invariant_of-self-2 : goal.invariant_of-self-2
invariant_of-self-2 c =
    let e = ap (λ (r : DeclaredRow). r.latest) c.self.view_is in
    let later : c.self.inside.latest < c.args.columns = omega (arith, c.requires.later) in
    elim c.if-not-is_zero.branch [
      | then-not-is_zero+in_ok-push_entry w ↦ rw (w.self-inside-is, w.in_ok-push_entry.ensures.added) (entries-push 0 c.self.inside.latest c.args.columns c.args.value (omega arith) later (sym w.if-not-is_zero.ensures) c.self.inside.entries.items c.self.invariant)
      | else-not-is_zero w ↦ rw w.self-inside-is (entries_within 0 c.self.inside.latest c.args.columns (omega arith) c.self.inside.entries.items c.self.invariant)
    ]
