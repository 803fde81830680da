-- What is known of one member changes.
use Rattle.std.proofs.Common.{List, ap, sym, subst, ◌∙◌, ◌<◌, length}
use Rattle.indexmap.specs.IndexSet.{keys}
use Rattle.gmpl_rows.specs.MemberColumn.{MemberColumn, with_cell}
use Rattle.gmpl_rows.specs.Demanded.{Demanded, give}
use Rattle.gmpl_rows.proofs.Places.{set-changed}
use Rattle.gmpl_rows.proofs.demanded.Demanded.give.Goals as goal

pub returns : goal.returns
returns c =
    let Old : Demanded → Type 0 = λ d. c.args.place < length d.columns in
    let there = subst Old (sym c.self.view_is) c.requires in
    let columns = set-changed (with_cell c.args.cell) c.self.inside.columns.items c.args.place c.index_mut.result.now c.push.new.self there c.index_mut.ensures.value c.in_ok-push.ensures.ok in
    let Made : List MemberColumn → Demanded = λ ks. record { members = keys c.self.inside.members; columns = ks } in
    record { ok = ap Made columns ∙ ap (give c.args.place c.args.cell) c.self.view_is }
