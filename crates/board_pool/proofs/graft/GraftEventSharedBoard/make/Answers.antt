use Rattle.std.proofs.Common.{sym, subst, List}
use Rattle.certificate.specs.declared.split.Side.{Side}
use Rattle.search_tree.specs.declared.leaf.Lease.{Lease}
use Rattle.search_tree.specs.Steps.{MayGraft, IsGraft}
use Rattle.board_pool.proofs.EventsOnce.{grafts_once}
use Rattle.board_pool.proofs.Grafts.{may_graft}
use Rattle.board_pool.proofs.graft.GraftEventSharedBoard.make.Goals as goal

pub graft-requires : goal.graft-requires
graft-requires c =
    let r = c.requires in
    let P : Lease → Type 0 = λ lease. (way : List Side) × MayGraft c.args.machine.now way lease c.args.self.tree in
    subst P (sym c.copy.ensures) (may_graft c.kept_boards.ensures.steps r.1 c.args.machine.now r.0 c.args.self.lease c.args.self.tree r.3 r.4)

pub returns-in-Ok-clause-one : goal.returns-in-Ok-clause-one
returns-in-Ok-clause-one c = λ spans first has of may.
    let P : Lease → Type 0 = λ lease. IsGraft c.args.machine.now c.args.seat lease c.args.self.tree c.in-Ok.best c.graft.new.self in
    grafts_once spans c.args.seat first c.args.machine.now c.graft.new.self c.args.self.lease c.args.self.tree c.in-Ok.best has of may (subst P c.copy.ensures c.in-Ok.ensures.ok) c.keeps_its_log.ensures
