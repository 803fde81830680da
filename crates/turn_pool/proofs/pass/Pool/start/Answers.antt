use Rattle.std.proofs.Common.{rules, ◌≡◌, sym, subst, List, ◌∷◌, [], Some, Option}
use Rattle.atomic_table.specs.Table.{opening}
use Rattle.turn_pool.specs.declared.view.Key.{Key}
use Rattle.turn_pool.specs.Turns.{Kept, opening_view}
use Rattle.turn_pool.proofs.Keeps.{starts}
use Rattle.turn_pool.proofs.pass.Pool.start.Goals as goal

pub new-requires : goal.new-requires
new-requires g c =
    let key : Key g.row.B.Denot = record { first = c.of.result; seats = c.args.seats } in
    let slots : c.push_reserved.new.self.items ≡ Some c.args.machine ∷ [] = search rules in
    subst (λ (xs : List (Option g.row.B.Denot)). Kept g.B.Machine.touched g.B.Machine.log g.B.Machine.replays key (opening (0 ∷ 0 ∷ []) xs (opening_view key))) (sym slots)
    (starts g.B.Machine.touched g.B.Machine.log g.B.Machine.replays key c.args.machine c.requires.machine.0 (search rules) c.requires.seats)
