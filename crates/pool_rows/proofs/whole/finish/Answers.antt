use Rattle.std.proofs.Common.{◌<◌, sym, subst}
use Rattle.turn_pool.specs.declared.view.View.{View}
use Rattle.turn_pool.specs.declared.view.Key.{Key}
use Rattle.turn_pool.specs.Logs.{Has}
use Rattle.turn_pool.specs.Passes.{key_of}
use Rattle.turn_pool.specs.Turns.{held}
use Rattle.pool_rows.specs.Tasks.{Board}
use Rattle.pool_rows.specs.declared.entry.Entry.{Entry}
use Rattle.pool_rows.proofs.Crews.{any_kept, opening_has}
use Rattle.pool_rows.proofs.whole.finish.Goals as goal

pub close-requires-clause-all : goal.close-requires-clause-all
close-requires-clause-all g c = λ k l.
    let key = key_of c.in_ok-pool.pool in
    let below : k < key.seats = subst (λ (x : Key Board). k < x.seats) c.in-Some.ensures.ready.0.1 l in
    let at_start = subst (λ (v : View Board Entry). Has (held v) k) (sym c.in_ok-pool.ensures.view) (opening_has key k below) in
    c.in-Some.ensures.numbers k (any_kept c.in_ok-crew.crew.items c.run_crew.new.crew.items c.run_crew.ensures.numbers k (c.in_ok-crew.ensures.numbers k at_start))
