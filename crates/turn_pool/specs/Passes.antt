-- What clauses read of a pool and of its passes.
use Rattle.std.specs.Prelude.{◌≡◌}
use Rattle.turn_pool.specs.declared.machine.Machine.{Ghosts}
use Rattle.turn_pool.specs.declared.pass.Pass.{Pass}
use Rattle.turn_pool.specs.declared.pass.Pool.{Pool}
use Rattle.turn_pool.specs.declared.view.Key.{Key}
use Rattle.turn_pool.specs.declared.view.View.{View}

module _ {B E : Type 0} where
  -- what the pool was told when it was made
  abbrev pub key_of : Pool B E → Key B
  key_of pool = pool.table.shared.key

  module _ {g : Ghosts B E} where
    -- what a pass knows
    abbrev pub view_of : Pass B E g → View B E
    view_of pass = pass.seat.me.0

    -- the pass is one to this pool
    abbrev pub IsPassOf : Pool B E → Pass B E g → Type 0
    IsPassOf pool pass = pass.seat.table_id ≡ pool.table.shared.table_id

    -- two passes are to the same pool
    abbrev pub IsSamePool : Pass B E g → Pass B E g → Type 0
    IsSamePool pass other = other.seat.table_id ≡ pass.seat.table_id
