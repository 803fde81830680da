-- How many bases a run goes through.
use Rattle.std.proofs.Common.{suc, ◌+◌, ◌-◌, ◌<◌, ◌≤◌, ◌≡◌, List, length, ap, arith}
use Rattle.std.specs.Prelude.{◌^◌}
use Rattle.rational.specs.Rational.{Rational}
use Rattle.basis.specs.System.{System, size}
use Rattle.basis.specs.declared.Place.{Place}
use Rattle.bland_ends.proofs.Laws.{runs_are_few}
use Rattle.dictionary.specs.Table.{Table}
use Rattle.simplex.specs.Steps.{IsReached, IsAt}
use Rattle.simplex.specs.declared.state.State.{State}

bases_are_few : (s : System) (t : Table) (xs : List Rational) (bases : List (List Place)) → IsReached s t xs bases → length bases ≤ 4 ^ size s
bases_are_few s t xs bases h =
    let few = runs_are_few s t.places h.before h.is_state.is_run in
    let all = ap length h.all in
    omega arith

-- each step leaves fewer bases to come
pub fewer_left : (s : System) (old new : State) → IsAt s new × (length new.bases ≡ length old.bases + 1) → suc (4 ^ size s) - length new.bases < suc (4 ^ size s) - length old.bases
fewer_left s old new h =
    let few = bases_are_few s new.dictionary new.values.items new.bases h.0 in
    let more = h.1 in
    omega arith
