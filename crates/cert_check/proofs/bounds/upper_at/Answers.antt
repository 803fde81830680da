use Rattle.std.proofs.Common.{subst, arith, Some, Option}
use Rattle.certificate.specs.Ways.{side_of, way, IsLastTurn}
use Rattle.certificate.specs.declared.split.Turn.{Turn}
use Rattle.cert_check.proofs.Walk.{upper_more}
use Rattle.cert_check.proofs.bounds.upper_at.Goals as goal

pub loop-turn-preserved : goal.loop-turn-preserved
loop-turn-preserved c =
    let P : Option Turn → Type 0 = λ t. IsLastTurn c.args.tree.now c.loop-turn.at t in
    let turn : IsLastTurn c.args.tree.now c.loop-turn.at (Some c.in-Some.turn) = subst P c.in-Some.is c.last_turn.ensures in
    record {
      within = omega (arith, turn.0, c.loop-turn.invariant.within);
      left = upper_more c.args.problem.now (side_of c.in-Some.turn.split.now c.in-Some.turn.side) (way c.args.tree.now c.loop-turn.at) (way c.args.tree.now c.in-Some.turn.place) c.args.column c.loop-turn.found c.with_upper-found.result _ turn.1 c.with_upper-found.ensures c.loop-turn.invariant.left;
    }
