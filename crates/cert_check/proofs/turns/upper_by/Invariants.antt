use Rattle.std.proofs.Common.{◌≡◌, [], take, reverse}
use Rattle.std.specs.Option.{option_map}
use Rattle.rational.specs.Rational.{whole}
use Rattle.milp.specs.Problem.{Problem}
use Rattle.verdicts.specs.Proves.{upper_under}
use Rattle.cert_check.specs.Walk.{merged_upper}
use Rattle.cert_check.proofs.turns.upper_by.Given as goal

abbrev pub invariant-loop-turn : goal.invariant-loop-turn
invariant-loop-turn l = (p : Problem) → upper_under p (reverse (take l.turn-index l.turns)) l.column ≡ merged_upper (option_map whole l.found) (upper_under p [] l.column)
