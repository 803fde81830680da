use Rattle.std.proofs.Common.{◌≡◌, [], take, reverse, Ok}
use Rattle.std.specs.Option.{option_map}
use Rattle.rational.specs.Rational.{whole}
use Rattle.milp.specs.Problem.{Problem}
use Rattle.verdicts.specs.Proves.{lower_under}
use Rattle.cert_check.specs.Sums.{lower_answer}
use Rattle.cert_check.specs.Walk.{merged_lower}
use Rattle.cert_check.proofs.turns.lower_by.Given as goal

abbrev pub invariant-loop-turn : goal.invariant-loop-turn
invariant-loop-turn l = (p : Problem) → lower_answer p (reverse (take l.turn-index l.turns)) l.column ≡ Ok (merged_lower (option_map whole l.found) (lower_under p [] l.column))
