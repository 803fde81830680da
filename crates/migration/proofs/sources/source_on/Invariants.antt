use Rattle.std.proofs.Common.{◌≡◌, ◌+◌, ◌<◌, length, drop, IfSome}
use Rattle.migration.specs.Sources.{source_on, source_from}
use Rattle.migration.proofs.sources.source_on.Given as goal

abbrev pub invariant-loop-turn : goal.invariant-loop-turn
invariant-loop-turn l = record { count : l.left + l.turn-index ≡ length l.turns; known : IfSome l.found (λ t. t.index < length l.turns); left : source_from l.side l.problem (drop l.turn-index l.turns) l.column l.found ≡ source_on l.side l.problem l.turns l.column }
