-- The whole is what is left to do.
use Rattle.std.proofs.Common.{◌≡◌, drop}
use Rattle.cplex_lp_reader.specs.CplexLp.{declared_from}
use Rattle.cplex_lp_reader.proofs.read.read_tokens.Given as goal

abbrev pub invariant-loop-i : goal.invariant-loop-i
invariant-loop-i l = declared_from l.profile l.end l.initial.draft l.tokens ≡ declared_from l.profile l.end l.draft (drop l.i l.tokens)
