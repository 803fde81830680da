-- The whole is what is left to do.
use Rattle.std.proofs.Common.{◌≡◌, ℕ, ◌++◌, List, drop}
use Rattle.cplex_lp_tokens.specs.Tokens.{Token}
use Rattle.cplex_lp_reader.specs.CplexLp.{declared_from}
use Rattle.cplex_lp_reader.proofs.read.read_before_last.Given as goal

abbrev pub invariant-loop-i : goal.invariant-loop-i
invariant-loop-i l = (end : ℕ) (more : List Token) → declared_from l.profile end l.initial.draft (l.tokens ++ more) ≡ declared_from l.profile end l.draft (drop l.i l.tokens ++ more)
