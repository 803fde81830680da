-- The whole is what is done, then the rest.
use Rattle.std.proofs.Common.{◌≡◌, ◌++◌, ◌<◌, ◌≤◌, length}
use Rattle.cplex_lp_tokens.specs.Tokens.{tokens_after}
use Rattle.cplex_lp_tokens.proofs.scan.scan.Given as goal

abbrev pub invariant-loop-tokens : goal.invariant-loop-tokens
invariant-loop-tokens l =
    (tokens_after l.fn.line 0 l.fn.text ≡ l.tokens.items ++ tokens_after l.fn.line 0 l.rest)
    × (length l.rest ≤ length l.fn.text)
    × (0 < length l.tokens.items → length l.rest < length l.fn.text)

abbrev pub decreases-loop-tokens : goal.decreases-loop-tokens
decreases-loop-tokens l = length l.rest
