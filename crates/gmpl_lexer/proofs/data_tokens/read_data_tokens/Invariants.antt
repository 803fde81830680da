-- The whole is what is done, then the rest.
use Rattle.std.proofs.Common.{length, ◌≡◌, ◌≤◌, ◌+◌, ◌-◌}
use Rattle.gmpl_lexer.specs.Tokens.{followed_by}
use Rattle.gmpl_lexer.specs.DataTokens.{data_tokens, tokens_from}
use Rattle.gmpl_lexer.proofs.data_tokens.read_data_tokens.Given as goal

abbrev pub invariant-loop-rest : goal.invariant-loop-rest
invariant-loop-rest l = (data_tokens l.fn.start l.fn.text ≡ followed_by l.items.items (tokens_from (length l.fn.text - length l.rest) l.line 0 l.rest)) × ((l.line + length l.rest ≤ length l.fn.text + 1) × (length l.rest ≤ length l.fn.text))

abbrev pub decreases-loop-rest : goal.decreases-loop-rest
decreases-loop-rest l = length l.rest
