-- The whole is what is left to do.
use Rattle.std.proofs.Common.{◌≡◌, ◌++◌, length}
use Rattle.model_text.specs.Lines.{lines_of}
use Rattle.cplex_lp_tokens.specs.Tokens.{tokens_of}
use Rattle.cplex_lp_tokens.specs.Left.{tokens_left, line_count, bytes_left}
use Rattle.cplex_lp_reader.specs.CplexLp.{declared_from, end_line}
use Rattle.cplex_lp_reader.proofs.read.read_text.Given as goal

abbrev pub invariant-loop-reader : goal.invariant-loop-reader
invariant-loop-reader l =
    (declared_from l.profile (end_line l.text) l.initial.draft (tokens_of l.text) ≡ declared_from l.profile (end_line l.text) l.draft (l.tokens.items ++ tokens_left l.reader))
    × (line_count l.reader ≡ length (lines_of l.text))

abbrev pub decreases-loop-reader : goal.decreases-loop-reader
decreases-loop-reader l = bytes_left l.reader
