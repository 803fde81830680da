-- Where no byte is another, all are counted.
use Rattle.gmpl_lexer.specs.Bytes.{is_line_feed}
use Rattle.model_text.proofs.Laws.{place-past}
use Rattle.gmpl_lexer.proofs.strings.line_length.Goals as goal

pub returns-in-None-clause-value : goal.returns-in-None-clause-value
returns-in-None-clause-value c = place-past is_line_feed c.args.text.now c.in-None.ensures
