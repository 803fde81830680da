-- Where no byte is another, all are counted.
use Rattle.gmpl_lexer.specs.Symbols.{is_no_symbol_byte}
use Rattle.model_text.proofs.Laws.{place-past}
use Rattle.gmpl_lexer.proofs.symbols.symbol_bytes.Goals as goal

pub returns-in-None-clause-value : goal.returns-in-None-clause-value
returns-in-None-clause-value c = place-past is_no_symbol_byte c.args.text.now c.in-None.ensures
