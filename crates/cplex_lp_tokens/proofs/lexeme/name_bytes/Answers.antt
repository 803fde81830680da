-- Where no byte is another, all are counted.
use Rattle.cplex_lp_tokens.specs.Lexemes.{is_no_name_byte}
use Rattle.model_text.proofs.Laws.{place-past}
use Rattle.cplex_lp_tokens.proofs.lexeme.name_bytes.Goals as goal

pub returns-in-None-clause-value : goal.returns-in-None-clause-value
returns-in-None-clause-value c = place-past is_no_name_byte c.args.text.now c.in-None.ensures
