-- Where no byte is another, all are counted.
use Rattle.model_text.specs.Literals.{is_no_digit}
use Rattle.model_text.proofs.Laws.{place-past}
use Rattle.model_text.proofs.literals.digits.Goals as goal

pub returns-in-None-clause-value : goal.returns-in-None-clause-value
returns-in-None-clause-value c = place-past is_no_digit c.args.text.now c.in-None.ensures
