-- What a statement declares comes last.
use Rattle.gmpl_reader.proofs.ObjectNames.{comes_last}
use Rattle.gmpl_reader.proofs.laws.objects_have_names.Goals as goal

pub returns-clause-last : goal.returns-clause-last
returns-clause-last c = comes_last
