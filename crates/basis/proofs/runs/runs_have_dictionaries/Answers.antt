use Rattle.basis.proofs.StepLemmas.{run_has}
use Rattle.basis.proofs.runs.runs_have_dictionaries.Goals as goal

pub returns : goal.returns
returns c = record {
  dictionary = λ s b before h k. ((run_has s b before h k).dictionary, (run_has s b before h k).is_dictionary);
  point = λ s b before h k. ((run_has s b before h k).point, (run_has s b before h k).is_point);
}
