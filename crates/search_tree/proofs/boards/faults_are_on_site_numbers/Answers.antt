use Rattle.search_tree.proofs.WorkFaults.{on_site_numbers}
use Rattle.search_tree.proofs.boards.faults_are_on_site_numbers.Goals as goal

pub returns : goal.returns
returns c = λ p ds sides e over forms h. on_site_numbers p ds sides e over forms h
