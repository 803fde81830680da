use Rattle.turn_pool.specs.Logs.{Has}
use Rattle.shared_search.specs.Crews.{numbers, AnyHas}
use Rattle.shared_search.proofs.Crews.{some_holds}
use Rattle.shared_search.proofs.whole.together.Goals as goal

pub returns-in-Ok-clause-numbers : goal.returns-in-Ok-clause-numbers
returns-in-Ok-clause-numbers g c = some_holds (Has (numbers c.args.first)) (AnyHas c.in-Ok.crew.items) c.ran.result c.in-Ok.ensures.numbers c.ran.ensures.numbers
