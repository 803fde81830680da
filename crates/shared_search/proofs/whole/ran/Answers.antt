use Rattle.shared_search.specs.Crews.{AnyHas}
use Rattle.shared_search.proofs.Crews.{any_kept, some_holds}
use Rattle.shared_search.proofs.whole.ran.Goals as goal

pub returns-clause-numbers : goal.returns-clause-numbers
returns-clause-numbers g c = some_holds (AnyHas c.args.crew.items) (AnyHas c.run.new.crew.items) c.last_of.result (any_kept c.args.crew.items c.run.new.crew.items c.run.ensures.numbers) c.last_of.ensures.numbers
