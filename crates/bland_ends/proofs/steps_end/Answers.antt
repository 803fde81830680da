use Rattle.bland_ends.proofs.Loops.{never_twice}
use Rattle.bland_ends.proofs.Counts.{runs_are_few, steps_are_few}
use Rattle.bland_ends.proofs.steps_end.Goals as goal

pub returns : goal.returns
returns c = record { never_twice = never_twice; are_few = steps_are_few; runs = runs_are_few }
