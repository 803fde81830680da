use Rattle.exact_ranges.proofs.bound_ends.bound_end.Goals as goal

pub returns-clause-fault : goal.returns-clause-fault
returns-clause-fault c = c.moved.ensures.fault c.args.pivot_limit
