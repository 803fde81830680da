use Rattle.exact_ranges.proofs.verdict.solved.Goals as goal

pub told-requires-clause-plain : goal.told-requires-clause-plain
told-requires-clause-plain c = c.in_ok-certificate.ensures.plain c.requires.continuous
