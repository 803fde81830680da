use Rattle.gmpl_generate.proofs.OnlyMemory.{only_memory}
use Rattle.gmpl_generate.proofs.evaluation.over_domain.Goals as goal

pub want_of_memory-requires : goal.want_of_memory-requires
want_of_memory-requires c = only_memory _ c.in-Err.fault c.in-Err.ensures.value
