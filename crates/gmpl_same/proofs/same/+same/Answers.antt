-- Indexing expressions are the same where their parts are.
use Rattle.gmpl_same.proofs.Records.{same_parts}
use Rattle.gmpl_same.proofs.same.+same.Goals as goal

pub same_indexing-returns-then-same_list : goal.same_indexing-returns-then-same_list
same_indexing-returns-then-same_list t c =
    λ yes. same_parts c.args.one.now c.args.other.now (c.same_list.ensures c.if-same_list.true) (c.same_optional.ensures yes)
