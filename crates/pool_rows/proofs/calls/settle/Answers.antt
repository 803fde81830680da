use Rattle.std.proofs.Common.{rules}
use Rattle.pool_rows.proofs.Leases.{still_open}
use Rattle.pool_rows.proofs.calls.settle.Goals as goal

pub returns-in-Err-default-Busy-clause-ready : goal.returns-in-Err-default-Busy-clause-ready
returns-in-Err-default-Busy-clause-ready c = ((search rules, search rules), still_open _ _ c.args.lease _ c.requires.lease c.in-Err-default-Busy.ensures.err.1)

pub returns-in-Err-default-NoMemory-clause-ready :
    goal.returns-in-Err-default-NoMemory-clause-ready
returns-in-Err-default-NoMemory-clause-ready c = ((search rules, search rules), still_open _ _ c.args.lease _ c.requires.lease c.in-Err-default-NoMemory.ensures.err.1)
