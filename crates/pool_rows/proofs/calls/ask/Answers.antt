use Rattle.std.proofs.Common.{rules}
use Rattle.pool_rows.proofs.Leases.{given_open}
use Rattle.pool_rows.proofs.calls.ask.Goals as goal

pub returns-else-is_none-clause-ready : goal.returns-else-is_none-clause-ready
returns-else-is_none-clause-ready c = ((search rules, search rules), given_open _ _ c.in-Ok.lease c.in-Ok.ensures.ok)
