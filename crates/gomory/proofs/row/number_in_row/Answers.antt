use Rattle.gomory.proofs.CutFaults.{number_fault}
use Rattle.gomory.proofs.row.number_in_row.Goals as goal

pub returns-in-Err-clause-fault : goal.returns-in-Err-clause-fault
returns-in-Err-clause-fault c =
    number_fault c.args.instance.now c.args.places.now c.args.rates.now c.args.at.now c.args.r c.args.scale.now c.variable-variable.result c.args.role c.args.v c.number.result c.in-Err.fault
    c.requires.places c.requires.scale c.variable-variable.ensures c.number.ensures.exact c.in-Err.is
