use Rattle.gmpl_reader.proofs.Readings.{is_reading, is_unreadable}
use Rattle.gmpl_reader.proofs.read.read_math_prog.Goals as goal

pub returns-in_ok-executed-in-Ok-clause-reading : goal.returns-in_ok-executed-in-Ok-clause-reading
returns-in_ok-executed-in-Ok-clause-reading c = is_reading c.args.text.now _ c.in-Ok.model _ c.in-Ok.ensures.model c.in_ok-executed-in-Ok.ensures

pub returns-in-Err-clause-fault : goal.returns-in-Err-clause-fault
returns-in-Err-clause-fault c = is_unreadable c.args.text.now _ c.in-Err.error c.in-Err.ensures.fault
