-- How a walk ends at a fault: want of memory is none of the walk's.
use Rattle.std.specs.Prelude.{Some, Ok, Err, List}
use Rattle.gmpl_value.specs.declared.eval_fault.EvalFault.{EvalFault}
use Rattle.gmpl_value.specs.declared.eval_fault.EvalFault.TheVariants.{NoMemory}
use Rattle.gmpl_value.specs.Outcome.{Outcome}
use Rattle.gmpl_meaning.specs.declared.walk.Element.{Element}
use Rattle.gmpl_meaning.specs.declared.walk.Walk.{Walk}
use Rattle.gmpl_meaning.specs.Walks.{walk}

abbrev pub stopped : List Element → EvalFault → Outcome Walk
stopped found NoMemory = Err NoMemory
stopped found fault = Ok (walk found (Some fault))
