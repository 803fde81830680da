use Rattle.std.proofs.Common.{subst}
use Rattle.std.specs.Prelude.{Ok, Err}
use Rattle.gmpl_parse.specs.Models.{parsed, IsOutcome}
use Rattle.gmpl_reader.proofs.Names.{are_objects, is_model}
use Rattle.gmpl_reader.proofs.ObjectNames.{are_objects as objects_differ}
use Rattle.gmpl_reader.proofs.read.model_in.Goals as goal

pub returns-in-Ok-clause-model : goal.returns-in-Ok-clause-model
returns-in-Ok-clause-model c = is_model c.args.text.now c.in_ok-tokens.tokens c.in_ok-tokens.ensures.tokens (Ok c.in-Ok.model) c.in-Ok.ensures

pub returns-in-Ok-clause-objects : goal.returns-in-Ok-clause-objects
returns-in-Ok-clause-objects c = are_objects c.args.text.now c.in_ok-tokens.tokens c.in_ok-tokens.ensures.tokens c.in-Ok.model objects_differ c.in-Ok.ensures

pub returns-in-Err-Fault-clause-fault : goal.returns-in-Err-Fault-clause-fault
returns-in-Err-Fault-clause-fault c = is_model c.args.text.now c.in_ok-tokens.tokens c.in_ok-tokens.ensures.tokens (Err c.in-Err-Fault.fault) (subst (λ f. IsOutcome (parsed c.in_ok-tokens.tokens) (Err f)) c.in-Err-Fault.field-0-is c.in-Err-Fault.ensures)
