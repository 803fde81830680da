use Rattle.std.proofs.Common.{◌∙◌, sym}
use Rattle.fraction.specs.Literal.{literal_of}
use Rattle.fraction.specs.Reading.{sign_of}
use Rattle.fraction.proofs.ReadParts.{signed_fault, signed_power}
use Rattle.fraction.proofs.read.signed_literal.Goals as goal

pub returns-in-Ok : goal.returns-in-Ok
returns-in-Ok c = c.value.ensures ∙ signed_power (sign_of c.args.negative) (literal_of c.args.text.now) c.in-Ok.power (sym c.literal.ensures.value ∙ c.in-Ok.is)

pub returns-in-Err : goal.returns-in-Err
returns-in-Err c = signed_fault (sign_of c.args.negative) (literal_of c.args.text.now) c.in-Err.fault (sym c.literal.ensures.value ∙ c.in-Err.is)
