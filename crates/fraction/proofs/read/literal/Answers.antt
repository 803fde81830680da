use Rattle.std.proofs.Common.{◌∙◌, sym, ap}
use Rattle.std.specs.Prelude.{pos, Some}
use Rattle.fraction.specs.Reading.{power_of}
use Rattle.fraction.proofs.ReadParts.{power_found, literal_halves, literal_whole, no_mantissa}
use Rattle.fraction.proofs.read.literal.Goals as goal

pub returns-in-Some-clause-value : goal.returns-in-Some-clause-value
returns-in-Some-clause-value c = c.raised_power.ensures.value ∙ ap power_of (sym (literal_halves c.args.text.now c.after.result.now c.in-Some.mark (sym c.mark_place.ensures ∙ c.in-Some.is) c.after.ensures))

pub returns-in-Some-read_mantissa-clause-value : goal.returns-in-Some-read_mantissa-clause-value
returns-in-Some-read_mantissa-clause-value c =
    c.with_exponent.ensures.value ∙ power_found (pos 0) c.args.text.now c.in-Some-read_mantissa.mantissa (sym c.read_mantissa.ensures ∙ c.in-Some-read_mantissa.is)
    ∙ ap power_of (sym (literal_whole c.args.text.now (sym c.mark_place.ensures ∙ c.in-None.is)))

pub returns-in-None-read_mantissa-clause-value : goal.returns-in-None-read_mantissa-clause-value
returns-in-None-read_mantissa-clause-value c =
    no_mantissa (Some (pos 0)) c.args.text.now (sym c.read_mantissa.ensures ∙ c.in-None-read_mantissa.is)
    ∙ ap power_of (sym (literal_whole c.args.text.now (sym c.mark_place.ensures ∙ c.in-None.is)))
