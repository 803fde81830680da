use Rattle.std.proofs.Common.{◌∙◌, sym, ap}
use Rattle.std.specs.Option.{option_map}
use Rattle.fraction.specs.Reading.{kept_mantissa}
use Rattle.fraction.proofs.ReadParts.{mantissa_halves, mantissa_whole}
use Rattle.fraction.proofs.read.read_mantissa.Goals as goal

pub returns-in-Some : goal.returns-in-Some
returns-in-Some c = c.mantissa_with.ensures ∙ ap (option_map kept_mantissa) (sym (mantissa_halves c.args.text.now _ c.in-Some.point (sym c.point_place.ensures ∙ c.in-Some.is) c.after.ensures))

pub returns-in-None : goal.returns-in-None
returns-in-None c = c.mantissa_with-in-None.ensures ∙ ap (option_map kept_mantissa) (sym (mantissa_whole c.args.text.now (sym c.point_place.ensures ∙ c.in-None.is)))
