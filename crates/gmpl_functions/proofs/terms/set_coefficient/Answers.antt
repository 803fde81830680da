use Rattle.std.proofs.Common.{◌∙◌, ap, sym}
use Rattle.std.specs.Option.{option_copied_mut}
use Rattle.gmpl_functions.proofs.ScalingSteps.{nothing_there}
use Rattle.gmpl_functions.proofs.terms.set_coefficient.Goals as goal

pub returns-in_default : goal.returns-in_default
returns-in_default c =
    sym (nothing_there c.args.terms.now.entries c.args.place c.args.coefficient (sym c.get_index_mut.ensures.value ∙ ap option_copied_mut c.in_default.is))
