use Rattle.gomory.specs.Cuts.{fractional_part}
use Rattle.gomory.proofs.NumberAnswers.{part_some, lack_some, same_scale}
use Rattle.gomory.proofs.scale.scale_of.Goals as goal

pub inverse-requires : goal.inverse-requires
inverse-requires c = part_some c.args.value c.requires.not_whole c.in_ok-part.part c.in_ok-part.ensures.is_part

pub inverse-requires-2 : goal.inverse-requires-2
inverse-requires-2 c = lack_some c.args.value c.in_ok-part.part c.in_ok-rest.rest c.in_ok-part.ensures.is_part c.in_ok-rest.ensures.value

pub returns-clause-is_scale : goal.returns-clause-is_scale
returns-clause-is_scale c = same_scale (fractional_part c.args.value) c.in_ok-part.part c.in_ok-rest.rest c.in_ok-low.low c.in_ok-high.high c.in_ok-part.ensures.is_part c.in_ok-rest.ensures.value c.in_ok-low.ensures.value c.in_ok-high.ensures.value
