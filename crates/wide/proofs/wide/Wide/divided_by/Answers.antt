use Rattle.wide.proofs.Quotients.{parts_quotient, quotient_of, rest_of}
use Rattle.wide.proofs.wide.Wide.divided_by.Goals as goal

pub returns-clause-quotient : goal.returns-clause-quotient
returns-clause-quotient c =
    quotient_of _ _ _ _ (parts_quotient _ _ _ _ _ _ _ _ _ _ _ _ c.open-low.ensures c.part_quotient-third.ensures.whole c.part_quotient-second.ensures.whole c.part_quotient-first.ensures.whole c.new.ensures) c.part_quotient-first.ensures.small

pub returns-clause-rest : goal.returns-clause-rest
returns-clause-rest c =
    rest_of _ _ _ _ (parts_quotient _ _ _ _ _ _ _ _ _ _ _ _ c.open-low.ensures c.part_quotient-third.ensures.whole c.part_quotient-second.ensures.whole c.part_quotient-first.ensures.whole c.new.ensures) c.part_quotient-first.ensures.small
