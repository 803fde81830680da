use Rattle.wide.proofs.Quotients.{words_quotient}
use Rattle.wide.proofs.division.part_by_word.Goals as goal

pub returns-clause-whole : goal.returns-clause-whole
returns-clause-whole c = words_quotient _ _ _ _ _ _ _ _ _ _ c.split-low.ensures c.word_quotient-first.ensures.whole c.word_quotient-second.ensures.whole c.join.ensures
