use Rattle.std.proofs.Common.{◌∙◌, sym, ap}
use Rattle.integer.specs.Gcd.{gcd as gcd_of}
use Rattle.integer.proofs.Laws.{gcd_step, gcd_end}
use Rattle.fraction.proofs.euclid.gcd_with_word.Goals as goal

pub returns-then-b-eq0 : goal.returns-then-b-eq0
returns-then-b-eq0 c = sym (gcd_end c.args.a) ∙ ap (λ n. gcd_of c.args.a n) (sym c.if-b-eq0.true)

pub returns-else-a-le-WORD_MAX : goal.returns-else-a-le-WORD_MAX
returns-else-a-le-WORD_MAX c = c.from-else-a-le-WORD_MAX.ensures ∙ c.gcd_words-else-a-le-WORD_MAX.ensures ∙ gcd_step c.args.a c.args.b
