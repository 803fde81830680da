use Rattle.std.proofs.Common.{◌∙◌, inl, inr}
use Rattle.fraction.proofs.BinaryLemmas.{gcd-swap}
use Rattle.fraction.proofs.CmpLemmas.{one_of}
use Rattle.fraction.proofs.euclid.gcd.Goals as goal
use Rattle.fraction.proofs.euclid.gcd.Goals.{then-a-eq1-via-then-a-eq1, then-a-eq1-via-else-a-eq1+then-b-eq1}

pub returns-then-a-eq1 : goal.returns-then-a-eq1
returns-then-a-eq1 c =
    elim c.then-a-eq1.branch [ then-a-eq1-via-then-a-eq1 w ↦ one_of c.args.a c.args.b (inl w.if-a-eq1.true) | then-a-eq1-via-else-a-eq1+then-b-eq1 w ↦ one_of c.args.a c.args.b (inr w.if-b-eq1.true) ]

pub returns-then-a-le-WORD_MAX : goal.returns-then-a-le-WORD_MAX
returns-then-a-le-WORD_MAX c = c.gcd_with_word-then-a-le-WORD_MAX.ensures ∙ gcd-swap c.args.b c.args.a
