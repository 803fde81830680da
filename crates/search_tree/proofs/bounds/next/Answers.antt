use Rattle.std.proofs.Common.{◌≡◌, ◌∙◌, ap, sym, subst, Result, IfOk}
use Rattle.std.specs.Prelude.{pos, ◌+ℤ◌}
use Rattle.rational.specs.Rational.{Rational, one_ℚ, whole}
use Rattle.fraction.specs.declared.frac.NoFit.{NoFit}
use Rattle.fraction.specs.Answers.{add_answer}
use Rattle.cert_check.specs.Sums.{next_answer}
use Rattle.cert_check.proofs.Laws.{next_ok}
use Rattle.search_tree.proofs.bounds.next.Goals as goal

pub returns : goal.returns
returns c =
    let P : Result Rational NoFit → Type 0 = λ r. IfOk r (λ b. b ≡ whole (c.args.at +ℤ pos 1)) in
    let same : next_answer c.args.at ≡ c.add.result = ap (λ a. add_answer a one_ℚ) (sym c.to_frac.ensures) ∙ ap (λ b. add_answer c.to_frac.result b) (sym c.one.ensures) ∙ sym c.add.ensures in
    subst P same (next_ok c.args.at)
