use Rattle.std.proofs.Common.{◌≡◌, ◌∙◌, Ok, Err, sym}
use Rattle.fraction.specs.Answers.{div_answer}
use Rattle.gmpl_functions.specs.Numbers.{half}
use Rattle.gmpl_functions.proofs.Halves.{half_answer}
use Rattle.gmpl_functions.proofs.rounding.half.Goals as goal

pub returns-in-Ok : goal.returns-in-Ok
returns-in-Ok c =
    let same : Ok c.in-Ok.half ≡ Ok half = sym c.in-Ok.is ∙ c.div.ensures ∙ (λ j. div_answer (c.one.ensures j) (c.whole.ensures j)) ∙ half_answer in
    cc

pub returns-in-Err : goal.returns-in-Err
returns-in-Err c =
    let never : Err c.in-Err.field-0 ≡ Ok half = sym c.in-Err.is ∙ c.div.ensures ∙ (λ j. div_answer (c.one.ensures j) (c.whole.ensures j)) ∙ half_answer in
    absurd cc
