-- The third pass over what the first two have made together.
use Rattle.std.proofs.Common.{◌≡◌, ◌∙◌, ℕ, List, Option, None, Ok, ap, sym}
use Rattle.gmpl_syntax.specs.declared.statement.Statements.{Statements}
use Rattle.gmpl_resolved.specs.declared.statement.Statements.{Statements as ResolvedStatements}
use Rattle.gmpl_kinds.specs.declared.shape.Object.{Object}
use Rattle.gmpl_names.specs.Statements.{statements}
use Rattle.gmpl_statement_kinds.specs.declared.judgement.Judgement.{Judgement}
use Rattle.gmpl_statement_kinds.specs.StatementKinds.{judgement}
use Rattle.gmpl_parse.specs.declared.model.Model.{Model}
use Rattle.gmpl_parse.specs.Models.{IsResolved, model_of, unless_bad}
use Rattle.gmpl_parse.proofs.FirstFaults.{good_before}

-- the model of these statements, which have no fault
abbrev pub made : ResolvedStatements → List Object → Option ℕ → Model
made found objects data_at = record { statements = found.items; steps = found.steps; objects = objects; data_at = data_at }

module _ (whole : Statements) (found : ResolvedStatements) (data_at : Option ℕ) (judged : Judgement) (is : IsResolved found data_at whole) (judged_is : judged ≡ judgement found) where
  its_fault : (judgement (statements whole)).fault ≡ judged.fault
  its_fault = ap (λ s. (judgement s).fault) (sym is.resolved) ∙ ap (λ j. j.fault) (sym judged_is)

  abbrev model : Model
  model = made (statements whole) (judgement (statements whole)).objects whole.data_at

  pub no_bad_statement : judged.fault ≡ None → model_of whole ≡ Ok (made found judged.objects data_at)
  no_bad_statement good =
      let same : whole.data_at ≡ data_at = sym (is.data_at_is (good_before found (ap (λ j. j.fault) (sym judged_is) ∙ good))) in
      ap (λ f. unless_bad f model) (its_fault ∙ good)
      ∙ ap (λ s. Ok (made s (judgement (statements whole)).objects whole.data_at)) (sym is.resolved)
      ∙ ap (λ o. Ok (made found o whole.data_at)) (ap (λ s. (judgement s).objects) (sym is.resolved) ∙ ap (λ j. j.objects) (sym judged_is))
      ∙ ap (λ d. Ok (made found judged.objects d)) same
