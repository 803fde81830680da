-- Behind the last step.
use Rattle.std.proofs.Common.{◌≡◌, ◌+◌, ◌≤◌, ℕ, List, Ok, drop, length, ap, arith}
use Rattle.std.proofs.lemmas.List.{drop_all}
use Rattle.gmpl_resolved.specs.declared.statement.NumberedStep.{NumberedStep}
use Rattle.gmpl_data.specs.declared.tables.LoadedModel.{LoadedModel}
use Rattle.gmpl_generate.specs.declared.steps.Reached.TheVariants as reached
use Rattle.gmpl_generate.specs.Running.{Made}
use Rattle.gmpl_generate.specs.Steps.{steps_before}

pub none_behind : (model : LoadedModel) (at : ℕ) (steps : List NumberedStep) (made : Made) → length steps ≤ at → steps_before model (at + 1) (drop (at + 1) steps) made ≡ Ok (reached.End, made)
none_behind model at steps made past = ap (λ (ss : List NumberedStep). steps_before model (at + 1) ss made) (drop_all (at + 1) steps (omega (arith, past)))
