-- A pass's own fault comes before that of the passes before it.
use Rattle.std.proofs.Common.{◌≡◌, ◌∙◌, ℕ, ◌+◌, Bool, false, List, [], ◌∷◌, ◌++◌, Option, Some, None, Result, Ok, Err, refl, ap, sym}
use Rattle.std.proofs.lemmas.Option.{none-some}
use Rattle.gmpl_syntax.specs.declared.fault.SyntaxFault.{SyntaxFault}
use Rattle.gmpl_syntax.specs.declared.statement.Numbered.{Numbered}
use Rattle.gmpl_syntax.specs.declared.statement.Statements.{Statements}
use Rattle.gmpl_resolved.specs.declared.statement.NumberedStep.{NumberedStep}
use Rattle.gmpl_resolved.specs.declared.statement.Numbered.{Numbered as ResolvedNumbered}
use Rattle.gmpl_resolved.specs.declared.statement.Statements.{Statements as ResolvedStatements}
use Rattle.gmpl_names.specs.Names.{Name}
use Rattle.gmpl_kinds.specs.declared.shape.Object.{Object}
use Rattle.gmpl_names.specs.declared.resolved.Resolved.{Resolved}
use Rattle.gmpl_names.specs.Statements.{JudgedBoth, judged, none, statements, statements_from, behind}
use Rattle.gmpl_statement_kinds.specs.declared.judgement.Judgement.{Judgement}
use Rattle.gmpl_statement_kinds.specs.StatementKinds.{behind_all, declared, go_on, stopped, judged_from, judgement}
use Rattle.gmpl_parse.specs.declared.model.Model.{Model}
use Rattle.gmpl_parse.specs.Models.{fault_of, or_else, own_of_names, own_of_kinds, unless_bad, model_of}

kinds-step : {A : Type 0} (fault : Option SyntaxFault) (objects : List Object) (found : Result A SyntaxFault) (go alone : A → Judgement) → ((a : A) → (go a).fault ≡ or_else (alone a).fault fault) → (go_on objects found go).fault ≡ or_else (go_on objects found alone).fault fault
kinds-step fault objects (Ok a) go alone h = h a
kinds-step fault objects (Err own) go alone h = refl

kinds-first : (fault : Option SyntaxFault) (objects : List Object) (solved : Bool) (xs : List ResolvedNumbered) (steps : List NumberedStep) → (judged_from objects solved xs steps fault).fault ≡ or_else (judged_from objects solved xs steps None).fault fault
kinds-first fault objects solved [] steps = kinds-step fault objects (behind_all objects solved steps) (λ _. stopped objects fault) (λ _. stopped objects None) (λ _. refl)
kinds-first fault objects solved (x ∷ xs) steps =
    kinds-step fault objects (behind_all objects solved x.steps) _ _
    (λ now. kinds-step fault objects (declared objects now x) _ _ (λ object. kinds-first fault (objects ++ object ∷ []) now xs steps))

names-step : (fault : Option SyntaxFault) (found : ResolvedStatements) (number line : ℕ) (of_one : JudgedBoth Resolved) (go alone : ResolvedStatements → List Name → List Name → ResolvedStatements) → ((more : ResolvedStatements) (objects tables : List Name) → (go more objects tables).fault ≡ or_else (alone more objects tables).fault fault) → (behind found number line of_one go).fault ≡ or_else (behind found number line of_one alone).fault fault
names-step fault found number line (Ok r) go alone h = h _ _ _
names-step fault found number line (Err kind) go alone h = refl

names-first : (fault : Option SyntaxFault) (found : ResolvedStatements) (number : ℕ) (objects tables : List Name) (xs : List Numbered) → (statements_from found number objects tables xs fault).fault ≡ or_else (statements_from found number objects tables xs None).fault fault
names-first fault found number objects tables [] = refl
names-first fault found number objects tables (x ∷ xs) =
    names-step fault found number x.line (judged x.statement objects tables) (λ more os ts. statements_from more (number + 1) os ts xs fault) (λ more os ts. statements_from more (number + 1) os ts xs None)
    (λ more os ts. names-first fault more (number + 1) os ts xs)

-- where nothing is bad, the pass before found nothing
none-first : (own fault : Option SyntaxFault) → or_else own fault ≡ None → fault ≡ None
none-first None fault h = h
none-first (Some x) fault h = absurd (none-some x (sym h))

pub good_before : (whole : ResolvedStatements) → (judgement whole).fault ≡ None → whole.fault ≡ None
good_before whole good = none-first (judged_from [] false whole.items whole.steps None).fault whole.fault (sym (kinds-first whole.fault [] false whole.items whole.steps) ∙ good)

fault-of : (fault : Option SyntaxFault) (model : Model) → fault_of (unless_bad fault model) ≡ fault
fault-of None model = refl
fault-of (Some fault) model = refl

pub first_bad : (found : Statements) → fault_of (model_of found) ≡ or_else (own_of_kinds found) (or_else (own_of_names found) found.fault)
first_bad found =
    fault-of (judgement (statements found)).fault (record { statements = (statements found).items; steps = (statements found).steps; objects = (judgement (statements found)).objects; data_at = found.data_at })
    ∙ kinds-first (statements found).fault [] false (statements found).items (statements found).steps
    ∙ ap (or_else (own_of_kinds found)) (names-first found.fault none 1 [] [] found.items)
