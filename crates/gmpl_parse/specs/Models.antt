-- The model that statements make, or the first fault. Each pass goes over the statements before the first bad one of the pass
-- before it, so the first bad statement is the third pass's where that has one, else the second's, else the first's.
use Rattle.std.specs.Prelude.{◌≡◌, ℕ, false, [], Option, Some, None, Result, Ok, Err}
use Rattle.gmpl_syntax.specs.declared.fault.SyntaxFault.{SyntaxFault}
use Rattle.gmpl_token.specs.Token.{Tokens}
use Rattle.gmpl_syntax.specs.declared.statement.Statements.{Statements}
use Rattle.gmpl_resolved.specs.declared.statement.Statements.{Statements as ResolvedStatements}
use Rattle.gmpl_statements.specs.Statements.{statements_of}
use Rattle.gmpl_names.specs.Statements.{none, statements, statements_from}
use Rattle.gmpl_statement_kinds.specs.StatementKinds.{judgement, judged_from}
use Rattle.gmpl_parse.specs.declared.model.Model.{Model}
use Rattle.gmpl_parse.specs.declared.model.ParseError.{ParseError}
use Rattle.gmpl_parse.specs.declared.model.ParseError.TheVariants.{Fault, NoMemory}

abbrev pub unless_bad : Option SyntaxFault → Model → Result Model SyntaxFault
unless_bad None model = Ok model
unless_bad (Some fault) model = Err fault

-- the statements that the first pass found, judged by the two passes behind it
abbrev pub model_of : Statements → Result Model SyntaxFault
model_of found = unless_bad (judgement (statements found)).fault (record { statements = (statements found).items; steps = (statements found).steps; objects = (judgement (statements found)).objects; data_at = found.data_at })

-- the model that the tokens of a text make, or its first fault
abbrev pub parsed : Tokens → Result Model SyntaxFault
parsed tokens = model_of (statements_of tokens)

-- what the first two passes make together, statement by statement; where a statement is bad, no data section is looked for
pub record IsResolved (found : ResolvedStatements) (data_at : Option ℕ) (whole : Statements) : Type 0 where
  pub resolved : found ≡ statements whole
  pub data_at_is : found.fault ≡ None → data_at ≡ whole.data_at

-- ---- the first fault, pass by pass

abbrev pub or_else : Option SyntaxFault → Option SyntaxFault → Option SyntaxFault
or_else (Some fault) other = Some fault
or_else None other = other

abbrev pub fault_of : Result Model SyntaxFault → Option SyntaxFault
fault_of (Ok model) = None
fault_of (Err fault) = Some fault

-- the fault that the second pass finds among the statements before the first bad one of the first pass
abbrev pub own_of_names : Statements → Option SyntaxFault
own_of_names found = (statements_from none 1 [] [] found.items None).fault

-- the fault that the third pass finds among the statements before the first bad one of the second pass
abbrev pub own_of_kinds : Statements → Option SyntaxFault
own_of_kinds found = (judged_from [] false (statements found).items (statements found).steps None).fault

-- the code and the definition go the same way; want of memory is free
abbrev pub IsOutcome : Result Model SyntaxFault → Result Model ParseError → Type 0
IsOutcome outcome (Ok model) = outcome ≡ Ok model
IsOutcome outcome (Err (Fault fault)) = outcome ≡ Err fault
IsOutcome outcome (Err NoMemory) = Unit {0}
