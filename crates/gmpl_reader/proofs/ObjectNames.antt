-- The names of a model's objects.
use Rattle.std.proofs.Common.{◌≡◌, ℕ, List, [], ◌∷◌, map, Option, Some, None, Result, Ok, IfOk, subst, ◌++◌}
use Rattle.std.proofs.lemmas.Result.{IfOk-at_ok}
use Rattle.std.specs.List.{AllByRecursion}
use Rattle.gmpl_token.specs.Token.{Tokens}
use Rattle.gmpl_lexer.specs.Tokens.{tokens_of}
use Rattle.gmpl_syntax.specs.declared.fault.SyntaxFault.{SyntaxFault}
use Rattle.gmpl_syntax.specs.declared.statement.Statement.{Statement}
use Rattle.gmpl_syntax.specs.declared.statement.Statement.TheVariants as s
use Rattle.gmpl_syntax.specs.declared.statement.Numbered.{Numbered}
use Rattle.gmpl_syntax.specs.declared.statement.Statements.{Statements}
use Rattle.gmpl_statements.specs.Statements.{statements_of}
use Rattle.gmpl_resolved.specs.declared.statement.Statement.{Statement as ResolvedStatement}
use Rattle.gmpl_names.specs.Names.{Name}
use Rattle.gmpl_names.specs.declared.resolved.Resolved.TheVariants as made
use Rattle.gmpl_names.specs.Statements.{judged, statements}
use Rattle.gmpl_statement_kinds.specs.StatementKinds.{judgement}
use Rattle.gmpl_parse.specs.declared.model.Model.{Model}
use Rattle.gmpl_parse.specs.Models.{unless_bad, model_of, parsed}
use Rattle.gmpl_rows.specs.declared.declared.Declared.{Declared}
use Rattle.gmpl_rows.specs.Premises.{AreDifferent, AreObjects, IsName, declared_name}
use Rattle.gmpl_reader.specs.Names.{head_of, names_of}
use Rattle.gmpl_reader.proofs.Heads.{HeadThen, HeadsThen}
use Rattle.gmpl_reader.proofs.LexedNames.{lexed_named}
use Rattle.gmpl_reader.proofs.HeadNames.{statements_named}
use Rattle.gmpl_reader.proofs.ResolvedNames.{HaveNames, Declares, statement_declares, resolved_named}

-- a model that is given has the statements of the second pass
given_where : (P : List ℕ → Type 0) (fault : Option SyntaxFault) (made model : Model) → HaveNames P made.statements → unless_bad fault made ≡ Ok model → HaveNames P model.statements
given_where P None made model h is = subst (λ (outcome : Result Model SyntaxFault). IfOk outcome (λ m. HaveNames P m.statements)) is h
given_where P (Some fault) made model h is = subst (λ (outcome : Result Model SyntaxFault). IfOk outcome (λ m. HaveNames P m.statements)) is tt

model_names : (P : List ℕ → Type 0) (found : Statements) (model : Model) → HeadsThen P found.items (Unit {0}) → model_of found ≡ Ok model → HaveNames P model.statements
model_names P found model heads is =
    given_where P (judgement (statements found)).fault (record { statements = (statements found).items; steps = (statements found).steps; objects = (judgement (statements found)).objects; data_at = found.data_at }) model (resolved_named P found.items found.fault heads) is

-- ---- letters, digits and underscores

pub are_names : (text : List ℕ) (model : Model) → parsed (tokens_of text) ≡ Ok model → AllByRecursion IsName (names_of model.statements)
are_names text model is = (model_names IsName (statements_of (tokens_of text)) model (statements_named (tokens_of text) (lexed_named text)) is).names

-- ---- no two the same

abbrev IsAny : List ℕ → Type 0
IsAny name = Unit {0}

any_head : (x : Statement) (behind : Type 0) → behind → HeadThen IsAny x behind
any_head (s.Set declaration) behind h = (tt, h)
any_head (s.Param declaration) behind h = (tt, h)
any_head (s.Var declaration) behind h = (tt, h)
any_head (s.Constraint constraint) behind h = (tt, h)
any_head (s.Objective objective) behind h = (tt, h)
any_head _ behind h = h

any_heads : (xs : List Numbered) → HeadsThen IsAny xs (Unit {0})
any_heads [] = tt
any_heads (x ∷ xs) = any_head x.statement (HeadsThen IsAny xs (Unit {0})) (any_heads xs)

-- the object of a statement comes last
pub comes_last : (x : Statement) (objects tables : List Name) (declared : ResolvedStatement) (after behind : List Name) → judged x objects tables ≡ Ok (made.Declaration declared, (after, behind)) → after ≡ objects ++ (head_of declared).name ∷ []
comes_last x objects tables declared after behind is =
    (IfOk-at_ok (λ r. Declares IsAny (Unit {0}) objects (r.0, r.1.0)) is (statement_declares IsAny (Unit {0}) objects x tables (any_head x (Unit {0}) tt))).names

pub differ : (tokens : Tokens) (model : Model) → parsed tokens ≡ Ok model → AreDifferent (names_of model.statements)
differ tokens model is = (model_names IsAny (statements_of tokens) model (any_heads (statements_of tokens).items) is).differ

-- ---- both, of objects with these names

pub are_objects : (text : List ℕ) (model : Model) (objects : List Declared) → parsed (tokens_of text) ≡ Ok model → map declared_name objects ≡ names_of model.statements → AreObjects objects
are_objects text model objects is same =
    record { names = rw same (are_names text model is); differ = rw same (differ (tokens_of text) model is) }
