-- What `table OUT` makes (GNU MathProg Language Reference, section on the table statement): a file with a record for each element of
-- the domain. A fault makes no file.
use Rattle.std.specs.Prelude.{ℕ, Ok, Err, List, [], ◌∷◌, ◌++◌, map, Option, Some}
use Rattle.gmpl_resolved.specs.declared.expression.Expr.{Expr}
use Rattle.gmpl_resolved.specs.declared.statement.OutputColumn.{OutputColumn}
use Rattle.gmpl_resolved.specs.declared.statement.TableOutput.{TableOutput}
use Rattle.gmpl_value.specs.declared.symbol.Symbol.{Symbol}
use Rattle.csv_tables.specs.Writing.{text_of_table}
use Rattle.gmpl_value.specs.declared.eval_fault.EvalFault.{EvalFault}
use Rattle.gmpl_value.specs.Outcome.{Outcome, then_do}
use Rattle.gmpl_functions.specs.Strings.{plain_text}
use Rattle.gmpl_data.specs.declared.tables.LoadedModel.{LoadedModel}
use Rattle.gmpl_meaning.specs.Expressions.{unless}
use Rattle.gmpl_meaning.specs.Parts.{Bindings}
use Rattle.gmpl_generate.specs.declared.fault.ModelFaultKind.{ModelFaultKind}
use Rattle.gmpl_generate.specs.declared.fault.ModelFaultKind.TheVariants.{Evaluation}
use Rattle.gmpl_generate.specs.declared.scopes.Scopes.{Scopes}
use Rattle.gmpl_generate.specs.Printing.{symbol_of}
use Rattle.gmpl_generate.specs.Running.{File, Made, Running}
use Rattle.gmpl_generate.specs.Scopes.{scopes_of}

-- the names of the fields
abbrev pub fields_of : List OutputColumn → List (List ℕ)
fields_of columns = map (λ c. c.field) columns

-- a file behind those made so far, or its fault
abbrev pub add_file : Outcome File → Running Made ModelFaultKind (Unit {0})
add_file (Ok file) made = Ok (tt, record { printed = made.printed; files = made.files ++ file ∷ [] })
add_file (Err fault) made = Err (Evaluation fault, made)

module _ (model : LoadedModel) where
  -- the name of a table's file
  abbrev pub file_name : Expr → Bindings → Outcome (List ℕ)
  file_name x b = then_do (λ s. Ok (plain_text s)) (symbol_of model b x)

  -- the fields of a record from the left, behind those found
  abbrev pub fields_at : Bindings → List Symbol → List OutputColumn → Outcome (List Symbol)
  fields_at b found [] = Ok found
  fields_at b found (c ∷ cs) = then_do (λ s. fields_at b (found ++ s ∷ []) cs) (symbol_of model b c.value)

  -- the records of these elements, behind those found; behind the last of them stands the domain's fault
  abbrev pub records_of : List OutputColumn → List (List Symbol) → List Bindings → Option EvalFault → Outcome (List (List Symbol))
  records_of columns found [] fault = unless fault (Ok found)
  records_of columns found (b ∷ bs) fault = then_do (λ row. records_of columns (found ++ row ∷ []) bs fault) (fields_at b [] columns)

  abbrev pub text_made : List OutputColumn → Scopes → Outcome (List ℕ)
  text_made columns s = then_do (λ rows. Ok (text_of_table (fields_of columns) rows)) (records_of columns [] s.all s.fault)

  -- first the name, and then the text
  abbrev pub file_made : TableOutput → Bindings → Outcome File
  file_made t b = then_do (λ name. then_do (λ text. Ok (record { name = name; text = text })) (text_made t.columns (scopes_of model (Some t.domain) b))) (file_name t.file b)

  abbrev pub write_table : TableOutput → Bindings → Running Made ModelFaultKind (Unit {0})
  write_table t b = add_file (file_made t b)
