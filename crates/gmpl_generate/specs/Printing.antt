-- What `printf` prints (GNU MathProg Language Reference, section on the printf statement): at each element all of its arguments
-- are evaluated, the format first, and then what the format makes of them is printed.
use Rattle.std.specs.Prelude.{ℕ, Ok, Err, List, [], ◌∷◌, ◌++◌}
use Rattle.gmpl_resolved.specs.declared.expression.Expr.{Expr}
use Rattle.gmpl_value.specs.declared.symbol.Symbol.{Symbol}
use Rattle.gmpl_value.specs.declared.eval_fault.EvalFault.TheVariants.{BadFormat}
use Rattle.gmpl_value.specs.Outcome.{Outcome, then_do}
use Rattle.gmpl_functions.specs.Strings.{plain_text}
use Rattle.gmpl_formats.specs.Printing.{printed}
use Rattle.gmpl_operations.specs.Values.{symbol_in}
use Rattle.gmpl_data.specs.declared.tables.LoadedModel.{LoadedModel}
use Rattle.gmpl_meaning.specs.Members.{evaluated}
use Rattle.gmpl_meaning.specs.Parts.{Bindings}
use Rattle.gmpl_generate.specs.declared.fault.ModelFaultKind.TheVariants.{Evaluation}
use Rattle.gmpl_generate.specs.declared.scopes.Scopes.{Scopes}
use Rattle.gmpl_generate.specs.Running.{Printing}
use Rattle.gmpl_generate.specs.Scopes.{over}

-- a text behind what is printed so far, or its fault
abbrev pub put : Outcome (List ℕ) → Printing (Unit {0})
put (Ok more) text = Ok (tt, text ++ more)
put (Err fault) text = Err (Evaluation fault, text)

-- a format with its arguments; there is always a format
abbrev pub formatted : List Symbol → Outcome (List ℕ)
formatted [] = Err BadFormat
formatted (format ∷ arguments) = printed (plain_text format) arguments

module _ (model : LoadedModel) where
  abbrev pub symbol_of : Bindings → Expr → Outcome Symbol
  symbol_of b x = then_do symbol_in (evaluated model x b)

  -- from the left, behind those found
  abbrev pub symbols_of : Bindings → List Symbol → List Expr → Outcome (List Symbol)
  symbols_of b found [] = Ok found
  symbols_of b found (x ∷ xs) = then_do (λ s. symbols_of b (found ++ s ∷ []) xs) (symbol_of b x)

  abbrev pub text_at : List Expr → Bindings → Outcome (List ℕ)
  text_at parts b = then_do formatted (symbols_of b [] parts)

  abbrev pub print_at : List Expr → Bindings → Printing (Unit {0})
  print_at parts b = put (text_at parts b)

  abbrev pub print_each : List Expr → Scopes → Printing (Unit {0})
  print_each parts s = over (print_at parts) s.all s.fault
