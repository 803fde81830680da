-- The words of the kinds of faults that a MathProg model may have.
use Rattle.std.specs.Prelude.{ℕ, List, ◌++◌, codes}
use Rattle.fraction.specs.Text.{text_of}
use Rattle.fraction.specs.declared.frac.Op.{Op}
use Rattle.fraction.specs.declared.frac.Op.TheVariants.{Add, Sub, Mul, Div}
use Rattle.fraction.specs.declared.frac.NoFit.{NoFit}
use Rattle.gmpl_syntax.specs.declared.fault.SyntaxFaultKind.{SyntaxFaultKind}
use Rattle.gmpl_syntax.specs.declared.fault.SyntaxFaultKind.TheVariants as syntax
use Rattle.gmpl_blocks.specs.declared.fault.DataFaultKind.{DataFaultKind}
use Rattle.gmpl_blocks.specs.declared.fault.DataFaultKind.TheVariants as given
use Rattle.gmpl_value.specs.declared.eval_fault.EvalFault.{EvalFault}
use Rattle.gmpl_value.specs.declared.eval_fault.EvalFault.TheVariants as eval
use Rattle.gmpl_generate.specs.declared.fault.ModelFaultKind.{ModelFaultKind}
use Rattle.gmpl_generate.specs.declared.fault.ModelFaultKind.TheVariants.{Evaluation, CheckFailed, Table}
use Rattle.csv_tables.specs.declared.fault.TableFault.{TableFault}
use Rattle.csv_tables.specs.declared.fault.TableFault.TheVariants.{NoField, BadRecord, TwiceKey}

abbrev pub operator_text : Op → List ℕ
operator_text Add = codes "+"
operator_text Sub = codes "-"
operator_text Mul = codes "*"
operator_text Div = codes "/"

-- `A OP B`
abbrev pub operation_text : NoFit → List ℕ
operation_text f = text_of f.a ++ (codes " " ++ (operator_text f.op ++ (codes " " ++ text_of f.b)))

-- of the text
abbrev pub syntax_kind_text : SyntaxFaultKind → List ℕ
syntax_kind_text syntax.BadByte = codes "BadByte"
syntax_kind_text syntax.UnendedString = codes "UnendedString"
syntax_kind_text syntax.UnendedComment = codes "UnendedComment"
syntax_kind_text syntax.TooWide = codes "TooWide"
syntax_kind_text syntax.NotAStatement = codes "NotAStatement"
syntax_kind_text syntax.Unended = codes "Unended"
syntax_kind_text syntax.TooDeep = codes "TooDeep"
syntax_kind_text syntax.Undeclared = codes "Undeclared"
syntax_kind_text syntax.Declared = codes "Declared"
syntax_kind_text syntax.Unsupported = codes "Unsupported"
syntax_kind_text syntax.WrongKind = codes "WrongKind"
syntax_kind_text syntax.WrongDimension = codes "WrongDimension"

-- of a block of data
abbrev pub data_kind_text : DataFaultKind → List ℕ
data_kind_text given.BadByte = codes "BadByte"
data_kind_text given.UnendedString = codes "UnendedString"
data_kind_text given.UnendedComment = codes "UnendedComment"
data_kind_text given.TooWide = codes "TooWide"
data_kind_text given.BadForm = codes "BadForm"
data_kind_text given.Unknown = codes "Unknown"
data_kind_text given.HasExpression = codes "HasExpression"
data_kind_text given.WrongDimension = codes "WrongDimension"
data_kind_text given.Twice = codes "Twice"
data_kind_text given.Unended = codes "Unended"

-- why something has no value; behind NoFit stands the operation
abbrev pub evaluation_text : EvalFault → List ℕ
evaluation_text eval.NoValue = codes "NoValue"
evaluation_text eval.OutOfDomain = codes "OutOfDomain"
evaluation_text eval.Restriction = codes "Restriction"
evaluation_text eval.DivZero = codes "DivZero"
evaluation_text eval.NotWhole = codes "NotWhole"
evaluation_text eval.NotANumber = codes "NotANumber"
evaluation_text eval.Nonlinear = codes "Nonlinear"
evaluation_text eval.BadFormat = codes "BadFormat"
evaluation_text eval.Depth = codes "Depth"
evaluation_text eval.TooMany = codes "TooMany"
evaluation_text eval.NoDual = codes "NoDual"
evaluation_text (eval.NoFit f) = codes "NoFit " ++ operation_text f
evaluation_text eval.NoMemory = codes "NoMemory"

-- of a table that is read
abbrev pub table_text : TableFault → List ℕ
table_text NoField = codes "NoField"
table_text BadRecord = codes "BadRecord"
table_text TwiceKey = codes "TwiceKey"

-- of the execution of a model
abbrev pub model_kind_text : ModelFaultKind → List ℕ
model_kind_text (Evaluation fault) = evaluation_text fault
model_kind_text CheckFailed = codes "CheckFailed"
model_kind_text (Table fault) = table_text fault
