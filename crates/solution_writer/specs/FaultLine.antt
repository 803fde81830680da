-- The line of a fault.
use Rattle.std.specs.Prelude.{ℕ, List, ◌++◌, codes}
use Rattle.std.specs.Fmt.{decimal}
use Rattle.fraction.specs.declared.frac.NoFit.{NoFit}
use Rattle.gmpl_syntax.specs.declared.fault.SyntaxFault.{SyntaxFault}
use Rattle.gmpl_blocks.specs.declared.fault.DataFault.{DataFault}
use Rattle.gmpl_generate.specs.declared.fault.ModelFault.{ModelFault}
use Rattle.model_text.specs.KindText.{kind_text}
use Rattle.model_text.specs.declared.fault.FileFault.{FileFault}
use Rattle.certificate_lines.specs.declared.fault.FaultKind.{FaultKind}
use Rattle.certificate_lines.specs.declared.fault.FaultKind.TheVariants.{BadLine, TooWide, Unended, Extra}
use Rattle.certificate_lines.specs.declared.fault.CertFault.{CertFault}
use Rattle.cert_check.specs.declared.part.Part.{Part}
use Rattle.cert_check.specs.declared.part.Part.TheVariants.{Size, Point, Value, Ray, DerivedRow, Node}
use Rattle.solution_writer.specs.KindTexts.{operation_text, syntax_kind_text, data_kind_text, model_kind_text}
use Rattle.solution_writer.specs.declared.fault.Fault.{Fault}
use Rattle.solution_writer.specs.declared.fault.Fault.TheVariants.{Usage, Missing, OpenFault, ReadFault, WriteFault, TooLong, Syntax, Data, Model, File, Certificate, NotLinear, Overflow, UndecidedNodes, UndecidedPivots, Refused, NoMemory}

abbrev pub named_line : List ℕ → List ℕ → List ℕ
named_line what name = what ++ (codes ": " ++ (name ++ codes "\n"))

-- statements, blocks and lines count from 1
abbrev pub place_line : List ℕ → ℕ → ℕ → List ℕ → List ℕ
place_line what number line kind =
    what ++ (codes " " ++ (decimal number ++ (codes ", line " ++ (decimal line ++ (codes ": " ++ (kind ++ codes "\n"))))))

abbrev pub syntax_line : SyntaxFault → List ℕ
syntax_line f = place_line (codes "syntax fault: statement") f.statement f.line (syntax_kind_text f.kind)

abbrev pub data_line : DataFault → List ℕ
data_line f = place_line (codes "data fault: block") f.block f.line (data_kind_text f.kind)

abbrev pub model_line : ModelFault → List ℕ
model_line f = place_line (codes "model fault: statement") f.statement f.line (model_kind_text f.kind)

abbrev pub file_line : FileFault → List ℕ
file_line f = codes "file fault: line " ++ (decimal f.line ++ (codes ": " ++ (kind_text f.kind ++ codes "\n")))

abbrev pub certificate_kind_text : FaultKind → List ℕ
certificate_kind_text BadLine = codes "BadLine"
certificate_kind_text TooWide = codes "TooWide"
certificate_kind_text Unended = codes "Unended"
certificate_kind_text Extra = codes "Extra"

abbrev pub certificate_line : CertFault → List ℕ
certificate_line f = codes "certificate fault: line " ++ (decimal f.line ++ (codes ": " ++ (certificate_kind_text f.kind ++ codes "\n")))

-- a part of a certificate; derived rows and nodes count from 1
abbrev pub part_text : Part → List ℕ
part_text Size = codes "size"
part_text Point = codes "point"
part_text Value = codes "value"
part_text Ray = codes "ray"
part_text (DerivedRow k) = codes "derived " ++ decimal k
part_text (Node k) = codes "node " ++ decimal k

abbrev pub refused_line : Part → List ℕ
refused_line part = codes "refused: " ++ (part_text part ++ codes "\n")

abbrev pub undecided_nodes_line : List ℕ
undecided_nodes_line = codes "UNDECIDED nodes\n"

abbrev pub undecided_pivots_line : List ℕ
undecided_pivots_line = codes "UNDECIDED pivots\n"

abbrev pub not_linear_line : List ℕ
not_linear_line = codes "not linear\n"

-- the operation whose result does not fit
abbrev pub overflow_line : NoFit → List ℕ
overflow_line f = codes "overflow: " ++ (operation_text f ++ codes "\n")

abbrev pub usage_line : List ℕ
usage_line = codes "usage: glpsol (--math|--freemps|--lp) FILE [options]\n"

abbrev pub no_memory_line : List ℕ
no_memory_line = codes "no memory\n"

abbrev pub fault_line : Fault → List ℕ
fault_line Usage = usage_line
fault_line (Missing name) = named_line (codes "missing") name.now
fault_line (OpenFault name) = named_line (codes "open fault") name.now
fault_line (ReadFault name) = named_line (codes "read fault") name.now
fault_line (WriteFault name) = named_line (codes "write fault") name.now
fault_line (TooLong name) = named_line (codes "too long") name.now
fault_line (Syntax f) = syntax_line f
fault_line (Data f) = data_line f
fault_line (Model f) = model_line f
fault_line (File f) = file_line f
fault_line (Certificate f) = certificate_line f
fault_line NotLinear = not_linear_line
fault_line (Overflow f) = overflow_line f
fault_line UndecidedNodes = undecided_nodes_line
fault_line UndecidedPivots = undecided_pivots_line
fault_line (Refused part) = refused_line part
fault_line NoMemory = no_memory_line
