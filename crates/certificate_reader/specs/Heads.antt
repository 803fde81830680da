-- The first line of what shows a derived row, as the code has it.
use Rattle.certificate_reader.specs.Reading.{ProofLine, PlainLine, SplitLine}
use Rattle.certificate_reader.specs.declared.reading.ProofHead.{ProofHead}
use Rattle.certificate_reader.specs.declared.reading.ProofHead.TheVariants.{Plain, Split}

abbrev pub proof_line_of : ProofHead → ProofLine
proof_line_of (Plain w) = PlainLine w
proof_line_of (Split at form) = SplitLine at form
