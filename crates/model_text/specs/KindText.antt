-- The words that name the kinds of a file's faults.
use Rattle.std.specs.Prelude.{ℕ, List, codes}
use Rattle.model_text.specs.declared.fault.FaultKind.{FaultKind}
use Rattle.model_text.specs.declared.fault.FaultKind.TheVariants.{BadSection, BadLine, BadNumber, TooWide, Unknown, Twice, TooMany, NoEnd}

abbrev pub kind_text : FaultKind → List ℕ
kind_text BadSection = codes "BadSection"
kind_text BadLine = codes "BadLine"
kind_text BadNumber = codes "BadNumber"
kind_text TooWide = codes "TooWide"
kind_text Unknown = codes "Unknown"
kind_text Twice = codes "Twice"
kind_text TooMany = codes "TooMany"
kind_text NoEnd = codes "NoEnd"
