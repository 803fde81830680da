-- What is made, then the rest.
use Rattle.std.proofs.Common.{◌≡◌, ◌++◌, map, drop}
use Rattle.gmpl_reader.specs.Data.{file_tokens}
use Rattle.gmpl_reader.proofs.data.files_tokens.Given as goal

abbrev pub invariant-loop-file : goal.invariant-loop-file
invariant-loop-file l = map file_tokens (map (λ file. file.items) l.data_texts) ≡ l.texts.items ++ map file_tokens (map (λ file. file.items) (drop l.file-index l.data_texts))
