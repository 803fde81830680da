use Rattle.std.proofs.Common.{◌≡◌, ◌++◌, length}
use Rattle.std.specs.Vec.Iter.{into_iter_items, into_iter_len}
use Rattle.gmpl_generate.specs.Running.{files_of}
use Rattle.glpsol_cli.specs.Meaning.{file_pieces}
use Rattle.glpsol_cli.specs.Stages.{pieces_of}
use Rattle.glpsol_cli.proofs.display.file_pieces.Given as goal

-- the pieces so far and those of the files that are left
abbrev pub invariant-loop-file : goal.invariant-loop-file
invariant-loop-file l = record {
  whole : pieces_of l.pieces.items ++ file_pieces (files_of (into_iter_items l.file-iterator)) ≡ file_pieces (files_of l.fn.files.items);
  left : into_iter_len l.file-iterator ≡ length (into_iter_items l.file-iterator);
}
