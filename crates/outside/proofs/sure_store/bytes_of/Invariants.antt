use Rattle.std.proofs.Common.{◌≡◌, drop}
use Rattle.outside.specs.Mem.{bytes_named}
use Rattle.outside.proofs.sure_store.bytes_of.Given as goal

abbrev pub invariant-loop-file : goal.invariant-loop-file
invariant-loop-file l = bytes_named l.files l.name ≡ bytes_named (drop l.file-index l.files) l.name
