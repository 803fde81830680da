use Rattle.std.proofs.Common.{◌≡◌, drop}
use Rattle.outside.specs.Mem.{maker_named}
use Rattle.outside.proofs.sure_store.maker_of.Given as goal

abbrev pub invariant-loop-file : goal.invariant-loop-file
invariant-loop-file l = maker_named l.files l.name ≡ maker_named (drop l.file-index l.files) l.name
