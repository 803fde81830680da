use Rattle.std.proofs.Common.{◌≡◌, ◌++◌, drop}
use Rattle.std.specs.Prelude.{string_bytes}
use Rattle.gmpl_member_names.specs.Names.{further}
use Rattle.gmpl_member_names.specs.Narrow.{AreNarrow}
use Rattle.gmpl_member_names.proofs.member.push_further.Given as goal

abbrev pub invariant-loop-symbol : goal.invariant-loop-symbol
invariant-loop-symbol l = record {
  text : string_bytes l.made ++ further (drop l.symbol-index l.symbols) ≡ string_bytes l.initial.made ++ further l.symbols;
  narrow : AreNarrow (drop l.symbol-index l.symbols) → AreNarrow l.symbols;
}
