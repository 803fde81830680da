use Rattle.std.proofs.Common.{◌≡◌, ◌++◌, length}
use Rattle.std.specs.Prelude.{string_bytes}
use Rattle.std.specs.Str.{IsUtf8}
use Rattle.gmpl_member_names.specs.Names.{doubled}
use Rattle.gmpl_member_names.proofs.symbols.push_doubled.Given as goal

abbrev pub invariant-loop-before : goal.invariant-loop-before
invariant-loop-before l = record {
  utf8 : IsUtf8 l.rest;
  made : string_bytes l.made ++ doubled l.rest ≡ string_bytes l.initial.made ++ doubled l.text;
}

abbrev pub decreases-loop-before : goal.decreases-loop-before
decreases-loop-before l = length l.rest
