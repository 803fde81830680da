use Rattle.std.proofs.Common.{◌≡◌, drop}
use Rattle.std.specs.List.{list_all}
use Rattle.gmpl_member_names.specs.Names.{goes_on_bare}
use Rattle.gmpl_member_names.proofs.symbols.all_go_on_bare.Given as goal

abbrev pub invariant-loop-c : goal.invariant-loop-c
invariant-loop-c l = list_all goes_on_bare (drop l.c-index l.text) ≡ list_all goes_on_bare l.text
