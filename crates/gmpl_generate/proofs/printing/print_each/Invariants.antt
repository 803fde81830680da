-- What is left to go over.
use Rattle.std.proofs.Common.{◌≡◌, drop, string_bytes}
use Rattle.gmpl_generate.specs.Printing.{print_at}
use Rattle.gmpl_generate.specs.Scopes.{over}
use Rattle.gmpl_generate.proofs.printing.print_each.Given as goal

abbrev pub invariant-loop-bindings : goal.invariant-loop-bindings
invariant-loop-bindings l =
    (over (print_at l.model l.parts) l.scopes.all l.scopes.fault (string_bytes l.initial.so_far) ≡ over (print_at l.model l.parts) (drop l.bindings-index l.scopes.all) l.scopes.fault (string_bytes l.so_far)) × (l.context ≡ l.model)
