-- What is left to go over.
use Rattle.std.proofs.Common.{◌≡◌, drop, string_bytes}
use Rattle.gmpl_generate.specs.Display.{show_items}
use Rattle.gmpl_generate.specs.Scopes.{over}
use Rattle.gmpl_generate.proofs.display.show_each.Given as goal

abbrev pub invariant-loop-bindings : goal.invariant-loop-bindings
invariant-loop-bindings l =
    (over (λ b. show_items l.model b l.items) l.scopes.all l.scopes.fault (string_bytes l.initial.so_far) ≡ over (λ b. show_items l.model b l.items) (drop l.bindings-index l.scopes.all) l.scopes.fault (string_bytes l.so_far)) × (l.context ≡ l.model)
