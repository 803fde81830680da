-- What is left to show.
use Rattle.std.proofs.Common.{◌≡◌, drop, string_bytes}
use Rattle.gmpl_generate.specs.Display.{show_items}
use Rattle.gmpl_generate.proofs.display.show_items.Given as goal

abbrev pub invariant-loop-item : goal.invariant-loop-item
invariant-loop-item l =
    (show_items l.model l.bindings l.items (string_bytes l.initial.so_far) ≡ show_items l.model l.bindings (drop l.item-index l.items) (string_bytes l.so_far)) × (l.context ≡ l.model)
