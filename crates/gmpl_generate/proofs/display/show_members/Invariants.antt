-- What is left to show.
use Rattle.std.proofs.Common.{◌≡◌, drop, string_bytes}
use Rattle.gmpl_generate.specs.Display.{show_members}
use Rattle.gmpl_generate.proofs.display.show_members.Given as goal

abbrev pub invariant-loop-element : goal.invariant-loop-element
invariant-loop-element l =
    (show_members l.model l.place l.name l.walk.elements l.walk.fault (string_bytes l.initial.so_far) ≡ show_members l.model l.place l.name (drop l.element-index l.walk.elements) l.walk.fault (string_bytes l.so_far)) × (l.context ≡ l.model)
