-- What is left to go over.
use Rattle.std.proofs.Common.{◌≡◌, drop}
use Rattle.gmpl_generate.specs.Execution.{over}
use Rattle.gmpl_generate.specs.Rows.{constraint_row}
use Rattle.gmpl_generate.proofs.execution.constraint_rows.Given as goal

abbrev pub invariant-loop-element : goal.invariant-loop-element
invariant-loop-element l =
    (over (constraint_row l.model l.place l.constraint) l.walk.elements l.walk.fault l.initial.draft ≡ over (constraint_row l.model l.place l.constraint) (drop l.element-index l.walk.elements) l.walk.fault l.draft) × (l.context ≡ l.model)
