-- What is gone over, then the rest.
use Rattle.std.proofs.Common.{◌≡◌, map, drop}
use Rattle.gmpl_names.specs.Expressions.{all_from}
use Rattle.gmpl_names.specs.Statements.{attribute, attributes}
use Rattle.gmpl_names.proofs.parts.attributes.Given as goal

abbrev pub invariant-loop-one : goal.invariant-loop-one
invariant-loop-one l = attributes l.objects l.all l.fn.scope ≡ all_from l.made (map (attribute l.objects) (drop l.one-index l.all)) l.scope
