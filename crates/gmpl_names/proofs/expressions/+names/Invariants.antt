-- What is gone over, then the rest.
use Rattle.std.proofs.Common.{◌≡◌, [], map, drop}
use Rattle.gmpl_names.specs.Expressions.{expr, link, entry, component, exprs, links, entries, components_from, all_from}
use Rattle.gmpl_names.proofs.expressions.+names.Given as goal

abbrev pub invariant-resolve_exprs-loop-one : goal.invariant-resolve_exprs-loop-one
invariant-resolve_exprs-loop-one l = exprs l.objects l.all l.fn.scope ≡ all_from l.made (map (expr l.objects) (drop l.one-index l.all)) l.scope

abbrev pub invariant-resolve_links-loop-one : goal.invariant-resolve_links-loop-one
invariant-resolve_links-loop-one l = links l.objects l.all l.fn.scope ≡ all_from l.made (map (link l.objects) (drop l.one-index l.all)) l.scope

abbrev pub invariant-resolve_entries-loop-one : goal.invariant-resolve_entries-loop-one
invariant-resolve_entries-loop-one l = entries l.objects l.all l.fn.scope ≡ all_from l.made (map (entry l.objects) (drop l.one-index l.all)) l.scope

abbrev pub invariant-resolve_components-loop-one : goal.invariant-resolve_components-loop-one
invariant-resolve_components-loop-one l = components_from [] (map (component l.objects) l.all) l.fn.found l.fn.scope ≡ components_from l.made (map (component l.objects) (drop l.one-index l.all)) l.found l.scope
