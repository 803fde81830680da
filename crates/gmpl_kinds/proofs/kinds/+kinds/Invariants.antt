-- What is judged, then the rest.
use Rattle.std.proofs.Common.{◌≡◌, drop}
use Rattle.gmpl_kinds.specs.Kinds.{shapes_of, all_link_parts, component_parts, all_entry_parts, all_scalars, all_sets, links_from, tuple_parts, dimensions_from, all_parts, all_gathered}
use Rattle.gmpl_kinds.specs.declared.shape.Gathered.TheVariants.{Nothing}
use Rattle.gmpl_kinds.proofs.kinds.+kinds.Given as goal

abbrev pub invariant-all_scalars-loop-one : goal.invariant-all_scalars-loop-one
invariant-all_scalars-loop-one l = all_scalars (shapes_of l.objects l.site l.all) ≡ all_scalars (shapes_of l.objects l.site (drop l.one-index l.all))

abbrev pub invariant-all_sets-loop-one : goal.invariant-all_sets-loop-one
invariant-all_sets-loop-one l = all_sets (shapes_of l.objects l.site l.all) ≡ all_sets (shapes_of l.objects l.site (drop l.one-index l.all))

abbrev pub invariant-all_links-loop-link : goal.invariant-all_links-loop-link
invariant-all_links-loop-link l = links_from l.fn.first (all_link_parts l.objects l.site l.links) ≡ links_from l.shape (all_link_parts l.objects l.site (drop l.link-index l.links))

abbrev pub invariant-tuple_parts-loop-one : goal.invariant-tuple_parts-loop-one
invariant-tuple_parts-loop-one l = tuple_parts l.before (shapes_of l.objects l.site l.parts) ≡ tuple_parts l.count (shapes_of l.objects l.site (drop l.one-index l.parts))

abbrev pub invariant-dimensions_from-loop-one : goal.invariant-dimensions_from-loop-one
invariant-dimensions_from-loop-one l = dimensions_from l.before (all_entry_parts l.objects l.site l.entries) ≡ dimensions_from l.dimension (all_entry_parts l.objects l.site (drop l.one-index l.entries))

abbrev pub invariant-all_parts-loop-one : goal.invariant-all_parts-loop-one
invariant-all_parts-loop-one l = all_parts (component_parts l.objects l.site l.all) ≡ all_parts (component_parts l.objects l.site (drop l.one-index l.all))

abbrev pub invariant-plain_braces-loop-one : goal.invariant-plain_braces-loop-one
invariant-plain_braces-loop-one l = all_gathered Nothing (all_entry_parts l.objects l.site l.entries) ≡ all_gathered l.all (all_entry_parts l.objects l.site (drop l.one-index l.entries))
