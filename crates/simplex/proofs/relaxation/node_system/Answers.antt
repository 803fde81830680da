use Rattle.std.proofs.Common.{◌∙◌, length, subst, sym}
use Rattle.search_node.specs.Sides.{sides_of}
use Rattle.dictionary.specs.Ascending.{AreAscending}
use Rattle.simplex.proofs.NodeParts.{is_made, are_ascending}
use Rattle.simplex.proofs.Narrowing.{on_columns}
use Rattle.simplex.proofs.relaxation.node_system.Goals as goal

pub node_bounds-requires : goal.node_bounds-requires
node_bounds-requires c = on_columns (length c.args.instance.now.columns) c.args.node.now.splits c.requires.splits

pub new-requires-clause-ascending : goal.new-requires-clause-ascending
new-requires-clause-ascending c =
    let p = c.args.instance.now in
    let ds = c.args.derived.now in
    let sides = sides_of c.args.node.now.splits in
    subst AreAscending
    (sym (is_made p ds sides c.columns.result.now c.as_slice.result.now c.direction.result c.rows.result.now c.as_slice-2.result.now c.in_ok-forms.forms.items c.in_ok-bounds.bounds.items c.in_ok-objective.objective
    c.columns.ensures c.rows.ensures c.as_slice-2.ensures.rows (c.as_slice.ensures ∙ c.objective.ensures.form) c.direction.ensures c.in_ok-forms.ensures c.in_ok-bounds.ensures.ok c.in_ok-objective.ensures))
    (are_ascending p ds sides c.keeps_its_limits.ensures.well_formed c.as_slice-2.ensures.written)
