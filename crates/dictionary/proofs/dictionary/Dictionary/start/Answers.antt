use Rattle.dictionary.specs.Table.{Table}
use Rattle.dictionary.proofs.StartTable.{made_start, start_table, start_is_dictionary}
use Rattle.dictionary.proofs.dictionary.Dictionary.start.Goals as goal

pub invariant_of-result : goal.invariant_of-result
invariant_of-result c =
    let t : Table = record { places = c.in_ok-places.places.items; positions = c.in_ok-positions.positions.items; rows = c.in_ok-rows.rows.items; gains = c.in_ok-gains.gains } in
    start_table c.args.system.now t
    (made_start c.args.system.now c.columns-columns.result c.forms-forms.result.now c.objective.result.now t.places t.positions t.rows t.gains
    c.columns-columns.ensures.count c.forms-forms.ensures c.objective.ensures c.in_ok-places.ensures c.in_ok-positions.ensures c.in_ok-rows.ensures c.in_ok-gains.ensures)

pub returns-clause-dictionary : goal.returns-clause-dictionary
returns-clause-dictionary c =
    let t : Table = record { places = c.in_ok-places.places.items; positions = c.in_ok-positions.positions.items; rows = c.in_ok-rows.rows.items; gains = c.in_ok-gains.gains } in
    start_is_dictionary c.args.system.now t
    (made_start c.args.system.now c.columns-columns.result c.forms-forms.result.now c.objective.result.now t.places t.positions t.rows t.gains
    c.columns-columns.ensures.count c.forms-forms.ensures c.objective.ensures c.in_ok-places.ensures c.in_ok-positions.ensures c.in_ok-rows.ensures c.in_ok-gains.ensures)
    (c.starts.ensures.dictionary c.args.system.now c.in_ok-places.places.items c.columns-columns.ensures.system c.in_ok-places.ensures)
