use Rattle.std.proofs.Common.{rules}
use Rattle.std.proofs.lemmas.List.{with_items_is, places}
use Rattle.dictionary.proofs.RowNumbers.{err_from, handed_on}
use Rattle.dictionary.proofs.TableMade.{some_number, made_table, made_numbers, made_fault}
use Rattle.std.proofs.Common.{◌≡◌, subst}
use Rattle.dictionary.specs.Table.{Table, IsTable, IsPivotFault}
use Rattle.dictionary.proofs.dictionary.Dictionary.pivot.Goals as goal

own : (t u : Table) → u ≡ t → IsTable u.places u.positions u.rows u.gains → IsTable t.places t.positions t.rows t.gains
own t u e h = let P : Table → Type 0 = λ t. IsTable t.places t.positions t.rows t.gains in subst P e h

pub pivot_rows-requires-clause-some : goal.pivot_rows-requires-clause-some
pivot_rows-requires-clause-some c = some_number c.args.self c.args.q c.args.r c.deref_mut.result.now c.position-line.result c.position-column.result (search rules) (search rules) (search rules) c.requires.enters c.requires.some_rate

pub returns-in_err-pivot_rows-clause-fault : goal.returns-in_err-pivot_rows-clause-fault
returns-in_err-pivot_rows-clause-fault c =
    err_from c.from_residual.result c.in_err-pivot_rows.field-0.0 _ c.from_residual.ensures.1
    (handed_on _ (IsPivotFault c.args.self c.args.q c.args.r) c.in_err-pivot_rows.field-0.0
    (λ e. made_fault c.args.self c.args.q c.args.r _ _ c.position-line.result c.position-column.result e (own c.args.self _ c.self.view_is c.self.invariant) c.requires.enters c.requires.leaves (search rules) (search rules) (search rules) (search rules))
    c.in_err-pivot_rows.ensures.err)

pub invariant_of-result : goal.invariant_of-result
invariant_of-result c =
    rw (with_items_is c.self.inside.places c.exchange.new.places (search (rules, places)), with_items_is c.self.inside.positions c.move_positions.new.positions (search (rules, places)), with_items_is c.self.inside.rows c.pivot_rows.new.rows (search (rules, places)))
    (made_table c.args.self c.args.q c.args.r c.args.place c.exchange.new.places c.move_positions.new.positions _ c.pivot_rows.new.rows _ c.pivot_rows.new.gains c.position-line.result c.position-column.result (own c.args.self _ c.self.view_is c.self.invariant) c.requires.enters c.requires.leaves c.requires.stops
    (search rules) (search rules) (search rules) (search rules) (search rules) (search rules) c.in_ok-pivot_rows.ensures.ok)

pub returns-clause-numbers : goal.returns-clause-numbers
returns-clause-numbers c =
    rw (with_items_is c.self.inside.places c.exchange.new.places (search (rules, places)), with_items_is c.self.inside.positions c.move_positions.new.positions (search (rules, places)), with_items_is c.self.inside.rows c.pivot_rows.new.rows (search (rules, places)))
    (made_numbers c.args.self c.args.q c.args.r c.args.place c.exchange.new.places c.move_positions.new.positions _ c.pivot_rows.new.rows _ c.pivot_rows.new.gains c.position-line.result c.position-column.result (own c.args.self _ c.self.view_is c.self.invariant) c.requires.enters c.requires.leaves c.requires.stops
    (search rules) (search rules) (search rules) (search rules) (search rules) (search rules) c.in_ok-pivot_rows.ensures.ok)
