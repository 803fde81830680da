use Rattle.std.proofs.Common.{rules, arith}
use Rattle.milp.specs.Form.{number_at}
use Rattle.gomory.proofs.ListEnds.{one_more_entry, form_written}
use Rattle.gomory.proofs.forms.form.Goals as goal

pub loop-column-preserved : goal.loop-column-preserved
loop-column-preserved c = one_more_entry (number_at c.args.list.now) c.loop-column.column c.loop-column.entries.items c.add_entry.new.entries.items c.number-coefficient.result c.number-coefficient.ensures c.loop-column.invariant c.in_ok-add_entry.ensures

pub returns-clause-written : goal.returns-clause-written
returns-clause-written c = form_written (number_at c.args.list.now) c.args.count c.from_vec.result (let k = c.ranges.count.fits in omega arith) (search rules)
