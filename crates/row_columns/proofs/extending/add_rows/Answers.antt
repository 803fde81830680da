use Rattle.std.proofs.Common.{◌<◌, ◌^◌, arith}
use Rattle.certificate.specs.Written.{count_max}
use Rattle.row_columns.proofs.Extensions.{moved_rows_fit, moved_rows_within, tying_rows_fit, tying_rows_within}
use Rattle.row_columns.proofs.extending.add_rows.Goals as goal

pub add_moved_rows-requires-clause-names : goal.add_moved_rows-requires-clause-names
add_moved_rows-requires-clause-names c =
    moved_rows_fit c.args.problem.now c.args.prefix.now c.args.forms.now c.args.builder.now c.rows.result.now c.args.count c.requires.count c.requires.rows c.requires.size c.rows.ensures c.keeps_its_limits.ensures.well_formed.row_names

pub add_moved_rows-requires-clause-entries : goal.add_moved_rows-requires-clause-entries
add_moved_rows-requires-clause-entries c =
    moved_rows_within c.args.problem.now c.args.prefix.now c.args.forms.now c.args.builder.now c.rows.result.now c.args.count c.requires.count c.requires.rows c.requires.size c.rows.ensures c.keeps_its_limits.ensures.well_formed.row_forms

pub add_tying_rows-requires-clause-names : goal.add_tying_rows-requires-clause-names
add_tying_rows-requires-clause-names c =
    let fits : c.args.count < 2 ^ 32 = (let k = c.ranges.count.fits in omega arith) in
    tying_rows_fit c.args.problem.now c.args.prefix.now c.args.forms.now c.args.builder.now c.rows.result.now c.args.count c.requires.count c.requires.rows c.requires.size c.rows.ensures c.add_moved_rows.new.builder
    c.in_ok-add_moved_rows.ensures fits c.requires.names

pub add_tying_rows-requires-clause-entries : goal.add_tying_rows-requires-clause-entries
add_tying_rows-requires-clause-entries c =
    tying_rows_within c.args.problem.now c.args.prefix.now c.args.forms.now c.args.builder.now c.rows.result.now c.args.count c.requires.count c.requires.rows c.requires.size c.rows.ensures c.add_moved_rows.new.builder
    c.in_ok-add_moved_rows.ensures count_max c.requires.ascending c.requires.whole
