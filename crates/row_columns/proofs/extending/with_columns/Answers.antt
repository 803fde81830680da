use Rattle.std.proofs.Common.{◌<◌, ◌^◌, ap, arith}
use Rattle.milp.specs.Problem.{Problem}
use Rattle.row_columns.proofs.Extensions.{new_columns_fit, columns_fit}
use Rattle.row_columns.proofs.extending.with_columns.Goals as goal

pub add_form_columns-requires : goal.add_form_columns-requires
add_form_columns-requires c =
    let fits : c.args.count < 2 ^ 32 = (let k = c.ranges.count.fits in omega arith) in
    new_columns_fit c.args.prefix.now c.args.forms.now c.args.problem.now.columns c.in_ok-builder.builder.columns c.args.count c.requires.count fits (ap (λ (p : Problem). p.columns) c.in_ok-builder.ensures)

pub add_columns-requires : goal.add_columns-requires
add_columns-requires c =
    let fits : c.args.count < 2 ^ 32 = (let k = c.ranges.count.fits in omega arith) in
    columns_fit c.args.prefix.now c.args.forms.now c.args.problem.now.columns c.in_ok-builder.builder.columns c.args.count c.requires.count fits (ap (λ (p : Problem). p.columns) c.in_ok-builder.ensures)
    c.add_form_columns.new.builder.columns c.columns.result.now (ap (λ (p : Problem). p.columns) c.in_ok-add_form_columns.ensures) c.columns.ensures c.requires.names c.keeps_its_limits.ensures.well_formed.column_names
