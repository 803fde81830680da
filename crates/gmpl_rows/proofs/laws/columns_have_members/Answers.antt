use Rattle.gmpl_rows.proofs.MemberNames.{bounds_are, columns_are, rows_are, columns_count, rows_count}
use Rattle.gmpl_rows.proofs.laws.columns_have_members.Goals as goal

pub returns-clause-columns : goal.returns-clause-columns
returns-clause-columns c = columns_are

pub returns-clause-bounds : goal.returns-clause-bounds
returns-clause-bounds c = bounds_are

pub returns-clause-rows : goal.returns-clause-rows
returns-clause-rows c = rows_are

pub returns-clause-column_count : goal.returns-clause-column_count
returns-clause-column_count c = columns_count

pub returns-clause-row_count : goal.returns-clause-row_count
returns-clause-row_count c = rows_count
