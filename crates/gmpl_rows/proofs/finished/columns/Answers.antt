-- Columns and entries were counted.
use Rattle.std.proofs.Common.{[], subst, arith, IsTrue, Result, Ok, Err}
use Rattle.std.specs.Prelude.{OnOk}
use Rattle.instance.specs.WellFormed.{are_distinct_columns}
use Rattle.gmpl_rows.specs.Problem.{columns_of}
use Rattle.gmpl_rows.specs.Named.{AreApart}
use Rattle.gmpl_rows.proofs.ColumnNames.{new_columns}
use Rattle.gmpl_rows.proofs.Laying.{laid_out-cells}
use Rattle.gmpl_rows.proofs.finished.columns.Goals as goal

pub returns-clause-few : goal.returns-clause-few
returns-clause-few c = omega (arith, c.demanded.ensures.columns, (laid_out-cells c.args.draft.now.objects c.args.draft.now.variables).1)

pub returns-clause-cells : goal.returns-clause-cells
returns-clause-cells c = omega (arith, c.demanded.ensures.entries, (laid_out-cells c.args.draft.now.objects c.args.draft.now.variables).0)

pub returns-clause-new : goal.returns-clause-new
returns-clause-new c = made c.lay_out.result c.lay_out.ensures.apart
  where
    open_new : AreApart c.objects.result.now c.demanded.result.now → IsTrue (are_distinct_columns [] (columns_of c.args.draft.now))
    open_new apart = new_columns c.args.draft.now.objects c.args.draft.now.variables c.objects.ensures.differ (subst (λ vs. AreApart vs c.args.draft.now.variables) c.objects.ensures.value (subst (AreApart c.objects.result.now) c.demanded.ensures.value apart))

    made : {A E : Type 0} (r : Result A E) → OnOk r (AreApart c.objects.result.now c.demanded.result.now) → OnOk r (IsTrue (are_distinct_columns [] (columns_of c.args.draft.now)))
    made (Ok a) h = open_new h
    made (Err e) h = tt
