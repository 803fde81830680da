-- Each row has its entries.
use Rattle.std.proofs.Common.{◌∙◌, List, [], length, map, refl, subst, sym, ap, arith, IsTrue}
use Rattle.std.specs.List.{list_all}
use Rattle.milp.specs.Problem.{Row}
use Rattle.instance.specs.WellFormed.{are_distinct_rows, are_entries, entry_count}
use Rattle.gmpl_rows.specs.Problem.{column_of, rows_from}
use Rattle.gmpl_rows.specs.Laying.{rows_with}
use Rattle.gmpl_rows.proofs.Laying.{rows-made, rows-few, rows-length, rows-forms, length-columns, length-laid}
use Rattle.gmpl_rows.specs.Named.{AreRowsNarrow}
use Rattle.gmpl_rows.proofs.RowNames.{new_rows}
use Rattle.gmpl_rows.proofs.finished.rows.Goals as goal

pub made_rows-requires : goal.made_rows-requires
made_rows-requires c = ap (λ rs. length rs) (c.deref.ensures.value ∙ c.in_ok-begun.ensures) ∙ length-laid c.args.laid.now (length c.rows-heads.result.now)

pub returns-clause-value : goal.returns-clause-value
returns-clause-value c = rows-made c.objects-objects.result.now c.args.laid.now c.args.draft.now.rows c.rows-heads.result.now c.in_ok-begun.begun.items (length c.rows-heads.result.now) c.in_ok-rows.rows.items c.rows-heads.ensures.value refl c.in_ok-begun.ensures (c.in_ok-rows.ensures.value ∙ ap (rows_with c.objects-objects.result.now c.rows-heads.result.now) c.deref.ensures.value)
    ∙ ap (λ vs. rows_from vs c.args.laid.now 0 c.args.draft.now.rows) c.objects-objects.ensures.value

pub returns-clause-few : goal.returns-clause-few
returns-clause-few c = omega (arith, ap (λ rs. length rs) (returns-clause-value c), rows-length c.args.draft.now.objects c.args.laid.now 0 c.args.draft.now.rows, c.rows-heads.ensures.few)

pub returns-clause-entries : goal.returns-clause-entries
returns-clause-entries c = omega (arith, ap entry_count (returns-clause-value c), rows-few c.args.draft.now.objects c.args.laid.now c.args.draft.now.rows c.requires.cells)

pub returns-clause-forms : goal.returns-clause-forms
returns-clause-forms c =
    let P : List Row → Type 0 = λ rs. IsTrue (list_all (λ (r : Row). are_entries (length (map column_of c.args.laid.now)) r.entries) rs) in
    subst P (sym (returns-clause-value c)) (rows-forms c.args.draft.now.objects c.args.laid.now 0 c.args.draft.now.rows (length (map column_of c.args.laid.now)) (omega (arith, length-columns c.args.laid.now)))

pub returns-clause-new : goal.returns-clause-new
returns-clause-new c =
    let P : List Row → Type 0 = λ rs. IsTrue (are_distinct_rows [] rs) in
    let narrow = subst AreRowsNarrow c.rows-heads.ensures.value c.in_ok-rows.ensures.narrow in
    subst P (sym (returns-clause-value c)) (new_rows c.args.draft.now.objects c.args.laid.now c.args.draft.now.rows c.objects-objects.ensures.differ c.rows-heads.ensures.declared (c.rows-heads.ensures.members) narrow)
