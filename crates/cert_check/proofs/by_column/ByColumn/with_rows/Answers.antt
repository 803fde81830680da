use Rattle.std.proofs.Common.{◌≡◌, ◌∙◌, ap, length, subst, slice_get, List, Option}
use Rattle.std.specs.Prelude.{IfSome}
use Rattle.milp.specs.Problem.{Problem}
use Rattle.instance.specs.declared.by_column.ColumnEntry.{ColumnEntry}
use Rattle.instance.specs.ByColumn.{AreByColumn, entries_in_column}
use Rattle.instance.specs.Sums.{form_of}
use Rattle.cert_check.specs.Sums.{with_products, item_products}
use Rattle.cert_check.specs.Lookup.{at_entries}
use Rattle.cert_check.proofs.Merge.{by_column}
use Rattle.cert_check.proofs.by_column.ByColumn.with_rows.Goals as goal

pub returns-in-Some : goal.returns-in-Some
returns-in-Some c =
    let p = c.self.inside.problem.now in
    let lists : AreByColumn c.in-Some.entries p.columns p.rows = subst (λ (o : Option (List (List ColumnEntry))). IfSome o (λ (ls : List (List ColumnEntry)). AreByColumn ls p.columns p.rows)) c.in-Some.is c.self.invariant in
    let entries : c.get.result.now ≡ entries_in_column p.rows c.args.column = c.get.ensures ∙ lists.entries c.args.column in
    let merged = by_column (length p.columns) p.rows c.args.items.now c.args.column c.keeps_its_limits.ensures.well_formed.row_forms c.requires.items in
    let sum = c.with_entries.ensures ∙ ap (λ (es : List ColumnEntry). with_products c.args.start (at_entries es c.args.items.now)) entries ∙ ap (with_products c.args.start) merged in
    subst (λ (q : Problem). c.with_entries.result ≡ with_products c.args.start (item_products (λ i. form_of (slice_get q.rows i)) c.args.items.now c.args.column)) c.self.view_is sum
