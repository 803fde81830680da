use Rattle.std.proofs.Common.{◌∙◌, ap, length, get_or, subst, ℕ, ◌<◌}
use Rattle.std.proofs.lemmas.List.{get_or_default}
use Rattle.basis.specs.declared.Place.TheVariants.{Basic, AtZero}
use Rattle.root_cuts.specs.RootBasis.{settled}
use Rattle.root_cuts.proofs.SettledPlaces.{settled_column, settled_row}
use Rattle.root_cuts.proofs.places.settled_place.Goals as goal

pub returns-then-v-columns : goal.returns-then-v-columns
returns-then-v-columns c =
    let b = c.args.places.now in
    let at = get_or b c.args.v Basic in
    let column = c.index-columns-v.result in
    c.settled.ensures ∙ ap (λ l. settled l c.upper.result at) c.lower.ensures ∙ ap (λ u. settled column.lower u at) c.upper.ensures
    ∙ settled_column c.args.problem.now b c.args.v at (get_or_default b c.args.v Basic AtZero c.requires.known) c.columns-columns.result.now column c.columns-columns.ensures c.if-v-columns.true c.index-columns-v.is

pub returns-else-v-columns : goal.returns-else-v-columns
returns-else-v-columns c =
    let b = c.args.places.now in
    let at = get_or b c.args.v Basic in
    let row = c.index-rows-v.result in
    c.settled-else-v-columns.ensures ∙ ap (λ l. settled l c.upper-else-v-columns.result at) c.lower-else-v-columns.ensures ∙ ap (λ u. settled row.lower u at) c.upper-else-v-columns.ensures
    ∙ settled_row c.args.problem.now b c.args.v at (get_or_default b c.args.v Basic AtZero c.requires.known) (length c.columns-columns.result.now) c.rows.result.now row
    (ap length c.columns-columns.ensures) c.rows.ensures c.if-v-columns.false (subst (λ (n : ℕ). c.args.v < n) c.requires.size c.requires.known) c.index-rows-v.is
