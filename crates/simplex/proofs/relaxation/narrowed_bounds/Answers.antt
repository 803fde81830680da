use Rattle.std.proofs.Common.{◌∙◌, ◌<◌, length, map, set, take, subst, sym, ap}
use Rattle.certificate.specs.Written.{split_column}
use Rattle.search_node.specs.Sides.{sides_of}
use Rattle.certificate.specs.Ways.{side_of}
use Rattle.simplex.specs.Bounds.{column_bounds}
use Rattle.simplex.specs.Narrowed.{narrowed_by, bounds_at}
use Rattle.simplex.proofs.NodeParts.{columns_alone}
use Rattle.simplex.proofs.RayNumbers.{fault_from}
use Rattle.simplex.proofs.Narrowing.{split_read, split_on, length_under, split_fault, one_more_split}
use Rattle.simplex.proofs.relaxation.narrowed_bounds.Goals as goal

pub loop-taken-init : goal.loop-taken-init
loop-taken-init c = c.in_ok-bounds.ensures ∙ ap (map column_bounds) c.columns.ensures ∙ columns_alone c.args.instance.now

pub narrow-requires : goal.narrow-requires
narrow-requires c =
    let p = c.args.instance.now in
    let taken = c.args.splits.now in
    let i = c.loop-taken.taken-index in
    let inside : split_column c.taken-item.result.split < length p.columns =
    split_on (length p.columns) taken i c.taken-item.result c.requires (split_read taken i c.taken-item.result c.loop-taken-test.true c.taken-item.is) c.column-column.ensures.written in
    subst (λ n. n < length c.loop-taken.bounds.items) (sym c.column-column.ensures.column) (subst (λ n. split_column c.taken-item.result.split < n) (sym (length_under p (sides_of (take i taken)) c.loop-taken.bounds.items c.loop-taken.invariant)) inside)

pub returns-in_err-bounds-2-clause-err : goal.returns-in_err-bounds-2-clause-err
returns-in_err-bounds-2-clause-err c =
    let taken = c.args.splits.now in
    let i = c.loop-taken.taken-index in
    fault_from c.from_residual-in_err-bounds-2.result c.in_err-bounds-2.field-0.0 _ c.from_residual-in_err-bounds-2.ensures.1
    (split_fault taken i c.taken-item.result c.in_err-bounds-2.field-0.0 (split_read taken i c.taken-item.result c.loop-taken-test.true c.taken-item.is) c.in_err-bounds-2.ensures.err)

pub loop-taken-preserved : goal.loop-taken-preserved
loop-taken-preserved c =
    let taken = c.args.splits.now in
    let i = c.loop-taken.taken-index in
    let old = c.loop-taken.bounds.items in
    let t = c.taken-item.result in
    let made = c.in_ok-bounds-2.ensures.ok ∙ ap (λ j. set old j (narrowed_by (side_of t.split t.side) (bounds_at old j))) c.column-column.ensures.column in
    one_more_split c.args.instance.now taken i t old c.in_ok-bounds-2.bounds.items c.requires (split_read taken i t c.loop-taken-test.true c.taken-item.is) c.column-column.ensures.written c.loop-taken.invariant made
