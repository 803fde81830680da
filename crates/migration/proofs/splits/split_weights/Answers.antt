use Rattle.std.proofs.Common.{◌≡◌, ◌∙◌, [], List, true, sym, subst, refl}
use Rattle.rational.specs.Rational.{zero_ℚ}
use Rattle.rational.specs.Compare.{is_less}
use Rattle.certificate.specs.Written.{AreItemsFrom}
use Rattle.verdicts.specs.Certificate.{Item, Side, Weights}
use Rattle.verdicts.specs.Migrated.{Each, Rising, with_splits}
use Rattle.migration.proofs.Order.{in_rank}
use Rattle.migration.proofs.splits.split_weights.Goals as goal

abbrev only : List Item → Weights
only columns = record { rows = []; columns = columns; derived = []; splits = [] }

pub to_items-requires-clause-order : goal.to_items-requires-clause-order
to_items-requires-clause-order c =
    let columns : List Item = c.as_slice-columns.result.now in
    let sides : List Side = c.args.turns.now in
    let items : AreItemsFrom 0 columns = subst (λ (is : List Item). AreItemsFrom 0 is) (sym c.as_slice-columns.ensures.items) c.as_slice-columns.ensures.written in
    let named : c.deref.result.now ≡ with_splits c.args.problem.now sides columns [] = c.deref.ensures.value ∙ c.in_ok-named.ensures.named in
    subst (λ (is : List Item). Rising 0 is) (sym named) (c.splits_are_named.ensures.rising c.args.problem.now sides (only columns) refl (in_rank columns items))

pub to_items-requires-clause-positive : goal.to_items-requires-clause-positive
to_items-requires-clause-positive c =
    let columns : List Item = c.as_slice-columns.result.now in
    let sides : List Side = c.args.turns.now in
    let named : c.deref.result.now ≡ with_splits c.args.problem.now sides columns [] = c.deref.ensures.value ∙ c.in_ok-named.ensures.named in
    subst (λ (is : List Item). Each (λ i. is_less zero_ℚ i.weight ≡ true) is) (sym named) (c.splits_are_named.ensures.positive c.args.problem.now sides (only columns) tt)
