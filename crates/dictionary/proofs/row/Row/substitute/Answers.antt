use Rattle.std.proofs.Common.{◌≡◌, List, refl, sym, subst}
use Rattle.milp.specs.Form.{Entry}
use Rattle.verdicts.specs.WeightedSums.{coefficient_of}
use Rattle.dictionary.specs.Ascending.{IsAscending}
use Rattle.dictionary.proofs.EntryLists.{IsWithout}
use Rattle.dictionary.proofs.RowNumbers.{err_from, substituted_zero}
use Rattle.dictionary.proofs.SparseRows.{number_read, factor_is, taken_out, put_in, put_in_below, not_put_in}
use Rattle.dictionary.proofs.row.Row.substitute.Goals as goal

pub returns-then-is_zero-clause-ok : goal.returns-then-is_zero-clause-ok
returns-then-is_zero-clause-ok c =
    let form = c.self.inside.entries.items in
    let k = c.first_coefficient-factor.result in
    let factor : k ≡ coefficient_of form c.args.at = factor_is form c.deref.result.now c.deref-2.result.now c.first_from-place.result c.args.at k c.is_zero.result c.self.invariant.0 c.deref.ensures.value c.deref-2.ensures.value
    c.first_from-place.ensures.before c.first_from-place.ensures.behind c.first_coefficient-factor.ensures in
    substituted_zero c.args.self.now c.args.solved.now c.args.at k c.is_zero.result
    (number_read c.self.inside.width form form c.args.self.now k c.self.invariant.1 c.self.view_is refl c.args.at factor) c.is_zero.ensures c.if-is_zero.true

pub merged-requires-clause-old : goal.merged-requires-clause-old
merged-requires-clause-old c =
    let gone : IsWithout 0 c.args.at c.self.inside.entries.items c.remove.new.self.items =
    taken_out c.self.inside.entries.items c.deref.result.now c.deref-2.result.now c.first_from-place.result c.args.at c.first_coefficient-factor.result c.is_zero.result c.self.invariant.0 c.deref.ensures.value c.deref-2.ensures.value
    c.first_from-place.ensures.before c.first_from-place.ensures.behind c.first_coefficient-factor.ensures c.remove.new.self.items c.is_zero.ensures c.if-is_zero.false c.remove.ensures.items in
    subst (λ (es : List Entry). IsAscending 0 es) (sym c.deref-3.ensures.value) gone.ascending

pub invariant_of-self : goal.invariant_of-self
invariant_of-self c =
    let gone : IsWithout 0 c.args.at c.self.inside.entries.items c.remove.new.self.items =
    taken_out c.self.inside.entries.items c.deref.result.now c.deref-2.result.now c.first_from-place.result c.args.at c.first_coefficient-factor.result c.is_zero.result c.self.invariant.0 c.deref.ensures.value c.deref-2.ensures.value
    c.first_from-place.ensures.before c.first_from-place.ensures.behind c.first_coefficient-factor.ensures c.remove.new.self.items c.is_zero.ensures c.if-is_zero.false c.remove.ensures.items in
    (gone.ascending, gone.below c.self.inside.width c.self.invariant.1)

pub returns-in_err-self-inside-clause-err : goal.returns-in_err-self-inside-clause-err
returns-in_err-self-inside-clause-err c =
    let form = c.self.inside.entries.items in
    let k = c.first_coefficient-factor.result in
    let factor : k ≡ coefficient_of form c.args.at = factor_is form c.deref.result.now c.deref-2.result.now c.first_from-place.result c.args.at k c.is_zero.result c.self.invariant.0 c.deref.ensures.value c.deref-2.ensures.value
    c.first_from-place.ensures.before c.first_from-place.ensures.behind c.first_coefficient-factor.ensures in
    let gone : IsWithout 0 c.args.at form c.remove.new.self.items =
    taken_out form c.deref.result.now c.deref-2.result.now c.first_from-place.result c.args.at k c.is_zero.result c.self.invariant.0 c.deref.ensures.value c.deref-2.ensures.value
    c.first_from-place.ensures.before c.first_from-place.ensures.behind c.first_coefficient-factor.ensures c.remove.new.self.items c.is_zero.ensures c.if-is_zero.false c.remove.ensures.items in
    err_from c.from_residual.result c.in_err-self-inside.field-0.0 _ c.from_residual.ensures.1
    (not_put_in c.self.inside.width c.solved.inside.width form c.remove.new.self.items c.deref-3.result.now c.solved.inside.entries.items c.deref-4.result.now c.args.self.now c.args.solved.now c.args.at k
    c.self.invariant.1 c.solved.invariant.1 c.solved.invariant.0 c.self.view_is c.solved.view_is c.requires.same_length factor gone c.deref-3.ensures.value c.deref-4.ensures.value c.in_err-self-inside.field-0.0 c.in_err-self-inside.ensures.err)

pub invariant_of-self-2 : goal.invariant_of-self-2
invariant_of-self-2 c =
    let form = c.self.inside.entries.items in
    let k = c.first_coefficient-factor.result in
    let factor : k ≡ coefficient_of form c.args.at = factor_is form c.deref.result.now c.deref-2.result.now c.first_from-place.result c.args.at k c.is_zero.result c.self.invariant.0 c.deref.ensures.value c.deref-2.ensures.value
    c.first_from-place.ensures.before c.first_from-place.ensures.behind c.first_coefficient-factor.ensures in
    let gone : IsWithout 0 c.args.at form c.remove.new.self.items =
    taken_out form c.deref.result.now c.deref-2.result.now c.first_from-place.result c.args.at k c.is_zero.result c.self.invariant.0 c.deref.ensures.value c.deref-2.ensures.value
    c.first_from-place.ensures.before c.first_from-place.ensures.behind c.first_coefficient-factor.ensures c.remove.new.self.items c.is_zero.ensures c.if-is_zero.false c.remove.ensures.items in (
      c.in_ok-self-inside.ensures.ok.ascending,
      put_in_below c.self.inside.width c.solved.inside.width form c.remove.new.self.items c.deref-3.result.now c.solved.inside.entries.items c.deref-4.result.now c.args.self.now c.args.solved.now c.args.at k
          c.self.invariant.1 c.solved.invariant.1 c.solved.invariant.0 c.self.view_is c.solved.view_is c.requires.same_length factor gone c.deref-3.ensures.value c.deref-4.ensures.value c.in_ok-self-inside.field-0.items c.in_ok-self-inside.ensures.ok,
    )

pub returns-clause-ok : goal.returns-clause-ok
returns-clause-ok c =
    let form = c.self.inside.entries.items in
    let k = c.first_coefficient-factor.result in
    let factor : k ≡ coefficient_of form c.args.at = factor_is form c.deref.result.now c.deref-2.result.now c.first_from-place.result c.args.at k c.is_zero.result c.self.invariant.0 c.deref.ensures.value c.deref-2.ensures.value
    c.first_from-place.ensures.before c.first_from-place.ensures.behind c.first_coefficient-factor.ensures in
    let gone : IsWithout 0 c.args.at form c.remove.new.self.items =
    taken_out form c.deref.result.now c.deref-2.result.now c.first_from-place.result c.args.at k c.is_zero.result c.self.invariant.0 c.deref.ensures.value c.deref-2.ensures.value
    c.first_from-place.ensures.before c.first_from-place.ensures.behind c.first_coefficient-factor.ensures c.remove.new.self.items c.is_zero.ensures c.if-is_zero.false c.remove.ensures.items in
    put_in c.self.inside.width c.solved.inside.width form c.remove.new.self.items c.deref-3.result.now c.solved.inside.entries.items c.deref-4.result.now c.args.self.now c.args.solved.now c.args.at k
    c.self.invariant.1 c.solved.invariant.1 c.solved.invariant.0 c.self.view_is c.solved.view_is c.requires.same_length factor gone c.deref-3.ensures.value c.deref-4.ensures.value c.in_ok-self-inside.field-0.items c.in_ok-self-inside.ensures.ok
