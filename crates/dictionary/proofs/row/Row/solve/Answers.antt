use Rattle.std.proofs.Common.{◌≢◌, List, rules, sym, subst}
use Rattle.std.specs.Prelude.{pos}
use Rattle.std.proofs.lemmas.List.{with_items_is, places}
use Rattle.rational.specs.Rational.{Rational}
use Rattle.milp.specs.Form.{Entry}
use Rattle.verdicts.specs.WeightedSums.{AllBelow}
use Rattle.dictionary.specs.Ascending.{IsAscending}
use Rattle.dictionary.proofs.SparseRows.{if_ok, number_read, solved_read}
use Rattle.dictionary.proofs.row.Row.solve.Goals as goal

pub solve-requires : goal.solve-requires
solve-requires c =
    subst (λ (q : Rational). q.numerator ≢ pos 0)
    (sym (number_read c.self.inside.width c.self.inside.entries.items c.deref.result.now c.args.self.now c.coefficient_of-divisor.result c.self.invariant.1 c.self.view_is c.deref.ensures.value c.args.at c.coefficient_of-divisor.ensures)) c.requires.some

pub invariant_of-self : goal.invariant_of-self
invariant_of-self c =
    rw (with_items_is c.self.inside.entries c.solve.new.entries (search (rules, places))) (
      c.solve.ensures.columns (subst (λ (es : List Entry). IsAscending 0 es) (sym c.deref_mut.ensures.value) c.self.invariant.0),
      c.solve.ensures.below c.self.inside.width (subst (λ (es : List Entry). AllBelow c.self.inside.width es) (sym c.deref_mut.ensures.value) c.self.invariant.1),
    )

pub returns-clause-ok : goal.returns-clause-ok
returns-clause-ok c =
    rw (with_items_is c.self.inside.entries c.solve.new.entries (search (rules, places)))
    (if_ok c.solve.result _ _
    (solved_read c.self.inside.width c.self.inside.entries.items c.deref.result.now c.args.self.now c.coefficient_of-divisor.result c.self.invariant.1 c.self.view_is c.deref.ensures.value
    c.deref_mut.result.now c.solve.new.entries c.args.at c.self.invariant.0 c.requires.some c.coefficient_of-divisor.ensures c.deref_mut.ensures.value)
    c.solve.ensures.ok)
