use Rattle.std.proofs.Common.{rules, subst, List}
use Rattle.std.proofs.lemmas.List.{with_items_is, places}
use Rattle.rational.specs.Rational.{Rational}
use Rattle.dictionary.specs.Values.{AreMoved}
use Rattle.simplex.proofs.StateLemmas.{failed, pivot_failure}
use Rattle.simplex.proofs.state.State.advance.Goals as goal

pub returns-in_err-dictionary-clause-fault : goal.returns-in_err-dictionary-clause-fault
returns-in_err-dictionary-clause-fault c =
    failed c.from_residual-in_err-dictionary.result _ _ c.from_residual-in_err-dictionary.ensures.1
    (pivot_failure c.args.self.dictionary c.args.self.values.items c.args.step c.in_err-dictionary.field-0.0 c.in_err-dictionary.ensures.fault)

pub returns-clause-state : goal.returns-clause-state
returns-clause-state c =
    let P : List Rational → Type 0 = λ xs. AreMoved c.args.self.dictionary c.args.step.enters c.args.step.by xs c.move_variables.new.values in
    record {
      basis = c.in_ok-dictionary.ensures.basis;
      dictionary = c.in_ok-dictionary.ensures.dictionary;
      values = rw (with_items_is c.args.self.values c.move_variables.new.values (search (rules, places))) (subst P c.deref_mut.ensures.value c.in_ok-move_variables.ensures.ok);
      bases = c.in_ok-exchange.ensures.ok;
    }
