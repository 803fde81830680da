use Rattle.std.proofs.Common.{rules}
use Rattle.std.proofs.lemmas.List.{with_items_is, places}
use Rattle.simplex.proofs.StateLemmas.{failed, start_run_fault, start_state}
use Rattle.simplex.proofs.state.State.start.Goals as goal

pub returns-in_err-set_forms-clause-fault : goal.returns-in_err-set_forms-clause-fault
returns-in_err-set_forms-clause-fault c = λ limit.
    failed c.from_residual-in_err-set_forms.result _ _ c.from_residual-in_err-set_forms.ensures.1
    (start_run_fault c.args.system.now c.in_ok-dictionary.dictionary.places _ c.in_ok-dictionary.ensures.basis c.in_err-set_forms.ensures.err)

pub returns-clause-state : goal.returns-clause-state
returns-clause-state c =
    rw (with_items_is c.in_ok-values.values c.set_forms.new.values (search (rules, places)))
    (start_state c.args.system.now c.in_ok-dictionary.dictionary c.set_forms.new.values c.in_ok-places.places.items c.start-2.result
    c.in_ok-set_forms.ensures.system c.requires c.in_ok-dictionary.ensures.basis c.in_ok-dictionary.ensures.dictionary c.in_ok-set_forms.ensures.ok c.in_ok-places.ensures c.start-2.ensures)
