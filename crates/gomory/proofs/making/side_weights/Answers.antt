use Rattle.std.proofs.Common.{◌∙◌, length, ap}
use Rattle.milp.specs.Form.{number_at}
use Rattle.basis.specs.Weights.{items_of, nonzero}
use Rattle.gomory.specs.Numbers.{number_of}
use Rattle.gomory.proofs.MadeCuts.{weights_made}
use Rattle.gomory.proofs.making.side_weights.Goals as goal

pub returns-clause-weights : goal.returns-clause-weights
returns-clause-weights c =
    let p = c.args.instance.now in
    weights_made p (number_of p c.args.places.now (number_at c.args.rates.now) (number_at c.args.at.now) c.args.r c.args.role) (length c.args.places.now) c.in_ok-list.list.items c.in_ok-made.made
    c.requires.places c.in_ok-list.ensures.numbers
    (c.in_ok-made.ensures.rows ∙ ap (λ list. items_of (λ v. nonzero (number_at list v)) (length p.columns) 0 (length p.rows)) c.deref.ensures.value)
    (c.in_ok-made.ensures.columns ∙ ap (λ list. items_of (λ v. nonzero (number_at list v)) 0 0 (length p.columns)) c.deref.ensures.value)
    c.in_ok-made.ensures.derived c.in_ok-made.ensures.splits
