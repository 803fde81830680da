use Rattle.std.proofs.Common.{◌∙◌, ◌≤◌, length, ap, arith}
use Rattle.milp.specs.Form.{number_at}
use Rattle.gomory.specs.Cuts.{split_coefficient, form_from}
use Rattle.gomory.proofs.MadeCuts.{form_made}
use Rattle.gomory.proofs.making.split_form.Goals as goal

pub returns-clause-form : goal.returns-clause-form
returns-clause-form c =
    let p = c.args.instance.now in
    let few : length p.columns ≤ length c.args.places.now = (let size = c.requires.places in omega arith) in
    form_made (split_coefficient p c.args.places.now (number_at c.args.rates.now) (number_at c.args.at.now) c.args.r) (length c.args.places.now) (length p.columns) c.in_ok-list.list.items c.in_ok-made.made
    c.in_ok-list.ensures.numbers few
    (c.in_ok-made.ensures.form ∙ ap (λ list. form_from 0 (length c.columns.result.now) (number_at list)) c.deref.ensures.value ∙ ap (λ columns. form_from 0 (length columns) (number_at c.in_ok-list.list.items)) c.columns.ensures)
