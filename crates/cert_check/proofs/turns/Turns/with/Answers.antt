use Rattle.std.proofs.Common.{◌∙◌, ◌∷◌, reverse, ap}
use Rattle.cert_check.proofs.Turning.{latest}
use Rattle.cert_check.proofs.turns.Turns.with.Goals as goal

pub returns-in-Ok : goal.returns-in-Ok
returns-in-Ok c = ap reverse c.in-Ok.ensures.items ∙ latest c.self.inside.turns.items c.args.turn ∙ ap (λ sides. c.args.turn ∷ sides) c.self.view_is
