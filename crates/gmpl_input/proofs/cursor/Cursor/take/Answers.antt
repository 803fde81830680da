-- The next token is one place further.
use Rattle.std.proofs.Common.{◌≡◌, ◌+◌, drop, ap, sym, subst}
use Rattle.gmpl_input.specs.Input.{Input, next}
use Rattle.gmpl_input.proofs.Places.{one_behind}
use Rattle.gmpl_input.proofs.cursor.Cursor.take.Goals as goal

pub returns-then-self-len-clause-next : goal.returns-then-self-len-clause-next
unfolding next
returns-then-self-len-clause-next c =
    let i = c.self.inside in
    let here : Input = record { rest = drop (i.at + 1) i.tokens.items; end = i.end } in
    subst (λ input. here ≡ next input) c.self.view_is (ap (λ rest. record { rest = rest; end = i.end }) (sym (one_behind i.at i.tokens.items)))
