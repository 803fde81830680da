-- What is kept is the member.
use Rattle.std.proofs.Common.{◌≡◌, None, Ok, subst, sym}
use Rattle.gmpl_meaning.specs.Members.{member}
use Rattle.gmpl_meaning.proofs.kept.Kept.remember_among.Goals as goal

pub returns-clause-right : goal.returns-clause-right
returns-clause-right c = λ model all is. c.remember.ensures.right model all (subst (λ s. member model c.args.height c.args.place None s ≡ Ok c.args.value) (sym c.in_ok-subscripts.ensures) is)
