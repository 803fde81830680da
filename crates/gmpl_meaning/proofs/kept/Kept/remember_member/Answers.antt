-- A member without subscripts.
use Rattle.std.proofs.Common.{◌≡◌, None, Ok, subst}
use Rattle.gmpl_meaning.specs.Members.{member}
use Rattle.gmpl_meaning.proofs.kept.Kept.remember_member.Goals as goal

pub returns-then-is_first_alone-clause-right : goal.returns-then-is_first_alone-clause-right
returns-then-is_first_alone-clause-right c = λ model all is.
    c.remember_alone.ensures.right model all (subst (λ s. member model c.args.height c.args.place None s ≡ Ok c.args.value) (c.is_first_alone.ensures c.if-is_first_alone.true) is)
