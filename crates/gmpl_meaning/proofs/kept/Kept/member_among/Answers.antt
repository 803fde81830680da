-- What is found is the member.
use Rattle.std.proofs.Common.{◌≡◌, IfSome, None, Ok, subst}
use Rattle.gmpl_meaning.specs.Members.{member}
use Rattle.gmpl_meaning.specs.Right.{value_seen}
use Rattle.gmpl_meaning.proofs.kept.Kept.member_among.Goals as goal

pub returns-in-Ok : goal.returns-in-Ok
returns-in-Ok c = λ model all. subst (λ s. IfSome c.found.result (λ v. member model c.args.height c.args.place None s ≡ Ok (value_seen v))) c.in-Ok.ensures (c.found.ensures model all)
