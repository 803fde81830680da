-- A member without subscripts.
use Rattle.std.proofs.Common.{◌≡◌, ◌∙◌, IfSome, None, Ok, subst, sym}
use Rattle.std.proofs.lemmas.List.{nil_from_length}
use Rattle.gmpl_meaning.specs.Members.{member}
use Rattle.gmpl_meaning.specs.Right.{value_seen}
use Rattle.gmpl_meaning.proofs.kept.Kept.member_alone.Goals as goal

pub returns-then-len-eq0 : goal.returns-then-len-eq0
returns-then-len-eq0 c = λ model all.
    subst (λ s. IfSome c.found_alone.result (λ v. member model c.args.height c.args.place None s ≡ Ok (value_seen v)))
    (sym (nil_from_length c.args.subscripts.now (sym c.len.ensures ∙ c.if-len-eq0.true)))
    (c.found_alone.ensures model all)
