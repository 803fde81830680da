-- A member without subscripts.
use Rattle.std.proofs.Common.{◌∙◌, sym}
use Rattle.std.proofs.lemmas.List.{nil_from_length}
use Rattle.gmpl_meaning.proofs.kept.Kept.is_first_alone.Goals as goal

pub returns : goal.returns
returns c = λ yes. nil_from_length c.args.subscripts.now (sym c.len.ensures ∙ c.if-len-ne0.false)
