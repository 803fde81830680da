use Rattle.std.proofs.Common.{◌≡◌, ◌∙◌, length, ap, arith}
use Rattle.dictionary.proofs.StartPoint.{first_numbers}
use Rattle.dictionary.proofs.start_values.first_values.Goals as goal

pub returns : goal.returns
returns c =
    let v_is : c.loop-v.v ≡ c.columns-columns.result = omega arith in
    first_numbers c.args.system.now c.loop-v.v (length c.forms.result.now) c.loop-v.values.items c.lengthen.new.values.items (v_is ∙ c.columns-columns.ensures.count) (ap length c.forms.ensures)
    c.loop-v.invariant.0 c.loop-v.invariant.1 c.in_ok-lengthen.ensures
