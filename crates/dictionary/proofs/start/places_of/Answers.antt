use Rattle.std.proofs.Common.{◌≡◌, ◌∙◌, length, ap, arith}
use Rattle.dictionary.proofs.StartTable.{start_places}
use Rattle.dictionary.proofs.start.places_of.Goals as goal

pub returns : goal.returns
returns c =
    let v_is : c.loop-v.v ≡ c.columns-columns.result = omega arith in
    start_places c.args.system.now c.loop-v.v (length c.forms.result.now) c.loop-v.places.items c.add_basic.new.places.items (v_is ∙ c.columns-columns.ensures.count) (ap length c.forms.ensures)
    c.loop-v.invariant.0 c.loop-v.invariant.1 c.in_ok-add_basic.ensures
