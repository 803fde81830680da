use Rattle.std.proofs.Common.{◌≤◌, ◌∙◌, length, sym, ap, subst}
use Rattle.std.proofs.lemmas.List.{drop_all}
use Rattle.indexmap.specs.IndexSet.{insert_all}
use Rattle.gmpl_value.specs.SymbolEquality.{tuple_eq}
use Rattle.gmpl_value.proofs.Distinct.{inserted_again}
use Rattle.gmpl_value.proofs.set_value.SetValue.copied.Goals as goal

pub returns : goal.returns
returns c =
    let keys = c.loop-tuple.members.keys in
    let self = c.args.self.now in
    let past : length self ≤ c.loop-tuple.tuple-index = subst (λ l. length l ≤ c.loop-tuple.tuple-index) c.elements-tuple-items.ensures.elements c.loop-tuple-test.false in
    sym (ap (insert_all tuple_eq keys) (drop_all c.loop-tuple.tuple-index self past)) ∙ c.loop-tuple.invariant ∙ inserted_again self c.elements-tuple-items.ensures.distinct
