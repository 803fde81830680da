use Rattle.std.proofs.Common.{◌≡◌, ◌∙◌, ◌<◌, ◌≤◌, length, get_or, List, Option, Some, None, ap, subst}
use Rattle.verdicts.specs.Certificate.{Side}
use Rattle.verdicts.specs.Proves.{way_get}
use Rattle.cert_check.proofs.Turning.{turn_there, turn_missing}
use Rattle.cert_check.proofs.turns.Turns.get.Goals as goal

pub returns-in-None : goal.returns-in-None
returns-in-None c =
    let past : length c.self.inside.turns.items ≤ c.args.i = subst (λ (ts : List Side). length ts ≤ c.args.i) c.deref.ensures.value c.in-None.ensures.lookup.3 in
    let P : List Side → Type 0 = λ sides. ◌≡◌ {A = Option Side} None (way_get sides c.args.i) in
    subst P c.self.view_is (turn_missing c.self.inside.turns.items c.args.i past)

pub returns-in-Some : goal.returns-in-Some
returns-in-Some c =
    let there = c.in-Some.ensures.lookup in
    let turn = c.in-Some.kept.now in
    let within : c.args.i < length c.self.inside.turns.items = subst (λ (ts : List Side). c.args.i < length ts) c.deref.ensures.value there.3.0 in
    let is : turn ≡ get_or c.self.inside.turns.items c.args.i turn = subst (λ (ts : List Side). turn ≡ get_or ts c.args.i turn) c.deref.ensures.value there.1 in
    let P : List Side → Type 0 = λ sides. Some turn ≡ way_get sides c.args.i in
    ap Some c.turn.ensures ∙ subst P c.self.view_is (turn_there c.self.inside.turns.items c.args.i turn within is)
