use Rattle.std.proofs.Common.{◌≡◌, ◌∙◌, ◌≤◌, ◌<◌, ◌+◌, arith, rules, true, false, length, map, ap, sym, subst, Ok, Err}
use Rattle.std.proofs.lemmas.List.{length-map}
use Rattle.verdicts.specs.Certificate.{Two}
use Rattle.cert_check.specs.Setting.{Setting}
use Rattle.cert_check.specs.Walk.{Place, sides_to}
use Rattle.partial_certificate.specs.Partial.{shape}
use Rattle.partial_certificate.specs.Values.{partial_of}
use Rattle.partial_certificate.specs.Outcome.{partial_answer}
use Rattle.partial_certificate.proofs.Steps.{node_holds, node_fails, node_faults, tree_full, tree_short, tree_whole, same_count, open_le}
use Rattle.partial_certificate.proofs.nodes.check_nodes.Goals as goal

pub returns-then-places-eq0 : goal.returns-then-places-eq0
returns-then-places-eq0 c =
    let nodes = c.args.tree.now in
    let size = same_count nodes c.as_slice-nodes.result.now (c.as_slice-nodes.ensures.nodes ∙ c.shapes.ensures.nodes) in
    let here : c.loop-k.k < length nodes = omega (arith, size, c.loop-k-test.true) in
    tree_full c.args.problem.now c.args.goal.now c.args.derived.now nodes c.loop-k.k c.loop-k.places _ here c.loop-k.invariant.same c.if-places-eq0.true

pub returns-in-Err : goal.returns-in-Err
returns-in-Err c =
    let nodes = c.args.tree.now in
    let node = partial_of c.node-node.result in
    let some : 0 < c.loop-k.places = omega (arith, c.if-places-eq0.false) in
    let setting : Place → Setting = λ w. record { version = Two; problem = c.args.problem.now; derived = c.args.derived.now; sides = sides_to w } in
    let P : Place → Type 0 = λ w. Err c.in-Err.fault ≡ partial_answer (setting w) c.args.goal.now node in
    let answer : P c.loop-k.way = search rules in
    node_faults c.args.problem.now c.args.goal.now c.args.derived.now nodes c.loop-k.k c.loop-k.places node c.in-Err.fault _ c.node-node.ensures.node c.loop-k.invariant.same some (subst P c.loop-k.invariant.here answer)

pub returns-in-Ok-false : goal.returns-in-Ok-false
returns-in-Ok-false c =
    let nodes = c.args.tree.now in
    let node = partial_of c.node-node.result in
    let some : 0 < c.loop-k.places = omega (arith, c.if-places-eq0.false) in
    let setting : Place → Setting = λ w. record { version = Two; problem = c.args.problem.now; derived = c.args.derived.now; sides = sides_to w } in
    let P : Place → Type 0 = λ w. Ok false ≡ partial_answer (setting w) c.args.goal.now node in
    let answer : P c.loop-k.way = search rules in
    node_fails c.args.problem.now c.args.goal.now c.args.derived.now nodes c.loop-k.k c.loop-k.places node _ c.node-node.ensures.node c.loop-k.invariant.same some (subst P c.loop-k.invariant.here answer)

pub loop-k-preserved : goal.loop-k-preserved
loop-k-preserved c =
    let nodes = c.args.tree.now in
    let size = same_count nodes c.as_slice-nodes.result.now (c.as_slice-nodes.ensures.nodes ∙ c.shapes.ensures.nodes) in
    let node = partial_of c.node-node.result in
    let some : 0 < c.loop-k.places = omega (arith, c.if-places-eq0.false) in
    let setting : Place → Setting = λ w. record { version = Two; problem = c.args.problem.now; derived = c.args.derived.now; sides = sides_to w } in
    let P : Place → Type 0 = λ w. Ok true ≡ partial_answer (setting w) c.args.goal.now node in
    let answer : P c.loop-k.way = search rules in
    let next : Place → Place = λ w. record { nodes = w.nodes; place = w.place + 1 } in
    record {
      within = omega (arith, size, c.loop-k-test.true);
      few = omega (arith, open_le node c.loop-k.places some, c.opened-places.ensures, c.loop-k.invariant.few);
      here = c.advance.ensures.next ∙ ap next c.loop-k.invariant.here;
      same = node_holds c.args.problem.now c.args.goal.now c.args.derived.now nodes c.loop-k.k c.loop-k.places c.opened-places.result node _ c.node-node.ensures.node c.loop-k.invariant.same some (subst P c.loop-k.invariant.here answer) c.opened-places.ensures;
    }

pub node-node-requires : goal.node-node-requires
node-node-requires c =
    let nodes = c.args.tree.now in
    let size = same_count nodes c.as_slice-nodes.result.now (c.as_slice-nodes.ensures.nodes ∙ c.shapes.ensures.nodes) in
    record { within = omega (arith, size, c.loop-k-test.true) }

pub advance-requires : goal.advance-requires
advance-requires c =
    let nodes = c.args.tree.now in
    let size = same_count nodes c.as_slice-nodes.result.now (c.as_slice-nodes.ensures.nodes ∙ c.shapes.ensures.nodes) in
    let here : c.loop-k.k < length (map shape nodes) = omega (arith, size, length-map nodes shape, c.loop-k-test.true) in
    record { before_the_end = subst (λ (w : Place). w.place < length w.nodes) (sym c.loop-k.invariant.here) here }

pub returns-else-places-eq0-2 : goal.returns-else-places-eq0-2
returns-else-places-eq0-2 c =
    let nodes = c.args.tree.now in
    let size = same_count nodes c.as_slice-nodes.result.now (c.as_slice-nodes.ensures.nodes ∙ c.shapes.ensures.nodes) in
    let past : length nodes ≤ c.loop-k.k = omega (arith, size, c.loop-k-test.false) in
    let some : 0 < c.loop-k.places = omega (arith, c.if-places-eq0-2.false) in
    tree_short c.args.problem.now c.args.goal.now c.args.derived.now nodes c.loop-k.k c.loop-k.places _ past c.loop-k.invariant.same some

pub returns-then-places-eq0-2 : goal.returns-then-places-eq0-2
returns-then-places-eq0-2 c =
    let nodes = c.args.tree.now in
    let size = same_count nodes c.as_slice-nodes.result.now (c.as_slice-nodes.ensures.nodes ∙ c.shapes.ensures.nodes) in
    let past : length nodes ≤ c.loop-k.k = omega (arith, size, c.loop-k-test.false) in
    tree_whole c.args.problem.now c.args.goal.now c.args.derived.now nodes c.loop-k.k c.loop-k.places _ past c.loop-k.invariant.same c.if-places-eq0-2.true
