use Rattle.std.proofs.Common.{◌≡◌, ◌∙◌, ◌≤◌, ◌<◌, ◌+◌, ◌-◌, ℕ, arith, rules, true, false, length, ap, sym, subst, Ok, Err}
use Rattle.verdicts.specs.Certificate.{TreeNode, Branch, Empty, Bound}
use Rattle.certificate.specs.Values.{node_of, version_of}
use Rattle.certificate.specs.Written.{open_after}
use Rattle.cert_check.specs.Parts.{node_answer}
use Rattle.cert_check.specs.Setting.{Setting}
use Rattle.cert_check.specs.Walk.{Place, sides_to}
use Rattle.certificate.proofs.Laws.{stands_for, same_length, element_at}
use Rattle.cert_check.proofs.Places.{node_holds, node_fails, node_faults, tree_full, tree_short}
use Rattle.cert_check.proofs.nodes.check_nodes.Goals as goal

after_le : (x : TreeNode) (k : ℕ) → 0 < k → open_after x (k - 1) ≤ k + 1
after_le (Branch s) k h = omega arith
after_le (Empty w) k h = omega arith
after_le (Bound w) k h = omega arith

pub returns-then-places-eq0 : goal.returns-then-places-eq0
returns-then-places-eq0 c =
    let nodes = c.args.way.now.nodes in
    let listed = c.as_slice-nodes.ensures.nodes ∙ c.tree.ensures in
    let size = same_length node_of c.as_slice-nodes.result.now nodes listed in
    let here : c.loop-k.k < length nodes = omega (arith, size, c.loop-k-test.true) in
    let last = element_at nodes c.loop-k.k here in
    tree_full c.args.problem.now (version_of c.args.version) c.args.goal.now c.args.derived.now nodes c.loop-k.k c.loop-k.places last.0 _ here last.1 c.loop-k.invariant.same c.if-places-eq0.true

pub returns-in-Err : goal.returns-in-Err
returns-in-Err c =
    let nodes = c.args.way.now.nodes in
    let listed = c.as_slice-nodes.ensures.nodes ∙ c.tree.ensures in
    let size = same_length node_of c.as_slice-nodes.result.now nodes listed in
    let here : c.loop-k.k < length nodes = omega (arith, size, c.loop-k-test.true) in
    let node = stands_for node_of c.as_slice-nodes.result.now nodes c.loop-k.k c.index-nodes-k.result listed c.index-nodes-k.is in
    let some : 0 < c.loop-k.places = omega (arith, c.if-places-eq0.false) in
    let setting : Place → Setting = λ w. record { version = version_of c.args.version; problem = c.args.problem.now; derived = c.args.derived.now; sides = sides_to w } in
    let P : Place → Type 0 = λ w. Err c.in-Err.fault ≡ node_answer (setting w) c.args.goal.now (node_of c.index-nodes-k.result) in
    let answer : P c.loop-k.way = search rules in
    node_faults c.args.problem.now (version_of c.args.version) c.args.goal.now c.args.derived.now nodes c.loop-k.k c.loop-k.places (node_of c.index-nodes-k.result) c.in-Err.fault _ here node c.loop-k.invariant.same some (subst P c.loop-k.invariant.here answer)

pub returns-in-Ok-false : goal.returns-in-Ok-false
returns-in-Ok-false c =
    let nodes = c.args.way.now.nodes in
    let listed = c.as_slice-nodes.ensures.nodes ∙ c.tree.ensures in
    let size = same_length node_of c.as_slice-nodes.result.now nodes listed in
    let here : c.loop-k.k < length nodes = omega (arith, size, c.loop-k-test.true) in
    let node = stands_for node_of c.as_slice-nodes.result.now nodes c.loop-k.k c.index-nodes-k.result listed c.index-nodes-k.is in
    let some : 0 < c.loop-k.places = omega (arith, c.if-places-eq0.false) in
    let setting : Place → Setting = λ w. record { version = version_of c.args.version; problem = c.args.problem.now; derived = c.args.derived.now; sides = sides_to w } in
    let P : Place → Type 0 = λ w. Ok false ≡ node_answer (setting w) c.args.goal.now (node_of c.index-nodes-k.result) in
    let answer : P c.loop-k.way = search rules in
    node_fails c.args.problem.now (version_of c.args.version) c.args.goal.now c.args.derived.now nodes c.loop-k.k c.loop-k.places (node_of c.index-nodes-k.result) _ here node c.loop-k.invariant.same some (subst P c.loop-k.invariant.here answer)

pub loop-k-preserved : goal.loop-k-preserved
loop-k-preserved c =
    let nodes = c.args.way.now.nodes in
    let listed = c.as_slice-nodes.ensures.nodes ∙ c.tree.ensures in
    let size = same_length node_of c.as_slice-nodes.result.now nodes listed in
    let here : c.loop-k.k < length nodes = omega (arith, size, c.loop-k-test.true) in
    let node = stands_for node_of c.as_slice-nodes.result.now nodes c.loop-k.k c.index-nodes-k.result listed c.index-nodes-k.is in
    let some : 0 < c.loop-k.places = omega (arith, c.if-places-eq0.false) in
    let setting : Place → Setting = λ w. record { version = version_of c.args.version; problem = c.args.problem.now; derived = c.args.derived.now; sides = sides_to w } in
    let P : Place → Type 0 = λ w. Ok true ≡ node_answer (setting w) c.args.goal.now (node_of c.index-nodes-k.result) in
    let answer : P c.loop-k.way = search rules in
    let next : Place → Place = λ w. record { nodes = w.nodes; place = w.place + 1 } in
    record {
      within = omega (arith, c.loop-k-test.true);
      few = omega (arith, after_le (node_of c.index-nodes-k.result) c.loop-k.places some, c.opened-places.ensures, c.loop-k.invariant.few);
      here = c.advance.ensures.next ∙ ap next c.loop-k.invariant.here;
      same = node_holds c.args.problem.now (version_of c.args.version) c.args.goal.now c.args.derived.now nodes c.loop-k.k c.loop-k.places c.opened-places.result (node_of c.index-nodes-k.result) _ here node c.loop-k.invariant.same some (subst P c.loop-k.invariant.here answer) c.opened-places.ensures;
    }

pub advance-requires : goal.advance-requires
advance-requires c =
    let nodes = c.args.way.now.nodes in
    let listed = c.as_slice-nodes.ensures.nodes ∙ c.tree.ensures in
    let size = same_length node_of c.as_slice-nodes.result.now nodes listed in
    let here : c.loop-k.k < length nodes = omega (arith, size, c.loop-k-test.true) in
    record { before_the_end = subst (λ (w : Place). w.place < length w.nodes) (sym c.loop-k.invariant.here) here }

pub returns-else-places-eq0-2 : goal.returns-else-places-eq0-2
returns-else-places-eq0-2 c =
    let nodes = c.args.way.now.nodes in
    let listed = c.as_slice-nodes.ensures.nodes ∙ c.tree.ensures in
    let size = same_length node_of c.as_slice-nodes.result.now nodes listed in
    let past : length nodes ≤ c.loop-k.k = omega (arith, size, c.loop-k-test.false) in
    let some : 0 < c.loop-k.places = omega (arith, c.if-places-eq0-2.false) in
    tree_short c.args.problem.now (version_of c.args.version) c.args.goal.now c.args.derived.now nodes c.loop-k.k c.loop-k.places _ past c.loop-k.invariant.same some
