use Rattle.std.proofs.Common.{◌≡◌, ◌<◌, ◌+◌, List, Option, length, IfSome, sym, subst, arith}
use Rattle.verdicts.specs.Certificate.{Side}
use Rattle.certificate.specs.Ways.{way}
use Rattle.certificate.specs.Values.{node_of}
use Rattle.certificate.proofs.Laws.{stands_for}
use Rattle.cert_check.specs.Walk.{Place, past_node}
use Rattle.cert_check.proofs.Turning.{way_past}
use Rattle.cert_check.proofs.way.Way.advance.Goals as goal

pub invariant_of-self : goal.invariant_of-self
invariant_of-self c =
    let nodes = c.self.inside.tree.now in
    let place = c.self.inside.place in
    let here : place < length nodes = subst (λ (w : Place). w.place < length w.nodes) (sym c.self.view_is) c.requires.before_the_end in
    let node = stands_for node_of c.as_slice.result.now nodes place c.index-as_slice-self.result c.as_slice.ensures.nodes c.index-as_slice-self.is in
    let past : past_node (node_of c.index-as_slice-self.result) (way nodes place) ≡ way nodes (place + 1) = way_past nodes place (node_of c.index-as_slice-self.result) here node in
    let held : IfSome c.take.result (λ own. own ≡ way nodes place) = subst (λ (o : Option (List Side)). IfSome o (λ (own : List Side). own ≡ way nodes place)) (sym c.take.ensures.value) c.self.invariant.1 in
    (omega (arith, here), subst (λ (to : List Side). IfSome c.turns_past.result (λ (made : List Side). made ≡ to)) past (c.turns_past.ensures (way nodes place) held))
