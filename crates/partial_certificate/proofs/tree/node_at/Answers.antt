use Rattle.std.proofs.Common.{◌∙◌, ◌<◌, length, map, refl, ap, sym, subst, Some}
use Rattle.std.proofs.lemmas.List.{length-map}
use Rattle.certificate.specs.Values.{node_of}
use Rattle.certificate.proofs.Laws.{stands_for}
use Rattle.partial_certificate.proofs.Marking.{marked_at}
use Rattle.partial_certificate.proofs.tree.node_at.Goals as goal

pub returns : goal.returns
returns c =
    let nodes = map node_of c.args.nodes.now in
    let within : c.args.place < length nodes = subst (λ n. c.args.place < n) (sym (length-map c.args.nodes.now node_of)) c.requires.nodes in
    let node = node_of c.index-nodes-place.result in
    marked_at c.args.marks.now nodes c.args.place node c.requires.marks within (stands_for node_of c.args.nodes.now nodes c.args.place c.index-nodes-place.result refl c.index-nodes-place.is) ∙ ap Some (sym c.marked_node.ensures)
