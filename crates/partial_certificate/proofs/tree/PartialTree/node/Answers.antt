use Rattle.std.proofs.Common.{◌≡◌, ◌<◌, length, map, List, Bool, Some, slice_get, sym, subst, arith}
use Rattle.verdicts.specs.Certificate.{TreeNode}
use Rattle.certificate.specs.Values.{node_of}
use Rattle.certificate.proofs.Laws.{same_length}
use Rattle.partial_certificate.specs.Partial.{PartialNode}
use Rattle.partial_certificate.specs.Marks.{marked}
use Rattle.partial_certificate.specs.Values.{partial_of}
use Rattle.partial_certificate.proofs.Marking.{marked_count, nodes_count}
use Rattle.partial_certificate.proofs.tree.PartialTree.node.Goals as goal

pub node_at-requires-clause-marks : goal.node_at-requires-clause-marks
node_at-requires-clause-marks c =
    let marks = c.self.inside.marks.items in
    let within : c.args.place < length (marked marks c.self.inside.tree) = subst (λ (xs : List PartialNode). c.args.place < length xs) (sym c.self.view_is) c.requires.within in
    subst (λ (xs : List Bool). c.args.place < length xs) (sym c.deref.ensures.value) (omega (arith, within, marked_count marks c.self.inside.tree c.self.invariant))

pub node_at-requires-clause-nodes : goal.node_at-requires-clause-nodes
node_at-requires-clause-nodes c =
    let marks = c.self.inside.marks.items in
    let within : c.args.place < length (marked marks c.self.inside.tree) = subst (λ (xs : List PartialNode). c.args.place < length xs) (sym c.self.view_is) c.requires.within in
    omega (arith, within, nodes_count marks c.self.inside.tree c.self.invariant, same_length node_of c.as_slice.result.now c.self.inside.tree c.as_slice.ensures.nodes)

pub returns : goal.returns
returns c =
    let found = c.node_at.ensures in
    let P : List Bool → Type 0 = λ xs. slice_get (marked xs (map node_of c.as_slice.result.now)) c.args.place ≡ Some (partial_of c.node_at.result) in
    let by_marks = subst P c.deref.ensures.value found in
    let R : List TreeNode → Type 0 = λ xs. slice_get (marked c.self.inside.marks.items xs) c.args.place ≡ Some (partial_of c.node_at.result) in
    let by_nodes = subst R c.as_slice.ensures.nodes by_marks in
    record { node = subst (λ (xs : List PartialNode). slice_get xs c.args.place ≡ Some (partial_of c.node_at.result)) c.self.view_is by_nodes }
