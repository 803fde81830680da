use Rattle.std.proofs.Common.{◌≡◌, length, arith}
use Rattle.std.specs.Vec.{vec_len}
use Rattle.certificate.specs.Values.{node_of}
use Rattle.certificate.proofs.Elements.{stands_for, same_length}
use Rattle.certificate.proofs.Turns.{no_turn, turn_is, parent_before}
use Rattle.certificate.proofs.tree.Tree.last_turn.Goals as goal

pub index-requires : goal.index-requires
index-requires c =
    let less = parent_before c.args.self.now c.args.place c.in-Some.parent c.requires c.in-Some.ensures in
    let size : vec_len c.self.inside.nodes ≡ length c.self.inside.nodes.items = c.self.inside.nodes.ok.0 in
    omega (arith, less, size, same_length node_of c.self.inside.nodes.items c.args.self.now c.self.view_is, c.requires)

pub returns-in-None : goal.returns-in-None
returns-in-None c = no_turn c.args.self.now c.args.place c.requires c.in-None.ensures

pub returns-in-Some : goal.returns-in-Some
returns-in-Some c =
    turn_is c.args.self.now c.args.place c.in-Some.parent (node_of c.index.result.now) c.turn_under.result c.requires c.in-Some.ensures
    (stands_for node_of c.self.inside.nodes.items c.args.self.now c.in-Some.parent.place c.index.result.now c.self.view_is c.index.ensures) c.turn_under.ensures
