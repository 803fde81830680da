use Rattle.std.proofs.Common.{rules, ◌≡◌, ◌++◌, string_bytes}
use Rattle.partial_certificate.specs.Text.{partial_node_text}
use Rattle.partial_certificate.specs.Values.{partial_of}
use Rattle.partial_certificate.proofs.Texts.{written}
use Rattle.partial_certificate.proofs.writing.partial_tree_text.Goals as goal

pub loop-place-preserved : goal.loop-place-preserved
loop-place-preserved c =
    let node = partial_of c.node-node.result in
    let grown : string_bytes c.push_str.new.self ≡ string_bytes c.loop-place.text ++ partial_node_text node = search rules in
    written c.args.tree.now c.loop-place.place node (string_bytes c.loop-place.text) (string_bytes c.push_str.new.self) c.node-node.ensures.node c.loop-place.invariant grown
