use Rattle.std.proofs.Common.{◌≡◌, ◌++◌, drop, string_bytes, map}
use Rattle.certificate.specs.Text.{tree_text}
use Rattle.certificate.specs.Values.{version_of, node_of}
use Rattle.certificate.proofs.writing.tree_text.Given as goal

abbrev pub invariant-loop-node : goal.invariant-loop-node
invariant-loop-node l = tree_text (version_of l.version) (map node_of l.nodes) ≡ string_bytes l.text ++ tree_text (version_of l.version) (map node_of (drop l.node-index l.nodes))
