use Rattle.std.proofs.Common.{◌≡◌, ◌++◌, drop, string_bytes}
use Rattle.solution_writer.specs.Subset.{witness_lines}
use Rattle.solution_writer.proofs.subset.witness_lines.Given as goal

abbrev pub invariant-loop-witness : goal.invariant-loop-witness
invariant-loop-witness l = witness_lines l.problem l.witnesses ≡ string_bytes l.text ++ witness_lines l.problem (drop l.witness-index l.witnesses)
