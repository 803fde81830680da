use Rattle.std.proofs.Common.{◌≡◌, take, map}
use Rattle.std.specs.List.{flat_map}
use Rattle.mps_reader.specs.Lines.{tabbed_fields}
use Rattle.mps_reader.proofs.lines.fields_in.Given as goal

abbrev pub invariant-loop-piece : goal.invariant-loop-piece
invariant-loop-piece l = map (λ r. r.now) l.fields.items ≡ flat_map tabbed_fields (map (λ r. r.now) (take l.piece-index l.piece-items))
