use Rattle.std.proofs.Common.{◌-◌, vec_len}
use Rattle.outside.proofs.Pieces.{ReadSince}
use Rattle.outside.proofs.store.read_rest.Given as goal

abbrev pub invariant-loop-store : goal.invariant-loop-store
invariant-loop-store g l = let s = g.S.Store in ReadSince s.in_hand s.left s.told s.faults l.fn.store l.store l.file l.bytes.items

abbrev pub decreases-loop-store : goal.decreases-loop-store
decreases-loop-store g l = 67108865 - vec_len l.bytes
