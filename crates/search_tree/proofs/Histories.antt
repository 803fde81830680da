-- Histories of boards.
use Rattle.std.proofs.Common.{List, [], ◌∷◌, ◌++◌, refl, sym, subst, arith}
use Rattle.search_tree.specs.declared.event.Entry.{Entry}
use Rattle.search_tree.specs.Board.{Board}
use Rattle.search_tree.specs.Kept.{IsKept}
use Rattle.search_tree.specs.Steps.{Step, IsHistory, opening, IsReplay}
use Rattle.search_tree.proofs.Steps.{step_kept}

pub history_kept : (b : Board) (log : List Entry) (c : Board) → IsKept b → IsHistory b log c → IsKept c
history_kept b [] c k h = subst IsKept h k
history_kept b (e ∷ log) c k h = history_kept h.0 log c (step_kept b h.0 e.event e.reply k h.1) h.2

pub one_more : (b : Board) (log : List Entry) (c d : Board) (e : Entry) → IsHistory b log c → Step c e.event e.reply d → IsHistory b (log ++ e ∷ []) d
one_more b [] c d e h s = let P : Board → Type 0 = λ start. Step start e.event e.reply d in (d, subst P (sym h) s, refl)
one_more b (f ∷ log) c d e h s = (h.0, h.1, one_more h.0 log c d e h.2 s)

pub replay_kept : (b : Board) → IsReplay b → IsKept b
replay_kept b h = history_kept (opening b) b.log b (record { best = tt; replies = tt; cuts = h.cuts; splits = tt; leaves = tt; within = omega arith; one_lease = λ n. omega arith; none_to_come = λ n h. refl }) h.history
