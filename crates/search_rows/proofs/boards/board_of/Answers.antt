use Rattle.std.proofs.Common.{List, sym, subst}
use Rattle.verdicts.specs.Certificate.{Derived}
use Rattle.search_tree.specs.Kept.{AllPass}
use Rattle.search_rows.proofs.boards.board_of.Goals as goal

pub start-requires : goal.start-requires
start-requires c = let P : List Derived → Type 0 = AllPass c.args.problem in record { cuts = subst P (sym c.new.ensures) (λ k. tt) }
