-- The board with which workers end.
use Rattle.std.proofs.Common.{◌≡◌, ◌∙◌, inl, inr, List, [], ◌∷◌, false, true, Option, sym, subst}
use Rattle.rational.specs.Rational.{Rational}
use Rattle.milp.specs.Problem.{Problem}
use Rattle.verdicts.specs.Certificate.{Side as SideOf, Low as LowOf, High as HighOf, Derived}
use Rattle.search_tree.specs.declared.leaf.Leaf.TheVariants.{Todo, Treated, Leased, Refuted, Bounded, NotFitting, AtLimit}
use Rattle.search_tree.specs.declared.event.Event.TheVariants.{Reclaiming}
use Rattle.search_tree.specs.declared.event.Reply.TheVariants.{Done}
use Rattle.search_tree.specs.Tree.{Tree, Divided, AtLeaf, AllLeaves, reclaimed}
use Rattle.search_tree.specs.Board.{Board, value_of, after}
use Rattle.search_tree.specs.Steps.{IsReclaim}
use Rattle.search_tree.proofs.Laws.{none_leased, reclaimed_none_leased}
use Rattle.branch_search.specs.Underway.{IsStanding}
use Rattle.board_pool.specs.Stuck.{NoneStuck}
use Rattle.board_pool.specs.Searches.{IsOfSearch}
use Rattle.shared_search.specs.Left.{IsLeft}

-- leaves at which the work is not stuck are closed or to be worked on, once leased ones are given back
stand : (p : Problem) (ds : List Derived) (best : Option Rational) (t : Tree) (sides : List SideOf) → NoneStuck t → AllLeaves (IsStanding p ds best false) sides (reclaimed t)
stand p ds best (Divided s low high) sides h = (stand p ds best low (LowOf s ∷ sides) h.0, stand p ds best high (HighOf s ∷ sides) h.1)
stand p ds best (AtLeaf (Todo hint)) sides h = inl tt
stand p ds best (AtLeaf (Treated hint)) sides h = inl tt
stand p ds best (AtLeaf (Leased lease)) sides h = inl tt
stand p ds best (AtLeaf (Refuted w)) sides h = inr (inl tt)
stand p ds best (AtLeaf (Bounded w)) sides h = inr (inl tt)
stand p ds best (AtLeaf (NotFitting e)) sides h = absurd h
stand p ds best (AtLeaf (AtLimit bases)) sides h = absurd h

given_back : (first b : Board) → IsOfSearch first b → first.cuts ≡ [] → IsLeft first.problem first.split_limit first.pivot_limit (after b (reclaimed b.tree) b.best Reclaiming Done)
given_back first b of no_cuts = record {
  problem = of.problem;
  cuts = of.cuts ∙ no_cuts;
  split_limit = of.split_limit;
  pivot_limit = of.pivot_limit;
  going = (
    false,
    record {
      leaves = stand b.problem b.cuts (value_of b) b.tree [] of.none_stuck;
      none_granted = none_leased (λ lease. lease.grant) (reclaimed b.tree) [] (reclaimed_none_leased b.tree []);
      all_made = λ (never : false ≡ true). cc;
    },
  );
}

pub left_board : (first b c : Board) → IsOfSearch first b → first.cuts ≡ [] → IsReclaim b c → IsLeft first.problem first.split_limit first.pivot_limit c
left_board first b c of no_cuts back = subst (λ (d : Board). IsLeft first.problem first.split_limit first.pivot_limit d) (sym back.new) (given_back first b of no_cuts)
