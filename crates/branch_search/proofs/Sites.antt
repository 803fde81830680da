-- Operations that do not fit at a node on an honest way are on its site numbers.
use Rattle.std.proofs.Common.{◌≡◌, ℕ, List, [], sym, subst}
use Rattle.milp.specs.Problem.{Problem}
use Rattle.instance.specs.WellFormed.{IsWellFormed}
use Rattle.verdicts.specs.Certificate.{Derived}
use Rattle.search_node.specs.Sides.{sides_of}
use Rattle.search_node.specs.declared.fault.Site.{Site}
use Rattle.simplex.proofs.Laws as S
use Rattle.search_tree.specs.Ascending.{AreFormsAscending}
use Rattle.search_tree.specs.Honest.{IsHonestWay}
use Rattle.search_tree.specs.Work.{IsWorkFault}
use Rattle.search_tree.proofs.Laws.{forms_ascend_below, honest_columns, on_site_numbers}
use Rattle.branch_search.specs.Faults.{IsStuckAt}
use Rattle.branch_search.proofs.Ends.{over_columns}

pub stuck_at : (p : Problem) (ds : List Derived) (splits : ℕ) (site : Site) → IsWellFormed p.columns p.rows p.objective → ds ≡ [] → IsHonestWay p ds splits (sides_of site.node.splits) → IsWorkFault p ds (sides_of site.node.splits) site.fault → IsStuckAt p ds splits site
stuck_at p ds splits site formed none way fault =
    let sides = sides_of site.node.splits in
    let F : List Derived → Type 0 = λ cuts. AreFormsAscending p cuts sides in
    record {
      way = way;
      fault = fault;
      on_site = on_site_numbers p ds sides site.fault (over_columns p ds sides none (S.over_columns p formed) way.splits) (subst F (sym none) (forms_ascend_below p sides formed (honest_columns p ds sides way.splits))) fault;
    }
