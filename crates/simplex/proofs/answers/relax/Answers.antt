use Rattle.std.proofs.Common.{ℕ, ◌≡◌, List}
use Rattle.milp.specs.Problem.{Problem}
use Rattle.verdicts.specs.Certificate.{Derived}
use Rattle.search_node.specs.declared.node.Node.{Node}
use Rattle.search_node.specs.declared.fault.Stuck.{Stuck}
use Rattle.search_node.specs.declared.fault.Stuck.TheVariants.{NoFit, PivotLimit, NoMemory}
use Rattle.simplex.specs.Answer.{IsStuck, IsUnlimited}
use Rattle.simplex.proofs.answers.relax.Goals as goal

-- a run without a limit isn't stopped by one
unlimited : (p : Problem) (ds : List Derived) (node : Node) (limit : ℕ) (s : Stuck) → limit ≡ 0 → IsStuck p ds node limit s → IsUnlimited s
unlimited p ds node limit (NoFit site) none h = tt
unlimited p ds node limit (PivotLimit bases) none h = h.some none
unlimited p ds node limit NoMemory none h = tt

pub returns-in-Err-clause-stuck : goal.returns-in-Err-clause-stuck
returns-in-Err-clause-stuck c = c.stuck.ensures c.args.instance.now c.args.derived.now c.args.pivot_limit c.in-Err.ensures.stop

pub returns-in-Err-clause-unlimited : goal.returns-in-Err-clause-unlimited
returns-in-Err-clause-unlimited c = λ none.
    unlimited c.args.instance.now c.args.derived.now c.args.node.now c.args.pivot_limit c.stuck.result none
    (c.stuck.ensures c.args.instance.now c.args.derived.now c.args.pivot_limit c.in-Err.ensures.stop)
