use Rattle.std.proofs.Common.{subst, sym, ◌+◌}
use Rattle.std.specs.Prelude.{Option}
use Rattle.milp.specs.Form.{number_at}
use Rattle.simplex.specs.Ratio.{along}
use Rattle.simplex.specs.declared.ratio.Reach.{Reach}
use Rattle.simplex.proofs.RatioLemmas.{IsFirstBefore, first_more}
use Rattle.simplex.proofs.ratio.first_reach.Goals as goal

pub loop-v-preserved : goal.loop-v-preserved
loop-v-preserved c =
    let P : Option Reach → Type 0 = IsFirstBefore c.args.system.now (number_at c.args.values.now) (along c.args.dictionary.now c.args.q c.args.rises) (c.loop-v.v + 1) in
    subst P (sym c.sooner-first.ensures) (first_more c.args.system.now (number_at c.args.values.now) (along c.args.dictionary.now c.args.q c.args.rises) c.loop-v.v c.loop-v.first c.in_ok-reach.reach c.loop-v.invariant c.in_ok-reach.ensures.ok)
