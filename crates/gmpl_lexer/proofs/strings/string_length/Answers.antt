use Rattle.std.proofs.Common.{rules}
use Rattle.gmpl_lexer.proofs.Walks.{string-next, string-ends, within}
use Rattle.gmpl_lexer.proofs.strings.string_length.Goals as goal

pub loop-step-preserved : goal.loop-step-preserved
loop-step-preserved c = (
  string-next _ _ _ _ _ c.loop-step.invariant.1.0 c.loop-step-test.true c.loop-step.invariant.0,
  (search rules, within _ _ _ _ c.after.ensures c.string_step-step-in-loop-step.ensures.within c.loop-step.invariant.1.1),
)

pub returns-clause-value : goal.returns-clause-value
returns-clause-value c = string-ends _ _ _ _ _ c.loop-step.invariant.1.0 c.loop-step-test.false c.loop-step.invariant.0
