use Rattle.std.proofs.Common.{arith, ◌∙◌, sym}
use Rattle.gmpl_lexer.proofs.Walks.{comment-passed}
use Rattle.gmpl_lexer.proofs.strings.comment_length.Goals as goal

pub loop-size-preserved : goal.loop-size-preserved
loop-size-preserved c = (comment-passed _ _ _ c.loop-size-test.true (rw (← c.after.ensures) (sym c.closes_comment.ensures.value ∙ c.if-not-closes_comment.true)) c.loop-size.invariant.0, omega (arith, c.loop-size-test.true))
