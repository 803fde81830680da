-- The line ends at the first line feed.
use Rattle.model_text.proofs.FirstLine.{first-of-some}
use Rattle.model_text.proofs.lines.first_line.Goals as goal

pub returns-in-Some-clause-some : goal.returns-in-Some-clause-some
returns-in-Some-clause-some c = first-of-some c.args.text.now c.without_return.result.now c.after.result.now c.in-Some.place c.in-Some.ensures c.without_return.ensures.value c.after.ensures
