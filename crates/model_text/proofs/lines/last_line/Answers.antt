-- The whole text is a line.
use Rattle.std.proofs.Common.{◌<◌, length, rules}
use Rattle.model_text.proofs.FirstLine.{first-of-none}
use Rattle.model_text.proofs.lines.last_line.Goals as goal

pub returns-else-is_empty-clause-some : goal.returns-else-is_empty-clause-some
returns-else-is_empty-clause-some c =
    let some : 0 < length c.args.text.now = search rules in
    first-of-none c.args.text.now c.after.result.now c.requires some c.after.ensures
