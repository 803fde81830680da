use Rattle.outside.specs.Causes.{Rose}
use Rattle.glpsol_cli.specs.WorkedExample.{Example, problem_of, text_of}
use Rattle.worked_problems.specs.Unhindered.{AreUnhindered}
use Rattle.glpsol_cli.proofs.Completed.{is_complete}
use Rattle.glpsol_cli.proofs.WorkedExample.{declares, few_splits, most_splits, short, unhindered}
use Rattle.glpsol_cli.proofs.laws.worked_problems_are_complete.Goals as goal

pub returns : goal.returns
returns c =
    let free : (e : Example) → AreUnhindered (problem_of e) (most_splits e) = unhindered
    c.any_whole_is_unhindered.ensures.unhindered c.least_whole_is_unhindered.ensures.unhindered c.endless_is_unhindered.ensures.unhindered
    c.pivoted_is_unhindered.ensures.unhindered c.parted_is_unhindered.ensures.unhindered in
    record {
      declares = declares;
      complete = λ e told files files' out out' has files_held out_held.
          is_complete (text_of e) (problem_of e) (most_splits e) (declares e) (free e) (few_splits e) c.kept_boards.ensures.replays (short e) told (Rose files files') (Rose out out') has files_held out_held;
    }
