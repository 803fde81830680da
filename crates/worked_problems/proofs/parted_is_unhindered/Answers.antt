use Rattle.std.proofs.Common.{[]}
use Rattle.worked_problems.specs.Problems.{parted}
use Rattle.worked_problems.proofs.OneRow.{BasisLaws}
use Rattle.worked_problems.proofs.PartedSearch.{are_unhindered}
use Rattle.worked_problems.proofs.PartedSplits.{is_honest, never_feasible}
use Rattle.worked_problems.proofs.parted_is_unhindered.Goals as goal

pub returns : goal.returns
returns c =
    let laws : BasisLaws = record {
      rates = c.dictionary_is_unique.ensures.rates;
      steps = c.runs_are_one.ensures.steps;
      optimal = c.ends_are_final.ensures.optimal;
      blocked = c.ends_are_final.ensures.blocked;
      unbounded = c.ends_are_final.ensures.unbounded;
    } in
    record {
      infeasible = never_feasible;
      split = is_honest laws (c.optimal_points.ensures.found parted [] []) (c.optimal_points.ensures.pinned parted [] []);
      unhindered = are_unhindered laws;
    }
