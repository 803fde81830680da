use Rattle.worked_problems.proofs.OneRow.{BasisLaws}
use Rattle.worked_problems.proofs.PivotedX.{makes_a_step, are_unhindered}
use Rattle.worked_problems.proofs.pivoted_is_unhindered.Goals as goal

pub returns : goal.returns
returns c =
    let laws : BasisLaws = record {
      rates = c.dictionary_is_unique.ensures.rates;
      steps = c.runs_are_one.ensures.steps;
      optimal = c.ends_are_final.ensures.optimal;
      blocked = c.ends_are_final.ensures.blocked;
      unbounded = c.ends_are_final.ensures.unbounded;
    } in
    record { step = makes_a_step; unhindered = are_unhindered laws }
