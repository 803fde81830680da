use Rattle.milp.specs.declared.Direction.TheVariants.{Min}
use Rattle.verdicts.specs.Certificate.{Two}
use Rattle.verdicts.specs.WeightedSums.{coefficient_of}
use Rattle.exact_ranges.specs.ShownBest.{best_point, best_weights}
use Rattle.exact_ranges.proofs.Entries.{in_range}
use Rattle.exact_ranges.proofs.costs.between.Goals as goal

pub returns : goal.returns
returns c =
    let p = c.args.problem.now in
    let x = best_point c.args.certificate.now in
    let j = c.args.column in
    let forms = in_range p c.keeps_its_limits.ensures.well_formed in
    let best = c.requires.best in
    let found = c.auxiliaries_have_points.ensures.cost p x j Min Two (best_weights c.args.certificate.now) forms best.feasible best.passes in
    c.cost_ranges.ensures p x j c.args.low c.args.high (record {
      cost = coefficient_of p.objective j;
      holds = c.cost_auxiliaries_show_costs.ensures.best p x j Min (coefficient_of p.objective j) found.0 forms c.requires.column best.feasible found.1;
      lowest = c.requires.low;
      highest = c.requires.high;
    })
