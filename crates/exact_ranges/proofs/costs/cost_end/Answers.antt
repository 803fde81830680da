use Rattle.std.proofs.Common.{List, ◌∷◌, sym, subst}
use Rattle.rational.specs.Rational.{Rational}
use Rattle.milp.specs.Problem.{Problem}
use Rattle.milp.specs.Points.{Feasible}
use Rattle.verdicts.specs.Certificate.{Two, Weights}
use Rattle.verdicts.specs.WeightedSums.{coefficient_of}
use Rattle.branch_search.specs.Plain.{NoneInteger}
use Rattle.exact_ranges.specs.ShownBest.{best_point, best_weights}
use Rattle.exact_ranges.specs.Sought.{OfCost, wanted_of, IsAuxiliary}
use Rattle.exact_ranges.specs.Parts.{problem_of}
use Rattle.exact_ranges.specs.Ends.{IsBestOrNone, HasCostEnd}
use Rattle.exact_ranges.specs.Faults.{IsFault}
use Rattle.exact_ranges.specs.declared.fault.RangeFault.{RangeFault}
use Rattle.exact_ranges.specs.Reached.{reached}
use Rattle.exact_ranges.proofs.Results.{ok_gives, err_gives}
use Rattle.exact_ranges.proofs.Entries.{in_range}
use Rattle.exact_ranges.proofs.CostProblems.{is_auxiliary, are_forms, has_first, auxiliary_continuous}
use Rattle.exact_ranges.proofs.CostEnds.{cost_end}
use Rattle.exact_ranges.proofs.costs.cost_end.Goals as goal

pub best_number-requires-clause-forms : goal.best_number-requires-clause-forms
best_number-requires-clause-forms c = are_forms c.args.problem.now (best_point c.args.certificate.now) c.args.column c.args.columns.now c.args.rows.now c.requires.columns c.requires.rows

pub best_number-requires-clause-column : goal.best_number-requires-clause-column
best_number-requires-clause-column c = has_first (reached c.args.problem.now (best_point c.args.certificate.now)) c.args.columns.now c.requires.columns

pub best_number-requires-clause-continuous : goal.best_number-requires-clause-continuous
best_number-requires-clause-continuous c =
    let p = c.args.problem.now in
    let x = best_point c.args.certificate.now in
    let wanted = wanted_of c.args.end in
    subst (λ (q : Problem). NoneInteger q.columns) (sym (is_auxiliary p x c.args.column wanted c.args.columns.now c.args.rows.now c.requires.columns c.requires.rows)) (auxiliary_continuous p x c.args.column wanted)

pub best_number-requires-clause-some : goal.best_number-requires-clause-some
best_number-requires-clause-some c =
    let p = c.args.problem.now in
    let x = best_point c.args.certificate.now in
    let wanted = wanted_of c.args.end in
    let best = c.requires.best in
    let found = c.auxiliaries_have_points.ensures.cost p x c.args.column wanted Two (best_weights c.args.certificate.now) (in_range p c.keeps_its_limits.ensures.well_formed) best.feasible best.passes in
    subst (λ (q : Problem). (z : List Rational) × Feasible q z) (sym (is_auxiliary p x c.args.column wanted c.args.columns.now c.args.rows.now c.requires.columns c.requires.rows)) (coefficient_of p.objective c.args.column ∷ found.0, found.1)

pub returns-clause-end : goal.returns-clause-end
returns-clause-end c =
    let p = c.args.problem.now in
    let x = best_point c.args.certificate.now in
    let e = c.args.end in
    let j = c.args.column in
    let is = is_auxiliary p x j (wanted_of e) c.args.columns.now c.args.rows.now c.requires.columns c.requires.rows in
    let best = c.requires.best in
    ok_gives c.best_number.result (IsBestOrNone (problem_of c.args.columns.now c.args.rows.now (wanted_of e) 0) 0) (HasCostEnd p x j e)
    (λ number h. cost_end c.optima_show_cost_ends.ensures.lowest c.optima_show_cost_ends.ensures.highest c.cost_auxiliaries_show_costs.ensures.no_lowest c.cost_auxiliaries_show_costs.ensures.no_highest
    p x j (in_range p c.keeps_its_limits.ensures.well_formed) c.requires.continuous c.requires.column best.feasible e number (subst (λ (q : Problem). IsBestOrNone q 0 number) is h))
    c.best_number.ensures.best

pub returns-clause-fault : goal.returns-clause-fault
returns-clause-fault c =
    let p = c.args.problem.now in
    let x = best_point c.args.certificate.now in
    let w = best_weights c.args.certificate.now in
    let e = c.args.end in
    let j = c.args.column in
    let is = is_auxiliary p x j (wanted_of e) c.args.columns.now c.args.rows.now c.requires.columns c.requires.rows in
    err_gives c.best_number.result
    (λ (fault : RangeFault). (p : Problem) (x : List Rational) (w : Weights) → IsAuxiliary p x w (OfCost j e) (problem_of c.args.columns.now c.args.rows.now (wanted_of e) 0) → IsFault p x w c.args.pivot_limit fault)
    (IsFault p x w c.args.pivot_limit)
    (λ fault h. h p x w (c.requires.column, is))
    c.best_number.ensures.fault
