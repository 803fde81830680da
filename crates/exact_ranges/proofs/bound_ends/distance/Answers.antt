use Rattle.std.proofs.Common.{◌≡◌, ◌∙◌, List, [], ◌∷◌, ◌++◌, length, sym, ap, subst}
use Rattle.rational.specs.Rational.{Rational, zero_ℚ}
use Rattle.milp.specs.Problem.{Problem}
use Rattle.milp.specs.Points.{Feasible}
use Rattle.verdicts.specs.Certificate.{Weights}
use Rattle.branch_search.specs.Plain.{NoneInteger}
use Rattle.ranging.specs.BoundRanges.{UsedBound, used_bound}
use Rattle.ranging.specs.BoundAuxiliary.{bound_auxiliary}
use Rattle.exact_ranges.specs.ShownBest.{best_point, best_weights}
use Rattle.exact_ranges.specs.Sought.{OfBound, side_of, wanted_of, IsAuxiliary}
use Rattle.exact_ranges.specs.Parts.{problem_of}
use Rattle.exact_ranges.specs.BoundParts.{used_of}
use Rattle.exact_ranges.specs.Ends.{IsBestOrNone}
use Rattle.exact_ranges.specs.Faults.{IsFault}
use Rattle.exact_ranges.specs.declared.fault.RangeFault.{RangeFault}
use Rattle.exact_ranges.proofs.Results.{ok_gives, err_gives}
use Rattle.exact_ranges.proofs.Entries.{in_range}
use Rattle.exact_ranges.proofs.BoundProblems.{is_auxiliary, are_forms, has_last, auxiliary_continuous}
use Rattle.exact_ranges.proofs.bound_ends.distance.Goals as goal

pub best_number-requires-clause-forms : goal.best_number-requires-clause-forms
best_number-requires-clause-forms c = are_forms c.args.problem.now (used_of c.args.used.now) c.args.columns.now c.args.rows.now c.keeps_its_limits.ensures.well_formed c.requires.columns c.requires.rows

pub best_number-requires-clause-column : goal.best_number-requires-clause-column
best_number-requires-clause-column c =
    let n = length c.columns.result.now in
    has_last c.args.problem.now c.args.columns.now n c.requires.columns (ap length c.columns.ensures)

pub best_number-requires-clause-continuous : goal.best_number-requires-clause-continuous
best_number-requires-clause-continuous c =
    let p = c.args.problem.now in
    let u = used_of c.args.used.now in
    let wanted = wanted_of c.args.end in
    subst (λ (q : Problem). NoneInteger q.columns) (sym (is_auxiliary p u wanted c.args.columns.now c.args.rows.now (length c.columns.result.now) c.requires.columns c.requires.rows (ap length c.columns.ensures))) (auxiliary_continuous p u wanted c.requires.continuous)

pub best_number-requires-clause-some : goal.best_number-requires-clause-some
best_number-requires-clause-some c =
    let p = c.args.problem.now in
    let x = best_point c.args.certificate.now in
    let w = best_weights c.args.certificate.now in
    let v = c.args.used.now in
    let u = used_of v in
    let wanted = wanted_of c.args.end in
    let used : u ≡ used_bound p x w v.row (side_of v.side) v.bound = ap used_of c.requires.used.is in
    let found = c.auxiliaries_have_points.ensures.bound p x w v.row (side_of v.side) v.bound wanted (in_range p c.keeps_its_limits.ensures.well_formed) c.requires.continuous c.requires.best.feasible c.requires.used.there in
    let is = is_auxiliary p u wanted c.args.columns.now c.args.rows.now (length c.columns.result.now) c.requires.columns c.requires.rows (ap length c.columns.ensures) in
    subst (λ (q : Problem). (z : List Rational) × Feasible q z) (sym (is ∙ ap (λ (t : UsedBound). bound_auxiliary p t wanted) used)) (x ++ zero_ℚ ∷ [], found)

pub returns-clause-best : goal.returns-clause-best
returns-clause-best c =
    let p = c.args.problem.now in
    let u = used_of c.args.used.now in
    let wanted = wanted_of c.args.end in
    let n = length c.columns.result.now in
    let size = ap length c.columns.ensures in
    let is = is_auxiliary p u wanted c.args.columns.now c.args.rows.now n c.requires.columns c.requires.rows size in
    ok_gives c.best_number.result (IsBestOrNone (problem_of c.args.columns.now c.args.rows.now wanted n) n) (IsBestOrNone (bound_auxiliary p u wanted) (length p.columns))
    (λ number h. subst (λ m. IsBestOrNone (bound_auxiliary p u wanted) m number) size (subst (λ (q : Problem). IsBestOrNone q n number) is h))
    c.best_number.ensures.best

pub returns-clause-fault : goal.returns-clause-fault
returns-clause-fault c =
    let p = c.args.problem.now in
    let x = best_point c.args.certificate.now in
    let w = best_weights c.args.certificate.now in
    let v = c.args.used.now in
    let u = used_of v in
    let e = c.args.end in
    let n = length c.columns.result.now in
    let used : u ≡ used_bound p x w v.row (side_of v.side) v.bound = ap used_of c.requires.used.is in
    let is = is_auxiliary p u (wanted_of e) c.args.columns.now c.args.rows.now n c.requires.columns c.requires.rows (ap length c.columns.ensures) ∙ ap (λ (t : UsedBound). bound_auxiliary p t (wanted_of e)) used in
    err_gives c.best_number.result
    (λ (fault : RangeFault). (p : Problem) (x : List Rational) (w : Weights) → IsAuxiliary p x w (OfBound v.row v.side e) (problem_of c.args.columns.now c.args.rows.now (wanted_of e) n) → IsFault p x w c.args.pivot_limit fault)
    (IsFault p x w c.args.pivot_limit)
    (λ fault h. h p x w (v.bound, c.requires.used.there, is))
    c.best_number.ensures.fault
