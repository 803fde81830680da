use Rattle.std.proofs.Common.{◌≡◌, ◌∙◌, Ok, Err, Result, length, sym, ap, subst, rules}
use Rattle.rational.specs.Rational.{Rational}
use Rattle.fraction.specs.declared.frac.NoFit.{NoFit}
use Rattle.fraction.specs.Answers.{add_answer}
use Rattle.milp.specs.Points.{IsOptimal}
use Rattle.ranging.specs.BoundRanges.{UsedBound, used_bound}
use Rattle.ranging.specs.BoundAuxiliary.{bound_auxiliary}
use Rattle.exact_ranges.specs.ShownBest.{best_point, best_weights}
use Rattle.exact_ranges.specs.Sought.{side_of, wanted_of}
use Rattle.exact_ranges.specs.BoundParts.{used_of}
use Rattle.exact_ranges.specs.Ends.{IsBestNumber, IsBestOrNone}
use Rattle.exact_ranges.proofs.Entries.{in_range}
use Rattle.exact_ranges.proofs.UsedBounds.{with_distance}
use Rattle.exact_ranges.proofs.BoundEnds.{moved_end, no_end}
use Rattle.exact_ranges.proofs.bound_ends.moved.Goals as goal

pub returns-in-None-clause-end : goal.returns-in-None-clause-end
returns-in-None-clause-end c =
    let p = c.args.problem.now in
    let u = used_of c.args.used.now in
    let e = c.args.end in
    let found = subst (IsBestOrNone (bound_auxiliary p u (wanted_of e)) (length p.columns)) c.in-None.is c.requires.distance in
    no_end p u (in_range p c.keeps_its_limits.ensures.well_formed) c.requires.continuous c.bound_auxiliaries_show_ends.ensures.no_least c.bound_auxiliaries_show_ends.ensures.no_greatest e found

pub returns-in-Ok-clause-end : goal.returns-in-Ok-clause-end
returns-in-Ok-clause-end c =
    let p = c.args.problem.now in
    let u = used_of c.args.used.now in
    let e = c.args.end in
    let d = c.in-Some.distance in
    let v = c.in-Ok.bound in
    let found : IsBestNumber (bound_auxiliary p u (wanted_of e)) (length p.columns) d = subst (IsBestOrNone (bound_auxiliary p u (wanted_of e)) (length p.columns)) c.in-Some.is c.requires.distance in
    let sum : Result Rational NoFit = Ok v in
    let is : sum ≡ add_answer u.bound d = search rules in
    moved_end p u (in_range p c.keeps_its_limits.ensures.well_formed) c.requires.continuous c.bound_auxiliaries_show_ends.ensures.least c.bound_auxiliaries_show_ends.ensures.greatest e d v found (with_distance u.bound d v is)

pub returns-in-Err-clause-fault : goal.returns-in-Err-clause-fault
returns-in-Err-clause-fault c =
    let p = c.args.problem.now in
    let x = best_point c.args.certificate.now in
    let w = best_weights c.args.certificate.now in
    let v = c.args.used.now in
    let u = used_of v in
    let e = c.args.end in
    let d = c.in-Some.distance in
    let found : IsBestNumber (bound_auxiliary p u (wanted_of e)) (length p.columns) d = subst (IsBestOrNone (bound_auxiliary p u (wanted_of e)) (length p.columns)) c.in-Some.is c.requires.distance in
    let used : u ≡ used_bound p x w v.row (side_of v.side) v.bound = ap used_of c.requires.used.is in
    let failed : Result Rational NoFit = Err c.in-Err.fault in
    let is : failed ≡ add_answer v.bound d = search rules in
    λ pivots. record {
      bound = v.bound;
      is_bound = c.requires.used.there;
      point = found.point;
      is_optimal = subst (λ (t : UsedBound). IsOptimal (bound_auxiliary p t (wanted_of e)) found.point) used found.is_optimal;
      fault = ap (add_answer v.bound) (sym found.number) ∙ sym is;
    }
