use Rattle.std.proofs.Common.{◌≡◌, ◌∙◌, sym, ap, subst}
use Rattle.milp.specs.Form.{number_at}
use Rattle.verdicts.specs.Certificate.{Optimal, Infeasible, Unbounded}
use Rattle.certificate.specs.Values.{verdict_of}
use Rattle.exact_ranges.specs.Ends.{IsBestNumber}
use Rattle.exact_ranges.proofs.Told.{best_number, never_infeasible, no_best_number}
use Rattle.exact_ranges.proofs.verdict.told.Goals as goal

pub returns-in-Optimal : goal.returns-in-Optimal
returns-in-Optimal c =
    let q = c.args.auxiliary.now in
    let d = c.args.certificate.now in
    let is : d.verdict ≡ Optimal = sym c.verdict.ensures ∙ ap verdict_of c.in-Optimal.is in
    subst (IsBestNumber q c.args.column) (sym (c.number.ensures ∙ ap (λ x. number_at x c.args.column) c.best_point.ensures)) (best_number q d c.args.column c.requires.proves c.requires.plain is)

pub unreachable-requires : goal.unreachable-requires
unreachable-requires c =
    let is : c.args.certificate.now.verdict ≡ Infeasible = sym c.verdict.ensures ∙ ap verdict_of c.in-Infeasible.is in
    never_infeasible c.args.auxiliary.now c.args.certificate.now c.requires.proves is c.requires.some

pub returns-in-Unbounded : goal.returns-in-Unbounded
returns-in-Unbounded c =
    let is : c.args.certificate.now.verdict ≡ Unbounded = sym c.verdict.ensures ∙ ap verdict_of c.in-Unbounded.is in
    no_best_number c.args.auxiliary.now c.args.certificate.now c.requires.proves is
