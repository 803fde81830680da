use Rattle.std.proofs.Common.{sym}
use Rattle.branch_search.proofs.Without.{none_accepted, none_proves}
use Rattle.branch_search.proofs.PlainEnds.{none_plain}
use Rattle.branch_search.proofs.WholeEnds.{has_point, not_unbounded}
use Rattle.branch_search.proofs.endless.decided.Goals as goal

pub improved-requires-clause-point : goal.improved-requires-clause-point
improved-requires-clause-point c = has_point c.args.problem.now c.args.certificate c.requires.proves c.requires.accepted (sym c.in-Optimal.ensures)

pub unreachable-requires : goal.unreachable-requires
unreachable-requires c = not_unbounded c.args.problem.now c.args.certificate c.requires.proves (sym c.in-Unbounded.ensures)

pub returns-in-Infeasible-clause-proves : goal.returns-in-Infeasible-clause-proves
returns-in-Infeasible-clause-proves c = none_proves c.args.problem.now c.args.certificate c.requires.accepted (sym c.in-Infeasible.ensures)

pub returns-in-Infeasible-clause-accepted : goal.returns-in-Infeasible-clause-accepted
returns-in-Infeasible-clause-accepted c = none_accepted c.args.problem.now c.args.certificate c.requires.accepted (sym c.in-Infeasible.ensures)

pub returns-in-Infeasible-clause-plain : goal.returns-in-Infeasible-clause-plain
returns-in-Infeasible-clause-plain c = λ none. none_plain c.args.problem.now c.args.certificate (sym c.in-Infeasible.ensures) (c.requires.plain none)
