-- The sum stands in the place of its column.
use Rattle.std.proofs.Common.{sym, arith}
use Rattle.std.proofs.lemmas.Result.{err_from_is_err_and}
use Rattle.cplex_lp_draft.proofs.Sums.{added-goes, added-stops, inserted-terms}
use Rattle.cplex_lp_draft.proofs.form.Form.add.Goals as goal
use Rattle.cplex_lp_draft.proofs.form.Form.add.Goals.{in-Ok, in-Err}

pub returns-in_err-sum-clause-follows : goal.returns-in_err-sum-clause-follows
returns-in_err-sum-clause-follows c =
    let p = err_from_is_err_and c.from_residual.result c.from_residual.ensures.1 in
    rw (p.1, p.2, ← c.self.view_is) (added-stops c.args.line c.args.column c.args.value c.self.inside.sums.entries c.self.invariant c.in_err-sum.field-0.0 _ (sym c.in_err-sum.ensures))

pub returns-clause-follows : goal.returns-clause-follows
returns-clause-follows c = elim c.match-insert.branch [
  | in-Ok w ↦ rw (w.result-is, ← c.self.view_is) (added-goes c.args.line c.args.column c.args.value c.self.inside.sums.entries c.self.invariant c.in_ok-sum.sum c.insert.new.self.entries (sym c.in_ok-sum.ensures) (rw w.in-Ok.is at c.insert.ensures.entries))
  | in-Err w ↦ rw w.result-is tt
]

pub returns-clause-terms : goal.returns-clause-terms
returns-clause-terms c = λ count within terms. elim c.match-insert.branch [
  | in-Ok w ↦ rw (rw w.in-Ok.is at c.insert.ensures.entries) (inserted-terms count c.args.column c.in_ok-sum.sum within 0 c.self.inside.sums.entries (omega arith) (rw (← c.self.view_is) at terms))
  | in-Err w ↦ rw (rw w.in-Err.is at c.insert.ensures.err) (rw (← c.self.view_is) at terms)
]
