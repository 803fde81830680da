use Rattle.std.proofs.Common.{◌≡◌, sym, subst, Result, IfOk}
use Rattle.rational.specs.Rational.{Rational}
use Rattle.milp.specs.Form.{sum_at}
use Rattle.fraction.specs.declared.frac.NoFit.{NoFit}
use Rattle.instance.proofs.Laws.{sum_fits_ok}
use Rattle.search_tree.proofs.points.form_value.Goals as goal

pub returns-clause-is_sum : goal.returns-clause-is_sum
returns-clause-is_sum c =
    let P : Result Rational NoFit → Type 0 = λ r. IfOk r (λ v. v ≡ sum_at c.args.x.now c.args.form.now) in
    subst P (sym c.sum.ensures) (sum_fits_ok c.args.x.now c.args.form.now)
