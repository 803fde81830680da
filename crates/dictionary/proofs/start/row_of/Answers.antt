use Rattle.std.proofs.Common.{List, rules, sym, subst}
use Rattle.rational.specs.Rational.{Rational}
use Rattle.dictionary.specs.Start.{IsDense}
use Rattle.dictionary.proofs.SparseRows.{dense_row}
use Rattle.dictionary.proofs.start.row_of.Goals as goal

pub returns : goal.returns
returns c =
    subst (λ (row : List Rational). IsDense c.args.columns c.args.form.now row) (sym c.from_vec.ensures)
    (dense_row c.args.columns c.args.form.now c.in_ok-entries.entries.items (search rules))
