use Rattle.std.proofs.Common.{◌≡◌, drop}
use Rattle.gmpl_functions.specs.Sums.{put_all}
use Rattle.gmpl_functions.proofs.form.put_all.Given as goal

abbrev pub invariant-loop-place : goal.invariant-loop-place
invariant-loop-place l = put_all l.sign l.terms.entries (drop l.place l.other.terms) ≡ put_all l.sign l.initial.terms.entries l.other.terms
