use Rattle.std.proofs.Common.{◌∙◌, sym, ap, subst, Ok, lit≤}
use Rattle.std.specs.Prelude.{pos, unsigned_abs, ◌≤◌}
use Rattle.rational.specs.Rational.{whole}
use Rattle.fraction.specs.Fits.{part_max}
use Rattle.cert_check.proofs.bounds.next_whole.Goals as goal

pub returns-in-Some : goal.returns-in-Some
returns-in-Some c =
    let more = c.in-Some.ensures in
    let small = subst (λ n. unsigned_abs n ≤ part_max) more.0 more.2 in
    c.whole_numbers.ensures.sum c.args.at (pos 1) more.1 (lit≤ tt) small ∙ ap (λ n. Ok (whole n)) (sym more.0)
