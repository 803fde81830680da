-- What tests of points tell.
use Rattle.std.proofs.Common.{◌≡◌, ◌∙◌, Bool, true, refl, sym, ap, subst, IsTrue, Result, Ok, Err, IfOk, is_ok}
use Rattle.std.specs.Prelude.{◌↔◌}
use Rattle.rational.specs.Rational.{Rational}
use Rattle.fraction.specs.declared.frac.NoFit.{NoFit}

pub where_met : (r : Result Bool NoFit) (P : Type 0) → IfOk r (λ b. IsTrue b ↔ P) → r ≡ Ok true → P
where_met r P h e = let Q : Result Bool NoFit → Type 0 = λ a. IfOk a (λ b. IsTrue b ↔ P) in (subst Q e h).0 refl

pub where_fits : (r answer : Result Rational NoFit) (v : Rational) → r ≡ answer → IfOk r (λ a. a ≡ v) → is_ok r ≡ true → answer ≡ Ok v
where_fits (Ok a) answer v e h k = sym e ∙ ap Ok h
where_fits (Err f) answer v e h k = cc
