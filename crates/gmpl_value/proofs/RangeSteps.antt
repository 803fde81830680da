-- One more number of a range.
use Rattle.std.proofs.Common.{◌≡◌, ◌++◌, ◌∷◌, [], ℕ, suc, List, Result, Ok, Err, refl, ap, sym}
use Rattle.std.proofs.lemmas.List.{append_assoc}
use Rattle.rational.specs.Rational.{Rational}
use Rattle.fraction.specs.Answers.{add_answer}
use Rattle.gmpl_value.specs.declared.fault.SetFault.{SetFault}
use Rattle.gmpl_value.specs.Follows.{then_do, fitting, Faults}
use Rattle.gmpl_value.specs.Range.{steps}
use Rattle.gmpl_value.proofs.SetLemmas.{faults_then}

regrouped : (found : List Rational) (q : Rational) (answer : Result (List Rational) SetFault) → then_do (λ more. Ok (found ++ more)) (then_do (λ more. Ok (q ∷ more)) answer) ≡ then_do (λ more. Ok ((found ++ q ∷ []) ++ more)) answer
regrouped found q (Err f) = refl
regrouped found q (Ok more) = ap Ok (sym (append_assoc found (q ∷ []) more))

pub one_more : (left less : ℕ) (found : List Rational) (q next by : Rational) → left ≡ suc less → fitting (add_answer q by) ≡ Ok next → then_do (λ more. Ok (found ++ more)) (steps left q by) ≡ then_do (λ more. Ok ((found ++ q ∷ []) ++ more)) (steps less next by)
one_more left less found q next by is fits = rw is (rw fits (regrouped found q (steps less next by)))

pub no_more : (left less : ℕ) (found : List Rational) (q by : Rational) (f : SetFault) → left ≡ suc less → Faults f (fitting (add_answer q by)) → Faults f (then_do (λ more. Ok (found ++ more)) (steps left q by))
no_more left less found q by f is fails = rw is (faults_then f _ _ (faults_then f _ (fitting (add_answer q by)) fails))
