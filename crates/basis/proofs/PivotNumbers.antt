-- The numbers of the dictionary after a pivot.
use Rattle.std.proofs.Common.{◌≡◌, ◌∙◌, ℕ, List, sym, ap, subst, ◌≢◌}
use Rattle.std.specs.Prelude.{pos}
use Rattle.rational.specs.Rational.{◌+ℚ◌, ◌*ℚ◌}
use Rattle.basis.specs.System.{System}
use Rattle.basis.specs.Dictionary.{IsBasic, IsResting, Dictionary, IsDictionary, rate_of, gain_of}
use Rattle.basis.specs.Bland.{exchanged}
use Rattle.basis.specs.Pivots.{IsPivoted}
use Rattle.basis.specs.declared.Place.{Place}
use Rattle.basis.specs.declared.Place.TheVariants.{Basic}
use Rattle.basis.proofs.Places.{enters_basic, stays_basic}
use Rattle.basis.proofs.Unique.{same_rates, same_gains}
use Rattle.basis.proofs.Exists.{pivoted, is_pivoted, pivoted_is}

pub pivot_numbers : (s : System) (b : List Place) (d e : Dictionary) (q r : ℕ) (place : Place) → IsDictionary s b d → IsBasic b r → IsResting b q → place ≢ Basic → ¬ ((rate_of d q r).numerator ≡ pos 0)
    → IsDictionary s (exchanged b q r place) e → IsPivoted b d e q r
pivot_numbers s b d e q r place h leaves enters stops some k =
    let P : ℕ → Type 0 = IsBasic b in
    let apart : (v : ℕ) → IsBasic b v → v ≢ q = λ v j w. enters.not_basic (subst P w j) in
    let model = is_pivoted s b d q r place h leaves enters stops some in
    let other = pivoted_is s b d q r place h leaves enters stops some in
    let now : IsBasic (exchanged b q r place) q = enters_basic b q r place enters.known (λ w. enters.not_basic (subst P (sym w) leaves)) in
    let rate : (v j : ℕ) → IsBasic (exchanged b q r place) v → rate_of e j v ≡ rate_of (pivoted d q r) j v = λ v j m. same_rates s (exchanged b q r place) e (pivoted d q r) k other v j m in
    let gain : (j : ℕ) → gain_of e j ≡ gain_of (pivoted d q r) j = λ j. same_gains s (exchanged b q r place) e (pivoted d q r) k other j in
    let still : (v : ℕ) → IsBasic b v → v ≢ r → IsBasic (exchanged b q r place) v = λ v j n. stays_basic b q r place v j (apart v j) n in
    record {
      corner = rate q r now ∙ model.corner;
      entering_row = λ j l n. rate q j now ∙ model.entering_row j l n;
      leaving_column = λ v j n. rate v r (still v j n) ∙ model.leaving_column v j n;
      others = λ v j l n m o. rate v j (still v l n) ∙ model.others v j l n m o ∙ ap (λ t. rate_of d j v +ℚ rate_of d q v *ℚ t) (sym (rate q j now));
      leaving_gain = gain r ∙ model.leaving_gain;
      other_gains = λ j l n. gain j ∙ model.other_gains j l n ∙ ap (λ t. gain_of d j +ℚ gain_of d q *ℚ t) (sym (rate q j now));
    }
