-- Whether a row has a cut, as a test.
use Rattle.std.specs.Prelude.{ℕ, ◌&&◌, not, Bool, true, false, List, [], ◌∷◌}
use Rattle.rational.specs.Rational.{Rational}
use Rattle.rational.specs.Compare.{is_zero, is_whole}
use Rattle.milp.specs.Form.{number_at}
use Rattle.milp.specs.Problem.{Problem}
use Rattle.basis.specs.Dictionary.{place_of}
use Rattle.basis.specs.Node.{integer_at}
use Rattle.basis.specs.declared.Place.{Place}
use Rattle.basis.specs.declared.Place.TheVariants.{Basic, AtLower, AtUpper, AtZero}

-- a variable that rests without a bound has no part in the row
abbrev pub rests_within : Place → Rational → Bool
rests_within Basic rate = true
rests_within AtLower rate = true
rests_within AtUpper rate = true
rests_within AtZero rate = is_zero rate

abbrev pub all_rest_within : List Place → List Rational → Bool
all_rest_within [] rates = true
all_rest_within (place ∷ places) [] = true
all_rest_within (place ∷ places) (rate ∷ rates) = rests_within place rate && all_rest_within places rates

abbrev pub is_basic_place : Place → Bool
is_basic_place Basic = true
is_basic_place AtLower = false
is_basic_place AtUpper = false
is_basic_place AtZero = false

abbrev pub has_cut : Problem → List Place → List Rational → List Rational → ℕ → Bool
has_cut p b rates x r = integer_at p r && (is_basic_place (place_of b r) && (not (is_whole (number_at x r)) && all_rest_within b rates))
