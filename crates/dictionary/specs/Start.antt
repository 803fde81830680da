-- The table of the basis at which a run starts.
use Rattle.std.specs.Prelude.{ℕ, ◌+◌, ◌<◌, ◌≡◌, List, [], length, get_or}
use Rattle.rational.specs.Rational.{Rational}
use Rattle.milp.specs.Form.{Entry, number_at}
use Rattle.verdicts.specs.WeightedSums.{coefficient_of}
use Rattle.basis.specs.System.{System}
use Rattle.basis.specs.Dictionary.{place_of, IsBasic}
use Rattle.basis.specs.declared.Place.{Place}
use Rattle.basis.specs.Bland.{IsStart}
use Rattle.dictionary.specs.Table.{Table}

-- the row has the coefficients of the form before n columns
pub record IsDense (n : ℕ) (form : List Entry) (row : List Rational) : Type 0 where
  pub size : length row ≡ n
  pub numbers : (j : ℕ) → j < n → number_at row j ≡ coefficient_of form j

-- a row for each form
pub record AreDense (n : ℕ) (forms : List (List Entry)) (rows : List (List Rational)) : Type 0 where
  pub count : length rows ≡ length forms
  pub each : (k : ℕ) → k < length forms → IsDense n (get_or forms k []) (get_or rows k [])

-- the numbers 0, 1, .., `count` of them, after the old ones
pub record AreCounted (old : List ℕ) (count : ℕ) (new : List ℕ) : Type 0 where
  pub size : length new ≡ length old + count
  pub kept : (i : ℕ) → i < length old → get_or new i 0 ≡ get_or old i 0
  pub counted : (k : ℕ) → k < count → get_or new (length old + k) 0 ≡ k

-- as many places as before, and then `count` of them that are basic
pub record AreBasicPast (old : List Place) (count : ℕ) (new : List Place) : Type 0 where
  pub size : length new ≡ length old + count
  pub kept : (i : ℕ) → i < length old → place_of new i ≡ place_of old i
  pub basic : (k : ℕ) → k < count → IsBasic new (length old + k)

-- n columns have the column of their number, and the variables of m forms the row of their form
pub record ArePositions (n m : ℕ) (positions : List ℕ) : Type 0 where
  pub size : length positions ≡ n + m
  pub columns : (j : ℕ) → j < n → get_or positions j 0 ≡ j
  pub forms : (k : ℕ) → k < m → get_or positions (n + k) 0 ≡ k

-- the table of the basis at which a run of the system starts
pub record IsStartTable (s : System) (t : Table) : Type 0 where
  pub is_start : IsStart s t.places
  pub positions : ArePositions s.columns (length s.forms) t.positions
  pub rows : AreDense s.columns s.forms t.rows
  pub gains : IsDense s.columns s.objective t.gains
