-- A node of the search: a problem with further rows that hold for it, under bounds that splits have set. Its system, and its points.
use Rattle.std.specs.Prelude.{ℕ, zero, suc, List, [], ◌∷◌, ◌++◌, map, length, Bool, Some, None, IfSome, slice_get}
use Rattle.rational.specs.Rational.{Rational}
use Rattle.milp.specs.Form.{Entry}
use Rattle.milp.specs.Problem.{Row, Problem}
use Rattle.milp.specs.Points.{sign_of, Relaxed}
use Rattle.verdicts.specs.Certificate.{Side, Low, High, Derived}
use Rattle.verdicts.specs.WeightedSums.{scaled, AllBelow}
use Rattle.verdicts.specs.Proves.{lower_under, upper_under, is_integer, InsideBounds, AllDerived}
use Rattle.basis.specs.System.{Bounds, System}

-- the bounds of the columns from the j-th on, `count` of them, under the splits
abbrev pub column_bounds : Problem → List Side → ℕ → ℕ → List Bounds
column_bounds p sides j zero = []
column_bounds p sides j (suc count) = record { lower = lower_under p sides j; upper = upper_under p sides j } ∷ column_bounds p sides (suc j) count

abbrev pub row_bounds : Row → Bounds
row_bounds r = record { lower = r.lower; upper = r.upper }

abbrev pub derived_bounds : Derived → Bounds
derived_bounds d = record { lower = Some d.bound; upper = None }

-- its variables are the columns, the rows and the derived rows, and its objective is the problem's, turned so that less is better
abbrev pub system_of : Problem → List Derived → List Side → System
system_of p ds sides = record {
  columns = length p.columns;
  forms = map (λ (r : Row). r.entries) p.rows ++ map (λ (d : Derived). d.form) ds;
  bounds = column_bounds p sides 0 (length p.columns) ++ (map row_bounds p.rows ++ map derived_bounds ds);
  objective = scaled (sign_of p.direction) p.objective;
}

-- column j is to be whole
abbrev pub integer_at : Problem → ℕ → Bool
integer_at p j = is_integer (slice_get p.columns j)

-- the form of a side's split
abbrev pub split_form : Side → List Entry
split_form (Low s) = s.form
split_form (High s) = s.form

-- all forms are over the problem's columns, those of splits too
pub record IsOverColumns (p : Problem) (ds : List Derived) (sides : List Side) : Type 0 where
  pub objective : AllBelow (length p.columns) p.objective
  pub rows : (i : ℕ) → IfSome (slice_get p.rows i) (λ r. AllBelow (length p.columns) r.entries)
  pub derived : (k : ℕ) → IfSome (slice_get ds k) (λ d. AllBelow (length p.columns) d.form)
  pub splits : (k : ℕ) → IfSome (slice_get sides k) (λ side. AllBelow (length p.columns) (split_form side))

-- a point that meets all bounds and rows but wholeness, those of the node too
pub record IsNodePoint (p : Problem) (ds : List Derived) (sides : List Side) (x : List Rational) : Type 0 where
  pub relaxed : Relaxed p x
  pub columns : InsideBounds p sides x
  pub derived : AllDerived x ds
