-- What a line of RHS, RANGES or BOUNDS adds to the declaration, or the kind of its first fault: the number of fields first.
use Rattle.std.specs.Prelude.{ℕ, pos, int_lt, Bool, true, false, List, [], ◌∷◌, Some, None, is_some, Result, Ok, Err, if◌then◌else◌}
use Rattle.std.specs.declared.option.Option.{Option}
use Rattle.rational.specs.Rational.{Rational, zero_ℚ, abs_ℚ, neg_ℚ, ◌+ℚ◌, ◌-ℚ◌}
use Rattle.fraction.specs.Fits.{sum_fits}
use Rattle.fraction.specs.Literal.{read_of}
use Rattle.model_text.specs.declared.fault.FaultKind.{FaultKind}
use Rattle.model_text.specs.declared.fault.FaultKind.TheVariants.{BadLine, TooWide, Unknown, Twice}
use Rattle.mps_draft.specs.declared.row.RowKind.{RowKind}
use Rattle.mps_draft.specs.declared.row.RowRange.{RowRange}
use Rattle.mps_draft.specs.declared.row.RowKind.TheVariants.{Objective, Free, AtMost, AtLeast, Exactly}
use Rattle.mps_reader.specs.declared.pairs_section.PairSection.{PairSection}
use Rattle.mps_reader.specs.declared.pairs_section.PairSection.TheVariants.{RhsPairs, RangePairs}
use Rattle.mps_draft.specs.declared.bound.BoundKind.{BoundKind}
use Rattle.mps_draft.specs.Declaration.{is_free, DeclaredRow, Declaration, row_named, with_row}
use Rattle.mps_draft.specs.Sets.{mixes_sets, is_of_first_set, with_set}
use Rattle.mps_draft.specs.Rows.{rhs_of, range_added}
use Rattle.mps_draft.specs.RowNumbers.{rhs_given}
use Rattle.mps_draft.specs.Bounds.{bound_kind_of, has_value, bound_given}
use Rattle.model_text.specs.Steps.{then_do}
use Rattle.mps_reader.specs.Steps.{with_number, number_of}

-- ---- RHS and RANGES: `[set] row v [row v]`

-- a row's name and the number beside it
pub record Pair : Type 0 where
  pub row : List ℕ
  pub number : List ℕ

-- a line's set, and its pairs
pub record Pairs : Type 0 where
  pub set : Option (List ℕ)
  pub first : Pair
  pub second : Option Pair

abbrev pub pairs_of : List (List ℕ) → Option Pairs
pairs_of (r ∷ v ∷ []) = Some (record { set = None; first = record { row = r; number = v }; second = None })
pairs_of (s ∷ r ∷ v ∷ []) = Some (record { set = Some s; first = record { row = r; number = v }; second = None })
pairs_of (r ∷ v ∷ q ∷ w ∷ []) = Some (record { set = None; first = record { row = r; number = v }; second = Some (record { row = q; number = w }) })
pairs_of (s ∷ r ∷ v ∷ q ∷ w ∷ []) = Some (record { set = Some s; first = record { row = r; number = v }; second = Some (record { row = q; number = w }) })
pairs_of fields = None

-- what one pair adds
abbrev pub PairStep : Type 0
PairStep = Declaration → Pair → Result Declaration FaultKind

abbrev pub second_pair : PairStep → Option Pair → Declaration → Result Declaration FaultKind
second_pair step None d = Ok d
second_pair step (Some pair) d = step d pair

abbrev pub both_pairs : PairStep → Pairs → Declaration → Result Declaration FaultKind
both_pairs step pairs d = then_do (second_pair step pairs.second) (step d pairs.first)

abbrev pub pairs_line : PairStep → Declaration → Option Pairs → Result Declaration FaultKind
pairs_line step d None = Err BadLine
pairs_line step d (Some pairs) =
    if mixes_sets d.first_set pairs.set then Err BadLine
    else if is_of_first_set d.first_set pairs.set then both_pairs step pairs (with_set pairs.set d)
    else Ok d

abbrev pub rhs_pair : PairStep
rhs_pair d pair = rhs_given d pair.row (number_of pair.number)

abbrev pub is_below_zero : Rational → Bool
is_below_zero v = int_lt v.numerator (pos 0)

-- [b - |r|, b], where the sum fits
abbrev pub range_below : Rational → Rational → Result RowRange FaultKind
range_below b r = if sum_fits b (neg_ℚ (abs_ℚ r)) then Ok (record { lower = b -ℚ abs_ℚ r; upper = b }) else Err TooWide

-- [b, b + |r|], where the sum fits
abbrev pub range_above : Rational → Rational → Result RowRange FaultKind
range_above b r = if sum_fits b (abs_ℚ r) then Ok (record { lower = b; upper = b +ℚ abs_ℚ r }) else Err TooWide

-- the bounds that a range r gives a row of this kind, whose right-hand side is b
abbrev pub range_of : RowKind → Rational → Rational → Result RowRange FaultKind
range_of Objective b r = Err BadLine
range_of Free b r = Err BadLine
range_of AtMost b r = range_below b r
range_of AtLeast b r = range_above b r
range_of Exactly b r = if is_below_zero r then range_below b r else range_above b r

abbrev pub with_range : Declaration → DeclaredRow → List ℕ → Rational → Result Declaration FaultKind
with_range d r row value = then_do (λ range. Ok (with_row (range_added range) row d)) (range_of r.kind (rhs_of r) value)

-- no N row has a range
abbrev pub range_on_row : Declaration → Option DeclaredRow → Pair → Result Declaration FaultKind
range_on_row d None pair = Err Unknown
range_on_row d (Some r) pair =
    if is_free r.kind then Err BadLine
    else if is_some r.range then Err Twice
    else with_number (with_range d r pair.row) (read_of pair.number)

abbrev pub range_pair : PairStep
range_pair d pair = range_on_row d (row_named d pair.row) pair

abbrev pub step_of : PairSection → PairStep
step_of RhsPairs = rhs_pair
step_of RangePairs = range_pair

abbrev pub pair_line : PairSection → Declaration → List (List ℕ) → Result Declaration FaultKind
pair_line section d fields = pairs_line (step_of section) d (pairs_of fields)

-- ---- BOUNDS: `UP|LO|FX|LI|UI [set] col v` and `FR|MI|PL|BV [set] col`, or with four fields a number that isn't used

-- the fields after the kind
pub record BoundFields : Type 0 where
  pub set : Option (List ℕ)
  pub column : List ℕ
  pub number : Option (List ℕ)

abbrev pub bound_fields : Bool → List (List ℕ) → Option BoundFields
bound_fields has_value (set ∷ column ∷ v ∷ []) = Some (record { set = Some set; column = column; number = Some v })
bound_fields true (column ∷ v ∷ []) = Some (record { set = None; column = column; number = Some v })
bound_fields false (set ∷ column ∷ []) = Some (record { set = Some set; column = column; number = None })
bound_fields false (column ∷ []) = Some (record { set = None; column = column; number = None })
bound_fields has_value fields = None

-- a number that isn't there isn't used
abbrev pub bound_value : Option (List ℕ) → Result Rational FaultKind
bound_value None = Ok zero_ℚ
bound_value (Some v) = number_of v

abbrev pub bound_on_column : Declaration → BoundKind → BoundFields → Result Declaration FaultKind
bound_on_column d kind b = bound_given kind d b.column (bound_value b.number)

abbrev pub bound_with_fields : Declaration → BoundKind → Option BoundFields → Result Declaration FaultKind
bound_with_fields d kind None = Err BadLine
bound_with_fields d kind (Some b) =
    if mixes_sets d.first_set b.set then Err BadLine
    else if is_of_first_set d.first_set b.set then bound_on_column (with_set b.set d) kind b
    else Ok d

abbrev pub bound_of_kind : Declaration → Option BoundKind → List (List ℕ) → Result Declaration FaultKind
bound_of_kind d None fields = Err BadLine
bound_of_kind d (Some kind) fields = bound_with_fields d kind (bound_fields (has_value kind) fields)

abbrev pub bound_line : Declaration → List (List ℕ) → Result Declaration FaultKind
bound_line d [] = Err BadLine
bound_line d (kind ∷ fields) = bound_of_kind d (bound_kind_of kind) fields
