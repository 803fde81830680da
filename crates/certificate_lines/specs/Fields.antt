-- The fields of a line: words, numbers, forms and weights, read from left to right up to the first fault.
use Rattle.std.specs.Prelude.{ℕ, ℤ, ◌+◌, ◌-◌, ◌*◌, ◌==◌, nat_le, Bool, true, false, zero, suc, List, [], ◌∷◌, drop, codes, Option, Some, None, Result, Ok, Err, if◌then◌else◌}
use Rattle.std.specs.Str.{bytes_eq, is_utf8}
use Rattle.std.specs.List.{slice_split, before_first, after_first}
use Rattle.rational.specs.Rational.{Rational}
use Rattle.fraction.specs.declared.read.ReadFault.{ReadFault}
use Rattle.fraction.specs.declared.read.ReadFault.TheVariants as fault
use Rattle.milp.specs.Form.{Entry}
use Rattle.rational.specs.Compare.{is_zero}
use Rattle.verdicts.specs.Certificate.{Version, One, Two, Item, Weights}
use Rattle.fraction.specs.Literal.{code}
use Rattle.fraction.specs.Canonical.{plain_digits_of, read_canonical_of}
use Rattle.certificate.specs.Written.{count_max, rank_of}
use Rattle.certificate_lines.specs.declared.fault.FaultKind.{FaultKind}
use Rattle.certificate_lines.specs.declared.fault.FaultKind.TheVariants.{BadLine, TooWide}

infixl 10 ◌>>=◌
abbrev pub ◌>>=◌ : {A B E : Type 0} → Result A E → (A → Result B E) → Result B E
(Ok x) >>= f = f x
(Err e) >>= f = Err e

-- x, where the line is of its form so far
abbrev pub expect : {A : Type 0} → Bool → A → Result A FaultKind
expect holds x = if holds then Ok x else Err BadLine

-- ---- numbers

abbrev pub counted : Option ℕ → Result ℕ FaultKind
counted None = Err BadLine
counted (Some n) = if nat_le n count_max then Ok n else Err TooWide

-- digits without a leading zero
abbrev pub count_of : List ℕ → Result ℕ FaultKind
count_of field = counted (plain_digits_of field)

-- from 0, of an index that is written from 1
abbrev pub index_of : List ℕ → Result ℕ FaultKind
index_of field = count_of field >>= λ n. expect (nat_le 1 n) (n - 1)

abbrev pub numbered : Result Rational ReadFault → Result Rational FaultKind
numbered (Ok v) = Ok v
numbered (Err fault.NotANumber) = Err BadLine
numbered (Err fault.TooWide) = Err TooWide

-- a number in its one spelling; what is not UTF-8 is none
abbrev pub number_of : List ℕ → Result Rational FaultKind
number_of field = if is_utf8 field then numbered (read_canonical_of field) else Err BadLine

abbrev pub is_some : Rational → Bool
is_some v = if is_zero v then false else true

-- a number that is not 0
abbrev pub some_number_of : List ℕ → Result Rational FaultKind
some_number_of field = number_of field >>= λ v. expect (is_some v) v

-- a number without a denominator
abbrev pub whole_of : List ℕ → Result ℤ FaultKind
whole_of field = number_of field >>= λ v. expect (v.denominator == 1) v.numerator

-- ---- fields, which single blanks part

abbrev pub is_blank : ℕ → Bool
is_blank c = c == code (codes " ")

abbrev pub is_colon : ℕ → Bool
is_colon c = c == code (codes ":")

abbrev pub fields_of : List ℕ → List (List ℕ)
fields_of line = slice_split is_blank line

-- the next field, and the fields after it
abbrev pub next_field : List (List ℕ) → Result (List ℕ × List (List ℕ)) FaultKind
next_field [] = Err BadLine
next_field (field ∷ fields) = Ok (field, fields)

-- the same, with the field read by f
abbrev pub first_by : {A : Type 0} → (List ℕ → Result A FaultKind) → List (List ℕ) → Result (A × List (List ℕ)) FaultKind
first_by f fields = next_field fields >>= λ next. f next.0 >>= λ x. Ok (x, next.1)

-- the fields after this word
abbrev pub after_word : List ℕ → List (List ℕ) → Result (List (List ℕ)) FaultKind
after_word word [] = Err BadLine
after_word word (field ∷ fields) = expect (bytes_eq field word) fields

-- no field is left
abbrev pub ended : List (List ℕ) → Result (Unit {0}) FaultKind
ended [] = Ok tt
ended (field ∷ fields) = Err BadLine

-- so many numbers, one a field
unfoldable pub numbers_of : ℕ → List (List ℕ) → Result (List Rational) FaultKind
numbers_of zero fields = ended fields >>= λ _. Ok []
numbers_of (suc n) [] = Err BadLine
numbers_of (suc n) (field ∷ fields) = do
  v ← number_of field
  vs ← numbers_of n fields
  Ok (v ∷ vs)

-- ---- forms: `j:a`, by ascending column from `least` on

unfoldable pub entry_of : ℕ → List ℕ → Result Entry FaultKind
entry_of least field = do
  column ← index_of (before_first is_colon field)
  next ← expect (nat_le least column) column
  coefficient ← some_number_of (after_first is_colon field)
  Ok (record { column = next; coefficient = coefficient })

unfoldable pub form_of : ℕ → List (List ℕ) → Result (List Entry) FaultKind
form_of least [] = Ok []
form_of least (field ∷ fields) = do
  e ← entry_of least field
  es ← form_of (e.column + 1) fields
  Ok (e ∷ es)

-- ---- weights: `rI:w`, then `cJ:w`, then `dK:w`, then `sL:w`, each kind by ascending rank

-- an item after its kind, of a rank from `least` on; its index is judged before its weight is read
unfoldable pub item_of : ℕ → List ℕ → Result Item FaultKind
item_of least field = do
  index ← index_of (before_first is_colon field)
  next ← expect (nat_le least (2 * index + 1)) index
  weight ← some_number_of (after_first is_colon field)
  expect (nat_le least (rank_of (record { index = next; weight = weight }))) (record { index = next; weight = weight })

abbrev pub is_of : ℕ → List ℕ → Bool
is_of kind [] = false
is_of kind (c ∷ cs) = c == kind

-- the items of a kind, and the fields from the first of another kind on
unfoldable pub items_of : ℕ → ℕ → List (List ℕ) → Result (List Item × List (List ℕ)) FaultKind
items_of kind least [] = Ok ([], [])
items_of kind least (field ∷ fields) =
    if is_of kind field then (item_of least (drop 1 field) >>= λ i. items_of kind (rank_of i + 1) fields >>= λ more. Ok (i ∷ more.0, more.1))
    else Ok ([], field ∷ fields)

-- the weights of rows, columns and derived rows, and the fields after them
unfoldable pub row_weights_of : List (List ℕ) → Result (Weights × List (List ℕ)) FaultKind
row_weights_of fields = do
  rows ← items_of (code (codes "r")) 0 fields
  columns ← items_of (code (codes "c")) 0 rows.1
  derived ← items_of (code (codes "d")) 0 columns.1
  Ok (record { rows = rows.0; columns = columns.0; derived = derived.0; splits = [] }, derived.1)

-- these alone
unfoldable pub weights_of : List (List ℕ) → Result Weights FaultKind
weights_of fields = do
  weights ← row_weights_of fields
  end ← ended weights.1
  Ok weights.0

-- the weights of splits, which version 2 alone has, and the fields after them
unfoldable pub splits_of : Version → List (List ℕ) → Result (List Item × List (List ℕ)) FaultKind
splits_of One fields = Ok ([], fields)
splits_of Two fields = items_of (code (codes "s")) 0 fields

abbrev pub with_splits : Weights → List Item → Weights
with_splits w splits = record { rows = w.rows; columns = w.columns; derived = w.derived; splits = splits }

-- the weights of a leaf: those of rows, columns and derived rows, and then those of splits
unfoldable pub leaf_weights_of : Version → List (List ℕ) → Result Weights FaultKind
leaf_weights_of v fields = do
  weights ← row_weights_of fields
  splits ← splits_of v weights.1
  end ← ended splits.1
  Ok (with_splits weights.0 splits.0)
