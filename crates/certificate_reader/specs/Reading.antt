-- Reading the text of a certificate, line by line: the certificate, or the first fault.
use Rattle.std.specs.Prelude.{ℕ, ℤ, ◌+◌, zero, suc, List, [], ◌∷◌, Some, None, Result, Ok, Err, IsTrue, codes, if◌then◌else◌}
use Rattle.std.specs.Str.{bytes_eq}
use Rattle.std.specs.List.{slice_split}
use Rattle.rational.specs.Rational.{Rational}
use Rattle.milp.specs.Form.{Entry}
use Rattle.verdicts.specs.Certificate.{Version, One, Two, Verdict, Optimal, Infeasible, Unbounded, Weights, Split, Proof, Plain, BySplit, Derived, TreeNode, Branch, Empty, Bound, Certificate}
use Rattle.instance.specs.WellFormed.{are_entries}
use Rattle.certificate.specs.Written.{count_max, column_split, open_after}
use Rattle.certificate_lines.specs.Fields.{◌>>=◌, count_of, index_of, number_of, whole_of, fields_of, next_field, first_by, after_word, ended, numbers_of, form_of, weights_of, leaf_weights_of}
use Rattle.certificate_lines.specs.Lines.{Rest, is_feed, fault_at, line_of, closed, line_by, is_over}
use Rattle.certificate_lines.specs.declared.fault.FaultKind.{FaultKind}
use Rattle.certificate_lines.specs.declared.fault.FaultKind.TheVariants.{BadLine, Unended, Extra}
use Rattle.certificate_lines.specs.declared.fault.CertFault.{CertFault}

-- ---- the lines of a certificate

abbrev pub version_named : List ℕ → Result Version FaultKind
version_named word =
    if bytes_eq word (codes "1") then Ok One
    else if bytes_eq word (codes "2") then Ok Two
    else Err BadLine

abbrev pub version_in : List (List ℕ) → Result Version FaultKind
version_in fields = after_word (codes "cert") fields >>= λ rest. first_by version_named rest >>= λ version. ended version.1 >>= λ _. Ok version.0

abbrev pub size_in : List (List ℕ) → Result (ℕ × ℕ) FaultKind
size_in fields = after_word (codes "size") fields >>= λ rest. first_by count_of rest >>= λ rows. first_by count_of rows.1 >>= λ columns. ended columns.1 >>= λ _. Ok (rows.0, columns.0)

abbrev pub verdict_named : List ℕ → Result Verdict FaultKind
verdict_named word =
    if bytes_eq word (codes "optimal") then Ok Optimal
    else if bytes_eq word (codes "infeasible") then Ok Infeasible
    else if bytes_eq word (codes "unbounded") then Ok Unbounded
    else Err BadLine

abbrev pub verdict_in : List (List ℕ) → Result Verdict FaultKind
verdict_in fields = after_word (codes "verdict") fields >>= λ rest. first_by verdict_named rest >>= λ verdict. ended verdict.1 >>= λ _. Ok verdict.0

abbrev pub value_in : List (List ℕ) → Result Rational FaultKind
value_in fields = after_word (codes "value") fields >>= λ rest. first_by number_of rest >>= λ value. ended value.1 >>= λ _. Ok value.0

-- a point or a ray of so many numbers
abbrev pub point_in : List ℕ → ℕ → List (List ℕ) → Result (List Rational) FaultKind
point_in word count fields = after_word word fields >>= λ rest. numbers_of count rest

abbrev pub count_in : List (List ℕ) → Result ℕ FaultKind
count_in fields = after_word (codes "derived") fields >>= λ rest. first_by count_of rest >>= λ count. ended count.1 >>= λ _. Ok count.0

-- a line of this word alone
abbrev pub word_in : List ℕ → List (List ℕ) → Result (Unit {0}) FaultKind
word_in word fields = after_word word fields >>= λ rest. ended rest

-- where the cases of a split part, and its form
abbrev pub form_split_in : List (List ℕ) → Result Split FaultKind
form_split_in fields = first_by whole_of fields >>= λ at. form_of 0 at.1 >>= λ form. Ok (record { form = form; at = at.0 })

-- ---- derived rows

-- a bound and a form
abbrev pub derive_in : List (List ℕ) → Result (Rational × List Entry) FaultKind
derive_in fields = after_word (codes "derive") fields >>= λ rest. first_by number_of rest >>= λ bound. form_of 0 bound.1 >>= λ form. Ok (bound.0, form)

-- a side of a split: the weight of its own inequality, and the other weights
abbrev pub side_in : List ℕ → List (List ℕ) → Result (Rational × Weights) FaultKind
side_in word fields = after_word word fields >>= λ rest. first_by number_of rest >>= λ weight. weights_of weight.1 >>= λ weights. Ok (weight.0, weights)

-- the first line of what shows a derived row
pub data ProofLine : Type 0 where
  PlainLine : Weights → ProofLine
  SplitLine : ℤ → List Entry → ProofLine

-- the form of a split is in order
abbrev pub IsHead : ProofLine → Type 0
IsHead (PlainLine w) = Unit {0}
IsHead (SplitLine at form) = IsTrue (are_entries count_max form)

abbrev pub cases_in : List (List ℕ) → Result ProofLine FaultKind
cases_in fields = form_split_in fields >>= λ s. Ok (SplitLine s.at s.form)

abbrev pub plain_in : List (List ℕ) → Result ProofLine FaultKind
plain_in fields = weights_of fields >>= λ w. Ok (PlainLine w)

abbrev pub proof_after : List ℕ → List (List ℕ) → Result ProofLine FaultKind
proof_after word fields =
    if bytes_eq word (codes "plain") then plain_in fields
    else if bytes_eq word (codes "split") then cases_in fields
    else Err BadLine

abbrev pub proof_in : List (List ℕ) → Result ProofLine FaultKind
proof_in fields = next_field fields >>= λ word. proof_after word.0 word.1

abbrev pub proof_from : ProofLine → Rest → Result (Proof × Rest) CertFault
proof_from (PlainLine w) rest = Ok (Plain w, rest)
proof_from (SplitLine at form) rest = do
  low ← line_by (side_in (codes "low")) rest
  high ← line_by (side_in (codes "high")) low.1
  Ok (BySplit (record { at = at; form = form; low = low.0.0; low_weights = low.0.1; high = high.0.0; high_weights = high.0.1 }), high.1)

unfoldable pub derived_at : Rest → Result (Derived × Rest) CertFault
derived_at rest = do
  row ← line_by derive_in rest
  line ← line_by proof_in row.1
  proof ← proof_from line.0 line.1
  Ok (record { bound = row.0.0; form = row.0.1; proof = proof.0 }, proof.1)

unfoldable pub derived_rows_at : ℕ → Rest → Result (List Derived × Rest) CertFault
derived_rows_at zero rest = Ok ([], rest)
derived_rows_at (suc n) rest = do
  d ← derived_at rest
  ds ← derived_rows_at n d.1
  Ok (d.0 ∷ ds.0, ds.1)

-- how many derived rows there are, and the rows
unfoldable pub counted_rows_at : Rest → Result (List Derived × Rest) CertFault
counted_rows_at rest = do
  count ← line_by count_in rest
  derived_rows_at count.0 count.1

-- ---- the tree

-- a column, and where the cases of its split part
abbrev pub column_split_in : List (List ℕ) → Result Split FaultKind
column_split_in fields = first_by index_of fields >>= λ column. first_by whole_of column.1 >>= λ at. ended at.1 >>= λ _. Ok (column_split column.0 at.0)

-- a split: of one column in version 1, of any form in version 2
abbrev pub split_in : Version → List (List ℕ) → Result Split FaultKind
split_in One fields = column_split_in fields
split_in Two fields = form_split_in fields

-- the word before it
abbrev pub word_of_split : Version → List ℕ
word_of_split One = codes "branch"
word_of_split Two = codes "split"

abbrev pub branch_in : Version → List (List ℕ) → Result TreeNode FaultKind
branch_in v fields = split_in v fields >>= λ s. Ok (Branch s)

abbrev pub empty_in : Version → List (List ℕ) → Result TreeNode FaultKind
empty_in v fields = leaf_weights_of v fields >>= λ w. Ok (Empty w)

abbrev pub bound_in : Version → List (List ℕ) → Result TreeNode FaultKind
bound_in v fields = leaf_weights_of v fields >>= λ w. Ok (Bound w)

abbrev pub node_after : Version → List ℕ → List (List ℕ) → Result TreeNode FaultKind
node_after v word fields =
    if bytes_eq word (word_of_split v) then branch_in v fields
    else if bytes_eq word (codes "empty") then empty_in v fields
    else if bytes_eq word (codes "bound") then bound_in v fields
    else Err BadLine

abbrev pub node_in : Version → List (List ℕ) → Result TreeNode FaultKind
node_in v fields = next_field fields >>= λ word. node_after v word.0 word.1

-- nodes that fill the open places, each read by f; `opened` says how many are open once one fills one of these and more
unfoldable pub nodes_by : {A : Type 0} → (List (List ℕ) → Result A FaultKind) → (A → ℕ → ℕ) → ℕ → ℕ → List (List ℕ) → Result (List A × Rest) CertFault
nodes_by f opened zero n pieces = Ok ([], record { line = n; pieces = pieces })
nodes_by f opened (suc more) n [] = fault_at n Unended
nodes_by f opened (suc more) n (piece ∷ pieces) = do
  line ← line_of n piece pieces
  node ← closed line (f (fields_of line.text))
  nodes ← nodes_by f opened (opened node more) (n + 1) pieces
  Ok (node ∷ nodes.0, nodes.1)

abbrev pub nodes_at : Version → ℕ → Rest → Result (List TreeNode × Rest) CertFault
nodes_at v places rest = nodes_by (node_in v) open_after places rest.line rest.pieces

-- ---- the certificate

pub record Shown : Type 0 where
  pub derived : List Derived
  pub tree : List TreeNode

unfoldable pub shown_at : Version → Rest → Result (Shown × Rest) CertFault
shown_at v rest = do
  rows ← counted_rows_at rest
  mark ← line_by (word_in (codes "tree")) rows.1
  nodes ← nodes_at v 1 mark.1
  Ok (record { derived = rows.0; tree = nodes.0 }, nodes.1)

unfoldable pub optimal_at : Version → ℕ → ℕ → Rest → Result (Certificate × Rest) CertFault
optimal_at v rows columns rest = do
  value ← line_by value_in rest
  point ← line_by (point_in (codes "point") columns) value.1
  shown ← shown_at v point.1
  Ok (record { version = v; rows = rows; columns = columns; verdict = Optimal; value = Some value.0; point = Some point.0; ray = None; derived = shown.0.derived; tree = shown.0.tree }, shown.1)

unfoldable pub infeasible_at : Version → ℕ → ℕ → Rest → Result (Certificate × Rest) CertFault
infeasible_at v rows columns rest = do
  shown ← shown_at v rest
  Ok (record { version = v; rows = rows; columns = columns; verdict = Infeasible; value = None; point = None; ray = None; derived = shown.0.derived; tree = shown.0.tree }, shown.1)

unfoldable pub unbounded_at : Version → ℕ → ℕ → Rest → Result (Certificate × Rest) CertFault
unbounded_at v rows columns rest = do
  point ← line_by (point_in (codes "point") columns) rest
  ray ← line_by (point_in (codes "ray") columns) point.1
  Ok (record { version = v; rows = rows; columns = columns; verdict = Unbounded; value = None; point = Some point.0; ray = Some ray.0; derived = []; tree = [] }, ray.1)

abbrev pub body_at : Version → ℕ → ℕ → Verdict → Rest → Result (Certificate × Rest) CertFault
body_at v rows columns Optimal rest = optimal_at v rows columns rest
body_at v rows columns Infeasible rest = infeasible_at v rows columns rest
body_at v rows columns Unbounded rest = unbounded_at v rows columns rest

-- c, where nothing is left
abbrev pub over : {A : Type 0} → A → Rest → Result A CertFault
over c rest = if is_over rest.pieces then Ok c else fault_at rest.line Extra

unfoldable pub certificate_at : Rest → Result Certificate CertFault
certificate_at start = do
  version ← line_by version_in start
  size ← line_by size_in version.1
  verdict ← line_by verdict_in size.1
  body ← body_at version.0 size.0.0 size.0.1 verdict.0 verdict.1
  end ← line_by (word_in (codes "end")) body.1
  over body.0 end.1

-- the certificate whose text the bytes are, or the first fault
abbrev pub read_of : List ℕ → Result Certificate CertFault
read_of bytes = certificate_at (record { line = 1; pieces = slice_split is_feed bytes })
