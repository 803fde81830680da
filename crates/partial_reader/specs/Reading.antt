-- Reading the text of a partial certificate, line by line: the partial certificate, or the first fault.
use Rattle.std.specs.Prelude.{ℕ, List, ◌∷◌, Option, Some, None, Result, Ok, Err, codes, if◌then◌else◌}
use Rattle.std.specs.Str.{bytes_eq}
use Rattle.std.specs.List.{slice_split}
use Rattle.rational.specs.Rational.{Rational}
use Rattle.verdicts.specs.Certificate.{Two, Derived}
use Rattle.certificate.specs.Written.{open_after}
use Rattle.partial_certificate.specs.Partial.{Best, PartialNode, Done, Todo, Partial, shape}
use Rattle.certificate_lines.specs.Fields.{◌>>=◌, number_of, next_field, first_by, after_word, ended}
use Rattle.certificate_lines.specs.Lines.{Rest, is_feed, line_by}
use Rattle.certificate_reader.specs.Reading.{size_in, point_in, word_in, counted_rows_at, node_in, nodes_by, over}
use Rattle.certificate_lines.specs.declared.fault.FaultKind.{FaultKind}
use Rattle.certificate_lines.specs.declared.fault.CertFault.{CertFault}

-- a line of these two words alone
abbrev pub words_in : List ℕ → List ℕ → List (List ℕ) → Result (Unit {0}) FaultKind
words_in word next fields = after_word word fields >>= λ rest. word_in next rest

-- ---- the best point

abbrev pub value_named : List ℕ → Result (Option Rational) FaultKind
value_named word = if bytes_eq word (codes "none") then Ok None else (number_of word >>= λ value. Ok (Some value))

-- its value, or `none`
abbrev pub best_in : List (List ℕ) → Result (Option Rational) FaultKind
best_in fields = after_word (codes "best") fields >>= λ rest. first_by value_named rest >>= λ value. ended value.1 >>= λ _. Ok value.0

-- the line of the point follows where there is one
abbrev pub best_from : ℕ → Option Rational → Rest → Result (Option Best × Rest) CertFault
best_from columns None rest = Ok (None, rest)
best_from columns (Some value) rest = do
  point ← line_by (point_in (codes "point") columns) rest
  Ok (Some (record { point = point.0; value = value }), point.1)

unfoldable pub best_at : ℕ → Rest → Result (Option Best × Rest) CertFault
best_at columns rest = do
  value ← line_by best_in rest
  best_from columns value.0 value.1

-- ---- the tree

abbrev pub todo_in : List (List ℕ) → Result PartialNode FaultKind
todo_in fields = ended fields >>= λ _. Ok Todo

abbrev pub done_in : List (List ℕ) → Result PartialNode FaultKind
done_in fields = node_in Two fields >>= λ node. Ok (Done node)

-- `todo` alone, or a node as version 2 of certificates has it
abbrev pub partial_node_in : List (List ℕ) → Result PartialNode FaultKind
partial_node_in fields = next_field fields >>= λ word. if bytes_eq word.0 (codes "todo") then todo_in word.1 else done_in fields

-- how many places are open once a node fills one of these and more
abbrev pub opened : PartialNode → ℕ → ℕ
opened node more = open_after (shape node) more

abbrev pub partial_nodes_at : ℕ → Rest → Result (List PartialNode × Rest) CertFault
partial_nodes_at places rest = nodes_by partial_node_in opened places rest.line rest.pieces

-- ---- the partial certificate

-- derived rows and a tree
unfoldable pub partial_shown_at : Rest → Result ((List Derived × List PartialNode) × Rest) CertFault
partial_shown_at rest = do
  rows ← counted_rows_at rest
  mark ← line_by (word_in (codes "tree")) rows.1
  nodes ← partial_nodes_at 1 mark.1
  Ok ((rows.0, nodes.0), nodes.1)

unfoldable pub undecided_at : ℕ → ℕ → Rest → Result (Partial × Rest) CertFault
undecided_at rows columns rest = do
  best ← best_at columns rest
  shown ← partial_shown_at best.1
  Ok (record { rows = rows; columns = columns; best = best.0; derived = shown.0.0; tree = shown.0.1 }, shown.1)

unfoldable pub partial_at : Rest → Result Partial CertFault
partial_at start = do
  version ← line_by (words_in (codes "cert") (codes "2")) start
  size ← line_by size_in version.1
  verdict ← line_by (words_in (codes "verdict") (codes "undecided")) size.1
  body ← undecided_at size.0.0 size.0.1 verdict.1
  end ← line_by (word_in (codes "end")) body.1
  over body.0 end.1

-- the partial certificate whose text the bytes are, or the first fault
abbrev pub read_partial_of : List ℕ → Result Partial CertFault
read_partial_of bytes = partial_at (record { line = 1; pieces = slice_split is_feed bytes })
