-- The text of a certificate in its version. Indices count from 1 in it; each item of a form, of weights or of a point stands after a blank.
use Rattle.std.specs.Prelude.{ℕ, ◌+◌, List, [], ◌∷◌, ◌++◌, length, Option, Some, None, codes}
use Rattle.std.specs.Fmt.{decimal}
use Rattle.rational.specs.Rational.{Rational, whole}
use Rattle.fraction.specs.Text.{text_of}
use Rattle.milp.specs.Form.{Entry}
use Rattle.certificate.specs.Written.{split_column}
use Rattle.verdicts.specs.Certificate.{Version, One, Two, Verdict, Optimal, Infeasible, Unbounded, Item, Weights, Split, FormSplit, Proof, Plain, BySplit, Derived, TreeNode, Branch, Empty, Bound, Certificate}

-- `kindI:w`
abbrev pub item_text : List ℕ → Item → List ℕ
item_text kind i = codes " " ++ (kind ++ (decimal (i.index + 1) ++ (codes ":" ++ text_of i.weight)))

abbrev pub items_text : List ℕ → List Item → List ℕ
items_text kind [] = []
items_text kind (i ∷ is) = item_text kind i ++ items_text kind is

-- rows, then columns, then derived rows
abbrev pub weights_text : Weights → List ℕ
weights_text w = items_text (codes "r") w.rows ++ (items_text (codes "c") w.columns ++ items_text (codes "d") w.derived)

-- the same, and then splits
abbrev pub leaf_text : Weights → List ℕ
leaf_text w = weights_text w ++ items_text (codes "s") w.splits

-- `j:a`
abbrev pub entry_text : Entry → List ℕ
entry_text e = codes " " ++ (decimal (e.column + 1) ++ (codes ":" ++ text_of e.coefficient))

abbrev pub form_text : List Entry → List ℕ
form_text [] = []
form_text (e ∷ es) = entry_text e ++ form_text es

abbrev pub numbers_text : List Rational → List ℕ
numbers_text [] = []
numbers_text (v ∷ vs) = codes " " ++ (text_of v ++ numbers_text vs)

abbrev pub form_split_text : FormSplit → List ℕ
form_split_text s = codes "split " ++ (text_of (whole s.at) ++ (form_text s.form ++ (codes "\nlow " ++ (text_of s.low ++ (weights_text s.low_weights ++ (codes "\nhigh " ++ (text_of s.high ++ (weights_text s.high_weights ++ codes "\n"))))))))

abbrev pub proof_text : Proof → List ℕ
proof_text (Plain w) = codes "plain" ++ (weights_text w ++ codes "\n")
proof_text (BySplit s) = form_split_text s

abbrev pub derived_text : Derived → List ℕ
derived_text d = codes "derive " ++ (text_of d.bound ++ (form_text d.form ++ (codes "\n" ++ proof_text d.proof)))

abbrev pub derived_rows_text : List Derived → List ℕ
derived_rows_text [] = []
derived_rows_text (d ∷ ds) = derived_text d ++ derived_rows_text ds

-- a split's line: the column and where the cases part, or this and the form
abbrev pub split_text : Version → Split → List ℕ
split_text One s = codes "branch " ++ (decimal (split_column s + 1) ++ (codes " " ++ (text_of (whole s.at) ++ codes "\n")))
split_text Two s = codes "split " ++ (text_of (whole s.at) ++ (form_text s.form ++ codes "\n"))

abbrev pub node_text : Version → TreeNode → List ℕ
node_text v (Branch s) = split_text v s
node_text v (Empty w) = codes "empty" ++ (leaf_text w ++ codes "\n")
node_text v (Bound w) = codes "bound" ++ (leaf_text w ++ codes "\n")

abbrev pub tree_text : Version → List TreeNode → List ℕ
tree_text v [] = []
tree_text v (node ∷ nodes) = node_text v node ++ tree_text v nodes

abbrev pub number_of : Version → ℕ
number_of One = 1
number_of Two = 2

abbrev pub head_text : Version → ℕ → ℕ → List ℕ
head_text v rows columns = codes "cert " ++ (decimal (number_of v) ++ (codes "\nsize " ++ (decimal rows ++ (codes " " ++ (decimal columns ++ codes "\n")))))

abbrev pub value_text : Option Rational → List ℕ
value_text None = []
value_text (Some v) = codes "value " ++ (text_of v ++ codes "\n")

-- the line of a point or a ray
abbrev pub point_text : List ℕ → Option (List Rational) → List ℕ
point_text word None = []
point_text word (Some x) = word ++ (numbers_text x ++ codes "\n")

-- how many derived rows there are, and the rows
abbrev pub counted_rows_text : List Derived → List ℕ
counted_rows_text derived = codes "derived " ++ (decimal (length derived) ++ (codes "\n" ++ derived_rows_text derived))

abbrev pub shown_text : Version → List Derived → List TreeNode → List ℕ
shown_text v derived tree = counted_rows_text derived ++ (codes "tree\n" ++ tree_text v tree)

-- the verdict's line, and what shows it
abbrev pub body_text : Certificate → Verdict → List ℕ
body_text c Optimal = codes "verdict optimal\n" ++ (value_text c.value ++ (point_text (codes "point") c.point ++ shown_text c.version c.derived c.tree))
body_text c Infeasible = codes "verdict infeasible\n" ++ shown_text c.version c.derived c.tree
body_text c Unbounded = codes "verdict unbounded\n" ++ (point_text (codes "point") c.point ++ point_text (codes "ray") c.ray)

abbrev pub certificate_text : Certificate → List ℕ
certificate_text c = head_text c.version c.rows c.columns ++ (body_text c c.verdict ++ codes "end\n")
