-- What is read of lines.
use Rattle.std.proofs.Common.{◌≡◌, ◌∙◌, ℕ, zero, suc, ◌+◌, ◌-◌, ◌≤◌, ◌<◌, List, [], ◌∷◌, ◌++◌, length, map, Bool, true, false, Result, Ok, Err, refl, sym, ap, subst, arith, if◌then◌else◌, inl, inr, ◌⊎◌}
use Rattle.std.specs.Prelude.{codes}
use Rattle.std.specs.Str.{bytes_eq}
use Rattle.std.proofs.lemmas.List.{append-nil, map-id}
use Rattle.rational.specs.Rational.{Rational}
use Rattle.milp.specs.Form.{Entry}
use Rattle.instance.specs.WellFormed.{are_entries}
use Rattle.verdicts.specs.Certificate.{Version, One, Two, Derived, Split, TreeNode, Branch, Empty, Bound}
use Rattle.certificate.specs.Written.{count_max, column_form, column_split, split_column, open_after, fills, is_tree, IsOfOne, AreOf}
use Rattle.certificate_lines.specs.declared.fault.FaultKind.{FaultKind}
use Rattle.certificate_lines.specs.declared.fault.FaultKind.TheVariants.{BadLine, Unended}
use Rattle.certificate_lines.specs.declared.fault.CertFault.{CertFault}
use Rattle.certificate_lines.specs.declared.fault.CertError.{CertError}
use Rattle.certificate_lines.specs.declared.fault.CertError.TheVariants as cert_error
use Rattle.certificate_lines.specs.Fields.{◌>>=◌, index_of, number_of, whole_of, fields_of, next_field, first_by, after_word, ended, numbers_of, form_of, weights_of, leaf_weights_of}
use Rattle.certificate_lines.specs.Lines.{Rest, Line, is_nil, fault_at, line_of, next_from, closed, line_by}
use Rattle.certificate_reader.specs.Reading.{derive_in, point_in, ProofLine, PlainLine, SplitLine, IsHead, plain_in, form_split_in, cases_in, proof_after, proof_in, column_split_in, branch_in, empty_in, bound_in, node_after, node_in, nodes_by, nodes_at, word_in, Shown, shown_at, derived_at, derived_rows_at, counted_rows_at}
use Rattle.certificate_lines.specs.Gives.{Fails}
use Rattle.certificate_lines.proofs.Taken.{bind_ok, form_entries, no_splits}
use Rattle.certificate_lines.proofs.Pieces.{line_some}
use Rattle.certificate_lines.proofs.Fronts.{with_front_of, with_front_of-cons}

abbrev made : {A : Type 0} → A → Result A CertFault
made x = Ok x

pub made_is : {A : Type 0} (x y : A) → made x ≡ made y → x ≡ y
made_is x y e = cc

abbrev made_of : {A : Type 0} → A → Result A FaultKind
made_of x = Ok x

pub made_of_is : {A : Type 0} (x y : A) → made_of x ≡ made_of y → x ≡ y
made_of_is x y e = cc

-- a line was taken, and its fields were read by f
pub record LineTakes {A : Type 0} (f : List (List ℕ) → Result A FaultKind) (n : ℕ) (pieces : List (List ℕ)) (x : A) (rest : Rest) : Type 0 where
  pub text : List ℕ
  pub parts : pieces ≡ text ∷ rest.pieces
  pub more : is_nil rest.pieces ≡ false
  pub line : rest.line ≡ n + 1
  pub read : f (fields_of text) ≡ Ok x

pub closed_ok : {A : Type 0} (line : Line) (r : Result A FaultKind) (x : A) → closed line r ≡ Ok x → (r ≡ Ok x) × (line.feed ≡ true)
closed_ok line (Err kind) x h = absurd cc
closed_ok line (Ok y) x h = by_test line.feed h
  where
    by_test : (b : Bool) → (if b then Ok y else fault_at line.number BadLine) ≡ Ok x → (Ok y ≡ made_of x) × (b ≡ true)
    by_test true h = (ap made_of (made_is y x h), refl)
    by_test false h = absurd cc

abbrev read_from : {A : Type 0} → (List (List ℕ) → Result A FaultKind) → Result (Line × Rest) CertFault → Result (A × Rest) CertFault
read_from f r = r >>= λ line. closed line.0 (f (fields_of line.0.text)) >>= λ x. Ok (x, line.1)

abbrev and_rest : {A : Type 0} → Rest → Result A CertFault → Result (A × Rest) CertFault
and_rest rest r = r >>= λ x. Ok (x, rest)

line_takes_from : {A : Type 0} (f : List (List ℕ) → Result A FaultKind) (n : ℕ) (pieces : List (List ℕ)) (x : A) (rest : Rest) → read_from f (next_from n pieces) ≡ Ok (x, rest) → LineTakes f n pieces x rest
line_takes_from {A = A} f n [] x rest h = absurd cc
line_takes_from {A = A} f n (piece ∷ []) x rest h = by_case piece h
  where
    no_feed : (piece : List ℕ) → and_rest (record { line = n + 1; pieces = [] }) (closed (record { number = n; text = piece; feed = false }) (f (fields_of piece))) ≡ Ok (x, rest) → ⊥
    no_feed piece h =
        let b = bind_ok (closed (record { number = n; text = piece; feed = false }) (f (fields_of piece))) (λ x. Ok (x, record { line = n + 1; pieces = [] })) (x, rest) h in
        let k = closed_ok (record { number = n; text = piece; feed = false }) (f (fields_of piece)) b.0 b.1 in
        let no : false ≡ true = k.1 in cc

    by_case : (piece : List ℕ) → read_from f (next_from n (piece ∷ [])) ≡ Ok (x, rest) → LineTakes f n (piece ∷ []) x rest
    by_case [] h = absurd cc
    by_case (c ∷ cs) h = absurd (no_feed (c ∷ cs) h)
line_takes_from {A = A} f n (piece ∷ p ∷ ps) x rest h =
    let line : Line = record { number = n; text = piece; feed = true } in
    let after : Rest = record { line = n + 1; pieces = p ∷ ps } in
    let start : (next_from n (piece ∷ p ∷ ps)) ≡ Ok (line, after) = rw (line_some n piece (p ∷ ps) refl) refl in
    let same : and_rest after (closed line (f (fields_of piece))) ≡ Ok (x, rest) = subst (λ (r : Result (Line × Rest) CertFault). read_from f r ≡ Ok (x, rest)) start h in
    let b = bind_ok (closed line (f (fields_of piece))) (λ x. Ok (x, after)) (x, rest) same in
    let k = closed_ok line (f (fields_of piece)) b.0 b.1 in
    let is = made_is {A = A × Rest} (b.0, after) (x, rest) b.2 in
    subst (λ (y : A × Rest). LineTakes f n (piece ∷ p ∷ ps) y.0 y.1) is (record { text = piece; parts = refl; more = refl; line = refl; read = k.0 })

pub line_takes : {A : Type 0} (f : List (List ℕ) → Result A FaultKind) (start : Rest) (x : A) (rest : Rest) → line_by f start ≡ Ok (x, rest) → LineTakes f start.line start.pieces x rest
line_takes f start x rest h = line_takes_from f start.line start.pieces x rest h

-- ---- what the code owes the types

derive_takes : (fields : List (List ℕ)) (x : Rational × List Entry) → derive_in fields ≡ Ok x → are_entries count_max x.1 ≡ true
derive_takes fields x h =
    let a = bind_ok (after_word (codes "derive") fields) (λ rest. first_by number_of rest >>= λ bound. form_of 0 bound.1 >>= λ form. Ok (bound.0, form)) x h in
    let b = bind_ok (first_by number_of a.0) (λ bound. form_of 0 bound.1 >>= λ form. Ok (bound.0, form)) x a.2 in
    let c = bind_ok (form_of 0 b.0.1) (λ form. Ok (b.0.0, form)) x b.2 in
    subst (λ (y : Rational × List Entry). are_entries count_max y.1 ≡ true) (made_of_is (b.0.0, c.0) x c.2) (form_entries 0 b.0.1 c.0 c.1)

pub derive_form : (start : Rest) (x : Rational × List Entry) (rest : Rest) → line_by derive_in start ≡ Ok (x, rest) → are_entries count_max x.1 ≡ true
derive_form start x rest h = let t = line_takes derive_in start x rest h in derive_takes (fields_of t.text) x t.read

split_form : (fields : List (List ℕ)) (s : Split) → form_split_in fields ≡ Ok s → are_entries count_max s.form ≡ true
split_form fields s h =
    let a = bind_ok (first_by whole_of fields) (λ at. form_of 0 at.1 >>= λ form. Ok (record { form = form; at = at.0 })) s h in
    let b = bind_ok (form_of 0 a.0.1) (λ form. Ok (record { form = form; at = a.0.0 })) s a.2 in
    let made : Split = record { form = b.0; at = a.0.0 } in
    subst (λ (x : Split). are_entries count_max x.form ≡ true) (made_of_is made s b.2) (form_entries 0 a.0.1 b.0 b.1)

cases_takes : (fields : List (List ℕ)) (x : ProofLine) → cases_in fields ≡ Ok x → IsHead x
cases_takes fields x h =
    let a = bind_ok (form_split_in fields) (λ s. Ok (SplitLine s.at s.form)) x h in
    subst IsHead (made_of_is (SplitLine a.0.at a.0.form) x a.2) (split_form fields a.0 a.1)

plain_takes : (fields : List (List ℕ)) (x : ProofLine) → plain_in fields ≡ Ok x → IsHead x
plain_takes fields x h =
    let a = bind_ok (weights_of fields) (λ w. Ok (PlainLine w)) x h in
    subst IsHead (made_of_is (PlainLine a.0) x a.2) tt

-- which way a choice went
pub chosen : {A : Type 0} (b : Bool) (x y z : A) → (if b then x else y) ≡ z → ((b ≡ true) × (x ≡ z)) ⊎ ((b ≡ false) × (y ≡ z))
chosen true x y z h = inl (refl, h)
chosen false x y z h = inr (refl, h)

proof_takes : (word : List ℕ) (fields : List (List ℕ)) (x : ProofLine) → proof_after word fields ≡ Ok x → IsHead x
proof_takes word fields x h =
    elim (chosen (bytes_eq word (codes "plain")) (plain_in fields) (if bytes_eq word (codes "split") then cases_in fields else Err BadLine) (Ok x) h) [
      | inl a ↦ plain_takes fields x a.1
      | inr a ↦ elim (chosen (bytes_eq word (codes "split")) (cases_in fields) (Err BadLine) (Ok x) a.1) [
        | inl b ↦ cases_takes fields x b.1
        | inr b ↦ absurd (no_fault x b.1)
      ]
    ]
  where
    no_fault : (x : ProofLine) → Err BadLine ≡ made_of x → ⊥
    no_fault x h = cc

pub proof_head : (start : Rest) (x : ProofLine) (rest : Rest) → line_by proof_in start ≡ Ok (x, rest) → IsHead x
proof_head start x rest h =
    let t = line_takes proof_in start x rest h in
    let a = bind_ok (next_field (fields_of t.text)) (λ word. proof_after word.0 word.1) x t.read in
    proof_takes a.0.0 a.0.1 x a.2

pub numbers_count : (n : ℕ) (fields : List (List ℕ)) (vs : List Rational) → numbers_of n fields ≡ Ok vs → length vs ≡ n
unfolding numbers_of
numbers_count zero fields vs h =
    let a = bind_ok (ended fields) (λ _. Ok []) vs h in
    ap length (sym (made_of_is [] vs a.2))
numbers_count (suc n) [] vs h = absurd cc
numbers_count (suc n) (field ∷ fields) vs h =
    let a = bind_ok (number_of field) (λ v. numbers_of n fields >>= λ vs. Ok (v ∷ vs)) vs h in
    let b = bind_ok (numbers_of n fields) (λ vs. Ok (a.0 ∷ vs)) vs a.2 in
    ap length (sym (made_of_is (a.0 ∷ b.0) vs b.2)) ∙ ap suc (numbers_count n fields b.0 b.1)

pub point_size : (word : List ℕ) (n : ℕ) (start : Rest) (x : List Rational) (rest : Rest) → line_by (point_in word n) start ≡ Ok (x, rest) → length x ≡ n
point_size word n start x rest h =
    let t = line_takes (point_in word n) start x rest h in
    let a = bind_ok (after_word word (fields_of t.text)) (λ rest. numbers_of n rest) x t.read in
    numbers_count n a.0 x a.2

-- ---- trees

-- where `shape` is the node of a certificate in the place of what f reads
pub nodes_fill : {A : Type 0} (f : List (List ℕ) → Result A FaultKind) (shape : A → TreeNode) (places n : ℕ) (pieces : List (List ℕ)) (x : List A × Rest) → nodes_by f (λ node more. open_after (shape node) more) places n pieces ≡ Ok x → fills places (map shape x.0) ≡ true
unfolding nodes_by
nodes_fill {A = A} f shape zero n pieces x h = subst (λ (y : List A × Rest). fills 0 (map shape y.0) ≡ true) (made_is {A = List A × Rest} ([], record { line = n; pieces = pieces }) x h) refl
nodes_fill {A = A} f shape (suc more) n [] x h = absurd cc
nodes_fill {A = A} f shape (suc more) n (piece ∷ pieces) x h =
    let opened : A → ℕ → ℕ = λ node more. open_after (shape node) more in
    let a = bind_ok (line_of n piece pieces) (λ line. closed line (f (fields_of line.text)) >>= λ node. nodes_by f opened (opened node more) (n + 1) pieces >>= λ nodes. Ok (node ∷ nodes.0, nodes.1)) x h in
    let b = bind_ok (closed a.0 (f (fields_of a.0.text))) (λ node. nodes_by f opened (opened node more) (n + 1) pieces >>= λ nodes. Ok (node ∷ nodes.0, nodes.1)) x a.2 in
    let c = bind_ok (nodes_by f opened (opened b.0 more) (n + 1) pieces) (λ nodes. Ok (b.0 ∷ nodes.0, nodes.1)) x b.2 in
    let rest = nodes_fill f shape (opened b.0 more) (n + 1) pieces c.0 c.1 in
    subst (λ (y : List A × Rest). fills (suc more) (map shape y.0) ≡ true) (made_is {A = List A × Rest} (b.0 ∷ c.0.0, c.0.1) x c.2) rest

-- a node has a line in the version
abbrev pub IsOf : Version → TreeNode → Type 0
IsOf One node = IsOfOne node
IsOf Two node = Unit {0}

pub first_of_all : (v : Version) (node : TreeNode) (nodes : List TreeNode) → AreOf v (node ∷ nodes) → IsOf v node × AreOf v nodes
first_of_all One node nodes h = h
first_of_all Two node nodes h = (tt, tt)

pub all_with_first : (v : Version) (node : TreeNode) (nodes : List TreeNode) → IsOf v node → AreOf v nodes → AreOf v (node ∷ nodes)
all_with_first One node nodes h k = (h, k)
all_with_first Two node nodes h k = tt

column_takes : (fields : List (List ℕ)) (s : Split) → column_split_in fields ≡ Ok s → s.form ≡ column_form (split_column s)
column_takes fields s h =
    let a = bind_ok (first_by index_of fields) (λ column. first_by whole_of column.1 >>= λ at. ended at.1 >>= λ _. Ok (column_split column.0 at.0)) s h in
    let b = bind_ok (first_by whole_of a.0.1) (λ at. ended at.1 >>= λ _. Ok (column_split a.0.0 at.0)) s a.2 in
    let c = bind_ok (ended b.0.1) (λ _. Ok (column_split a.0.0 b.0.0)) s b.2 in
    subst (λ (x : Split). x.form ≡ column_form (split_column x)) (made_of_is (column_split a.0.0 b.0.0) s c.2) refl

node_takes : (word : List ℕ) (fields : List (List ℕ)) (x : TreeNode) → node_after One word fields ≡ Ok x → IsOfOne x
node_takes word fields x h =
    elim (chosen (bytes_eq word (codes "branch")) (branch_in One fields) (if bytes_eq word (codes "empty") then empty_in One fields else if bytes_eq word (codes "bound") then bound_in One fields else Err BadLine) (Ok x) h) [
      | inl a ↦
          let s = bind_ok (column_split_in fields) (λ s. Ok (Branch s)) x a.1 in
          subst IsOfOne (made_of_is (Branch s.0) x s.2) (column_takes fields s.0 s.1)
      | inr a ↦ elim (chosen (bytes_eq word (codes "empty")) (empty_in One fields) (if bytes_eq word (codes "bound") then bound_in One fields else Err BadLine) (Ok x) a.1) [
        | inl b ↦
            let w = bind_ok (leaf_weights_of One fields) (λ w. Ok (Empty w)) x b.1 in
            subst IsOfOne (made_of_is (Empty w.0) x w.2) (no_splits fields w.0 w.1)
        | inr b ↦ elim (chosen (bytes_eq word (codes "bound")) (bound_in One fields) (Err BadLine) (Ok x) b.1) [
          | inl c ↦
              let w = bind_ok (leaf_weights_of One fields) (λ w. Ok (Bound w)) x c.1 in
              subst IsOfOne (made_of_is (Bound w.0) x w.2) (no_splits fields w.0 w.1)
          | inr c ↦ absurd (no_node x c.1)
        ]
      ]
    ]
  where
    no_node : (x : TreeNode) → Err BadLine ≡ made_of x → ⊥
    no_node x h = cc

node_has_line : (v : Version) (fields : List (List ℕ)) (x : TreeNode) → node_in v fields ≡ Ok x → IsOf v x
node_has_line One fields x h =
    let a = bind_ok (next_field fields) (λ word. node_after One word.0 word.1) x h in
    node_takes a.0.0 a.0.1 x a.2
node_has_line Two fields x h = tt

pub nodes_have_lines : (v : Version) (places n : ℕ) (pieces : List (List ℕ)) (x : List TreeNode × Rest) → nodes_by (node_in v) open_after places n pieces ≡ Ok x → AreOf v x.0
unfolding nodes_by
nodes_have_lines v zero n pieces x h = subst (λ (y : List TreeNode × Rest). AreOf v y.0) (made_is ([], record { line = n; pieces = pieces }) x h) (none_of v)
  where
    none_of : (v : Version) → AreOf v []
    none_of One = tt
    none_of Two = tt
nodes_have_lines v (suc more) n [] x h = absurd cc
nodes_have_lines v (suc more) n (piece ∷ pieces) x h =
    let a = bind_ok (line_of n piece pieces) (λ line. closed line (node_in v (fields_of line.text)) >>= λ node. nodes_by (node_in v) open_after (open_after node more) (n + 1) pieces >>= λ nodes. Ok (node ∷ nodes.0, nodes.1)) x h in
    let b = bind_ok (closed a.0 (node_in v (fields_of a.0.text))) (λ node. nodes_by (node_in v) open_after (open_after node more) (n + 1) pieces >>= λ nodes. Ok (node ∷ nodes.0, nodes.1)) x a.2 in
    let c = bind_ok (nodes_by (node_in v) open_after (open_after b.0 more) (n + 1) pieces) (λ nodes. Ok (b.0 ∷ nodes.0, nodes.1)) x b.2 in
    let k = closed_ok a.0 (node_in v (fields_of a.0.text)) b.0 b.1 in
    let rest = nodes_have_lines v (open_after b.0 more) (n + 1) pieces c.0 c.1 in
    subst (λ (y : List TreeNode × Rest). AreOf v y.0) (made_is (b.0 ∷ c.0.0, c.0.1) x c.2) (all_with_first v b.0 c.0.0 (node_has_line v (fields_of a.0.text) b.0 k.0) rest)

pub nodes_whole : (v : Version) (rest : Rest) (x : List TreeNode × Rest) → nodes_at v 1 rest ≡ Ok x → is_tree x.0 ≡ true
nodes_whole v rest x h = ap is_tree (sym (map-id x.0)) ∙ nodes_fill (node_in v) (λ node. node) 1 rest.line rest.pieces x h

pub shown_tree : (v : Version) (start : Rest) (x : Shown × Rest) → shown_at v start ≡ Ok x → (is_tree x.0.tree ≡ true) × AreOf v x.0.tree
unfolding shown_at
shown_tree v start x h =
    let a = bind_ok (counted_rows_at start) (λ rows. line_by (word_in (codes "tree")) rows.1 >>= λ mark. nodes_at v 1 mark.1 >>= λ nodes. Ok (record { derived = rows.0; tree = nodes.0 }, nodes.1)) x h in
    let b = bind_ok (line_by (word_in (codes "tree")) a.0.1) (λ mark. nodes_at v 1 mark.1 >>= λ nodes. Ok (record { derived = a.0.0; tree = nodes.0 }, nodes.1)) x a.2 in
    let c = bind_ok (nodes_at v 1 b.0.1) (λ nodes. Ok (record { derived = a.0.0; tree = nodes.0 }, nodes.1)) x b.2 in
    let shown : Shown = record { derived = a.0.0; tree = c.0.0 } in
    subst (λ (y : Shown × Rest). (is_tree y.0.tree ≡ true) × AreOf v y.0.tree) (made_is (shown, c.0.1) x c.2) (nodes_whole v b.0.1 c.0 c.1, nodes_have_lines v 1 b.0.1.line b.0.1.pieces c.0 c.1)

-- ---- the loops over lines

pub rows_more : (count i : ℕ) (front : List Derived) (start : Rest) (d : Derived) (rest : Rest) (total : Result (List Derived × Rest) CertFault) → i < count → derived_at start ≡ Ok (d, rest)
    → with_front_of front (derived_rows_at (count - i) start) ≡ total → with_front_of (front ++ d ∷ []) (derived_rows_at (count - (i + 1)) rest) ≡ total
unfolding derived_rows_at
rows_more count i front start d rest total lt read so_far =
    let n : count - i ≡ suc (count - (i + 1)) = omega arith in
    let one : with_front_of front (derived_rows_at (count - i) start) ≡ with_front_of (front ++ d ∷ []) (derived_rows_at (count - (i + 1)) rest) = rw (n, read) (with_front_of-cons front d (derived_rows_at (count - (i + 1)) rest)) in
    sym one ∙ so_far

pub rows_fault : (e : CertError) (count i : ℕ) (front : List Derived) (start : Rest) (total : Result (List Derived × Rest) CertFault) → i < count → Fails e (derived_at start)
    → with_front_of front (derived_rows_at (count - i) start) ≡ total → Fails e total
unfolding derived_rows_at
rows_fault cert_error.NoMemory count i front start total lt read so_far = tt
rows_fault (cert_error.Fault fault) count i front start total lt read so_far =
    let n : count - i ≡ suc (count - (i + 1)) = omega arith in
    let one : with_front_of front (derived_rows_at (count - i) start) ≡ Err fault = rw (n, read) refl in
    sym so_far ∙ one

pub rows_all : (count i : ℕ) (front : List Derived) (start : Rest) (total : Result (List Derived × Rest) CertFault) → count ≤ i
    → with_front_of front (derived_rows_at (count - i) start) ≡ total → total ≡ Ok (front, start)
unfolding derived_rows_at
rows_all count i front start total le so_far =
    let n : count - i ≡ 0 = omega arith in
    let one : with_front_of front (derived_rows_at (count - i) start) ≡ Ok (front, start) = rw n (ap (λ (ds : List Derived). Ok (ds, start)) (append-nil front)) in
    sym so_far ∙ one

pub nodes_more : {A : Type 0} (f : List (List ℕ) → Result A FaultKind) (opened : A → ℕ → ℕ) (places : ℕ) (front : List A) (start : Rest) (node : A) (rest : Rest) (total : Result (List A × Rest) CertFault) → 0 < places → line_by f start ≡ Ok (node, rest)
    → with_front_of front (nodes_by f opened places start.line start.pieces) ≡ total → with_front_of (front ++ node ∷ []) (nodes_by f opened (opened node (places - 1)) rest.line rest.pieces) ≡ total
unfolding nodes_by
nodes_more f opened places front start node rest total some read so_far =
    let n : places ≡ suc (places - 1) = omega arith in
    let t = line_takes f start node rest read in
    let line : line_of start.line t.text rest.pieces ≡ Ok (record { number = start.line; text = t.text; feed = true }) = line_some start.line t.text rest.pieces t.more in
    let step : nodes_by f opened (suc (places - 1)) start.line (t.text ∷ rest.pieces) ≡ (nodes_by f opened (opened node (places - 1)) (start.line + 1) rest.pieces >>= λ nodes. Ok (node ∷ nodes.0, nodes.1)) = rw (line, t.read) refl in
    let first : nodes_by f opened places start.line start.pieces ≡ nodes_by f opened (suc (places - 1)) start.line (t.text ∷ rest.pieces) = ap (λ (k : ℕ). nodes_by f opened k start.line start.pieces) n ∙ ap (nodes_by f opened (suc (places - 1)) start.line) t.parts in
    let next : nodes_by f opened (opened node (places - 1)) (start.line + 1) rest.pieces ≡ nodes_by f opened (opened node (places - 1)) rest.line rest.pieces = ap (λ (k : ℕ). nodes_by f opened (opened node (places - 1)) k rest.pieces) (sym t.line) in
    let cons = with_front_of-cons front node (nodes_by f opened (opened node (places - 1)) (start.line + 1) rest.pieces) in
    ap (with_front_of (front ++ node ∷ [])) (sym next) ∙ sym cons ∙ ap (with_front_of front) (sym (first ∙ step)) ∙ so_far

abbrev after_line : {A : Type 0} → (Line → Result A CertFault) → Result (Line × Rest) CertFault → Result (A × Rest) CertFault
after_line k r = r >>= λ line. k line.0 >>= λ x. Ok (x, line.1)

step_fault : {A : Type 0} (r : Result Line CertFault) (k : Line → Result A CertFault) (rest : Rest) (go : A → Result (List A × Rest) CertFault) (f : CertFault)
    → after_line k (and_rest rest r) ≡ Err f → (r >>= λ line. k line >>= go) ≡ Err f
step_fault {A = A} (Err g) k rest go f h = let same : g ≡ f = cc in ap (λ (x : CertFault). Err x) same
step_fault {A = A} (Ok line) k rest go f h = second (k line) h
  where
    second : (r : Result A CertFault) → and_rest rest r ≡ Err f → (r >>= go) ≡ Err f
    second (Err g) h = let same : g ≡ f = cc in ap (λ (x : CertFault). Err x) same
    second (Ok node) h = absurd cc

node_fault : {A : Type 0} (f : List (List ℕ) → Result A FaultKind) (opened : A → ℕ → ℕ) (n more : ℕ) (pieces : List (List ℕ)) (fault : CertFault) → read_from f (next_from n pieces) ≡ Err fault → nodes_by f opened (suc more) n pieces ≡ Err fault
unfolding nodes_by
node_fault f opened n more [] fault h = let same : record { line = n; kind = Unended } ≡ fault = cc in ap (λ (x : CertFault). Err x) same
node_fault f opened n more (piece ∷ pieces) fault h = step_fault (line_of n piece pieces) (λ line. closed line (f (fields_of line.text))) (record { line = n + 1; pieces = pieces }) (λ node. nodes_by f opened (opened node more) (n + 1) pieces >>= λ nodes. Ok (node ∷ nodes.0, nodes.1)) fault h

pub nodes_fault : {A : Type 0} (f : List (List ℕ) → Result A FaultKind) (opened : A → ℕ → ℕ) (e : CertError) (places : ℕ) (front : List A) (start : Rest) (total : Result (List A × Rest) CertFault) → 0 < places → Fails e (line_by f start)
    → with_front_of front (nodes_by f opened places start.line start.pieces) ≡ total → Fails e total
nodes_fault f opened cert_error.NoMemory places front start total some read so_far = tt
nodes_fault f opened (cert_error.Fault fault) places front start total some read so_far =
    let n : places ≡ suc (places - 1) = omega arith in
    let one : nodes_by f opened places start.line start.pieces ≡ Err fault = ap (λ (k : ℕ). nodes_by f opened k start.line start.pieces) n ∙ node_fault f opened start.line (places - 1) start.pieces fault read in
    sym so_far ∙ ap (with_front_of front) one

pub nodes_all : {A : Type 0} (f : List (List ℕ) → Result A FaultKind) (opened : A → ℕ → ℕ) (places : ℕ) (front : List A) (start : Rest) (total : Result (List A × Rest) CertFault) → places ≡ 0
    → with_front_of front (nodes_by f opened places start.line start.pieces) ≡ total → total ≡ Ok (front, start)
unfolding nodes_by
nodes_all {A = A} f opened places front start total none so_far =
    let one : with_front_of front (nodes_by f opened places start.line start.pieces) ≡ Ok (front, start) = rw none (ap (λ (ns : List A). Ok (ns, start)) (append-nil front)) in
    sym so_far ∙ one

pub open_after-le : (node : TreeNode) (more : ℕ) → open_after node more ≤ more + 2
open_after-le (Branch s) more = omega arith
open_after-le (Empty w) more = omega arith
open_after-le (Bound w) more = omega arith
