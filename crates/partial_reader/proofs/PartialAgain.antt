-- The text of a partial certificate is read as the partial certificate again.
use Rattle.std.proofs.Common.{◌≡◌, ◌∙◌, ℕ, ◌+◌, ◌≤◌, List, [], ◌∷◌, ◌++◌, length, map, Bool, true, false, Option, Some, None, Result, Ok, Err, IfSome, refl, sym, ap, subst, arith, append_assoc, if◌then◌else◌}
use Rattle.std.specs.Prelude.{codes}
use Rattle.std.specs.Fmt.{decimal}
use Rattle.std.specs.Str.{bytes_eq}
use Rattle.std.specs.List.{AllByRecursion}
use Rattle.std.proofs.lemmas.List.{append-nil}
use Rattle.std.proofs.lemmas.Slice.Eq.{bytes_eq-Decides}
use Rattle.rational.specs.Rational.{Rational}
use Rattle.fraction.specs.Text.{text_of}
use Rattle.fraction.specs.Fits.{fits}
use Rattle.verdicts.specs.Certificate.{Two, Derived, TreeNode}
use Rattle.certificate.specs.Written.{count_max, IsDerived, IsNode}
use Rattle.certificate.specs.Text.{numbers_text, counted_rows_text}
use Rattle.certificate_lines.specs.Fields.{fields_of}
use Rattle.certificate_lines.specs.Lines.{line_by}
use Rattle.certificate_reader.specs.Reading.{node_in}
use Rattle.certificate_reader.proofs.FieldsFound.{Texts}
use Rattle.certificate_reader.proofs.FieldsAgain.{Plain, text_bytes, both, text_solid, number_again}
use Rattle.certificate_reader.proofs.CertificateFound.{shown_glue}
use Rattle.certificate_reader.proofs.CertificateAgain.{left, line_again, fields_line, word_again, size_again, point_again, counted_again, LineAgain, node_again, nodes_again}
use Rattle.partial_certificate.specs.Partial.{Best, PartialNode, Done, Todo, Partial, shape}
use Rattle.partial_certificate.specs.Text.{best_text, partial_node_text, partial_tree_text, partial_shown_text, partial_text}
use Rattle.partial_certificate.specs.Written.{AreNodes, is_whole, IsBest, HasSize, HasText}
use Rattle.partial_reader.specs.Reading.{words_in, best_in, best_at, todo_in, done_in, partial_node_in, partial_shown_at, undecided_at, partial_at, read_partial_of}
use Rattle.partial_reader.proofs.PartialFound.{best_glue, partial_lines}

-- ---- the best point

-- no number is written `none`
number_apart : (v : Rational) → fits v ≡ true → bytes_eq (text_of v) (codes "none") ≡ false
number_apart v h = by_test (bytes_eq (text_of v) (codes "none")) refl
  where
    by_test : (b : Bool) → bytes_eq (text_of v) (codes "none") ≡ b → b ≡ false
    by_test false e = refl
    by_test true e =
        let same : text_of v ≡ codes "none" = (bytes_eq-Decides (text_of v) (codes "none")).0 e in
        let digits : AllByRecursion Plain (codes "none") = subst (λ (t : List ℕ). AllByRecursion Plain t) same (text_bytes v h) in
        absurd (omega (arith, digits.0.1))

best_line_again : Texts → (v : Rational) → fits v ≡ true → (n : ℕ) (rest : List ℕ) → line_by best_in (left n ((codes "best " ++ text_of v) ++ (10 ∷ rest))) ≡ Ok (Some v, left (n + 1) rest)
best_line_again law v h n rest =
    fields_line best_in (codes "best") (text_of v ∷ []) (Some v) (rw (number_apart v h, number_again law v h) refl) refl (both _ _ (text_solid v h) refl)
    (codes "best " ++ text_of v) (ap (λ (r : List ℕ). codes "best " ++ r) (append-nil (text_of v))) n rest

best_again : Texts → (columns : ℕ) (o : Option Best) → IfSome o IsBest → IfSome o (HasSize columns) → (n : ℕ) (rest : List ℕ) → (m : ℕ) × (best_at columns (left n (best_text o ++ rest)) ≡ Ok (o, left m rest))
unfolding best_at
best_again law columns None h k n rest = (n + 1, rw (line_again best_in (codes "best none") None refl refl n rest) refl)
best_again law columns (Some b) h k n rest =
    let glue = sym (best_glue (text_of b.value) (numbers_text b.point) rest) in
    let second : List ℕ = (codes "point" ++ numbers_text b.point) ++ (10 ∷ rest) in
    let point = point_again law columns b.point (record { size = k; numbers = h.point }) (n + 1) rest in
    (n + 1 + 1, ap (λ (t : List ℕ). best_at columns (left n t)) glue ∙ rw (best_line_again law b.value h.value n second) (rw point refl))

-- ---- the tree

todo_apart : (fields : List (List ℕ)) (node : TreeNode) → node_in Two (codes "todo" ∷ fields) ≡ Ok node → ⊥
todo_apart fields node h = cc

-- what is read as a node of a certificate is not the word `todo`
done_again : (fields : List (List ℕ)) (node : TreeNode) → node_in Two fields ≡ Ok node → partial_node_in fields ≡ Ok (Done node)
done_again [] node h = cc
done_again (word ∷ rest) node h = by_test (bytes_eq word (codes "todo")) refl
  where
    by_test : (b : Bool) → bytes_eq word (codes "todo") ≡ b → (if b then todo_in rest else done_in (word ∷ rest)) ≡ Ok (Done node)
    by_test false e = rw h refl
    by_test true e =
        let same : word ≡ codes "todo" = (bytes_eq-Decides word (codes "todo")).0 e in
        absurd (todo_apart rest node (ap (λ (w : List ℕ). node_in Two (w ∷ rest)) (sym same) ∙ h))

partial_node_again : Texts → (node : PartialNode) → IsNode (shape node) → LineAgain partial_node_in (partial_node_text node) node
partial_node_again law Todo h = record { line = codes "todo"; text_is = refl; inked = refl; read = refl }
partial_node_again law (Done node) h =
    let again = node_again law Two node h tt in
    record { line = again.line; text_is = again.text_is; inked = again.inked; read = done_again (fields_of again.line) node again.read }

lines_again : Texts → (ns : List PartialNode) → AllByRecursion IsNode (map shape ns) → AllByRecursion (λ node. LineAgain partial_node_in (partial_node_text node) node) ns
lines_again law [] h = tt
lines_again law (node ∷ nodes) h = (partial_node_again law node h.0, lines_again law nodes h.1)

-- ---- the partial certificate

shown_again : Texts → (ds : List Derived) (ns : List PartialNode) → length ds ≤ count_max → AllByRecursion IsDerived ds → AreNodes ns → is_whole ns ≡ true → (n : ℕ) (rest : List ℕ)
    → (m : ℕ) × (partial_shown_at (left n ((counted_rows_text ds ++ (codes "tree\n" ++ partial_tree_text ns)) ++ rest)) ≡ Ok ((ds, ns), left m rest))
unfolding partial_shown_at
shown_again law ds ns few rows nodes whole n rest =
    let glue = sym (shown_glue (counted_rows_text ds) (partial_tree_text ns) rest) in
    let third : List ℕ = partial_tree_text ns ++ rest in
    let second : List ℕ = codes "tree" ++ (10 ∷ third) in
    let counted = counted_again law ds few rows n second in
    let mark = word_again (codes "tree") refl refl counted.0 third in
    let tree = nodes_again partial_node_in shape partial_node_text partial_tree_text refl (λ node nodes. refl) 1 ns whole (lines_again law ns nodes) (counted.0 + 1) rest in
    (tree.0, ap (λ (t : List ℕ). partial_shown_at (left n t)) glue ∙ rw counted.1 (rw mark (rw tree.1 refl)))

undecided_again : Texts → (c : Partial) → HasText c → (n : ℕ) (rest : List ℕ) → (m : ℕ) × (undecided_at c.rows c.columns (left n (partial_shown_text c ++ rest)) ≡ Ok (c, left m rest))
unfolding undecided_at
undecided_again law c h n rest =
    let shown : List ℕ = counted_rows_text c.derived ++ (codes "tree\n" ++ partial_tree_text c.tree) in
    let best = best_again law c.columns c.best h.best h.size n (shown ++ rest) in
    let others = shown_again law c.derived c.tree h.count h.derived h.nodes h.whole best.0 rest in
    (others.0, ap (λ (t : List ℕ). undecided_at c.rows c.columns (left n t)) (append_assoc (best_text c.best) shown rest) ∙ rw best.1 (rw others.1 refl))

pub partial_again : Texts → (c : Partial) → HasText c → read_partial_of (partial_text c) ≡ Ok c
unfolding partial_at
partial_again law c h =
    let last : List ℕ = codes "end" ++ (10 ∷ []) in
    let fourth : List ℕ = partial_shown_text c ++ last in
    let third : List ℕ = codes "verdict undecided" ++ (10 ∷ fourth) in
    let second : List ℕ = (codes "size " ++ (decimal c.rows ++ (codes " " ++ decimal c.columns))) ++ (10 ∷ third) in
    let version = line_again (words_in (codes "cert") (codes "2")) (codes "cert 2") tt refl refl 1 second in
    let verdict = line_again (words_in (codes "verdict") (codes "undecided")) (codes "verdict undecided") tt refl refl 3 fourth in
    let body = undecided_again law c h 4 last in
    ap (λ (t : List ℕ). partial_at (left 1 t)) (sym (partial_lines c.rows c.columns (partial_shown_text c)))
    ∙ rw version (rw (size_again law c.rows c.columns h.rows h.columns 2 third) (rw verdict (rw body.1 refl)))
