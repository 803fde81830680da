-- A text that is read as a certificate is the certificate's text.
use Rattle.std.proofs.Common.{◌≡◌, ◌∙◌, ℕ, zero, suc, ◌+◌, ◌≤◌, List, [], ◌∷◌, ◌++◌, length, Bool, true, false, not, ◌&&◌, Some, None, Result, Ok, refl, sym, ap, subst, if◌then◌else◌, append_assoc}
use Rattle.std.specs.Prelude.{codes}
use Rattle.std.specs.Fmt.{decimal}
use Rattle.std.specs.List.{AllByRecursion, slice_split, join_with_byte}
use Rattle.std.proofs.lemmas.List.Splits.{join_with_byte-slice_split}
use Rattle.rational.specs.Rational.{whole}
use Rattle.fraction.specs.Text.{text_of}
use Rattle.verdicts.specs.Certificate.{Version, Verdict, Optimal, Infeasible, Unbounded, FormSplit, Proof, Plain, BySplit, Derived, Certificate}
use Rattle.certificate_lines.specs.declared.fault.FaultKind.{FaultKind}
use Rattle.certificate_lines.specs.declared.fault.FaultKind.TheVariants.{Unended, Extra}
use Rattle.certificate.specs.Written.{count_max, open_after, IsProof, IsDerived, IsNode, HasTree, HasParts, HasText}
use Rattle.certificate.specs.Text.{weights_text, form_text, numbers_text, form_split_text, proof_text, derived_text, derived_rows_text, counted_rows_text, node_text, tree_text, head_text, value_text, point_text, shown_text, body_text, certificate_text}
use Rattle.certificate_lines.specs.Fields.{◌>>=◌, fields_of}
use Rattle.certificate_lines.specs.Lines.{Rest, Line, is_nil, is_feed, fault_at, line_of, closed, line_by, is_over}
use Rattle.certificate_reader.specs.Reading.{version_in, size_in, verdict_in, value_in, point_in, count_in, word_in, derive_in, side_in, ProofLine, PlainLine, SplitLine, proof_in, proof_from, derived_at, derived_rows_at, counted_rows_at, node_in, nodes_by, nodes_at, Shown, shown_at, optimal_at, infeasible_at, unbounded_at, body_at, over, certificate_at, read_of}
use Rattle.certificate_lines.proofs.Taken.{bind_ok}
use Rattle.certificate_reader.proofs.LinesTaken.{made_is, line_takes, closed_ok, nodes_whole, nodes_have_lines}
use Rattle.certificate_reader.proofs.FieldsFound.{Texts}
use Rattle.certificate_reader.proofs.LinesFound.{digit_of, version_text, word_text, size_text, name_of, verdict_text, value_line, point_line, count_line, derive_line, side_line, Shows, proof_line, node_line}

-- the text of pieces
abbrev pub feeds : List (List ℕ) → List ℕ
feeds pieces = join_with_byte 10 pieces

feeds-cons : (line : List ℕ) (pieces : List (List ℕ)) → is_nil pieces ≡ false → feeds (line ∷ pieces) ≡ line ++ (10 ∷ feeds pieces)
feeds-cons line [] some = absurd cc
feeds-cons line (p ∷ ps) some = refl

pub line_found : {A : Type 0} (f : List (List ℕ) → Result A FaultKind) (start : Rest) (x : A) (rest : Rest) → line_by f start ≡ Ok (x, rest) → (line : List ℕ) × (f (fields_of line) ≡ Ok x) × (feeds start.pieces ≡ line ++ (10 ∷ feeds rest.pieces))
line_found f start x rest h =
    let t = line_takes f start x rest h in
    (t.text, t.read, ap feeds t.parts ∙ feeds-cons t.text rest.pieces t.more)

-- ---- derived rows

pub plain_glue : (w f : List ℕ) → (codes "plain" ++ w) ++ (10 ∷ f) ≡ (codes "plain" ++ (w ++ codes "\n")) ++ f
plain_glue w f = ap (λ (r : List ℕ). codes "plain" ++ r) (sym (append_assoc w (10 ∷ []) f))

pub split_glue : (a b l u h v f : List ℕ) → (codes "split " ++ (a ++ b)) ++ (10 ∷ ((codes "low" ++ (32 ∷ (l ++ u))) ++ (10 ∷ ((codes "high" ++ (32 ∷ (h ++ v))) ++ (10 ∷ f)))))
    ≡ (codes "split " ++ (a ++ (b ++ (codes "\nlow " ++ (l ++ (u ++ (codes "\nhigh " ++ (h ++ (v ++ codes "\n"))))))))) ++ f
split_glue a b l u h v f = simp append_assoc

proof_found : Texts → (line : List ℕ) (head : ProofLine) (start : Rest) (x : Proof × Rest) → Shows line head → proof_from head start ≡ Ok x → (line ++ (10 ∷ feeds start.pieces) ≡ proof_text x.0 ++ feeds x.1.pieces) × IsProof x.0
proof_found law line (PlainLine w) start x shows h =
    subst (λ (y : Proof × Rest). (line ++ (10 ∷ feeds start.pieces) ≡ proof_text y.0 ++ feeds y.1.pieces) × IsProof y.0) (made_is (Plain w, start) x h)
    (ap (λ (l : List ℕ). l ++ (10 ∷ feeds start.pieces)) shows.0 ∙ plain_glue (weights_text w) (feeds start.pieces), shows.1)
proof_found law line (SplitLine at form) start x shows h =
    let a = bind_ok (line_by (side_in (codes "low")) start) (λ low. line_by (side_in (codes "high")) low.1 >>= λ high. Ok (BySplit (record { at = at; form = form; low = low.0.0; low_weights = low.0.1; high = high.0.0; high_weights = high.0.1 }), high.1)) x h in
    let b = bind_ok (line_by (side_in (codes "high")) a.0.1) (λ high. Ok (BySplit (record { at = at; form = form; low = a.0.0.0; low_weights = a.0.0.1; high = high.0.0; high_weights = high.0.1 }), high.1)) x a.2 in
    let low = line_found (side_in (codes "low")) start a.0.0 a.0.1 a.1 in
    let high = line_found (side_in (codes "high")) a.0.1 b.0.0 b.0.1 b.1 in
    let l = side_line law (codes "low") low.0 a.0.0 low.1 in
    let k = side_line law (codes "high") high.0 b.0.0 high.1 in
    let split : FormSplit = record { at = at; form = form; low = a.0.0.0; low_weights = a.0.0.1; high = b.0.0.0; high_weights = b.0.0.1 } in
    let f : List ℕ = feeds b.0.1.pieces in
    let first : line ++ (10 ∷ feeds start.pieces) ≡ (codes "split " ++ (text_of (whole at) ++ form_text form)) ++ (10 ∷ feeds start.pieces) = ap (λ (l : List ℕ). l ++ (10 ∷ feeds start.pieces)) shows.0 in
    let second : feeds start.pieces ≡ (codes "low" ++ (32 ∷ (text_of a.0.0.0 ++ weights_text a.0.0.1))) ++ (10 ∷ feeds a.0.1.pieces) = low.2 ∙ ap (λ (l : List ℕ). l ++ (10 ∷ feeds a.0.1.pieces)) l.0 in
    let third : feeds a.0.1.pieces ≡ (codes "high" ++ (32 ∷ (text_of b.0.0.0 ++ weights_text b.0.0.1))) ++ (10 ∷ f) = high.2 ∙ ap (λ (l : List ℕ). l ++ (10 ∷ f)) k.0 in
    let text : line ++ (10 ∷ feeds start.pieces) ≡ form_split_text split ++ f =
    first
    ∙ ap (λ (r : List ℕ). (codes "split " ++ (text_of (whole at) ++ form_text form)) ++ (10 ∷ r)) (second ∙ ap (λ (r : List ℕ). (codes "low" ++ (32 ∷ (text_of a.0.0.0 ++ weights_text a.0.0.1))) ++ (10 ∷ r)) third)
    ∙ split_glue (text_of (whole at)) (form_text form) (text_of a.0.0.0) (weights_text a.0.0.1) (text_of b.0.0.0) (weights_text b.0.0.1) f in
    subst (λ (y : Proof × Rest). (line ++ (10 ∷ feeds start.pieces) ≡ proof_text y.0 ++ feeds y.1.pieces) × IsProof y.0) (made_is (BySplit split, b.0.1) x b.2)
    (text, record { at = shows.1; form = shows.2; low = l.1; low_weights = l.2; high = k.1; high_weights = k.2 })

pub derived_glue : (a b p f : List ℕ) → (codes "derive " ++ (a ++ b)) ++ (10 ∷ (p ++ f)) ≡ (codes "derive " ++ (a ++ (b ++ (codes "\n" ++ p)))) ++ f
derived_glue a b p f = simp append_assoc

pub record RowFound (start : Rest) (d : Derived) (rest : Rest) : Type 0 where
  pub text : feeds start.pieces ≡ derived_text d ++ feeds rest.pieces
  pub written : IsDerived d

derived_found : Texts → (start : Rest) (x : Derived × Rest) → derived_at start ≡ Ok x → RowFound start x.0 x.1
unfolding derived_at
derived_found law start x h =
    let a = bind_ok (line_by derive_in start) (λ row. line_by proof_in row.1 >>= λ line. proof_from line.0 line.1 >>= λ proof. Ok (record { bound = row.0.0; form = row.0.1; proof = proof.0 }, proof.1)) x h in
    let b = bind_ok (line_by proof_in a.0.1) (λ line. proof_from line.0 line.1 >>= λ proof. Ok (record { bound = a.0.0.0; form = a.0.0.1; proof = proof.0 }, proof.1)) x a.2 in
    let c = bind_ok (proof_from b.0.0 b.0.1) (λ proof. Ok (record { bound = a.0.0.0; form = a.0.0.1; proof = proof.0 }, proof.1)) x b.2 in
    let row = line_found derive_in start a.0.0 a.0.1 a.1 in
    let head = line_found proof_in a.0.1 b.0.0 b.0.1 b.1 in
    let r = derive_line law row.0 a.0.0 row.1 in
    let p = proof_found law head.0 b.0.0 b.0.1 c.0 (proof_line law head.0 b.0.0 head.1) c.1 in
    let d : Derived = record { bound = a.0.0.0; form = a.0.0.1; proof = c.0.0 } in
    let text : feeds start.pieces ≡ derived_text d ++ feeds c.0.1.pieces =
    row.2 ∙ ap (λ (l : List ℕ). l ++ (10 ∷ feeds a.0.1.pieces)) r.0
    ∙ ap (λ (t : List ℕ). (codes "derive " ++ (text_of a.0.0.0 ++ form_text a.0.0.1)) ++ (10 ∷ t)) (head.2 ∙ p.0)
    ∙ derived_glue (text_of a.0.0.0) (form_text a.0.0.1) (proof_text c.0.0) (feeds c.0.1.pieces) in
    subst (λ (y : Derived × Rest). RowFound start y.0 y.1) (made_is (d, c.0.1) x c.2) (record { text = text; written = record { bound = r.1; form = r.2; proof = p.1 } })

pub record RowsFound (n : ℕ) (start : Rest) (ds : List Derived) (rest : Rest) : Type 0 where
  pub text : feeds start.pieces ≡ derived_rows_text ds ++ feeds rest.pieces
  pub written : AllByRecursion IsDerived ds
  pub count : length ds ≡ n

rows_found : Texts → (n : ℕ) (start : Rest) (x : List Derived × Rest) → derived_rows_at n start ≡ Ok x → RowsFound n start x.0 x.1
unfolding derived_rows_at
rows_found law zero start x h = subst (λ (y : List Derived × Rest). RowsFound 0 start y.0 y.1) (made_is ([], start) x h) (record { text = refl; written = tt; count = refl })
rows_found law (suc n) start x h =
    let a = bind_ok (derived_at start) (λ d. derived_rows_at n d.1 >>= λ ds. Ok (d.0 ∷ ds.0, ds.1)) x h in
    let b = bind_ok (derived_rows_at n a.0.1) (λ ds. Ok (a.0.0 ∷ ds.0, ds.1)) x a.2 in
    let row = derived_found law start a.0 a.1 in
    let rows = rows_found law n a.0.1 b.0 b.1 in
    subst (λ (y : List Derived × Rest). RowsFound (suc n) start y.0 y.1) (made_is (a.0.0 ∷ b.0.0, b.0.1) x b.2) (record {
      text = row.text ∙ ap (λ (t : List ℕ). derived_text a.0.0 ++ t) rows.text ∙ sym (append_assoc (derived_text a.0.0) (derived_rows_text b.0.0) (feeds b.0.1.pieces));
      written = (row.written, rows.written);
      count = ap suc rows.count;
    })

pub counted_glue : (n d f : List ℕ) → (codes "derived " ++ n) ++ (10 ∷ (d ++ f)) ≡ (codes "derived " ++ (n ++ (codes "\n" ++ d))) ++ f
counted_glue n d f = simp append_assoc

pub record CountedFound (start : Rest) (ds : List Derived) (rest : Rest) : Type 0 where
  pub text : feeds start.pieces ≡ counted_rows_text ds ++ feeds rest.pieces
  pub written : AllByRecursion IsDerived ds
  pub count : length ds ≤ count_max

pub counted_found : Texts → (start : Rest) (x : List Derived × Rest) → counted_rows_at start ≡ Ok x → CountedFound start x.0 x.1
unfolding counted_rows_at
counted_found law start x h =
    let a = bind_ok (line_by count_in start) (λ count. derived_rows_at count.0 count.1) x h in
    let count = line_found count_in start a.0.0 a.0.1 a.1 in
    let n = count_line law count.0 a.0.0 count.1 in
    let rows = rows_found law a.0.0 a.0.1 x a.2 in
    let f : List ℕ = feeds x.1.pieces in
    record {
      text = count.2 ∙ ap (λ (l : List ℕ). l ++ (10 ∷ feeds a.0.1.pieces)) (n.0 ∙ ap (λ (k : ℕ). codes "derived " ++ decimal k) (sym rows.count)) ∙ ap (λ (t : List ℕ). (codes "derived " ++ decimal (length x.0)) ++ (10 ∷ t)) rows.text ∙ counted_glue (decimal (length x.0)) (derived_rows_text x.0) f;
      written = rows.written;
      count = subst (λ (k : ℕ). k ≤ count_max) (sym rows.count) n.1;
    }

-- ---- the tree

line_of_found : (n : ℕ) (piece : List ℕ) (pieces : List (List ℕ)) (line : Line) → line_of n piece pieces ≡ Ok line → (line.text ≡ piece) × (line.feed ≡ not (is_nil pieces))
line_of_found n piece pieces line h = by_test (is_nil piece && is_nil pieces) h
  where
    by_test : (b : Bool) → (if b then fault_at n Unended else Ok (record { number = n; text = piece; feed = not (is_nil pieces) })) ≡ Ok line → (line.text ≡ piece) × (line.feed ≡ not (is_nil pieces))
    by_test true h = absurd cc
    by_test false h =
        let made : Line = record { number = n; text = piece; feed = not (is_nil pieces) } in
        subst (λ (l : Line). (l.text ≡ piece) × (l.feed ≡ not (is_nil pieces))) (made_is made line h) (refl, refl)

not_true_is : (b : Bool) → not b ≡ true → b ≡ false
not_true_is true h = absurd cc
not_true_is false h = refl

-- the text of nodes, each of which has one
pub record NodesFound {A : Type 0} (tree : List A → List ℕ) (Is : A → Type 0) (pieces : List (List ℕ)) (ns : List A) (rest : Rest) : Type 0 where
  pub text : feeds pieces ≡ tree ns ++ feeds rest.pieces
  pub written : AllByRecursion Is ns

-- where the line of each is the node's text
pub nodes_found : {A : Type 0} (f : List (List ℕ) → Result A FaultKind) (opened : A → ℕ → ℕ) (write : A → List ℕ) (tree : List A → List ℕ) (Is : A → Type 0) → tree [] ≡ [] → ((node : A) (nodes : List A) → tree (node ∷ nodes) ≡ write node ++ tree nodes)
    → ((line : List ℕ) (x : A) → f (fields_of line) ≡ Ok x → (line ++ (10 ∷ []) ≡ write x) × Is x)
    → (places n : ℕ) (pieces : List (List ℕ)) (x : List A × Rest) → nodes_by f opened places n pieces ≡ Ok x → NodesFound tree Is pieces x.0 x.1
unfolding nodes_by
nodes_found {A = A} f opened write tree Is none more reads zero n pieces x h = subst (λ (y : List A × Rest). NodesFound tree Is pieces y.0 y.1) (made_is {A = List A × Rest} ([], record { line = n; pieces = pieces }) x h) (record { text = ap (λ (t : List ℕ). t ++ feeds pieces) (sym none); written = tt })
nodes_found {A = A} f opened write tree Is none more reads (suc places) n [] x h = absurd cc
nodes_found {A = A} f opened write tree Is none more reads (suc places) n (piece ∷ pieces) x h =
    let a = bind_ok (line_of n piece pieces) (λ line. closed line (f (fields_of line.text)) >>= λ node. nodes_by f opened (opened node places) (n + 1) pieces >>= λ nodes. Ok (node ∷ nodes.0, nodes.1)) x h in
    let b = bind_ok (closed a.0 (f (fields_of a.0.text))) (λ node. nodes_by f opened (opened node places) (n + 1) pieces >>= λ nodes. Ok (node ∷ nodes.0, nodes.1)) x a.2 in
    let c = bind_ok (nodes_by f opened (opened b.0 places) (n + 1) pieces) (λ nodes. Ok (b.0 ∷ nodes.0, nodes.1)) x b.2 in
    let line = line_of_found n piece pieces a.0 a.1 in
    let k = closed_ok a.0 (f (fields_of a.0.text)) b.0 b.1 in
    let some : is_nil pieces ≡ false = not_true_is (is_nil pieces) (sym line.1 ∙ k.1) in
    let node = reads piece b.0 (ap (λ (t : List ℕ). f (fields_of t)) (sym line.0) ∙ k.0) in
    let rest = nodes_found f opened write tree Is none more reads (opened b.0 places) (n + 1) pieces c.0 c.1 in
    let end : List ℕ = feeds c.0.1.pieces in
    let text : feeds (piece ∷ pieces) ≡ tree (b.0 ∷ c.0.0) ++ end =
    feeds-cons piece pieces some ∙ sym (append_assoc piece (10 ∷ []) (feeds pieces))
    ∙ ap (λ (t : List ℕ). t ++ feeds pieces) node.0 ∙ ap (λ (t : List ℕ). write b.0 ++ t) rest.text
    ∙ sym (append_assoc (write b.0) (tree c.0.0) end) ∙ ap (λ (t : List ℕ). t ++ end) (sym (more b.0 c.0.0)) in
    subst (λ (y : List A × Rest). NodesFound tree Is (piece ∷ pieces) y.0 y.1) (made_is {A = List A × Rest} (b.0 ∷ c.0.0, c.0.1) x c.2) (record { text = text; written = (node.1, rest.written) })

-- ---- what a verdict has

pub shown_glue : (r t f : List ℕ) → r ++ (codes "tree" ++ (10 ∷ (t ++ f))) ≡ (r ++ (codes "tree\n" ++ t)) ++ f
shown_glue r t f = simp append_assoc

pub record ShownFound (v : Version) (start : Rest) (s : Shown) (rest : Rest) : Type 0 where
  pub text : feeds start.pieces ≡ shown_text v s.derived s.tree ++ feeds rest.pieces
  pub written : HasTree v s.derived s.tree

shown_found : Texts → (v : Version) (start : Rest) (x : Shown × Rest) → shown_at v start ≡ Ok x → ShownFound v start x.0 x.1
unfolding shown_at
shown_found law v start x h =
    let a = bind_ok (counted_rows_at start) (λ rows. line_by (word_in (codes "tree")) rows.1 >>= λ mark. nodes_at v 1 mark.1 >>= λ nodes. Ok (record { derived = rows.0; tree = nodes.0 }, nodes.1)) x h in
    let b = bind_ok (line_by (word_in (codes "tree")) a.0.1) (λ mark. nodes_at v 1 mark.1 >>= λ nodes. Ok (record { derived = a.0.0; tree = nodes.0 }, nodes.1)) x a.2 in
    let c = bind_ok (nodes_at v 1 b.0.1) (λ nodes. Ok (record { derived = a.0.0; tree = nodes.0 }, nodes.1)) x b.2 in
    let rows = counted_found law start a.0 a.1 in
    let mark = line_found (word_in (codes "tree")) a.0.1 b.0.0 b.0.1 b.1 in
    let word = word_text (codes "tree") mark.0 b.0.0 mark.1 in
    let nodes = nodes_found (node_in v) open_after (node_text v) (tree_text v) IsNode refl (λ node nodes. refl) (node_line law v) 1 b.0.1.line b.0.1.pieces c.0 c.1 in
    let f : List ℕ = feeds c.0.1.pieces in
    let shown : Shown = record { derived = a.0.0; tree = c.0.0 } in
    let text : feeds start.pieces ≡ shown_text v a.0.0 c.0.0 ++ f =
    rows.text ∙ ap (λ (t : List ℕ). counted_rows_text a.0.0 ++ t) (mark.2 ∙ ap (λ (l : List ℕ). l ++ (10 ∷ feeds b.0.1.pieces)) word ∙ ap (λ (t : List ℕ). codes "tree" ++ (10 ∷ t)) nodes.text)
    ∙ shown_glue (counted_rows_text a.0.0) (tree_text v c.0.0) f in
    subst (λ (y : Shown × Rest). ShownFound v start y.0 y.1) (made_is (shown, c.0.1) x c.2) (record {
      text = text;
      written = record { count = rows.count; rows = rows.written; nodes = nodes.written; lines = nodes_have_lines v 1 b.0.1.line b.0.1.pieces c.0 c.1; whole = nodes_whole v b.0.1 c.0 c.1 };
    })

-- the lines of a verdict's parts
abbrev pub parts_text : Certificate → Verdict → List ℕ
parts_text c Optimal = value_text c.value ++ (point_text (codes "point") c.point ++ shown_text c.version c.derived c.tree)
parts_text c Infeasible = shown_text c.version c.derived c.tree
parts_text c Unbounded = point_text (codes "point") c.point ++ point_text (codes "ray") c.ray

pub body-parts : (c : Certificate) (v : Verdict) → body_text c v ≡ codes "verdict " ++ (name_of v ++ (10 ∷ parts_text c v))
body-parts c Optimal = refl
body-parts c Infeasible = refl
body-parts c Unbounded = refl

pub record BodyFound (version : Version) (rows columns : ℕ) (v : Verdict) (start : Rest) (c : Certificate) (rest : Rest) : Type 0 where
  pub text : feeds start.pieces ≡ parts_text c v ++ feeds rest.pieces
  pub has_version : c.version ≡ version
  pub has_rows : c.rows ≡ rows
  pub has_columns : c.columns ≡ columns
  pub has_verdict : c.verdict ≡ v
  pub parts : HasParts c v

pub optimal_glue : (v x s f : List ℕ) → (codes "value " ++ v) ++ (10 ∷ ((codes "point" ++ x) ++ (10 ∷ (s ++ f)))) ≡ ((codes "value " ++ (v ++ codes "\n")) ++ ((codes "point" ++ (x ++ codes "\n")) ++ s)) ++ f
optimal_glue v x s f = simp append_assoc

optimal_found : Texts → (v : Version) (rows columns : ℕ) (start : Rest) (x : Certificate × Rest) → optimal_at v rows columns start ≡ Ok x → BodyFound v rows columns Optimal start x.0 x.1
unfolding optimal_at
optimal_found law v rows columns start x h =
    let a = bind_ok (line_by value_in start) (λ value. line_by (point_in (codes "point") columns) value.1 >>= λ point. shown_at v point.1 >>= λ shown. Ok (record { version = v; rows = rows; columns = columns; verdict = Optimal; value = Some value.0; point = Some point.0; ray = None; derived = shown.0.derived; tree = shown.0.tree }, shown.1)) x h in
    let b = bind_ok (line_by (point_in (codes "point") columns) a.0.1) (λ point. shown_at v point.1 >>= λ shown. Ok (record { version = v; rows = rows; columns = columns; verdict = Optimal; value = Some a.0.0; point = Some point.0; ray = None; derived = shown.0.derived; tree = shown.0.tree }, shown.1)) x a.2 in
    let c = bind_ok (shown_at v b.0.1) (λ shown. Ok (record { version = v; rows = rows; columns = columns; verdict = Optimal; value = Some a.0.0; point = Some b.0.0; ray = None; derived = shown.0.derived; tree = shown.0.tree }, shown.1)) x b.2 in
    let value = line_found value_in start a.0.0 a.0.1 a.1 in
    let k = value_line law value.0 a.0.0 value.1 in
    let point = line_found (point_in (codes "point") columns) a.0.1 b.0.0 b.0.1 b.1 in
    let p = point_line law (codes "point") point.0 columns b.0.0 point.1 in
    let s = shown_found law v b.0.1 c.0 c.1 in
    let f : List ℕ = feeds c.0.1.pieces in
    let made : Certificate = record { version = v; rows = rows; columns = columns; verdict = Optimal; value = Some a.0.0; point = Some b.0.0; ray = None; derived = c.0.0.derived; tree = c.0.0.tree } in
    let text : feeds start.pieces ≡ parts_text made Optimal ++ f =
    value.2 ∙ ap (λ (l : List ℕ). l ++ (10 ∷ feeds a.0.1.pieces)) k.0
    ∙ ap (λ (t : List ℕ). (codes "value " ++ text_of a.0.0) ++ (10 ∷ t)) (point.2 ∙ ap (λ (l : List ℕ). l ++ (10 ∷ feeds b.0.1.pieces)) p.0 ∙ ap (λ (t : List ℕ). (codes "point" ++ numbers_text b.0.0) ++ (10 ∷ t)) s.text)
    ∙ optimal_glue (text_of a.0.0) (numbers_text b.0.0) (shown_text v c.0.0.derived c.0.0.tree) f in
    subst (λ (y : Certificate × Rest). BodyFound v rows columns Optimal start y.0 y.1) (made_is (made, c.0.1) x c.2) (record { text = text; has_version = refl; has_rows = refl; has_columns = refl; has_verdict = refl; parts = (k.1, p.1, refl, s.written) })

infeasible_found : Texts → (v : Version) (rows columns : ℕ) (start : Rest) (x : Certificate × Rest) → infeasible_at v rows columns start ≡ Ok x → BodyFound v rows columns Infeasible start x.0 x.1
unfolding infeasible_at
infeasible_found law v rows columns start x h =
    let a = bind_ok (shown_at v start) (λ shown. Ok (record { version = v; rows = rows; columns = columns; verdict = Infeasible; value = None; point = None; ray = None; derived = shown.0.derived; tree = shown.0.tree }, shown.1)) x h in
    let s = shown_found law v start a.0 a.1 in
    let made : Certificate = record { version = v; rows = rows; columns = columns; verdict = Infeasible; value = None; point = None; ray = None; derived = a.0.0.derived; tree = a.0.0.tree } in
    subst (λ (y : Certificate × Rest). BodyFound v rows columns Infeasible start y.0 y.1) (made_is (made, a.0.1) x a.2) (record { text = s.text; has_version = refl; has_rows = refl; has_columns = refl; has_verdict = refl; parts = (refl, refl, refl, s.written) })

pub unbounded_glue : (x r f : List ℕ) → (codes "point" ++ x) ++ (10 ∷ ((codes "ray" ++ r) ++ (10 ∷ f))) ≡ ((codes "point" ++ (x ++ codes "\n")) ++ (codes "ray" ++ (r ++ codes "\n"))) ++ f
unbounded_glue x r f = simp append_assoc

unbounded_found : Texts → (v : Version) (rows columns : ℕ) (start : Rest) (x : Certificate × Rest) → unbounded_at v rows columns start ≡ Ok x → BodyFound v rows columns Unbounded start x.0 x.1
unfolding unbounded_at
unbounded_found law v rows columns start x h =
    let a = bind_ok (line_by (point_in (codes "point") columns) start) (λ point. line_by (point_in (codes "ray") columns) point.1 >>= λ ray. Ok (record { version = v; rows = rows; columns = columns; verdict = Unbounded; value = None; point = Some point.0; ray = Some ray.0; derived = []; tree = [] }, ray.1)) x h in
    let b = bind_ok (line_by (point_in (codes "ray") columns) a.0.1) (λ ray. Ok (record { version = v; rows = rows; columns = columns; verdict = Unbounded; value = None; point = Some a.0.0; ray = Some ray.0; derived = []; tree = [] }, ray.1)) x a.2 in
    let point = line_found (point_in (codes "point") columns) start a.0.0 a.0.1 a.1 in
    let p = point_line law (codes "point") point.0 columns a.0.0 point.1 in
    let ray = line_found (point_in (codes "ray") columns) a.0.1 b.0.0 b.0.1 b.1 in
    let r = point_line law (codes "ray") ray.0 columns b.0.0 ray.1 in
    let f : List ℕ = feeds b.0.1.pieces in
    let made : Certificate = record { version = v; rows = rows; columns = columns; verdict = Unbounded; value = None; point = Some a.0.0; ray = Some b.0.0; derived = []; tree = [] } in
    let text : feeds start.pieces ≡ parts_text made Unbounded ++ f =
    point.2 ∙ ap (λ (l : List ℕ). l ++ (10 ∷ feeds a.0.1.pieces)) p.0
    ∙ ap (λ (t : List ℕ). (codes "point" ++ numbers_text a.0.0) ++ (10 ∷ t)) (ray.2 ∙ ap (λ (l : List ℕ). l ++ (10 ∷ f)) r.0)
    ∙ unbounded_glue (numbers_text a.0.0) (numbers_text b.0.0) f in
    subst (λ (y : Certificate × Rest). BodyFound v rows columns Unbounded start y.0 y.1) (made_is (made, b.0.1) x b.2) (record { text = text; has_version = refl; has_rows = refl; has_columns = refl; has_verdict = refl; parts = (refl, p.1, r.1, refl, refl) })

body_found : Texts → (version : Version) (rows columns : ℕ) (v : Verdict) (start : Rest) (x : Certificate × Rest) → body_at version rows columns v start ≡ Ok x → BodyFound version rows columns v start x.0 x.1
body_found law version rows columns Optimal start x h = optimal_found law version rows columns start x h
body_found law version rows columns Infeasible start x h = infeasible_found law version rows columns start x h
body_found law version rows columns Unbounded start x h = unbounded_found law version rows columns start x h

pub over_found : {A : Type 0} (c d : A) (rest : Rest) → over c rest ≡ Ok d → (is_over rest.pieces ≡ true) × (c ≡ d)
over_found c d rest h = by_test (is_over rest.pieces) h
  where
    by_test : (b : Bool) → (if b then Ok c else fault_at rest.line Extra) ≡ Ok d → (b ≡ true) × (c ≡ d)
    by_test true h = (refl, made_is c d h)
    by_test false h = absurd cc

pub over_feeds : (pieces : List (List ℕ)) → is_over pieces ≡ true → feeds pieces ≡ []
over_feeds [] h = refl
over_feeds ([] ∷ []) h = refl
over_feeds ([] ∷ p ∷ ps) h = absurd cc
over_feeds ((c ∷ cs) ∷ ps) h = absurd cc

pub whole_glue : (d m n v p : List ℕ) → (codes "cert " ++ d) ++ (10 ∷ ((codes "size " ++ (m ++ (codes " " ++ n))) ++ (10 ∷ ((codes "verdict " ++ v) ++ (10 ∷ (p ++ (codes "end" ++ (10 ∷ []))))))))
    ≡ (codes "cert " ++ (d ++ (codes "\nsize " ++ (m ++ (codes " " ++ (n ++ codes "\n")))))) ++ ((codes "verdict " ++ (v ++ (10 ∷ p))) ++ codes "end\n")
whole_glue d m n v p = simp append_assoc

pub record CertificateFound (text : List ℕ) (c : Certificate) : Type 0 where
  pub text_is : text ≡ certificate_text c
  pub written : HasText c

found_from : Texts → (start : Rest) (c : Certificate) → certificate_at start ≡ Ok c → CertificateFound (feeds start.pieces) c
unfolding certificate_at
found_from law start d h =
    let a = bind_ok (line_by version_in start) (λ version. line_by size_in version.1 >>= λ size. line_by verdict_in size.1 >>= λ verdict. body_at version.0 size.0.0 size.0.1 verdict.0 verdict.1 >>= λ body. line_by (word_in (codes "end")) body.1 >>= λ end. over body.0 end.1) d h in
    let b = bind_ok (line_by size_in a.0.1) (λ size. line_by verdict_in size.1 >>= λ verdict. body_at a.0.0 size.0.0 size.0.1 verdict.0 verdict.1 >>= λ body. line_by (word_in (codes "end")) body.1 >>= λ end. over body.0 end.1) d a.2 in
    let e = bind_ok (line_by verdict_in b.0.1) (λ verdict. body_at a.0.0 b.0.0.0 b.0.0.1 verdict.0 verdict.1 >>= λ body. line_by (word_in (codes "end")) body.1 >>= λ end. over body.0 end.1) d b.2 in
    let g = bind_ok (body_at a.0.0 b.0.0.0 b.0.0.1 e.0.0 e.0.1) (λ body. line_by (word_in (codes "end")) body.1 >>= λ end. over body.0 end.1) d e.2 in
    let k = bind_ok (line_by (word_in (codes "end")) g.0.1) (λ end. over g.0.0 end.1) d g.2 in
    let o = over_found g.0.0 d k.0.1 k.2 in
    let version = line_found version_in start a.0.0 a.0.1 a.1 in
    let size = line_found size_in a.0.1 b.0.0 b.0.1 b.1 in
    let verdict = line_found verdict_in b.0.1 e.0.0 e.0.1 e.1 in
    let end = line_found (word_in (codes "end")) g.0.1 k.0.0 k.0.1 k.1 in
    let s = size_text law size.0 b.0.0 size.1 in
    let body = body_found law a.0.0 b.0.0.0 b.0.0.1 e.0.0 e.0.1 g.0 g.1 in
    let c : Certificate = g.0.0 in
    let m : List ℕ = decimal b.0.0.0 in
    let n : List ℕ = decimal b.0.0.1 in
    let v : List ℕ = name_of e.0.0 in
    let last : feeds g.0.1.pieces ≡ codes "end" ++ (10 ∷ []) = end.2 ∙ ap (λ (l : List ℕ). l ++ (10 ∷ feeds k.0.1.pieces)) (word_text (codes "end") end.0 k.0.0 end.1) ∙ ap (λ (t : List ℕ). codes "end" ++ (10 ∷ t)) (over_feeds k.0.1.pieces o.0) in
    let fourth : feeds e.0.1.pieces ≡ parts_text c e.0.0 ++ (codes "end" ++ (10 ∷ [])) = body.text ∙ ap (λ (t : List ℕ). parts_text c e.0.0 ++ t) last in
    let third : feeds b.0.1.pieces ≡ (codes "verdict " ++ v) ++ (10 ∷ (parts_text c e.0.0 ++ (codes "end" ++ (10 ∷ [])))) = verdict.2 ∙ ap (λ (l : List ℕ). l ++ (10 ∷ feeds e.0.1.pieces)) (verdict_text verdict.0 e.0.0 verdict.1) ∙ ap (λ (t : List ℕ). (codes "verdict " ++ v) ++ (10 ∷ t)) fourth in
    let second : feeds a.0.1.pieces ≡ (codes "size " ++ (m ++ (codes " " ++ n))) ++ (10 ∷ ((codes "verdict " ++ v) ++ (10 ∷ (parts_text c e.0.0 ++ (codes "end" ++ (10 ∷ [])))))) = size.2 ∙ ap (λ (l : List ℕ). l ++ (10 ∷ feeds b.0.1.pieces)) s.0 ∙ ap (λ (t : List ℕ). (codes "size " ++ (m ++ (codes " " ++ n))) ++ (10 ∷ t)) third in
    let first : feeds start.pieces ≡ (codes "cert " ++ digit_of a.0.0) ++ (10 ∷ ((codes "size " ++ (m ++ (codes " " ++ n))) ++ (10 ∷ ((codes "verdict " ++ v) ++ (10 ∷ (parts_text c e.0.0 ++ (codes "end" ++ (10 ∷ [])))))))) = version.2 ∙ ap (λ (l : List ℕ). l ++ (10 ∷ feeds a.0.1.pieces)) (version_text version.0 a.0.0 version.1) ∙ ap (λ (t : List ℕ). (codes "cert " ++ digit_of a.0.0) ++ (10 ∷ t)) second in
    let glued : feeds start.pieces ≡ head_text a.0.0 b.0.0.0 b.0.0.1 ++ (body_text c e.0.0 ++ codes "end\n") = first ∙ whole_glue (digit_of a.0.0) m n v (parts_text c e.0.0) ∙ ap (λ (t : List ℕ). head_text a.0.0 b.0.0.0 b.0.0.1 ++ (t ++ codes "end\n")) (sym (body-parts c e.0.0)) in
    let text : feeds start.pieces ≡ certificate_text c =
    glued
    ∙ ap (λ (r : Version). head_text r b.0.0.0 b.0.0.1 ++ (body_text c e.0.0 ++ codes "end\n")) (sym body.has_version)
    ∙ ap (λ (r : ℕ). head_text c.version r b.0.0.1 ++ (body_text c e.0.0 ++ codes "end\n")) (sym body.has_rows)
    ∙ ap (λ (r : ℕ). head_text c.version c.rows r ++ (body_text c e.0.0 ++ codes "end\n")) (sym body.has_columns)
    ∙ ap (λ (w : Verdict). head_text c.version c.rows c.columns ++ (body_text c w ++ codes "end\n")) (sym body.has_verdict) in
    let written : HasText c = record {
      rows = subst (λ (r : ℕ). r ≤ count_max) (sym body.has_rows) s.1;
      columns = subst (λ (r : ℕ). r ≤ count_max) (sym body.has_columns) s.2;
      parts = subst (λ (w : Verdict). HasParts c w) (sym body.has_verdict) body.parts;
    } in
    subst (λ (y : Certificate). CertificateFound (feeds start.pieces) y) o.1 (record { text_is = text; written = written })

pub certificate_found : Texts → (bytes : List ℕ) (c : Certificate) → read_of bytes ≡ Ok c → CertificateFound bytes c
certificate_found law bytes c h = subst (λ (t : List ℕ). CertificateFound t c) (join_with_byte-slice_split 10 bytes) (found_from law (record { line = 1; pieces = slice_split is_feed bytes }) c h)
