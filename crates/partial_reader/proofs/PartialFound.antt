-- A text that is read as a partial certificate is the partial certificate's text.
use Rattle.std.proofs.Common.{◌≡◌, ◌∙◌, ℕ, List, [], ◌∷◌, ◌++◌, Option, Some, None, Ok, IfSome, inl, inr, refl, sym, ap, subst, arith, append_assoc, if◌then◌else◌}
use Rattle.std.specs.Prelude.{codes}
use Rattle.std.specs.Fmt.{decimal}
use Rattle.std.specs.Str.{bytes_eq}
use Rattle.std.specs.List.{slice_split}
use Rattle.std.proofs.lemmas.Fmt.{decimal_digit}
use Rattle.std.proofs.lemmas.List.{append-nil}
use Rattle.std.proofs.lemmas.List.Splits.{join_with_byte-slice_split}
use Rattle.std.proofs.lemmas.Slice.Eq.{bytes_eq-Decides}
use Rattle.rational.specs.Rational.{Rational}
use Rattle.fraction.specs.Text.{text_of}
use Rattle.verdicts.specs.Certificate.{Two, Derived}
use Rattle.certificate.specs.Written.{IsNode}
use Rattle.certificate.specs.Text.{numbers_text, counted_rows_text, head_text}
use Rattle.certificate_lines.specs.Fields.{◌>>=◌, number_of, fields_of, next_field, first_by, after_word, ended}
use Rattle.certificate_lines.specs.Lines.{Rest, is_feed, line_by}
use Rattle.certificate_lines.proofs.Taken.{bind_ok}
use Rattle.certificate_reader.specs.Reading.{size_in, point_in, word_in, counted_rows_at, node_in, over}
use Rattle.certificate_reader.proofs.LinesTaken.{made_is, made_of_is, chosen}
use Rattle.certificate_reader.proofs.FieldsFound.{Texts, blanked, line_is, after_word_found, next_found, ended_found, first_found, number_found}
use Rattle.certificate_reader.proofs.LinesFound.{word_text, size_text, point_line, node_line}
use Rattle.certificate_reader.proofs.CertificateFound.{feeds, line_found, counted_found, nodes_found, shown_glue, over_found, over_feeds}
use Rattle.partial_certificate.specs.Partial.{Best, PartialNode, Done, Todo, Partial, shape}
use Rattle.partial_certificate.specs.Text.{best_text, partial_node_text, partial_tree_text, partial_shown_text, partial_text}
use Rattle.partial_reader.specs.Reading.{words_in, value_named, best_in, best_from, best_at, todo_in, done_in, partial_node_in, opened, partial_nodes_at, partial_shown_at, undecided_at, partial_at, read_partial_of}

words_text : (word next line : List ℕ) (u : Unit {0}) → words_in word next (fields_of line) ≡ Ok u → line ≡ word ++ (32 ∷ next)
words_text word next line u h =
    let a = bind_ok (after_word word (fields_of line)) (λ rest. word_in next rest) u h in
    let b = bind_ok (after_word next a.0) (λ rest. ended rest) u a.2 in
    line_is line word a.0 (after_word_found word (fields_of line) a.0 a.1) ∙ ap (λ (fs : List (List ℕ)). word ++ blanked fs) (after_word_found next a.0 b.0 b.1 ∙ ap (λ (fs : List (List ℕ)). next ∷ fs) (ended_found b.0 u b.2)) ∙ ap (λ (r : List ℕ). word ++ (32 ∷ r)) (append-nil next)

-- ---- the best point

-- the word for a value, or for none
abbrev pub word_of : Option Rational → List ℕ
word_of None = codes "none"
word_of (Some v) = text_of v

value_found : Texts → (word : List ℕ) (o : Option Rational) → value_named word ≡ Ok o → word ≡ word_of o
value_found law word o h =
    elim (chosen (bytes_eq word (codes "none")) (Ok None) (number_of word >>= λ value. Ok (Some value)) (Ok o) h) [
      | inl a ↦ (bytes_eq-Decides word (codes "none")).0 a.0 ∙ ap word_of (made_of_is {A = Option Rational} None o a.1)
      | inr a ↦
          let b = bind_ok (number_of word) (λ value. Ok (Some value)) o a.1 in
          (number_found law word b.0 b.1).0 ∙ ap word_of (made_of_is {A = Option Rational} (Some b.0) o b.2)
    ]

best_line : Texts → (line : List ℕ) (o : Option Rational) → best_in (fields_of line) ≡ Ok o → line ≡ codes "best " ++ word_of o
best_line law line o h =
    let a = bind_ok (after_word (codes "best") (fields_of line)) (λ rest. first_by value_named rest >>= λ value. ended value.1 >>= λ _. Ok value.0) o h in
    let b = bind_ok (first_by value_named a.0) (λ value. ended value.1 >>= λ _. Ok value.0) o a.2 in
    let c = bind_ok (ended b.0.1) (λ _. Ok b.0.0) o b.2 in
    let field = first_found value_named a.0 b.0 b.1 in
    let fields : a.0 ≡ word_of o ∷ [] = field.1 ∙ ap (λ (f : List ℕ). f ∷ b.0.1) (value_found law field.0 b.0.0 field.2 ∙ ap word_of (made_of_is {A = Option Rational} b.0.0 o c.2)) ∙ ap (λ (fs : List (List ℕ)). word_of o ∷ fs) (ended_found b.0.1 c.0 c.1) in
    line_is line (codes "best") a.0 (after_word_found (codes "best") (fields_of line) a.0 a.1) ∙ ap (λ (fs : List (List ℕ)). codes "best" ++ blanked fs) fields ∙ ap (λ (r : List ℕ). codes "best " ++ r) (append-nil (word_of o))

pub best_glue : (v x f : List ℕ) → (codes "best " ++ v) ++ (10 ∷ ((codes "point" ++ x) ++ (10 ∷ f))) ≡ (codes "best " ++ (v ++ (codes "\n" ++ (codes "point" ++ (x ++ codes "\n"))))) ++ f
best_glue v x f = simp append_assoc

best_from_found : Texts → (columns : ℕ) (o : Option Rational) (start : Rest) (x : Option Best × Rest) → best_from columns o start ≡ Ok x → (codes "best " ++ word_of o) ++ (10 ∷ feeds start.pieces) ≡ best_text x.0 ++ feeds x.1.pieces
best_from_found law columns None start x h = ap (λ (y : Option Best × Rest). best_text y.0 ++ feeds y.1.pieces) (made_is {A = Option Best × Rest} (None, start) x h)
best_from_found law columns (Some v) start x h =
    let a = bind_ok (line_by (point_in (codes "point") columns) start) (λ point. Ok (Some (record { point = point.0; value = v }), point.1)) x h in
    let point = line_found (point_in (codes "point") columns) start a.0.0 a.0.1 a.1 in
    let p = point_line law (codes "point") point.0 columns a.0.0 point.1 in
    let f : List ℕ = feeds a.0.1.pieces in
    let best : Best = record { point = a.0.0; value = v } in
    ap (λ (t : List ℕ). (codes "best " ++ text_of v) ++ (10 ∷ t)) (point.2 ∙ ap (λ (l : List ℕ). l ++ (10 ∷ f)) p.0)
    ∙ best_glue (text_of v) (numbers_text a.0.0) f ∙ ap (λ (y : Option Best × Rest). best_text y.0 ++ feeds y.1.pieces) (made_is {A = Option Best × Rest} (Some best, a.0.1) x a.2)

best_found : Texts → (columns : ℕ) (start : Rest) (x : Option Best × Rest) → best_at columns start ≡ Ok x → feeds start.pieces ≡ best_text x.0 ++ feeds x.1.pieces
unfolding best_at
best_found law columns start x h =
    let a = bind_ok (line_by best_in start) (λ value. best_from columns value.0 value.1) x h in
    let line = line_found best_in start a.0.0 a.0.1 a.1 in
    line.2 ∙ ap (λ (l : List ℕ). l ++ (10 ∷ feeds a.0.1.pieces)) (best_line law line.0 a.0.0 line.1) ∙ best_from_found law columns a.0.0 a.0.1 x a.2

-- ---- the tree

abbrev pub WritesPartial : List ℕ → PartialNode → Type 0
WritesPartial line node = (line ++ (10 ∷ []) ≡ partial_node_text node) × IsNode (shape node)

partial_node_line : Texts → (line : List ℕ) (x : PartialNode) → partial_node_in (fields_of line) ≡ Ok x → WritesPartial line x
partial_node_line law line x h =
    let a = bind_ok (next_field (fields_of line)) (λ word. if bytes_eq word.0 (codes "todo") then todo_in word.1 else done_in (fields_of line)) x h in
    let is = line_is line a.0.0 a.0.1 (next_found (fields_of line) a.0 a.1) in
    elim (chosen (bytes_eq a.0.0 (codes "todo")) (todo_in a.0.1) (done_in (fields_of line)) (Ok x) a.2) [
      | inl b ↦
          let end = bind_ok (ended a.0.1) (λ _. Ok Todo) x b.1 in
          let word : a.0.0 ≡ codes "todo" = (bytes_eq-Decides a.0.0 (codes "todo")).0 b.0 in
          let alone : line ≡ codes "todo" = is ∙ ap (λ (w : List ℕ). w ++ blanked a.0.1) word ∙ ap (λ (fs : List (List ℕ)). codes "todo" ++ blanked fs) (ended_found a.0.1 end.0 end.1) in
          subst (WritesPartial line) (made_of_is Todo x end.2) (ap (λ (l : List ℕ). l ++ (10 ∷ [])) alone, record { rows = tt; columns = tt; derived = tt; splits = tt })
      | inr b ↦
          let node = bind_ok (node_in Two (fields_of line)) (λ node. Ok (Done node)) x b.1 in
          subst (WritesPartial line) (made_of_is (Done node.0) x node.2) (node_line law Two line node.0 node.1)
    ]

-- ---- the partial certificate

shown_found : Texts → (start : Rest) (x : (List Derived × List PartialNode) × Rest) → partial_shown_at start ≡ Ok x → feeds start.pieces ≡ (counted_rows_text x.0.0 ++ (codes "tree\n" ++ partial_tree_text x.0.1)) ++ feeds x.1.pieces
unfolding partial_shown_at
shown_found law start x h =
    let a = bind_ok (counted_rows_at start) (λ rows. line_by (word_in (codes "tree")) rows.1 >>= λ mark. partial_nodes_at 1 mark.1 >>= λ nodes. Ok ((rows.0, nodes.0), nodes.1)) x h in
    let b = bind_ok (line_by (word_in (codes "tree")) a.0.1) (λ mark. partial_nodes_at 1 mark.1 >>= λ nodes. Ok ((a.0.0, nodes.0), nodes.1)) x a.2 in
    let c = bind_ok (partial_nodes_at 1 b.0.1) (λ nodes. Ok ((a.0.0, nodes.0), nodes.1)) x b.2 in
    let rows = counted_found law start a.0 a.1 in
    let mark = line_found (word_in (codes "tree")) a.0.1 b.0.0 b.0.1 b.1 in
    let word = word_text (codes "tree") mark.0 b.0.0 mark.1 in
    let nodes = nodes_found partial_node_in opened partial_node_text partial_tree_text (λ node. IsNode (shape node)) refl (λ node nodes. refl) (partial_node_line law) 1 b.0.1.line b.0.1.pieces c.0 c.1 in
    let f : List ℕ = feeds c.0.1.pieces in
    rows.text ∙ ap (λ (t : List ℕ). counted_rows_text a.0.0 ++ t) (mark.2 ∙ ap (λ (l : List ℕ). l ++ (10 ∷ feeds b.0.1.pieces)) word ∙ ap (λ (t : List ℕ). codes "tree" ++ (10 ∷ t)) nodes.text)
    ∙ shown_glue (counted_rows_text a.0.0) (partial_tree_text c.0.0) f
    ∙ ap (λ (y : (List Derived × List PartialNode) × Rest). (counted_rows_text y.0.0 ++ (codes "tree\n" ++ partial_tree_text y.0.1)) ++ feeds y.1.pieces) (made_is {A = (List Derived × List PartialNode) × Rest} ((a.0.0, c.0.0), c.0.1) x c.2)

pub record UndecidedFound (rows columns : ℕ) (start : Rest) (c : Partial) (rest : Rest) : Type 0 where
  pub text : feeds start.pieces ≡ partial_shown_text c ++ feeds rest.pieces
  pub has_rows : c.rows ≡ rows
  pub has_columns : c.columns ≡ columns

undecided_found : Texts → (rows columns : ℕ) (start : Rest) (x : Partial × Rest) → undecided_at rows columns start ≡ Ok x → UndecidedFound rows columns start x.0 x.1
unfolding undecided_at
undecided_found law rows columns start x h =
    let a = bind_ok (best_at columns start) (λ best. partial_shown_at best.1 >>= λ shown. Ok (record { rows = rows; columns = columns; best = best.0; derived = shown.0.0; tree = shown.0.1 }, shown.1)) x h in
    let b = bind_ok (partial_shown_at a.0.1) (λ shown. Ok (record { rows = rows; columns = columns; best = a.0.0; derived = shown.0.0; tree = shown.0.1 }, shown.1)) x a.2 in
    let made : Partial = record { rows = rows; columns = columns; best = a.0.0; derived = b.0.0.0; tree = b.0.0.1 } in
    let shown : List ℕ = counted_rows_text b.0.0.0 ++ (codes "tree\n" ++ partial_tree_text b.0.0.1) in
    let text : feeds start.pieces ≡ partial_shown_text made ++ feeds b.0.1.pieces =
    best_found law columns start a.0 a.1 ∙ ap (λ (t : List ℕ). best_text a.0.0 ++ t) (shown_found law a.0.1 b.0 b.1) ∙ sym (append_assoc (best_text a.0.0) shown (feeds b.0.1.pieces)) in
    subst (λ (y : Partial × Rest). UndecidedFound rows columns start y.0 y.1) (made_is {A = Partial × Rest} (made, b.0.1) x b.2) (record { text = text; has_rows = refl; has_columns = refl })

lines_glue : (m n b : List ℕ) → codes "cert 2" ++ (10 ∷ ((codes "size " ++ (m ++ (codes " " ++ n))) ++ (10 ∷ (codes "verdict undecided" ++ (10 ∷ (b ++ (codes "end" ++ (10 ∷ []))))))))
    ≡ (codes "cert " ++ ((50 ∷ []) ++ (codes "\nsize " ++ (m ++ (codes " " ++ (n ++ codes "\n")))))) ++ (codes "verdict undecided\n" ++ (b ++ codes "end\n"))
lines_glue m n b = simp append_assoc

-- the lines of a text before its body
pub partial_lines : (rows columns : ℕ) (body : List ℕ) → codes "cert 2" ++ (10 ∷ ((codes "size " ++ (decimal rows ++ (codes " " ++ decimal columns))) ++ (10 ∷ (codes "verdict undecided" ++ (10 ∷ (body ++ (codes "end" ++ (10 ∷ []))))))))
    ≡ head_text Two rows columns ++ (codes "verdict undecided\n" ++ (body ++ codes "end\n"))
partial_lines rows columns body =
    lines_glue (decimal rows) (decimal columns) body
    ∙ ap (λ (d : List ℕ). (codes "cert " ++ (d ++ (codes "\nsize " ++ (decimal rows ++ (codes " " ++ (decimal columns ++ codes "\n")))))) ++ (codes "verdict undecided\n" ++ (body ++ codes "end\n"))) (sym (decimal_digit 2 (omega arith)))

found_from : Texts → (start : Rest) (c : Partial) → partial_at start ≡ Ok c → feeds start.pieces ≡ partial_text c
unfolding partial_at
found_from law start d h =
    let a = bind_ok (line_by (words_in (codes "cert") (codes "2")) start) (λ version. line_by size_in version.1 >>= λ size. line_by (words_in (codes "verdict") (codes "undecided")) size.1 >>= λ verdict. undecided_at size.0.0 size.0.1 verdict.1 >>= λ body. line_by (word_in (codes "end")) body.1 >>= λ end. over body.0 end.1) d h in
    let b = bind_ok (line_by size_in a.0.1) (λ size. line_by (words_in (codes "verdict") (codes "undecided")) size.1 >>= λ verdict. undecided_at size.0.0 size.0.1 verdict.1 >>= λ body. line_by (word_in (codes "end")) body.1 >>= λ end. over body.0 end.1) d a.2 in
    let e = bind_ok (line_by (words_in (codes "verdict") (codes "undecided")) b.0.1) (λ verdict. undecided_at b.0.0.0 b.0.0.1 verdict.1 >>= λ body. line_by (word_in (codes "end")) body.1 >>= λ end. over body.0 end.1) d b.2 in
    let g = bind_ok (undecided_at b.0.0.0 b.0.0.1 e.0.1) (λ body. line_by (word_in (codes "end")) body.1 >>= λ end. over body.0 end.1) d e.2 in
    let k = bind_ok (line_by (word_in (codes "end")) g.0.1) (λ end. over g.0.0 end.1) d g.2 in
    let o = over_found g.0.0 d k.0.1 k.2 in
    let version = line_found (words_in (codes "cert") (codes "2")) start a.0.0 a.0.1 a.1 in
    let size = line_found size_in a.0.1 b.0.0 b.0.1 b.1 in
    let verdict = line_found (words_in (codes "verdict") (codes "undecided")) b.0.1 e.0.0 e.0.1 e.1 in
    let end = line_found (word_in (codes "end")) g.0.1 k.0.0 k.0.1 k.1 in
    let s = size_text law size.0 b.0.0 size.1 in
    let body = undecided_found law b.0.0.0 b.0.0.1 e.0.1 g.0 g.1 in
    let c : Partial = g.0.0 in
    let m : List ℕ = decimal b.0.0.0 in
    let n : List ℕ = decimal b.0.0.1 in
    let last : feeds g.0.1.pieces ≡ codes "end" ++ (10 ∷ []) = end.2 ∙ ap (λ (l : List ℕ). l ++ (10 ∷ feeds k.0.1.pieces)) (word_text (codes "end") end.0 k.0.0 end.1) ∙ ap (λ (t : List ℕ). codes "end" ++ (10 ∷ t)) (over_feeds k.0.1.pieces o.0) in
    let fourth : feeds e.0.1.pieces ≡ partial_shown_text c ++ (codes "end" ++ (10 ∷ [])) = body.text ∙ ap (λ (t : List ℕ). partial_shown_text c ++ t) last in
    let third : feeds b.0.1.pieces ≡ codes "verdict undecided" ++ (10 ∷ (partial_shown_text c ++ (codes "end" ++ (10 ∷ [])))) = verdict.2 ∙ ap (λ (l : List ℕ). l ++ (10 ∷ feeds e.0.1.pieces)) (words_text (codes "verdict") (codes "undecided") verdict.0 e.0.0 verdict.1) ∙ ap (λ (t : List ℕ). codes "verdict undecided" ++ (10 ∷ t)) fourth in
    let second : feeds a.0.1.pieces ≡ (codes "size " ++ (m ++ (codes " " ++ n))) ++ (10 ∷ (codes "verdict undecided" ++ (10 ∷ (partial_shown_text c ++ (codes "end" ++ (10 ∷ [])))))) = size.2 ∙ ap (λ (l : List ℕ). l ++ (10 ∷ feeds b.0.1.pieces)) s.0 ∙ ap (λ (t : List ℕ). (codes "size " ++ (m ++ (codes " " ++ n))) ++ (10 ∷ t)) third in
    let first : feeds start.pieces ≡ codes "cert 2" ++ (10 ∷ ((codes "size " ++ (m ++ (codes " " ++ n))) ++ (10 ∷ (codes "verdict undecided" ++ (10 ∷ (partial_shown_text c ++ (codes "end" ++ (10 ∷ [])))))))) = version.2 ∙ ap (λ (l : List ℕ). l ++ (10 ∷ feeds a.0.1.pieces)) (words_text (codes "cert") (codes "2") version.0 a.0.0 version.1) ∙ ap (λ (t : List ℕ). codes "cert 2" ++ (10 ∷ t)) second in
    first ∙ partial_lines b.0.0.0 b.0.0.1 (partial_shown_text c)
    ∙ ap (λ (r : ℕ). head_text Two r b.0.0.1 ++ (codes "verdict undecided\n" ++ (partial_shown_text c ++ codes "end\n"))) (sym body.has_rows)
    ∙ ap (λ (r : ℕ). head_text Two c.rows r ++ (codes "verdict undecided\n" ++ (partial_shown_text c ++ codes "end\n"))) (sym body.has_columns)
    ∙ ap partial_text o.1

pub partial_found : Texts → (bytes : List ℕ) (c : Partial) → read_partial_of bytes ≡ Ok c → bytes ≡ partial_text c
partial_found law bytes c h = sym (join_with_byte-slice_split 10 bytes) ∙ found_from law (record { line = 1; pieces = slice_split is_feed bytes }) c h
