-- The text of a certificate is read as the certificate again.
use Rattle.std.proofs.Common.{◌≡◌, ◌∙◌, ℕ, ℤ, zero, suc, ◌+◌, ◌≤◌, ◌<◌, List, [], ◌∷◌, ◌++◌, length, map, true, false, nat_le, nat_lt, ◌&&◌, not, Option, Some, None, Result, Ok, Err, refl, sym, ap, subst, arith, append_assoc}
use Rattle.std.specs.Prelude.{codes}
use Rattle.std.specs.Fmt.{decimal}
use Rattle.std.specs.Str.{bytes_eq}
use Rattle.std.specs.List.{AllByRecursion, list_all, slice_split}
use Rattle.std.proofs.lemmas.Bool.{ne_eqb, ltb-true}
use Rattle.std.proofs.lemmas.Fmt.{decimal_digit}
use Rattle.std.proofs.lemmas.List.{append-nil, map-id}
use Rattle.rational.specs.Rational.{Rational, whole}
use Rattle.fraction.specs.Text.{text_of}
use Rattle.fraction.specs.Fits.{fits, num_fits}
use Rattle.milp.specs.Form.{Entry}
use Rattle.instance.specs.WellFormed.{are_entries}
use Rattle.verdicts.specs.Certificate.{Version, One, Two, Verdict, Optimal, Infeasible, Unbounded, Weights, Split, Proof, Plain, BySplit, Derived, TreeNode, Branch, Empty, Bound, Certificate}
use Rattle.certificate_lines.specs.declared.fault.FaultKind.{FaultKind}
use Rattle.certificate_lines.specs.declared.fault.CertFault.{CertFault}
use Rattle.certificate.specs.Written.{count_max, column_form, split_column, open_after, fills, AreWeights, IsForm, IsSplit, AreOf, IsProof, IsDerived, IsNode, IsPoint, HasTree, HasParts, HasText}
use Rattle.certificate.specs.Text.{weights_text, form_text, numbers_text, proof_text, derived_text, derived_rows_text, counted_rows_text, node_text, tree_text, head_text, shown_text, certificate_text}
use Rattle.certificate_lines.specs.Fields.{◌>>=◌, fields_of}
use Rattle.certificate_lines.specs.Lines.{Rest, is_feed, line_by}
use Rattle.certificate_reader.specs.Reading.{version_in, size_in, verdict_in, value_in, point_in, count_in, word_in, derive_in, side_in, PlainLine, SplitLine, proof_in, proof_from, derived_at, derived_rows_at, counted_rows_at, word_of_split, node_in, nodes_by, shown_at, optimal_at, infeasible_at, unbounded_at, body_at, certificate_at, read_of}
use Rattle.certificate_lines.proofs.Pieces.{line_some, pieces_some}
use Rattle.certificate_reader.proofs.FieldsFound.{Texts, blanked}
use Rattle.certificate_reader.proofs.LinesFound.{name_of, digit_of}
use Rattle.certificate_reader.proofs.LinesTaken.{IsOf, first_of_all}
use Rattle.certificate_reader.proofs.CertificateFound.{plain_glue, split_glue, derived_glue, counted_glue, shown_glue, optimal_glue, unbounded_glue, whole_glue, parts_text, body-parts}
use Rattle.certificate_reader.proofs.FieldsAgain.{is_solid, is_inked, both, first_of, second_of, split_word, are_solid, fields_again, line_inked, decimal_solid, text_solid, whole_solid, number_again, count_again, index_again, whole_again, numbers_fields, numbers_blanked, numbers_solid, numbers_again, form_fields, form_blanked, form_solid, form_again, weights_fields, weights_again, weights_solid, weights_blanked, HasSplits, leaf_fields, leaf_weights_again, leaf_solid, leaf_blanked}

-- what is left where a text stands, from a line on
abbrev pub left : ℕ → List ℕ → Rest
left n text = record { line = n; pieces = slice_split is_feed text }

no_feed : (line : List ℕ) → is_inked line ≡ true → list_all (λ c. not (is_feed c)) line ≡ true
no_feed [] h = refl
no_feed (c ∷ cs) h =
    let above : 31 < c = ltb-true _ _ (first_of _ _ h) in
    let other : is_feed c ≡ false = ne_eqb c 10 (λ e. absurd (omega arith)) in
    both _ _ (ap not other) (no_feed cs (second_of _ _ h))

pub line_pieces : (line rest : List ℕ) → is_inked line ≡ true → slice_split is_feed (line ++ (10 ∷ rest)) ≡ line ∷ slice_split is_feed rest
line_pieces line rest h = split_word is_feed line rest 10 refl (no_feed line h)

-- a line is read as f reads its fields
pub line_again : {A : Type 0} (f : List (List ℕ) → Result A FaultKind) (line : List ℕ) (x : A) → f (fields_of line) ≡ Ok x → is_inked line ≡ true → (n : ℕ) (rest : List ℕ) → line_by f (left n (line ++ (10 ∷ rest))) ≡ Ok (x, left (n + 1) rest)
line_again f line x read inked n rest =
    rw (line_pieces line rest inked) (rw (line_some n line (slice_split is_feed rest) (pieces_some rest)) (rw read refl))

-- the same, where the fields are a word and solid fields
pub fields_line : {A : Type 0} (f : List (List ℕ) → Result A FaultKind) (word : List ℕ) (fs : List (List ℕ)) (x : A) → f (word ∷ fs) ≡ Ok x → is_solid word ≡ true → are_solid fs ≡ true → (text : List ℕ) → word ++ blanked fs ≡ text → (n : ℕ) (rest : List ℕ) → line_by f (left n (text ++ (10 ∷ rest))) ≡ Ok (x, left (n + 1) rest)
fields_line f word fs x read solid all text is n rest =
    let line = line_again f (word ++ blanked fs) x (ap f (fields_again word fs solid all) ∙ read) (line_inked word fs solid all) n rest in
    ap (λ (t : List ℕ). line_by f (left n (t ++ (10 ∷ rest)))) (sym is) ∙ line

bind_assoc : {A B C E : Type 0} (r : Result A E) (f : A → Result B E) (g : B → Result C E) → (r >>= λ x. f x >>= g) ≡ ((r >>= f) >>= g)
bind_assoc (Ok x) f g = refl
bind_assoc (Err e) f g = refl

-- ---- lines of a word and numbers

version_again : (v : Version) (n : ℕ) (rest : List ℕ) → line_by version_in (left n ((codes "cert " ++ digit_of v) ++ (10 ∷ rest))) ≡ Ok (v, left (n + 1) rest)
version_again One n rest = ap (λ (d : List ℕ). line_by version_in (left n ((codes "cert " ++ d) ++ (10 ∷ rest)))) (decimal_digit 1 (omega arith)) ∙ line_again version_in (codes "cert 1") One refl refl n rest
version_again Two n rest = ap (λ (d : List ℕ). line_by version_in (left n ((codes "cert " ++ d) ++ (10 ∷ rest)))) (decimal_digit 2 (omega arith)) ∙ line_again version_in (codes "cert 2") Two refl refl n rest

pub word_again : (word : List ℕ) → word_in word (fields_of word) ≡ Ok tt → is_inked word ≡ true → (n : ℕ) (rest : List ℕ) → line_by (word_in word) (left n (word ++ (10 ∷ rest))) ≡ Ok (tt, left (n + 1) rest)
word_again word read inked n rest = line_again (word_in word) word tt read inked n rest

pub size_again : Texts → (a b : ℕ) → a ≤ count_max → b ≤ count_max → (n : ℕ) (rest : List ℕ) → line_by size_in (left n ((codes "size " ++ (decimal a ++ (codes " " ++ decimal b))) ++ (10 ∷ rest))) ≡ Ok ((a, b), left (n + 1) rest)
size_again law a b h k n rest =
    fields_line size_in (codes "size") (decimal a ∷ decimal b ∷ []) (a, b) (rw (count_again law a h, count_again law b k) refl) refl (both _ _ (decimal_solid a h) (both _ _ (decimal_solid b k) refl))
    (codes "size " ++ (decimal a ++ (codes " " ++ decimal b))) (ap (λ (r : List ℕ). codes "size " ++ (decimal a ++ (codes " " ++ r))) (append-nil (decimal b))) n rest

verdict_again : (v : Verdict) (n : ℕ) (rest : List ℕ) → line_by verdict_in (left n ((codes "verdict " ++ name_of v) ++ (10 ∷ rest))) ≡ Ok (v, left (n + 1) rest)
verdict_again Optimal n rest = line_again verdict_in (codes "verdict optimal") Optimal refl refl n rest
verdict_again Infeasible n rest = line_again verdict_in (codes "verdict infeasible") Infeasible refl refl n rest
verdict_again Unbounded n rest = line_again verdict_in (codes "verdict unbounded") Unbounded refl refl n rest

value_again : Texts → (v : Rational) → fits v ≡ true → (n : ℕ) (rest : List ℕ) → line_by value_in (left n ((codes "value " ++ text_of v) ++ (10 ∷ rest))) ≡ Ok (v, left (n + 1) rest)
value_again law v h n rest =
    fields_line value_in (codes "value") (text_of v ∷ []) v (rw (number_again law v h) refl) refl (both _ _ (text_solid v h) refl)
    (codes "value " ++ text_of v) (ap (λ (r : List ℕ). codes "value " ++ r) (append-nil (text_of v))) n rest

count_line_again : Texts → (k : ℕ) → k ≤ count_max → (n : ℕ) (rest : List ℕ) → line_by count_in (left n ((codes "derived " ++ decimal k) ++ (10 ∷ rest))) ≡ Ok (k, left (n + 1) rest)
count_line_again law k h n rest =
    fields_line count_in (codes "derived") (decimal k ∷ []) k (rw (count_again law k h) refl) refl (both _ _ (decimal_solid k h) refl)
    (codes "derived " ++ decimal k) (ap (λ (r : List ℕ). codes "derived " ++ r) (append-nil (decimal k))) n rest

pub point_again : Texts → (count : ℕ) (x : List Rational) → IsPoint count x → (n : ℕ) (rest : List ℕ) → line_by (point_in (codes "point") count) (left n ((codes "point" ++ numbers_text x) ++ (10 ∷ rest))) ≡ Ok (x, left (n + 1) rest)
point_again law count x h n rest =
    fields_line (point_in (codes "point") count) (codes "point") (numbers_fields x) x (subst (λ (k : ℕ). point_in (codes "point") k (codes "point" ∷ numbers_fields x) ≡ Ok x) h.size (numbers_again law x h.numbers)) refl (numbers_solid x h.numbers)
    (codes "point" ++ numbers_text x) (ap (λ (r : List ℕ). codes "point" ++ r) (numbers_blanked x)) n rest

ray_again : Texts → (count : ℕ) (x : List Rational) → IsPoint count x → (n : ℕ) (rest : List ℕ) → line_by (point_in (codes "ray") count) (left n ((codes "ray" ++ numbers_text x) ++ (10 ∷ rest))) ≡ Ok (x, left (n + 1) rest)
ray_again law count x h n rest =
    fields_line (point_in (codes "ray") count) (codes "ray") (numbers_fields x) x (subst (λ (k : ℕ). point_in (codes "ray") k (codes "ray" ∷ numbers_fields x) ≡ Ok x) h.size (numbers_again law x h.numbers)) refl (numbers_solid x h.numbers)
    (codes "ray" ++ numbers_text x) (ap (λ (r : List ℕ). codes "ray" ++ r) (numbers_blanked x)) n rest

-- ---- derived rows

derive_again : Texts → (d : Derived) → IsDerived d → (n : ℕ) (rest : List ℕ) → line_by derive_in (left n ((codes "derive " ++ (text_of d.bound ++ form_text d.form)) ++ (10 ∷ rest))) ≡ Ok ((d.bound, d.form), left (n + 1) rest)
derive_again law d h n rest =
    fields_line derive_in (codes "derive") (text_of d.bound ∷ form_fields d.form) (d.bound, d.form) (rw (number_again law d.bound h.bound, form_again law d.form h.form) refl) refl (both _ _ (text_solid d.bound h.bound) (form_solid d.form h.form))
    (codes "derive " ++ (text_of d.bound ++ form_text d.form)) (ap (λ (r : List ℕ). codes "derive " ++ (text_of d.bound ++ r)) (form_blanked d.form)) n rest

low_again : Texts → (w : Rational) (ws : Weights) → fits w ≡ true → AreWeights ws → (n : ℕ) (rest : List ℕ) → line_by (side_in (codes "low")) (left n ((codes "low" ++ (32 ∷ (text_of w ++ weights_text ws))) ++ (10 ∷ rest))) ≡ Ok ((w, ws), left (n + 1) rest)
low_again law w ws h k n rest =
    fields_line (side_in (codes "low")) (codes "low") (text_of w ∷ weights_fields ws) (w, ws) (rw (number_again law w h, weights_again law ws k) refl) refl (both _ _ (text_solid w h) (weights_solid ws k))
    (codes "low" ++ (32 ∷ (text_of w ++ weights_text ws))) (ap (λ (r : List ℕ). codes "low" ++ (32 ∷ (text_of w ++ r))) (weights_blanked ws)) n rest

high_again : Texts → (w : Rational) (ws : Weights) → fits w ≡ true → AreWeights ws → (n : ℕ) (rest : List ℕ) → line_by (side_in (codes "high")) (left n ((codes "high" ++ (32 ∷ (text_of w ++ weights_text ws))) ++ (10 ∷ rest))) ≡ Ok ((w, ws), left (n + 1) rest)
high_again law w ws h k n rest =
    fields_line (side_in (codes "high")) (codes "high") (text_of w ∷ weights_fields ws) (w, ws) (rw (number_again law w h, weights_again law ws k) refl) refl (both _ _ (text_solid w h) (weights_solid ws k))
    (codes "high" ++ (32 ∷ (text_of w ++ weights_text ws))) (ap (λ (r : List ℕ). codes "high" ++ (32 ∷ (text_of w ++ r))) (weights_blanked ws)) n rest

plain_again : Texts → (w : Weights) → AreWeights w → (n : ℕ) (rest : List ℕ) → line_by proof_in (left n ((codes "plain" ++ weights_text w) ++ (10 ∷ rest))) ≡ Ok (PlainLine w, left (n + 1) rest)
plain_again law w h n rest =
    fields_line proof_in (codes "plain") (weights_fields w) (PlainLine w) (rw (weights_again law w h) refl) refl (weights_solid w h)
    (codes "plain" ++ weights_text w) (ap (λ (r : List ℕ). codes "plain" ++ r) (weights_blanked w)) n rest

split_again : Texts → (at : ℤ) (form : List Entry) → num_fits at ≡ true → IsForm form → (n : ℕ) (rest : List ℕ) → line_by proof_in (left n ((codes "split " ++ (text_of (whole at) ++ form_text form)) ++ (10 ∷ rest))) ≡ Ok (SplitLine at form, left (n + 1) rest)
split_again law at form h k n rest =
    fields_line proof_in (codes "split") (text_of (whole at) ∷ form_fields form) (SplitLine at form) (rw (whole_again law at h, form_again law form k) refl) refl (both _ _ (whole_solid at h) (form_solid form k))
    (codes "split " ++ (text_of (whole at) ++ form_text form)) (ap (λ (r : List ℕ). codes "split " ++ (text_of (whole at) ++ r)) (form_blanked form)) n rest

abbrev proof_lines : Rest → Result (Proof × Rest) CertFault
proof_lines start = line_by proof_in start >>= λ line. proof_from line.0 line.1

proof_again : Texts → (p : Proof) → IsProof p → (n : ℕ) (rest : List ℕ) → (m : ℕ) × (proof_lines (left n (proof_text p ++ rest)) ≡ Ok (p, left m rest))
proof_again law (Plain w) h n rest =
    (n + 1, ap (λ (t : List ℕ). proof_lines (left n t)) (sym (plain_glue (weights_text w) rest)) ∙ rw (plain_again law w h n rest) refl)
proof_again law (BySplit s) h n rest =
    let glue = sym (split_glue (text_of (whole s.at)) (form_text s.form) (text_of s.low) (weights_text s.low_weights) (text_of s.high) (weights_text s.high_weights) rest) in
    let third : List ℕ = (codes "high" ++ (32 ∷ (text_of s.high ++ weights_text s.high_weights))) ++ (10 ∷ rest) in
    let second : List ℕ = (codes "low" ++ (32 ∷ (text_of s.low ++ weights_text s.low_weights))) ++ (10 ∷ third) in (
      n + 1 + 1 + 1,
      ap (λ (t : List ℕ). proof_lines (left n t)) glue
          ∙ rw (split_again law s.at s.form h.at h.form n second) (rw (low_again law s.low s.low_weights h.low h.low_weights (n + 1) third) (rw (high_again law s.high s.high_weights h.high h.high_weights (n + 1 + 1) rest) refl)),
    )

abbrev with_proof : Rational → List Entry → Proof × Rest → Result (Derived × Rest) CertFault
with_proof bound form proof = Ok (record { bound = bound; form = form; proof = proof.0 }, proof.1)

derived_again : Texts → (d : Derived) → IsDerived d → (n : ℕ) (rest : List ℕ) → (m : ℕ) × (derived_at (left n (derived_text d ++ rest)) ≡ Ok (d, left m rest))
unfolding derived_at
derived_again law d h n rest =
    let glue = sym (derived_glue (text_of d.bound) (form_text d.form) (proof_text d.proof) rest) in
    let proof = proof_again law d.proof h.proof (n + 1) rest in
    let second : List ℕ = proof_text d.proof ++ rest in
    let joined = bind_assoc (line_by proof_in (left (n + 1) second)) (λ line. proof_from line.0 line.1) (with_proof d.bound d.form) in
    (proof.0, ap (λ (t : List ℕ). derived_at (left n t)) glue ∙ rw (derive_again law d h n second) (joined ∙ rw proof.1 refl))

rows_again : Texts → (ds : List Derived) → AllByRecursion IsDerived ds → (n : ℕ) (rest : List ℕ) → (m : ℕ) × (derived_rows_at (length ds) (left n (derived_rows_text ds ++ rest)) ≡ Ok (ds, left m rest))
unfolding derived_rows_at
rows_again law [] h n rest = (n, refl)
rows_again law (d ∷ ds) h n rest =
    let first = derived_again law d h.0 n (derived_rows_text ds ++ rest) in
    let others = rows_again law ds h.1 first.0 rest in
    (others.0, ap (λ (t : List ℕ). derived_rows_at (length (d ∷ ds)) (left n t)) (append_assoc (derived_text d) (derived_rows_text ds) rest) ∙ rw first.1 (rw others.1 refl))

pub counted_again : Texts → (ds : List Derived) → length ds ≤ count_max → AllByRecursion IsDerived ds → (n : ℕ) (rest : List ℕ) → (m : ℕ) × (counted_rows_at (left n (counted_rows_text ds ++ rest)) ≡ Ok (ds, left m rest))
unfolding counted_rows_at
counted_again law ds few h n rest =
    let glue = sym (counted_glue (decimal (length ds)) (derived_rows_text ds) rest) in
    let rows = rows_again law ds h (n + 1) rest in
    (rows.0, ap (λ (t : List ℕ). counted_rows_at (left n t)) glue ∙ rw (count_line_again law (length ds) few n (derived_rows_text ds ++ rest)) rows.1)

-- ---- the tree

-- the form of one column is in order only where the column's index is small
column_small : (form : List Entry) (j : ℕ) → form ≡ column_form j → IsForm form → j < count_max
column_small form j is h =
    let ordered : are_entries count_max (column_form j) ≡ true = subst (λ (es : List Entry). are_entries count_max es ≡ true) is h.entries in
    ltb-true _ _ (first_of (nat_lt j count_max) true (second_of (nat_le 0 j) (nat_lt j count_max && true) ordered))

-- no version has these words before a split
empty_apart : (v : Version) → bytes_eq (codes "empty") (word_of_split v) ≡ false
empty_apart One = refl
empty_apart Two = refl

bound_apart : (v : Version) → bytes_eq (codes "bound") (word_of_split v) ≡ false
bound_apart One = refl
bound_apart Two = refl

empty_splits : (v : Version) (w : Weights) → IsOf v (Empty w) → HasSplits v w.splits
empty_splits One w h = h
empty_splits Two w h = tt

bound_splits : (v : Version) (w : Weights) → IsOf v (Bound w) → HasSplits v w.splits
bound_splits One w h = h
bound_splits Two w h = tt

-- a text is one line, which f reads as x
pub record LineAgain {A : Type 0} (f : List (List ℕ) → Result A FaultKind) (text : List ℕ) (x : A) : Type 0 where
  pub line : List ℕ
  pub text_is : text ≡ line ++ (10 ∷ [])
  pub inked : is_inked line ≡ true
  pub read : f (fields_of line) ≡ Ok x

abbrev NodeAgain : Version → TreeNode → Type 0
NodeAgain v node = LineAgain (node_in v) (node_text v node) node

node_of_fields : (v : Version) (word : List ℕ) (fs : List (List ℕ)) (node : TreeNode) → is_solid word ≡ true → are_solid fs ≡ true → node_in v (word ∷ fs) ≡ Ok node → node_text v node ≡ (word ++ blanked fs) ++ (10 ∷ []) → NodeAgain v node
node_of_fields v word fs node solid all read text = record { line = word ++ blanked fs; text_is = text; inked = line_inked word fs solid all; read = ap (node_in v) (fields_again word fs solid all) ∙ read }

branch_again : Texts → (v : Version) (s : Split) → IsSplit s → IsOf v (Branch s) → NodeAgain v (Branch s)
branch_again law One s h k =
    let j : ℕ = split_column s in
    let a : List ℕ = decimal (j + 1) in
    let b : List ℕ = text_of (whole s.at) in
    let small : j < count_max = column_small s.form j k h.form in
    node_of_fields One (codes "branch") (a ∷ b ∷ []) (Branch s) refl (both _ _ (decimal_solid (j + 1) (omega (arith, small))) (both _ _ (whole_solid s.at h.at) refl)) (rw (index_again law j small, whole_again law s.at h.at) (ap (λ (form : List Entry). Ok (Branch (record { form = form; at = s.at }))) (sym k)))
    (sym (ap (λ (r : List ℕ). (codes "branch " ++ (a ++ (32 ∷ r))) ++ (10 ∷ [])) (append-nil b) ∙ ap (λ (r : List ℕ). codes "branch " ++ r) (append_assoc a (32 ∷ b) (10 ∷ []))))
branch_again law Two s h k =
    let a : List ℕ = text_of (whole s.at) in
    node_of_fields Two (codes "split") (a ∷ form_fields s.form) (Branch s) refl (both _ _ (whole_solid s.at h.at) (form_solid s.form h.form)) (rw (whole_again law s.at h.at, form_again law s.form h.form) refl)
    (sym (ap (λ (r : List ℕ). (codes "split " ++ (a ++ r)) ++ (10 ∷ [])) (form_blanked s.form) ∙ ap (λ (r : List ℕ). codes "split " ++ r) (append_assoc a (form_text s.form) (10 ∷ []))))

pub node_again : Texts → (v : Version) (node : TreeNode) → IsNode node → IsOf v node → LineAgain (node_in v) (node_text v node) node
node_again law v (Branch s) h k = branch_again law v s h k
node_again law v (Empty w) h k =
    node_of_fields v (codes "empty") (leaf_fields w) (Empty w) refl (leaf_solid w h) (rw (empty_apart v, leaf_weights_again law v w h (empty_splits v w k)) refl) (ap (λ (r : List ℕ). (codes "empty" ++ r) ++ (10 ∷ [])) (sym (leaf_blanked w)))
node_again law v (Bound w) h k =
    node_of_fields v (codes "bound") (leaf_fields w) (Bound w) refl (leaf_solid w h) (rw (bound_apart v, leaf_weights_again law v w h (bound_splits v w k)) refl) (ap (λ (r : List ℕ). (codes "bound" ++ r) ++ (10 ∷ [])) (sym (leaf_blanked w)))

lines_again : Texts → (v : Version) (ns : List TreeNode) → AllByRecursion IsNode ns → AreOf v ns → AllByRecursion (NodeAgain v) ns
lines_again law v [] h k = tt
lines_again law v (node ∷ nodes) h k =
    let lines = first_of_all v node nodes k in
    (node_again law v node h.0 lines.0, lines_again law v nodes h.1 lines.1)

-- where `shape` is the node of a certificate in the place of what f reads
pub nodes_again : {A : Type 0} (f : List (List ℕ) → Result A FaultKind) (shape : A → TreeNode) (write : A → List ℕ) (tree : List A → List ℕ) → tree [] ≡ [] → ((node : A) (nodes : List A) → tree (node ∷ nodes) ≡ write node ++ tree nodes)
    → (places : ℕ) (ns : List A) → fills places (map shape ns) ≡ true → AllByRecursion (λ node. LineAgain f (write node) node) ns → (n : ℕ) (rest : List ℕ)
    → (m : ℕ) × (nodes_by f (λ node more. open_after (shape node) more) places n (slice_split is_feed (tree ns ++ rest)) ≡ Ok (ns, left m rest))
unfolding nodes_by
nodes_again {A = A} f shape write tree none more zero [] whole h n rest = (n, ap (λ (t : List ℕ). Ok ([], left n (t ++ rest))) none)
nodes_again {A = A} f shape write tree none more zero (node ∷ nodes) whole h n rest = absurd cc
nodes_again {A = A} f shape write tree none more (suc places) [] whole h n rest = absurd cc
nodes_again {A = A} f shape write tree none more (suc places) (node ∷ nodes) whole h n rest =
    let first = h.0 in
    let others = nodes_again f shape write tree none more (open_after (shape node) places) nodes whole h.1 (n + 1) rest in
    let after : List ℕ = tree nodes ++ rest in
    let text : tree (node ∷ nodes) ++ rest ≡ first.line ++ (10 ∷ after) = ap (λ (t : List ℕ). t ++ rest) (more node nodes) ∙ append_assoc (write node) (tree nodes) rest ∙ ap (λ (t : List ℕ). t ++ after) first.text_is ∙ append_assoc first.line (10 ∷ []) after in
    let pieces : slice_split is_feed (tree (node ∷ nodes) ++ rest) ≡ first.line ∷ slice_split is_feed after = ap (slice_split is_feed) text ∙ line_pieces first.line after first.inked in
    (others.0, rw pieces (rw (line_some n first.line (slice_split is_feed after) (pieces_some after)) (rw first.read (rw others.1 refl))))

-- ---- what a verdict has

shown_again : Texts → (v : Version) (derived : List Derived) (tree : List TreeNode) → HasTree v derived tree → (n : ℕ) (rest : List ℕ) → (m : ℕ) × (shown_at v (left n (shown_text v derived tree ++ rest)) ≡ Ok (record { derived = derived; tree = tree }, left m rest))
unfolding shown_at
shown_again law v derived tree h n rest =
    let glue = sym (shown_glue (counted_rows_text derived) (tree_text v tree) rest) in
    let third : List ℕ = tree_text v tree ++ rest in
    let second : List ℕ = codes "tree" ++ (10 ∷ third) in
    let rows = counted_again law derived h.count h.rows n second in
    let mark = word_again (codes "tree") refl refl rows.0 third in
    let whole : fills 1 (map (λ node. node) tree) ≡ true = ap (fills 1) (map-id tree) ∙ h.whole in
    let nodes = nodes_again (node_in v) (λ node. node) (node_text v) (tree_text v) refl (λ node nodes. refl) 1 tree whole (lines_again law v tree h.nodes h.lines) (rows.0 + 1) rest in
    (nodes.0, ap (λ (t : List ℕ). shown_at v (left n t)) glue ∙ rw rows.1 (rw mark (rw nodes.1 refl)))

abbrev with_parts : Version → ℕ → ℕ → Verdict → Option Rational → Option (List Rational) → Option (List Rational) → List Derived → List TreeNode → Certificate
with_parts v rows columns verdict value point ray derived tree = record { version = v; rows = rows; columns = columns; verdict = verdict; value = value; point = point; ray = ray; derived = derived; tree = tree }

body_again : Texts → (v : Version) (rows columns : ℕ) (verdict : Verdict) (value : Option Rational) (point ray : Option (List Rational)) (derived : List Derived) (tree : List TreeNode) → HasParts (with_parts v rows columns verdict value point ray derived tree) verdict → (n : ℕ) (rest : List ℕ)
    → (m : ℕ) × (body_at v rows columns verdict (left n (parts_text (with_parts v rows columns verdict value point ray derived tree) verdict ++ rest)) ≡ Ok (with_parts v rows columns verdict value point ray derived tree, left m rest))
unfolding optimal_at infeasible_at unbounded_at
body_again law v rows columns Optimal None point ray derived tree h n rest = absurd h.0
body_again law v rows columns Optimal (Some value) None ray derived tree h n rest = absurd h.1
body_again law v rows columns Optimal (Some value) (Some x) (Some r) derived tree h n rest = absurd (let no : Some r ≡ None = h.2 in cc)
body_again law v rows columns Optimal (Some value) (Some x) None derived tree h n rest =
    let glue = sym (optimal_glue (text_of value) (numbers_text x) (shown_text v derived tree) rest) in
    let third : List ℕ = shown_text v derived tree ++ rest in
    let second : List ℕ = (codes "point" ++ numbers_text x) ++ (10 ∷ third) in
    let shown = shown_again law v derived tree h.3 (n + 1 + 1) rest in
    (shown.0, ap (λ (t : List ℕ). optimal_at v rows columns (left n t)) glue ∙ rw (value_again law value h.0 n second) (rw (point_again law columns x h.1 (n + 1) third) (rw shown.1 refl)))
body_again law v rows columns Infeasible (Some value) point ray derived tree h n rest = absurd (let no : Some value ≡ None = h.0 in cc)
body_again law v rows columns Infeasible None (Some x) ray derived tree h n rest = absurd (let no : Some x ≡ None = h.1 in cc)
body_again law v rows columns Infeasible None None (Some r) derived tree h n rest = absurd (let no : Some r ≡ None = h.2 in cc)
body_again law v rows columns Infeasible None None None derived tree h n rest =
    let shown = shown_again law v derived tree h.3 n rest in
    (shown.0, rw shown.1 refl)
body_again law v rows columns Unbounded (Some value) point ray derived tree h n rest = absurd (let no : Some value ≡ None = h.0 in cc)
body_again law v rows columns Unbounded None None ray derived tree h n rest = absurd h.1
body_again law v rows columns Unbounded None (Some x) None derived tree h n rest = absurd h.2
body_again law v rows columns Unbounded None (Some x) (Some r) (d ∷ ds) tree h n rest = absurd (let no : d ∷ ds ≡ [] = h.3 in cc)
body_again law v rows columns Unbounded None (Some x) (Some r) [] (t ∷ ts) h n rest = absurd (let no : t ∷ ts ≡ [] = h.4 in cc)
body_again law v rows columns Unbounded None (Some x) (Some r) [] [] h n rest =
    let glue = sym (unbounded_glue (numbers_text x) (numbers_text r) rest) in
    let second : List ℕ = (codes "ray" ++ numbers_text r) ++ (10 ∷ rest) in
    (n + 1 + 1, ap (λ (t : List ℕ). unbounded_at v rows columns (left n t)) glue ∙ rw (point_again law columns x h.1 n second) (rw (ray_again law columns r h.2 (n + 1) rest) refl))

-- the lines of a text before what its verdict has
pub text_lines : (c : Certificate) → certificate_text c ≡ (codes "cert " ++ digit_of c.version) ++ (10 ∷ ((codes "size " ++ (decimal c.rows ++ (codes " " ++ decimal c.columns))) ++ (10 ∷ ((codes "verdict " ++ name_of c.verdict) ++ (10 ∷ (parts_text c c.verdict ++ (codes "end" ++ (10 ∷ []))))))))
text_lines c = ap (λ (t : List ℕ). head_text c.version c.rows c.columns ++ (t ++ codes "end\n")) (body-parts c c.verdict) ∙ sym (whole_glue (digit_of c.version) (decimal c.rows) (decimal c.columns) (name_of c.verdict) (parts_text c c.verdict))

pub certificate_again : Texts → (c : Certificate) → HasText c → read_of (certificate_text c) ≡ Ok c
unfolding certificate_at
certificate_again law c h =
    let last : List ℕ = codes "end" ++ (10 ∷ []) in
    let fourth : List ℕ = parts_text c c.verdict ++ last in
    let third : List ℕ = (codes "verdict " ++ name_of c.verdict) ++ (10 ∷ fourth) in
    let second : List ℕ = (codes "size " ++ (decimal c.rows ++ (codes " " ++ decimal c.columns))) ++ (10 ∷ third) in
    let body = body_again law c.version c.rows c.columns c.verdict c.value c.point c.ray c.derived c.tree h.parts 4 last in
    ap (λ (t : List ℕ). certificate_at (left 1 t)) (text_lines c)
    ∙ rw (version_again c.version 1 second) (rw (size_again law c.rows c.columns h.rows h.columns 2 third) (rw (verdict_again c.verdict 3 fourth) (rw body.1 refl)))
