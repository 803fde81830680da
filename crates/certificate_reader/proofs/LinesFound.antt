-- What lines are read as is what they write.
use Rattle.std.proofs.Common.{◌≡◌, ◌∙◌, ℕ, ◌+◌, ◌≤◌, ◌<◌, Bool, true, false, nat_le, nat_lt, ◌&&◌, arith, List, [], ◌∷◌, ◌++◌, Ok, Err, IsTrue, refl, sym, ap, subst, if◌then◌else◌, inl, inr, append_assoc}
use Rattle.std.specs.Prelude.{codes}
use Rattle.std.specs.Fmt.{decimal}
use Rattle.std.specs.Str.{bytes_eq}
use Rattle.std.proofs.lemmas.Bool.{le-leb, lt-ltb}
use Rattle.std.proofs.lemmas.List.{append-nil}
use Rattle.std.proofs.lemmas.Fmt.{decimal_digit}
use Rattle.std.proofs.lemmas.Slice.Eq.{bytes_eq-Decides}
use Rattle.rational.specs.Rational.{Rational, whole}
use Rattle.fraction.specs.Text.{text_of}
use Rattle.fraction.specs.Fits.{fits, num_fits}
use Rattle.milp.specs.Form.{Entry}
use Rattle.verdicts.specs.Certificate.{Version, One, Two, Verdict, Optimal, Infeasible, Unbounded, Weights, Split, TreeNode, Branch, Empty, Bound}
use Rattle.certificate_lines.specs.declared.fault.FaultKind.TheVariants.{BadLine}
use Rattle.certificate.specs.Written.{count_max, column_form, column_split, AreWeights, AreLeafWeights, IsForm, IsSplit, IsNode, IsPoint}
use Rattle.certificate.specs.Text.{weights_text, leaf_text, form_text, numbers_text, split_text, node_text, number_of as version_number}
use Rattle.certificate_lines.specs.Fields.{◌>>=◌, count_of, index_of, number_of, whole_of, fields_of, next_field, first_by, after_word, ended, numbers_of, form_of, weights_of, leaf_weights_of}
use Rattle.certificate_reader.specs.Reading.{version_named, version_in, size_in, verdict_named, verdict_in, value_in, point_in, count_in, word_in, derive_in, side_in, ProofLine, PlainLine, SplitLine, plain_in, form_split_in, cases_in, proof_after, proof_in, split_in, word_of_split, branch_in, empty_in, bound_in, node_after, node_in}
use Rattle.certificate_lines.proofs.Taken.{bind_ok}
use Rattle.certificate_reader.proofs.LinesTaken.{made_of_is, chosen, numbers_count}
use Rattle.certificate_reader.proofs.FieldsFound.{Texts, blanked, line_is, after_word_found, next_found, ended_found, first_found, number_found, count_found, index_found, whole_found, numbers_found, form_found, weights_found, leaf_weights_found}

-- ---- fields after a word

-- the word of a version in the first line
abbrev pub digit_of : Version → List ℕ
digit_of v = decimal (version_number v)

no_version : (v : Version) → Err BadLine ≡ Ok v → ⊥
no_version v h = cc

version_word : (word : List ℕ) (v : Version) → version_named word ≡ Ok v → word ≡ digit_of v
version_word word v h =
    elim (chosen (bytes_eq word (codes "1")) (Ok One) (if bytes_eq word (codes "2") then Ok Two else Err BadLine) (Ok v) h) [
      | inl a ↦ (bytes_eq-Decides word (codes "1")).0 a.0 ∙ sym (decimal_digit 1 (omega arith)) ∙ ap digit_of (made_of_is One v a.1)
      | inr a ↦ elim (chosen (bytes_eq word (codes "2")) (Ok Two) (Err BadLine) (Ok v) a.1) [
        | inl b ↦ (bytes_eq-Decides word (codes "2")).0 b.0 ∙ sym (decimal_digit 2 (omega arith)) ∙ ap digit_of (made_of_is Two v b.1)
        | inr b ↦ absurd (no_version v b.1)
      ]
    ]

pub version_text : (line : List ℕ) (v : Version) → version_in (fields_of line) ≡ Ok v → line ≡ codes "cert " ++ digit_of v
version_text line v h =
    let a = bind_ok (after_word (codes "cert") (fields_of line)) (λ rest. first_by version_named rest >>= λ version. ended version.1 >>= λ _. Ok version.0) v h in
    let b = bind_ok (first_by version_named a.0) (λ version. ended version.1 >>= λ _. Ok version.0) v a.2 in
    let c = bind_ok (ended b.0.1) (λ _. Ok b.0.0) v b.2 in
    let word = first_found version_named a.0 b.0 b.1 in
    let fields : a.0 ≡ digit_of v ∷ [] = word.1 ∙ ap (λ (f : List ℕ). f ∷ b.0.1) (version_word word.0 b.0.0 word.2 ∙ ap digit_of (made_of_is b.0.0 v c.2)) ∙ ap (λ (fs : List (List ℕ)). digit_of v ∷ fs) (ended_found b.0.1 c.0 c.1) in
    line_is line (codes "cert") a.0 (after_word_found (codes "cert") (fields_of line) a.0 a.1) ∙ ap (λ (fs : List (List ℕ)). codes "cert" ++ blanked fs) fields ∙ ap (λ (r : List ℕ). codes "cert " ++ r) (append-nil (digit_of v))

pub word_text : (word line : List ℕ) (u : Unit {0}) → word_in word (fields_of line) ≡ Ok u → line ≡ word
word_text word line u h =
    let a = bind_ok (after_word word (fields_of line)) (λ rest. ended rest) u h in
    line_is line word a.0 (after_word_found word (fields_of line) a.0 a.1) ∙ ap (λ (fs : List (List ℕ)). word ++ blanked fs) (ended_found a.0 u a.2) ∙ append-nil word

pub size_text : Texts → (line : List ℕ) (x : ℕ × ℕ) → size_in (fields_of line) ≡ Ok x → (line ≡ codes "size " ++ (decimal x.0 ++ (codes " " ++ decimal x.1))) × (x.0 ≤ count_max) × (x.1 ≤ count_max)
size_text law line x h =
    let a = bind_ok (after_word (codes "size") (fields_of line)) (λ rest. first_by count_of rest >>= λ rows. first_by count_of rows.1 >>= λ columns. ended columns.1 >>= λ _. Ok (rows.0, columns.0)) x h in
    let b = bind_ok (first_by count_of a.0) (λ rows. first_by count_of rows.1 >>= λ columns. ended columns.1 >>= λ _. Ok (rows.0, columns.0)) x a.2 in
    let c = bind_ok (first_by count_of b.0.1) (λ columns. ended columns.1 >>= λ _. Ok (b.0.0, columns.0)) x b.2 in
    let d = bind_ok (ended c.0.1) (λ _. Ok (b.0.0, c.0.0)) x c.2 in
    let rows = first_found count_of a.0 b.0 b.1 in
    let columns = first_found count_of b.0.1 c.0 c.1 in
    let m = count_found law rows.0 b.0.0 rows.2 in
    let n = count_found law columns.0 c.0.0 columns.2 in
    let fields : a.0 ≡ decimal b.0.0 ∷ decimal c.0.0 ∷ [] = rows.1 ∙ ap (λ (f : List ℕ). f ∷ b.0.1) m.0 ∙ ap (λ (fs : List (List ℕ)). decimal b.0.0 ∷ fs) (columns.1 ∙ ap (λ (f : List ℕ). f ∷ c.0.1) n.0 ∙ ap (λ (fs : List (List ℕ)). decimal c.0.0 ∷ fs) (ended_found c.0.1 d.0 d.1)) in
    let text : line ≡ codes "size " ++ (decimal b.0.0 ++ (codes " " ++ decimal c.0.0)) = line_is line (codes "size") a.0 (after_word_found (codes "size") (fields_of line) a.0 a.1) ∙ ap (λ (fs : List (List ℕ)). codes "size" ++ blanked fs) fields ∙ ap (λ (r : List ℕ). codes "size " ++ (decimal b.0.0 ++ (codes " " ++ r))) (append-nil (decimal c.0.0)) in
    subst (λ (y : ℕ × ℕ). (line ≡ codes "size " ++ (decimal y.0 ++ (codes " " ++ decimal y.1))) × (y.0 ≤ count_max) × (y.1 ≤ count_max)) (made_of_is (b.0.0, c.0.0) x d.2) (text, m.1, n.1)

abbrev pub name_of : Verdict → List ℕ
name_of Optimal = codes "optimal"
name_of Infeasible = codes "infeasible"
name_of Unbounded = codes "unbounded"

no_verdict : (v : Verdict) → Err BadLine ≡ Ok v → ⊥
no_verdict v h = cc

named : (word : List ℕ) (v : Verdict) → verdict_named word ≡ Ok v → word ≡ name_of v
named word v h =
    elim (chosen (bytes_eq word (codes "optimal")) (Ok Optimal) (if bytes_eq word (codes "infeasible") then Ok Infeasible else if bytes_eq word (codes "unbounded") then Ok Unbounded else Err BadLine) (Ok v) h) [
      | inl a ↦ (bytes_eq-Decides word (codes "optimal")).0 a.0 ∙ ap name_of (made_of_is Optimal v a.1)
      | inr a ↦ elim (chosen (bytes_eq word (codes "infeasible")) (Ok Infeasible) (if bytes_eq word (codes "unbounded") then Ok Unbounded else Err BadLine) (Ok v) a.1) [
        | inl b ↦ (bytes_eq-Decides word (codes "infeasible")).0 b.0 ∙ ap name_of (made_of_is Infeasible v b.1)
        | inr b ↦ elim (chosen (bytes_eq word (codes "unbounded")) (Ok Unbounded) (Err BadLine) (Ok v) b.1) [
          | inl c ↦ (bytes_eq-Decides word (codes "unbounded")).0 c.0 ∙ ap name_of (made_of_is Unbounded v c.1)
          | inr c ↦ absurd (no_verdict v c.1)
        ]
      ]
    ]

pub verdict_text : (line : List ℕ) (v : Verdict) → verdict_in (fields_of line) ≡ Ok v → line ≡ codes "verdict " ++ name_of v
verdict_text line v h =
    let a = bind_ok (after_word (codes "verdict") (fields_of line)) (λ rest. first_by verdict_named rest >>= λ verdict. ended verdict.1 >>= λ _. Ok verdict.0) v h in
    let b = bind_ok (first_by verdict_named a.0) (λ verdict. ended verdict.1 >>= λ _. Ok verdict.0) v a.2 in
    let c = bind_ok (ended b.0.1) (λ _. Ok b.0.0) v b.2 in
    let word = first_found verdict_named a.0 b.0 b.1 in
    let fields : a.0 ≡ name_of v ∷ [] = word.1 ∙ ap (λ (f : List ℕ). f ∷ b.0.1) (named word.0 b.0.0 word.2 ∙ ap name_of (made_of_is b.0.0 v c.2)) ∙ ap (λ (fs : List (List ℕ)). name_of v ∷ fs) (ended_found b.0.1 c.0 c.1) in
    line_is line (codes "verdict") a.0 (after_word_found (codes "verdict") (fields_of line) a.0 a.1) ∙ ap (λ (fs : List (List ℕ)). codes "verdict" ++ blanked fs) fields ∙ ap (λ (r : List ℕ). codes "verdict " ++ r) (append-nil (name_of v))

pub value_line : Texts → (line : List ℕ) (v : Rational) → value_in (fields_of line) ≡ Ok v → (line ≡ codes "value " ++ text_of v) × IsTrue (fits v)
value_line law line v h =
    let a = bind_ok (after_word (codes "value") (fields_of line)) (λ rest. first_by number_of rest >>= λ value. ended value.1 >>= λ _. Ok value.0) v h in
    let b = bind_ok (first_by number_of a.0) (λ value. ended value.1 >>= λ _. Ok value.0) v a.2 in
    let c = bind_ok (ended b.0.1) (λ _. Ok b.0.0) v b.2 in
    let field = first_found number_of a.0 b.0 b.1 in
    let k = number_found law field.0 b.0.0 field.2 in
    let fields : a.0 ≡ text_of b.0.0 ∷ [] = field.1 ∙ ap (λ (f : List ℕ). f ∷ b.0.1) k.0 ∙ ap (λ (fs : List (List ℕ)). text_of b.0.0 ∷ fs) (ended_found b.0.1 c.0 c.1) in
    let text : line ≡ codes "value " ++ text_of b.0.0 = line_is line (codes "value") a.0 (after_word_found (codes "value") (fields_of line) a.0 a.1) ∙ ap (λ (fs : List (List ℕ)). codes "value" ++ blanked fs) fields ∙ ap (λ (r : List ℕ). codes "value " ++ r) (append-nil (text_of b.0.0)) in
    subst (λ (y : Rational). (line ≡ codes "value " ++ text_of y) × IsTrue (fits y)) (made_of_is b.0.0 v c.2) (text, k.1)

pub point_line : Texts → (word line : List ℕ) (n : ℕ) (x : List Rational) → point_in word n (fields_of line) ≡ Ok x → (line ≡ word ++ numbers_text x) × IsPoint n x
point_line law word line n x h =
    let a = bind_ok (after_word word (fields_of line)) (λ rest. numbers_of n rest) x h in
    let k = numbers_found law n a.0 x a.2 in
    (line_is line word a.0 (after_word_found word (fields_of line) a.0 a.1) ∙ ap (λ (r : List ℕ). word ++ r) k.0, record { size = numbers_count n a.0 x a.2; numbers = k.1 })

pub count_line : Texts → (line : List ℕ) (n : ℕ) → count_in (fields_of line) ≡ Ok n → (line ≡ codes "derived " ++ decimal n) × (n ≤ count_max)
count_line law line n h =
    let a = bind_ok (after_word (codes "derived") (fields_of line)) (λ rest. first_by count_of rest >>= λ count. ended count.1 >>= λ _. Ok count.0) n h in
    let b = bind_ok (first_by count_of a.0) (λ count. ended count.1 >>= λ _. Ok count.0) n a.2 in
    let c = bind_ok (ended b.0.1) (λ _. Ok b.0.0) n b.2 in
    let field = first_found count_of a.0 b.0 b.1 in
    let k = count_found law field.0 b.0.0 field.2 in
    let fields : a.0 ≡ decimal b.0.0 ∷ [] = field.1 ∙ ap (λ (f : List ℕ). f ∷ b.0.1) k.0 ∙ ap (λ (fs : List (List ℕ)). decimal b.0.0 ∷ fs) (ended_found b.0.1 c.0 c.1) in
    let text : line ≡ codes "derived " ++ decimal b.0.0 = line_is line (codes "derived") a.0 (after_word_found (codes "derived") (fields_of line) a.0 a.1) ∙ ap (λ (fs : List (List ℕ)). codes "derived" ++ blanked fs) fields ∙ ap (λ (r : List ℕ). codes "derived " ++ r) (append-nil (decimal b.0.0)) in
    subst (λ (m : ℕ). (line ≡ codes "derived " ++ decimal m) × (m ≤ count_max)) (made_of_is b.0.0 n c.2) (text, k.1)

pub derive_line : Texts → (line : List ℕ) (x : Rational × List Entry) → derive_in (fields_of line) ≡ Ok x → (line ≡ codes "derive " ++ (text_of x.0 ++ form_text x.1)) × IsTrue (fits x.0) × IsForm x.1
derive_line law line x h =
    let a = bind_ok (after_word (codes "derive") (fields_of line)) (λ rest. first_by number_of rest >>= λ bound. form_of 0 bound.1 >>= λ form. Ok (bound.0, form)) x h in
    let b = bind_ok (first_by number_of a.0) (λ bound. form_of 0 bound.1 >>= λ form. Ok (bound.0, form)) x a.2 in
    let c = bind_ok (form_of 0 b.0.1) (λ form. Ok (b.0.0, form)) x b.2 in
    let field = first_found number_of a.0 b.0 b.1 in
    let k = number_found law field.0 b.0.0 field.2 in
    let form = form_found law b.0.1 c.0 c.1 in
    let text : line ≡ codes "derive " ++ (text_of b.0.0 ++ form_text c.0) = line_is line (codes "derive") a.0 (after_word_found (codes "derive") (fields_of line) a.0 a.1) ∙ ap (λ (fs : List (List ℕ)). codes "derive" ++ blanked fs) (field.1 ∙ ap (λ (f : List ℕ). f ∷ b.0.1) k.0) ∙ ap (λ (r : List ℕ). codes "derive " ++ (text_of b.0.0 ++ r)) form.0 in
    subst (λ (y : Rational × List Entry). (line ≡ codes "derive " ++ (text_of y.0 ++ form_text y.1)) × IsTrue (fits y.0) × IsForm y.1) (made_of_is (b.0.0, c.0) x c.2) (text, k.1, form.1)

pub side_line : Texts → (word line : List ℕ) (x : Rational × Weights) → side_in word (fields_of line) ≡ Ok x → (line ≡ word ++ (32 ∷ (text_of x.0 ++ weights_text x.1))) × IsTrue (fits x.0) × AreWeights x.1
side_line law word line x h =
    let a = bind_ok (after_word word (fields_of line)) (λ rest. first_by number_of rest >>= λ weight. weights_of weight.1 >>= λ weights. Ok (weight.0, weights)) x h in
    let b = bind_ok (first_by number_of a.0) (λ weight. weights_of weight.1 >>= λ weights. Ok (weight.0, weights)) x a.2 in
    let c = bind_ok (weights_of b.0.1) (λ weights. Ok (b.0.0, weights)) x b.2 in
    let field = first_found number_of a.0 b.0 b.1 in
    let k = number_found law field.0 b.0.0 field.2 in
    let weights = weights_found law b.0.1 c.0 c.1 in
    let text : line ≡ word ++ (32 ∷ (text_of b.0.0 ++ weights_text c.0)) = line_is line word a.0 (after_word_found word (fields_of line) a.0 a.1) ∙ ap (λ (fs : List (List ℕ)). word ++ blanked fs) (field.1 ∙ ap (λ (f : List ℕ). f ∷ b.0.1) k.0) ∙ ap (λ (r : List ℕ). word ++ (32 ∷ (text_of b.0.0 ++ r))) weights.0 in
    subst (λ (y : Rational × Weights). (line ≡ word ++ (32 ∷ (text_of y.0 ++ weights_text y.1))) × IsTrue (fits y.0) × AreWeights y.1) (made_of_is (b.0.0, c.0) x c.2) (text, k.1, weights.1)

-- ---- what shows a derived row, and nodes

abbrev pub Shows : List ℕ → ProofLine → Type 0
Shows line (PlainLine w) = (line ≡ codes "plain" ++ weights_text w) × AreWeights w
Shows line (SplitLine at form) = (line ≡ codes "split " ++ (text_of (whole at) ++ form_text form)) × IsTrue (num_fits at) × IsForm form

no_head : (x : ProofLine) → Err BadLine ≡ Ok x → ⊥
no_head x h = cc

plain_line : Texts → (line word : List ℕ) (fields : List (List ℕ)) (x : ProofLine) → line ≡ word ++ blanked fields → word ≡ codes "plain" → plain_in fields ≡ Ok x → Shows line x
plain_line law line word fields x is same h =
    let a = bind_ok (weights_of fields) (λ w. Ok (PlainLine w)) x h in
    let k = weights_found law fields a.0 a.1 in
    subst (Shows line) (made_of_is (PlainLine a.0) x a.2) (is ∙ ap (λ (w : List ℕ). w ++ blanked fields) same ∙ ap (λ (r : List ℕ). codes "plain" ++ r) k.0, k.1)

form_split_found : Texts → (fields : List (List ℕ)) (s : Split) → form_split_in fields ≡ Ok s → (blanked fields ≡ 32 ∷ (text_of (whole s.at) ++ form_text s.form)) × IsSplit s
form_split_found law fields s h =
    let a = bind_ok (first_by whole_of fields) (λ at. form_of 0 at.1 >>= λ form. Ok (record { form = form; at = at.0 })) s h in
    let b = bind_ok (form_of 0 a.0.1) (λ form. Ok (record { form = form; at = a.0.0 })) s a.2 in
    let made : Split = record { form = b.0; at = a.0.0 } in
    let field = first_found whole_of fields a.0 a.1 in
    let k = whole_found law field.0 a.0.0 field.2 in
    let form = form_found law a.0.1 b.0 b.1 in
    subst (λ (x : Split). (blanked fields ≡ 32 ∷ (text_of (whole x.at) ++ form_text x.form)) × IsSplit x) (made_of_is made s b.2)
    (ap blanked (field.1 ∙ ap (λ (f : List ℕ). f ∷ a.0.1) k.0) ∙ ap (λ (r : List ℕ). 32 ∷ (text_of (whole a.0.0) ++ r)) form.0, record { form = form.1; at = k.1 })

cases_line : Texts → (line word : List ℕ) (fields : List (List ℕ)) (x : ProofLine) → line ≡ word ++ blanked fields → word ≡ codes "split" → cases_in fields ≡ Ok x → Shows line x
cases_line law line word fields x is same h =
    let a = bind_ok (form_split_in fields) (λ s. Ok (SplitLine s.at s.form)) x h in
    let k = form_split_found law fields a.0 a.1 in
    subst (Shows line) (made_of_is (SplitLine a.0.at a.0.form) x a.2) (is ∙ ap (λ (w : List ℕ). w ++ blanked fields) same ∙ ap (λ (r : List ℕ). codes "split" ++ r) k.0, k.1.at, k.1.form)

pub proof_line : Texts → (line : List ℕ) (x : ProofLine) → proof_in (fields_of line) ≡ Ok x → Shows line x
proof_line law line x h =
    let a = bind_ok (next_field (fields_of line)) (λ word. proof_after word.0 word.1) x h in
    let is = line_is line a.0.0 a.0.1 (next_found (fields_of line) a.0 a.1) in
    elim (chosen (bytes_eq a.0.0 (codes "plain")) (plain_in a.0.1) (if bytes_eq a.0.0 (codes "split") then cases_in a.0.1 else Err BadLine) (Ok x) a.2) [
      | inl b ↦ plain_line law line a.0.0 a.0.1 x is ((bytes_eq-Decides a.0.0 (codes "plain")).0 b.0) b.1
      | inr b ↦ elim (chosen (bytes_eq a.0.0 (codes "split")) (cases_in a.0.1) (Err BadLine) (Ok x) b.1) [
        | inl c ↦ cases_line law line a.0.0 a.0.1 x is ((bytes_eq-Decides a.0.0 (codes "split")).0 c.0) c.1
        | inr c ↦ absurd (no_head x c.1)
      ]
    ]

abbrev pub WritesNode : Version → List ℕ → TreeNode → Type 0
WritesNode v line node = (line ++ (10 ∷ []) ≡ node_text v node) × IsNode node

column_form_is : (j : ℕ) → j < count_max → IsForm (column_form j)
column_form_is j small = record { entries = alone (nat_le 0 j) (nat_lt j count_max) (le-leb 0 j (omega arith)) (lt-ltb _ _ small); numbers = (refl, tt) }
  where
    alone : (a b : Bool) → a ≡ true → b ≡ true → (a && (b && true)) ≡ true
    alone true true h k = refl
    alone true false h k = absurd cc
    alone false b h k = absurd cc

split_found : Texts → (v : Version) (fields : List (List ℕ)) (s : Split) → split_in v fields ≡ Ok s → ((word_of_split v ++ blanked fields) ++ (10 ∷ []) ≡ split_text v s) × IsSplit s
split_found law One fields s h =
    let a = bind_ok (first_by index_of fields) (λ column. first_by whole_of column.1 >>= λ at. ended at.1 >>= λ _. Ok (column_split column.0 at.0)) s h in
    let b = bind_ok (first_by whole_of a.0.1) (λ at. ended at.1 >>= λ _. Ok (column_split a.0.0 at.0)) s a.2 in
    let c = bind_ok (ended b.0.1) (λ _. Ok (column_split a.0.0 b.0.0)) s b.2 in
    let column = first_found index_of fields a.0 a.1 in
    let at = first_found whole_of a.0.1 b.0 b.1 in
    let i = index_found law column.0 a.0.0 column.2 in
    let z = whole_found law at.0 b.0.0 at.2 in
    let j : List ℕ = decimal (a.0.0 + 1) in
    let p : List ℕ = text_of (whole b.0.0) in
    let parts : fields ≡ j ∷ p ∷ [] = column.1 ∙ ap (λ (f : List ℕ). f ∷ a.0.1) i.0 ∙ ap (λ (fs : List (List ℕ)). j ∷ fs) (at.1 ∙ ap (λ (f : List ℕ). f ∷ b.0.1) z.0 ∙ ap (λ (fs : List (List ℕ)). p ∷ fs) (ended_found b.0.1 c.0 c.1)) in
    subst (λ (x : Split). ((word_of_split One ++ blanked fields) ++ (10 ∷ []) ≡ split_text One x) × IsSplit x) (made_of_is (column_split a.0.0 b.0.0) s c.2)
    (ap (λ (fs : List (List ℕ)). (codes "branch" ++ blanked fs) ++ (10 ∷ [])) parts ∙ ap (λ (r : List ℕ). (codes "branch " ++ (j ++ (codes " " ++ r))) ++ (10 ∷ [])) (append-nil p) ∙ ap (λ (l : List ℕ). codes "branch " ++ l) (append_assoc j (codes " " ++ p) (10 ∷ [])), record { form = column_form_is a.0.0 i.1; at = z.1 })
split_found law Two fields s h =
    let k = form_split_found law fields s h in
    (ap (λ (r : List ℕ). (codes "split" ++ r) ++ (10 ∷ [])) k.0 ∙ ap (λ (r : List ℕ). codes "split " ++ r) (append_assoc (text_of (whole s.at)) (form_text s.form) (10 ∷ [])), k.1)

branch_line : Texts → (v : Version) (line word : List ℕ) (fields : List (List ℕ)) (x : TreeNode) → line ≡ word ++ blanked fields → word ≡ word_of_split v → branch_in v fields ≡ Ok x → WritesNode v line x
branch_line law v line word fields x is same h =
    let a = bind_ok (split_in v fields) (λ s. Ok (Branch s)) x h in
    let k = split_found law v fields a.0 a.1 in
    subst (WritesNode v line) (made_of_is (Branch a.0) x a.2) (ap (λ (l : List ℕ). l ++ (10 ∷ [])) (is ∙ ap (λ (w : List ℕ). w ++ blanked fields) same) ∙ k.0, k.1)

leaf_line : Texts → (v : Version) (made : Weights → TreeNode) (name line word : List ℕ) (fields : List (List ℕ)) (x : TreeNode) → ((w : Weights) → node_text v (made w) ≡ name ++ (leaf_text w ++ (10 ∷ []))) → ((w : Weights) → AreLeafWeights w → IsNode (made w))
    → line ≡ word ++ blanked fields → word ≡ name → (leaf_weights_of v fields >>= λ w. Ok (made w)) ≡ Ok x → WritesNode v line x
leaf_line law v made name line word fields x text written is same h =
    let a = bind_ok (leaf_weights_of v fields) (λ w. Ok (made w)) x h in
    let k = leaf_weights_found law v fields a.0 a.1 in
    subst (WritesNode v line) (made_of_is (made a.0) x a.2)
    (ap (λ (l : List ℕ). l ++ (10 ∷ [])) (is ∙ ap (λ (w : List ℕ). w ++ blanked fields) same ∙ ap (λ (r : List ℕ). name ++ r) k.0) ∙ append_assoc name (leaf_text a.0) (10 ∷ []) ∙ sym (text a.0), written a.0 k.1)

no_node : (x : TreeNode) → Err BadLine ≡ Ok x → ⊥
no_node x h = cc

pub node_line : Texts → (v : Version) (line : List ℕ) (x : TreeNode) → node_in v (fields_of line) ≡ Ok x → WritesNode v line x
node_line law v line x h =
    let a = bind_ok (next_field (fields_of line)) (λ word. node_after v word.0 word.1) x h in
    let is = line_is line a.0.0 a.0.1 (next_found (fields_of line) a.0 a.1) in
    elim (chosen (bytes_eq a.0.0 (word_of_split v)) (branch_in v a.0.1) (if bytes_eq a.0.0 (codes "empty") then empty_in v a.0.1 else if bytes_eq a.0.0 (codes "bound") then bound_in v a.0.1 else Err BadLine) (Ok x) a.2) [
      | inl b ↦ branch_line law v line a.0.0 a.0.1 x is ((bytes_eq-Decides a.0.0 (word_of_split v)).0 b.0) b.1
      | inr b ↦ elim (chosen (bytes_eq a.0.0 (codes "empty")) (empty_in v a.0.1) (if bytes_eq a.0.0 (codes "bound") then bound_in v a.0.1 else Err BadLine) (Ok x) b.1) [
        | inl c ↦ leaf_line law v (λ w. Empty w) (codes "empty") line a.0.0 a.0.1 x (λ w. refl) (λ w h. h) is ((bytes_eq-Decides a.0.0 (codes "empty")).0 c.0) c.1
        | inr c ↦ elim (chosen (bytes_eq a.0.0 (codes "bound")) (bound_in v a.0.1) (Err BadLine) (Ok x) c.1) [
          | inl d ↦ leaf_line law v (λ w. Bound w) (codes "bound") line a.0.0 a.0.1 x (λ w. refl) (λ w h. h) is ((bytes_eq-Decides a.0.0 (codes "bound")).0 d.0) d.1
          | inr d ↦ absurd (no_node x d.1)
        ]
      ]
    ]
