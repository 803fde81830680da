-- What a reader keeps beside its declaration stays true.
use Rattle.std.proofs.Common.{◌≡◌, ◌∙◌, ◌==◌, ℕ, ◌+◌, ◌<◌, ◌≤◌, Bool, not, nat_le, ◌&&◌, true, false, List, [], ◌∷◌, ◌++◌, length, Some, None, Result, Ok, Err, IfSome, OnOk, OnErr, is_some, subst, if◌then◌else◌, sym, ap, refl, arith}
use Rattle.std.proofs.lemmas.Bool.Decides.{nat_tests}
use Rattle.std.specs.declared.option.Option.{Option}
use Rattle.std.specs.List.{All, find}
use Rattle.std.proofs.lemmas.List.{length-append}
use Rattle.std.proofs.lemmas.List.Elements.{All-cons, All-head, All-tail, All-push, All-weaker}
use Rattle.rational.specs.Rational.{Rational}
use Rattle.milp.specs.Problem.{Column}
use Rattle.mps_draft.specs.declared.row.RowKind.{RowKind}
use Rattle.rational.specs.Compare.{is_zero}
use Rattle.mps_draft.specs.Declaration.{DeclaredRow, new_row, with_first_changed, entry_count}
use Rattle.mps_draft.specs.Declaration.{is_row_named}
use Rattle.mps_draft.specs.declared.row.RowRange.{RowRange}
use Rattle.mps_draft.specs.Rows.{given, rhs_added, range_added}
use Rattle.mps_draft.specs.RowNumbers.{entry_value, rhs_value, entries_of, rows_with}
use Rattle.model_text.specs.declared.error.ReadError.{ReadError}
use Rattle.model_text.specs.declared.fault.FaultKind.{FaultKind}
use Rattle.model_text.specs.declared.fault.FaultKind.TheVariants.{Twice, TooMany}
use Rattle.model_text.specs.Follows.{Follows}
use Rattle.model_text.specs.Steps.{then_do}
use Rattle.mps_draft.specs.Consistent.{IsGiven, IsConsistent}

pub entry_count-push : (rs : List DeclaredRow) (r : DeclaredRow) → entry_count (rs ++ r ∷ []) ≡ entry_count rs + length r.entries
entry_count-push [] r = omega arith
entry_count-push (q ∷ rs) r = let e = entry_count-push rs r in omega arith

-- the cases of a test
pub either : {X : Type 0} (P : X → Type 0) (b : Bool) (x y : X) → P x → P y → P (if b then x else y)
either P true x y s t = s
either P false x y s t = t

pub length-changed : {X : Type 0} (p : X → Bool) (f : X → X) (xs : List X) → length (with_first_changed p f xs) ≡ length xs
length-changed p f [] = refl
length-changed {X} p f (x ∷ xs) = let e = length-changed p f xs in either (λ (ys : List X). length ys ≡ length (x ∷ xs)) (p x) (f x ∷ xs) (x ∷ with_first_changed p f xs) refl (omega arith)

All-changed : {X : Type 0} (P : X → Type 0) (p : X → Bool) (f : X → X) → ((x : X) → P x → P (f x)) → (xs : List X) → All P xs → All P (with_first_changed p f xs)
All-changed P p f keeps [] a = a
All-changed P p f keeps (x ∷ xs) a = either (All P) (p x) (f x ∷ xs) (x ∷ with_first_changed p f xs) (All-cons P (f x) xs (keeps x (All-head P x xs a)) (All-tail P x xs a)) (All-cons P x (with_first_changed p f xs) (All-head P x xs a) (All-changed P p f keeps xs (All-tail P x xs a)))

-- the count of entries where the first that passes has k more
more-by : (p : DeclaredRow → Bool) (f : DeclaredRow → DeclaredRow) (k : ℕ) → ((x : DeclaredRow) → length (f x).entries ≡ length x.entries + k) → (x : DeclaredRow) (xs : List DeclaredRow) (b : Bool) → p x ≡ b → (is_some (find p xs) ≡ true → entry_count (with_first_changed p f xs) ≡ entry_count xs + k) → is_some (find p (x ∷ xs)) ≡ true → entry_count (with_first_changed p f (x ∷ xs)) ≡ entry_count (x ∷ xs) + k
more-by p f k grows x xs true e more h = let g = grows x in rw e (omega arith)
more-by p f k grows x xs false e more h = let t : is_some (find p xs) ≡ true = rw e at h in let m = more t in rw e (omega arith)

entry_count-more : (p : DeclaredRow → Bool) (f : DeclaredRow → DeclaredRow) (k : ℕ) → ((x : DeclaredRow) → length (f x).entries ≡ length x.entries + k) → (xs : List DeclaredRow) → is_some (find p xs) ≡ true → entry_count (with_first_changed p f xs) ≡ entry_count xs + k
entry_count-more p f k grows [] h = cc
entry_count-more p f k grows (x ∷ xs) h = more-by p f k grows x xs (p x) refl (entry_count-more p f k grows xs) h

entry_count-same : (p : DeclaredRow → Bool) (f : DeclaredRow → DeclaredRow) → ((x : DeclaredRow) → length (f x).entries ≡ length x.entries) → (xs : List DeclaredRow) → entry_count (with_first_changed p f xs) ≡ entry_count xs
entry_count-same p f same [] = refl
entry_count-same p f same (x ∷ xs) = let e = entry_count-same p f same xs in let s = same x in either (λ (ys : List DeclaredRow). entry_count ys ≡ entry_count (x ∷ xs)) (p x) (f x ∷ xs) (x ∷ with_first_changed p f xs) (omega arith) (omega arith)

-- one more row
pub push_row-keeps : {objective : Option DeclaredRow} {rows : List DeclaredRow} {columns : List Column} {count : ℕ} → IsConsistent objective rows columns count → length rows < 1_000_000 → (name : List ℕ) (kind : RowKind) → IsConsistent objective (rows ++ new_row name kind ∷ []) columns count
push_row-keeps {objective} {rows} {columns} {count} k room name kind = record {
  objective_given = k.objective_given;
  rows_given = All-push (IsGiven (length columns)) rows (new_row name kind) k.rows_given (omega arith);
  counted = k.counted ∙ sym (entry_count-push rows (new_row name kind) ∙ omega arith);
  row_room = omega (arith, length-append rows (new_row name kind ∷ []));
  entry_room = omega (arith, entry_count-push rows (new_row name kind), k.entry_room);
}

changed-keeps : {objective : Option DeclaredRow} {rows : List DeclaredRow} {columns : List Column} {count : ℕ} → IsConsistent objective rows columns count → (p : DeclaredRow → Bool) (f : DeclaredRow → DeclaredRow) → ((x : DeclaredRow) → IsGiven (length columns) x → IsGiven (length columns) (f x)) → (more : ℕ) → entry_count (with_first_changed p f rows) ≡ more → more ≤ 20_000_000 → IsConsistent objective (with_first_changed p f rows) columns more
changed-keeps {objective} {rows} {columns} {count} k p f keeps more e room = record {
  objective_given = k.objective_given;
  rows_given = All-changed (IsGiven (length columns)) p f keeps rows k.rows_given;
  counted = sym e;
  row_room = omega (arith, length-changed p f rows, k.row_room);
  entry_room = omega (arith, e, room);
}

-- a row with a right-hand side or a range more
pub set-keeps : {objective : Option DeclaredRow} {rows : List DeclaredRow} {columns : List Column} {count : ℕ} → IsConsistent objective rows columns count → (p : DeclaredRow → Bool) (f : DeclaredRow → DeclaredRow) → ((x : DeclaredRow) → (f x).latest ≡ x.latest) → ((x : DeclaredRow) → (f x).entries ≡ x.entries) → IsConsistent objective (with_first_changed p f rows) columns count
set-keeps {objective} {rows} {columns} {count} k p f latest entries = changed-keeps k p f (λ x h. omega (arith, latest x, h)) count (entry_count-same p f (λ x. ap length (entries x)) rows ∙ sym k.counted) (omega (arith, k.counted, k.entry_room))

zero-length : (columns : ℕ) (v : Rational) → is_zero v ≡ true → (x : DeclaredRow) → length (given columns v x).entries ≡ length x.entries
zero-length columns v z x = rw z refl

more-length : (columns : ℕ) (v : Rational) → is_zero v ≡ false → (x : DeclaredRow) → length (given columns v x).entries ≡ length x.entries + 1
more-length columns v z x = rw z (length-append x.entries _)

-- a row with a zero more
pub zero-keeps : {objective : Option DeclaredRow} {rows : List DeclaredRow} {columns : List Column} {count : ℕ} → IsConsistent objective rows columns count → (p : DeclaredRow → Bool) (v : Rational) → is_zero v ≡ true → IsConsistent objective (with_first_changed p (given (length columns) v) rows) columns count
zero-keeps {objective} {rows} {columns} {count} k p v z = changed-keeps k p (given (length columns) v) (λ x h. omega arith) count (entry_count-same p (given (length columns) v) (zero-length (length columns) v z) rows ∙ sym k.counted) (omega (arith, k.counted, k.entry_room))

-- a row with an entry more
pub entry-keeps : {objective : Option DeclaredRow} {rows : List DeclaredRow} {columns : List Column} {count : ℕ} → IsConsistent objective rows columns count → (p : DeclaredRow → Bool) (v : Rational) → is_zero v ≡ false → is_some (find p rows) ≡ true → entry_count rows < 20_000_000 → IsConsistent objective (with_first_changed p (given (length columns) v) rows) columns (count + 1)
entry-keeps {objective} {rows} {columns} {count} k p v z there room = changed-keeps k p (given (length columns) v) (λ x h. omega arith) (count + 1) (entry_count-more p (given (length columns) v) 1 (more-length (length columns) v z) rows there ∙ ap (λ n. n + 1) (sym k.counted)) (omega (arith, k.counted, room))

-- a row with the value of a number, where it takes one
taken-ok : {A : Type 0} (b z full : Bool) (v : Rational) (f : Rational → A) (more : A) → then_do (λ w. Ok (f w)) (if b then Err Twice else (if not z && full then Err TooMany else Ok v)) ≡ Ok more → (f v ≡ more) × (z ≡ false → full ≡ false)
taken-ok true z full v f more h = absurd cc
taken-ok false true full v f more h = (cc, λ e. absurd cc)
taken-ok false false true v f more h = absurd cc
taken-ok false false false v f more h = (cc, λ e. refl)

none-taken : {A : Type 0} {P : Type 0} (b : Bool) (fault : FaultKind) (f : Rational → A) (more : A) → then_do (λ w. Ok (f w)) (if b then Err Twice else Err fault) ≡ Ok more → P
none-taken true fault f more h = absurd cc
none-taken false fault f more h = absurd cc

value-keeps : {objective : Option DeclaredRow} {rows : List DeclaredRow} {columns : List Column} {count : ℕ} → IsConsistent objective rows columns count → (p : DeclaredRow → Bool) (v : Rational) (z : Bool) → is_zero v ≡ z → is_some (find p rows) ≡ true → (z ≡ false → entry_count rows < 20_000_000) → IsConsistent objective (with_first_changed p (given (length columns) v) rows) columns (count + (if z then 0 else 1))
value-keeps {objective} {rows} {columns} {count} k p v true e there room = let same : count ≡ count + 0 = omega arith in subst (IsConsistent objective (with_first_changed p (given (length columns) v) rows) columns) same (zero-keeps k p v e)
value-keeps k p v false e there room = entry-keeps k p v e there (room refl)

-- the rows with an entry more of a number, where a row takes it
pub added-keeps : {objective : Option DeclaredRow} {rows : List DeclaredRow} {columns : List Column} {count : ℕ} → IsConsistent objective rows columns count → (name : List ℕ) (full : Bool) (number : Result Rational FaultKind) (more : List DeclaredRow) → (full ≡ false → entry_count rows < 20_000_000) → rows_with (entry_value (length columns) full number) (given (length columns)) name rows (find (is_row_named name) rows) ≡ Ok more → IsConsistent objective more columns (count + entries_of number)
added-keeps {objective} {rows} {columns} {count} k name full number more room taken = by-row (find (is_row_named name) rows) refl taken
  where
    by-number : (r : DeclaredRow) (n : Result Rational FaultKind) → is_some (find (is_row_named name) rows) ≡ true → rows_with (entry_value (length columns) full n) (given (length columns)) name rows (Some r) ≡ Ok more → IsConsistent objective more columns (count + entries_of n)
    by-number r (Err fault) there h = none-taken (r.latest == length columns) fault (λ v. with_first_changed (is_row_named name) (given (length columns) v) rows) more h
    by-number r (Ok v) there h =
        let both = taken-ok (r.latest == length columns) (is_zero v) full v (λ v. with_first_changed (is_row_named name) (given (length columns) v) rows) more h in
        subst (λ (rs : List DeclaredRow). IsConsistent objective rs columns (count + entries_of (Ok v))) both.0 (value-keeps k (is_row_named name) v (is_zero v) refl there (λ z. room (both.1 z)))

    by-row : (o : Option DeclaredRow) → find (is_row_named name) rows ≡ o → rows_with (entry_value (length columns) full number) (given (length columns)) name rows o ≡ Ok more → IsConsistent objective more columns (count + entries_of number)
    by-row None e h = absurd cc
    by-row (Some r) e h = by-number r number (rw e refl) h

value-taken : {A : Type 0} (P : A → Type 0) (b : Bool) (number : Result Rational FaultKind) (f : Rational → A) (more : A) → ((v : Rational) → P (f v)) → then_do (λ w. Ok (f w)) (if b then Err Twice else number) ≡ Ok more → P more
value-taken P true number f more all h = absurd cc
value-taken P false (Err fault) f more all h = absurd cc
value-taken P false (Ok v) f more all h = let e : f v ≡ more = cc in subst P e (all v)

-- the rows with a right-hand side more, where a row takes it
rhs-taken : {objective : Option DeclaredRow} {rows : List DeclaredRow} {columns : List Column} {count : ℕ} → IsConsistent objective rows columns count → (name : List ℕ) (number : Result Rational FaultKind) (more : List DeclaredRow) (found : Option DeclaredRow) → rows_with (rhs_value number) rhs_added name rows found ≡ Ok more → IsConsistent objective more columns count
rhs-taken k name number more None h = absurd cc
rhs-taken {objective} {rows} {columns} {count} k name number more (Some r) h = value-taken (λ (rs : List DeclaredRow). IsConsistent objective rs columns count) (is_some r.rhs) number (λ v. with_first_changed (is_row_named name) (rhs_added v) rows) more (λ v. set-keeps k (is_row_named name) (rhs_added v) (λ x. refl) (λ x. refl)) h

pub rhs-keeps : {objective : Option DeclaredRow} {rows : List DeclaredRow} {columns : List Column} {count : ℕ} → IsConsistent objective rows columns count → (name : List ℕ) (number : Result Rational FaultKind) (more : List DeclaredRow) (found : Option DeclaredRow) (result : Result (Unit {0}) (ReadError FaultKind)) → Follows result more (rows_with (rhs_value number) rhs_added name rows found) → OnErr result (more ≡ rows) → IsConsistent objective more columns count
rhs-keeps k name number more found (Ok u) h kept = rhs-taken k name number more found h
rhs-keeps {objective} {rows} {columns} {count} k name number more found (Err error) h kept = rw kept k

-- a row with a range more, unless memory was wanting
pub range-keeps : {E : Type 0} {objective : Option DeclaredRow} {rows : List DeclaredRow} {columns : List Column} {count : ℕ} → IsConsistent objective rows columns count → (name : List ℕ) (range : RowRange) (more : List DeclaredRow) (result : Result (Unit {0}) E) → OnOk result (more ≡ with_first_changed (is_row_named name) (range_added range) rows) → OnErr result (more ≡ rows) → IsConsistent objective more columns count
range-keeps k name range more (Ok u) set kept = rw set (set-keeps k (is_row_named name) (range_added range) (λ x. refl) (λ x. refl))
range-keeps k name range more (Err error) set kept = rw kept k

-- below a limit there is room
pub room-below : (most count : ℕ) → most ≤ 20_000_000 → nat_le most count ≡ false → count < 20_000_000
room-below most count within below = grind (arith, nat_tests)

given-later : (m n : ℕ) → m ≤ n → (x : DeclaredRow) → IsGiven m x → IsGiven n x
given-later m n h x g = omega (arith, g)

objective-later : (m n : ℕ) → m ≤ n → (o : Option DeclaredRow) → IfSome o (IsGiven m) → IfSome o (IsGiven n)
objective-later m n h None g = tt
objective-later m n h (Some x) g = given-later m n h x g

-- columns, of which there are no fewer
pub columns-keep : {objective : Option DeclaredRow} {rows : List DeclaredRow} {columns : List Column} {count : ℕ} → IsConsistent objective rows columns count → (more : List Column) → length columns ≤ length more → IsConsistent objective rows more count
columns-keep {objective} {rows} {columns} {count} k more h = record {
  objective_given = objective-later (length columns) (length more) h objective k.objective_given;
  rows_given = All-weaker (IsGiven (length columns)) (IsGiven (length more)) (given-later (length columns) (length more) h) rows k.rows_given;
  counted = k.counted;
  row_room = k.row_room;
  entry_room = k.entry_room;
}
