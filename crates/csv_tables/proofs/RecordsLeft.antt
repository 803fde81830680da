-- The records from a state on: none, or one and those behind it.
use Rattle.std.proofs.Common.{◌≡◌, ◌<◌, ◌≤◌, ◌+◌, ◌||◌, ◌==◌, ℕ, zero, suc, Bool, true, false, if◌then◌else◌, List, [], ◌∷◌, length, Option, Some, None, refl, ap, subst, ◌∙◌, inl, arith}
use Rattle.std.specs.Prelude.{IsSome}
use Rattle.std.proofs.lemmas.Option.{same_Some}
use Rattle.csv.specs.Machine.{Read, ends_at_end, field_after, fields_after, is_end, next_record, step}
use Rattle.csv.specs.Reading.{NextIs, ReadRecord, ReadsNext, Ready, default_config, pending_of, records_from, records_next, source_of}
use Rattle.csv.specs.declared.reader.Reader.{Reader}
use Rattle.csv.specs.declared.reader.Trim.TheVariants as trim
use Rattle.csv.specs.declared.parser.Action.{Action}
use Rattle.csv.specs.declared.parser.Action.TheVariants as act
use Rattle.csv.specs.declared.parser.State.{State}
use Rattle.csv.specs.declared.parser.State.TheVariants as st
use Rattle.csv_tables.specs.Records.{IsReading, left_of, records_left, rows_left}

-- ---- what ends a record leads to a state before a record

abbrev in_by : Bool → Bool → Bool → State × Action
in_by a b d = if a then (st.StartField, act.EndField) else if b then ((if d then st.AfterCr else st.StartRecord), act.EndRecord) else (st.InField, act.Copy)

in-ends : (a b d : Bool) → is_end (in_by a b d).1 ≡ true → ends_at_end (in_by a b d).0 ≡ false
in-ends true b d e = cc e
in-ends false true true e = refl
in-ends false true false e = refl
in-ends false false d e = cc e

abbrev start_by : Bool → Bool → Bool → Bool → State × Action
start_by q a b d = if q then (st.InQuoted, act.Skip) else in_by a b d

start-ends : (q a b d : Bool) → is_end (start_by q a b d).1 ≡ true → ends_at_end (start_by q a b d).0 ≡ false
start-ends true a b d e = cc e
start-ends false a b d e = in-ends a b d e

abbrev record_by : Bool → Bool → Bool → Bool → Bool → State × Action
record_by l q a b d = if l then (st.StartRecord, act.Skip) else start_by q a b d

record-ends : (l q a b d : Bool) → is_end (record_by l q a b d).1 ≡ true → ends_at_end (record_by l q a b d).0 ≡ false
record-ends true q a b d e = cc e
record-ends false q a b d e = start-ends q a b d e

cr-ends : (f l q a b d : Bool) → is_end (if f then (st.StartRecord, act.Skip) else record_by l q a b d).1 ≡ true → ends_at_end (if f then (st.StartRecord, act.Skip) else record_by l q a b d).0 ≡ false
cr-ends true l q a b d e = cc e
cr-ends false l q a b d e = record-ends l q a b d e

doubled-ends : (q a b d : Bool) → is_end (if q then (st.InQuoted, act.Copy) else in_by a b d).1 ≡ true → ends_at_end (if q then (st.InQuoted, act.Copy) else in_by a b d).0 ≡ false
doubled-ends true a b d e = cc e
doubled-ends false a b d e = in-ends a b d e

abbrev quoted_by : Bool → State × Action
quoted_by q = if q then (st.AfterQuote, act.Skip) else (st.InQuoted, act.Copy)

quoted-ends : (q : Bool) → is_end (quoted_by q).1 ≡ true → ends_at_end (quoted_by q).0 ≡ false
quoted-ends true e = cc e
quoted-ends false e = cc e

abbrev comment_by : Bool → State × Action
comment_by f = if f then (st.StartRecord, act.Skip) else (st.InComment, act.Skip)

comment-ends : (f : Bool) → is_end (comment_by f).1 ≡ true → ends_at_end (comment_by f).0 ≡ false
comment-ends true e = cc e
comment-ends false e = cc e

step-ends : (s : State) (c : ℕ) → is_end (step default_config s c).1 ≡ true → ends_at_end (step default_config s c).0 ≡ false
step-ends st.StartRecord c e = record-ends ((c == 13) || (c == 10)) (c == 34) (c == 44) ((c == 13) || (c == 10)) (c == 13) e
step-ends st.StartField c e = start-ends (c == 34) (c == 44) ((c == 13) || (c == 10)) (c == 13) e
step-ends st.InField c e = in-ends (c == 44) ((c == 13) || (c == 10)) (c == 13) e
step-ends st.InQuoted c e = quoted-ends (c == 34) e
step-ends st.AfterQuote c e = doubled-ends (c == 34) (c == 44) ((c == 13) || (c == 10)) (c == 13) e
step-ends st.InEscape c e = cc e
step-ends st.InComment c e = comment-ends (c == 10) e
step-ends st.AfterCr c e = cr-ends (c == 10) ((c == 13) || (c == 10)) (c == 34) (c == 44) ((c == 13) || (c == 10)) (c == 13) e

-- ---- a record takes a byte at least

-- a read that leaves a state before a record, and at most n bytes
abbrev Leaves : ℕ → Read → Type 0
Leaves n p = (ends_at_end p.1 ≡ false) × (length p.2 ≤ n)

at-end : (b : Bool) (fields : List (List ℕ)) (p : Read) → (if b then Some (fields, st.StartRecord, []) else None) ≡ Some p → Leaves 0 p
at-end true fields p e = subst (λ q. Leaves 0 q) (same_Some _ _ e) (refl, omega arith)
at-end false fields p e = cc e

more-bytes : (rest : List ℕ) (c : ℕ) (p : Read) → Leaves (length rest) p → Leaves (length (c ∷ rest)) p
more-bytes rest c p (before, few) = (before, omega arith)

one-byte : (b : Bool) (s : State) (fields : List (List ℕ)) (rest : List ℕ) (other : Option Read) (p : Read)
    → (b ≡ true → ends_at_end s ≡ false) → (other ≡ Some p → Leaves (length rest) p) → (if b then Some (fields, s, rest) else other) ≡ Some p → Leaves (length rest) p
one-byte true s fields rest other p ends later e = subst (λ q. Leaves (length rest) q) (same_Some _ _ e) (ends refl, omega arith)
one-byte false s fields rest other p ends later e = later e

leaves-behind : (rest : List ℕ) (s : State) (fields : List (List ℕ)) (field : List ℕ) (c : ℕ) (p : Read)
    → next_record default_config s fields field (c ∷ rest) ≡ Some p → Leaves (length rest) p
unfolding next_record
leaves-behind [] s fields field c p e =
    one-byte (is_end (step default_config s c).1) (step default_config s c).0 (fields_after (step default_config s c).1 fields field) []
    (next_record default_config (step default_config s c).0 (fields_after (step default_config s c).1 fields field) (field_after (step default_config s c).1 c field) []) p
    (step-ends s c) (λ next. at-end _ _ p next) e
leaves-behind (d ∷ more) s fields field c p e =
    one-byte (is_end (step default_config s c).1) (step default_config s c).0 (fields_after (step default_config s c).1 fields field) (d ∷ more)
    (next_record default_config (step default_config s c).0 (fields_after (step default_config s c).1 fields field) (field_after (step default_config s c).1 c field) (d ∷ more)) p
    (step-ends s c) (λ next. more-bytes more d p (leaves-behind more _ _ _ d p next)) e

pub shorter : (s : State) (xs : List ℕ) (p : Read) → ends_at_end s ≡ false → next_record default_config s [] [] xs ≡ Some p → (ends_at_end p.1 ≡ false) × (length p.2 < length xs)
unfolding next_record
shorter s [] p before e = let none = rw before at e in cc none
shorter s (c ∷ rest) p before e = let left = leaves-behind rest s [] [] c p e in (left.0, omega arith)

-- ---- as many turns as there are bytes, and one, are enough

next-alike : (n m : ℕ) (r : Option Read) → ((p : Read) → r ≡ Some p → records_from default_config n p.1 p.2 ≡ records_from default_config m p.1 p.2)
    → records_next (records_from default_config n) r ≡ records_next (records_from default_config m) r
next-alike n m None h = refl
next-alike n m (Some p) h = ap (λ (t : List (List (List ℕ))). p.0 ∷ t) (h p refl)

enough : (n m : ℕ) (s : State) (xs : List ℕ) → ends_at_end s ≡ false → length xs < n → length xs < m → records_from default_config n s xs ≡ records_from default_config m s xs
unfolding records_from
enough zero m s xs before a b = absurd (omega arith)
enough (suc n) zero s xs before a b = absurd (omega arith)
enough (suc n) (suc m) s xs before a b =
    next-alike n m (next_record default_config s [] [] xs) (λ p is. let f = shorter s xs p before is in enough n m p.1 p.2 f.0 (omega arith) (omega arith))

pub left-none : (s : State) (xs : List ℕ) → next_record default_config s [] [] xs ≡ None → records_left s xs ≡ []
unfolding records_left records_from
left-none s xs e = ap (records_next (records_from default_config (length xs))) e

pub left-more : (s : State) (xs : List ℕ) (p : Read) → ends_at_end s ≡ false → next_record default_config s [] [] xs ≡ Some p
    → records_left s xs ≡ p.0 ∷ records_left p.1 p.2
unfolding records_left records_from
left-more s xs p before e =
    let f = shorter s xs p before e in
    ap (records_next (records_from default_config (length xs))) e ∙ ap (λ (t : List (List (List ℕ))). p.0 ∷ t) (enough (length xs) (suc (length p.2)) p.1 p.2 f.0 f.1 (omega arith))

pub left-all : (xs : List ℕ) → records_left st.StartRecord xs ≡ records_from default_config (length xs + 1) st.StartRecord xs
unfolding records_left
left-all xs = enough (suc (length xs)) (length xs + 1) st.StartRecord xs refl (omega arith) (omega arith)

-- ---- what a reader has left after it read

abbrev ReadGives : State → List ℕ → Option (List ℕ) → Bool → List (List ℕ) → State → Type 0
ReadGives s xs rest found fields s2 =
    (records_left s xs ≡ (if found then fields ∷ left_of s2 rest else [])) × (found ≡ true → (ends_at_end s2 ≡ false) × IsSome rest)

read-by : (s s2 : State) (xs ys : List ℕ) (found : Bool) (fields : List (List ℕ)) (r : Option Read) → ends_at_end s ≡ false
    → next_record default_config s [] [] xs ≡ r → NextIs r found fields s2 ys → ReadGives s xs (Some ys) found fields s2
read-by s s2 xs ys found fields None before is h = rw h (left-none s xs is, λ e. cc e)
read-by s s2 xs ys found fields (Some p) before is h =
    rw (h.0, h.1, h.2, h.3) (left-more s xs p before is, λ e. ((shorter s xs p before is).0, refl))

read-known : (s s2 : State) (source rest : Option (List ℕ)) (found : Bool) (fields : List (List ℕ)) → ends_at_end s ≡ false → IsSome source
    → ReadsNext default_config s source rest found fields s2
    → (left_of s source ≡ (if found then fields ∷ left_of s2 rest else [])) × (found ≡ true → (ends_at_end s2 ≡ false) × IsSome rest)
read-known s s2 None rest found fields before known h = cc known
read-known s s2 (Some xs) None found fields before known h = absurd h
read-known s s2 (Some xs) (Some ys) found fields before known h = read-by s s2 xs ys found fields (next_record default_config s [] [] xs) before refl h

module _ {R : Type 0} (rem : R → Option (List ℕ)) (a b : Reader R) (found : Bool) (fields : List (List ℕ)) where
  source-pending : b.bom_checked ≡ true → source_of rem b ≡ pending_of (rem b.rdr) b
  source-pending checked = rw checked refl

  after-read : IsReading rem a → ReadRecord rem a b found fields
      → (left_of a.state (source_of rem a) ≡ (if found then fields ∷ left_of b.state (pending_of (rem b.rdr) b) else [])) × (found ≡ true → (ends_at_end b.state ≡ false) × IsSome (pending_of (rem b.rdr) b))
  unfolding IsReading
  after-read reading r = read-known a.state b.state (source_of rem a) (pending_of (rem b.rdr) b) found fields reading.3 reading.4 (rw reading.2 at r.0)

  pub rows-read : IsReading rem a → ReadRecord rem a b found fields → rows_left rem a ≡ (if found then fields ∷ rows_left rem b else [])
  unfolding rows_left
  rows-read reading r = rw (source-pending r.1) (after-read reading r).0

  pub reading-on : IsReading rem a → ReadRecord rem a b found fields → b.first ≡ true → found ≡ true → IsReading rem b
  unfolding IsReading
  reading-on reading r first was =
      let next = (after-read reading r).1 was in
      (r.3 ∙ reading.0, inl first, r.2 ∙ reading.2, next.0, rw (source-pending r.1) next.1)

pub ready-to-read : {R : Type 0} (rem : R → Option (List ℕ)) (a : Reader R) → IsReading rem a → (a.trim ≡ trim.None) × Ready a
unfolding IsReading
ready-to-read rem a reading = (reading.0, reading.1)
