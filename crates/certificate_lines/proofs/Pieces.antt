-- The pieces of a text between line feeds.
use Rattle.std.proofs.Common.{◌≡◌, ◌∙◌, ℕ, suc, ◌+◌, ◌≤◌, ◌<◌, List, [], ◌∷◌, length, get_or, take, drop, Bool, true, false, refl, sym, ap, arith, if◌then◌else◌, ◌==◌}
use Rattle.std.proofs.Math.Dec.{eqb-suc-zero}
use Rattle.std.specs.List.{slice_split, onto_first, position_or_len}
use Rattle.std.proofs.lemmas.List.Sums.{position_or_len_is}
use Rattle.std.proofs.lemmas.List.Splits.{slice_split_first}
use Rattle.certificate_lines.specs.Lines.{Rest, is_feed, is_nil, is_over, pieces_left, next_of, next_from, line_of}
use Rattle.std.proofs.Common.{Ok}

pub pieces_at : (bytes : List ℕ) (i : ℕ) → i < length bytes → ((k : ℕ) → k < i → is_feed (get_or bytes k 0) ≡ false) → is_feed (get_or bytes i 0) ≡ true → slice_split is_feed bytes ≡ take i bytes ∷ slice_split is_feed (drop (i + 1) bytes)
pieces_at bytes i lt before at =
    let place : position_or_len is_feed bytes ≡ i = position_or_len_is is_feed bytes i 0 (omega arith) before (λ h. at) in
    let first = slice_split_first is_feed bytes 0 (rw place lt) in
    first ∙ ap (λ (n : ℕ). take n bytes ∷ slice_split is_feed (drop (n + 1) bytes)) place

pub pieces_none : (bytes : List ℕ) (i : ℕ) → length bytes ≤ i → ((k : ℕ) → k < i → is_feed (get_or bytes k 0) ≡ false) → slice_split is_feed bytes ≡ bytes ∷ []
pieces_none [] i le none = refl
pieces_none (c ∷ cs) i le none =
    let here : is_feed c ≡ false = none 0 (omega arith) in
    let rest = pieces_none cs (length cs) (omega arith) (λ k lt. none (suc k) (omega arith)) in
    rw (here, rest) refl

pub pieces_some : (bytes : List ℕ) → is_nil (slice_split is_feed bytes) ≡ false
pieces_some [] = refl
pieces_some (c ∷ cs) = by_test (is_feed c) (slice_split is_feed cs)
  where
    by_test : (b : Bool) (parts : List (List ℕ)) → is_nil (if b then [] ∷ parts else onto_first c parts) ≡ false
    by_test true parts = refl
    by_test false [] = refl
    by_test false (p ∷ ps) = refl

pub is_over-pieces : (bytes : List ℕ) → is_over (slice_split is_feed bytes) ≡ is_nil bytes
is_over-pieces [] = refl
is_over-pieces (c ∷ cs) = by_test (is_feed c) (slice_split is_feed cs) (pieces_some cs)
  where
    by_test : (b : Bool) (parts : List (List ℕ)) → is_nil parts ≡ false → is_over (if b then [] ∷ parts else onto_first c parts) ≡ false
    by_test true parts some = some
    by_test false [] some = refl
    by_test false (p ∷ ps) some = refl

pub nil-length : (bytes : List ℕ) → is_nil bytes ≡ (length bytes == 0)
nil-length [] = refl
nil-length (c ∷ cs) = sym (eqb-suc-zero (length cs))

pub over_is : (start : Rest) (n : ℕ) (more : Bool) (bytes : List ℕ) → record { line = n; pieces = pieces_left more bytes } ≡ start → more ≡ true → is_nil bytes ≡ is_over start.pieces
over_is start n true bytes view is = sym (is_over-pieces bytes) ∙ ap (λ (r : Rest). is_over r.pieces) view
over_is start n false bytes view is = absurd cc

pub line_some : (n : ℕ) (text : List ℕ) (pieces : List (List ℕ)) → is_nil pieces ≡ false → line_of n text pieces ≡ Ok (record { number = n; text = text; feed = true })
line_some n text [] some = absurd cc
line_some n [] (p ∷ ps) some = refl
line_some n (c ∷ cs) (p ∷ ps) some = refl

pub next_some : (start : Rest) (n : ℕ) (more : Bool) (bytes text rest : List ℕ) → record { line = n; pieces = pieces_left more bytes } ≡ start → more ≡ true → slice_split is_feed bytes ≡ text ∷ slice_split is_feed rest
    → next_of start ≡ Ok (record { number = n; text = text; feed = true }, record { line = n + 1; pieces = pieces_left more rest })
next_some start n true bytes text rest view is parts =
    ap next_of (sym view) ∙ ap (next_from n) parts ∙ rw (line_some n text (slice_split is_feed rest) (pieces_some rest)) refl
next_some start n false bytes text rest view is parts = absurd cc
