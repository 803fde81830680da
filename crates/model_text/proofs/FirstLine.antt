-- The first line of a text, and the lines of what comes after it.
use Rattle.std.proofs.Common.{◌≡◌, ◌∙◌, ℕ, ◌+◌, ◌<◌, ◌≤◌, ◌==◌, Bool, true, false, List, [], ◌∷◌, length, take, drop, Some, None, refl, sym, ap, arith}
use Rattle.std.proofs.lemmas.Bool.Decides.{nat_tests}
use Rattle.std.proofs.lemmas.List.Splits.{slice_split_first, length-slice_split}
use Rattle.std.specs.List.{slice_split, onto_first, position, position_or_len, before_first, after_first}
use Rattle.std.specs.Str.Lines.{lines_of_parts, strip_carriage_return}
use Rattle.model_text.specs.Lines.{lines_of}
use Rattle.model_text.proofs.Laws.{place-some, place-none}

abbrev is_feed : ℕ → Bool
is_feed b = b == 10

abbrev pieces : List ℕ → List (List ℕ)
pieces text = slice_split is_feed text

-- a piece before others is a line
before-others : (piece : List ℕ) (others : List (List ℕ)) → 0 < length others → lines_of_parts (piece ∷ others) ≡ strip_carriage_return piece ∷ lines_of_parts others
before-others piece [] h = absurd (omega arith)
before-others piece (other ∷ others) h = refl

pub first-of-some : (text line rest : List ℕ) (place : ℕ) → Some place ≡ position (λ b. b == 10) text → line ≡ strip_carriage_return (take place text) → rest ≡ drop (place + 1) text → lines_of text ≡ line ∷ lines_of rest
first-of-some text line rest place at l r =
    let p = place-some is_feed text place (sym at) in
    let within : position_or_len is_feed text < length text = omega (arith, p.0, p.1) in
    let some : 0 < length (pieces (after_first is_feed text)) = omega (arith, length-slice_split is_feed (after_first is_feed text)) in
    let here : lines_of text ≡ strip_carriage_return (before_first is_feed text) ∷ lines_of (after_first is_feed text) =
    ap lines_of_parts (slice_split_first is_feed text 0 within) ∙ before-others (before_first is_feed text) (pieces (after_first is_feed text)) some in
    let same : strip_carriage_return (take (position_or_len is_feed text) text) ∷ lines_of (drop (position_or_len is_feed text + 1) text) ≡ line ∷ lines_of rest = rw (p.0, l, r) refl in
    here ∙ same

-- without a line feed a text is one piece
whole-by : (b : ℕ) (bs : List ℕ) (test : Bool) → is_feed b ≡ test → (length bs ≤ position_or_len is_feed bs → pieces bs ≡ bs ∷ []) → length (b ∷ bs) ≤ position_or_len is_feed (b ∷ bs) → pieces (b ∷ bs) ≡ (b ∷ bs) ∷ []
whole-by b bs true e more h = let t : position_or_len is_feed (b ∷ bs) ≡ 0 = rw e refl in absurd (omega arith)
whole-by b bs false e more h =
    let t : position_or_len is_feed (b ∷ bs) ≡ 1 + position_or_len is_feed bs = rw e refl in
    let one : pieces (b ∷ bs) ≡ onto_first b (pieces bs) = rw e refl in
    one ∙ ap (onto_first b) (more (omega arith))

whole : (text : List ℕ) → length text ≤ position_or_len is_feed text → pieces text ≡ text ∷ []
whole [] h = refl
whole (b ∷ bs) h = whole-by b bs (is_feed b) refl (whole bs) h

one-line : (text : List ℕ) → 0 < length text → lines_of_parts (text ∷ []) ≡ text ∷ []
one-line text h = let some : (length text == 0) ≡ false = grind (arith, nat_tests) in rw some refl

nothing-after : (text : List ℕ) → drop (length text) text ≡ []
nothing-after [] = refl
nothing-after (b ∷ bs) = nothing-after bs

pub first-of-none : (text rest : List ℕ) → position (λ b. b == 10) text ≡ None → 0 < length text → rest ≡ drop (length text) text → lines_of text ≡ text ∷ lines_of rest
first-of-none text rest at some r =
    let end : rest ≡ [] = r ∙ nothing-after text in
    ap lines_of_parts (whole text (place-none is_feed text at)) ∙ one-line text some ∙ (rw end refl)
