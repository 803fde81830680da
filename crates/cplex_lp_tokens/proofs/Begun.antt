-- A line's marks are made on its first two tokens, whatever comes after them.
use Rattle.std.proofs.Common.{◌≡◌, ℕ, ◌<◌, ◌&&◌, Bool, true, false, List, [], ◌∷◌, ◌++◌, length, Option, Some, None, if◌then◌else◌, refl, sym, arith}
use Rattle.std.proofs.lemmas.List.{append-nil}
use Rattle.cplex_lp_tokens.specs.declared.token.Section.{Section}
use Rattle.cplex_lp_tokens.specs.declared.token.Section.TheVariants.{Constraints}
use Rattle.cplex_lp_tokens.specs.Tokens.{Token, is_name, is_left_out, as_section, section_of, begins_constraints, with_first_as, without_second, with_found, with_section, without_left_out, begins_later, without_comment, tokens_after, tokens_of_line}

-- tokens behind a line's first ones stay, and so does what the first one begins
abbrev StaysBehind : Bool → List Token → List Token → List Token → Type 0
StaysBehind later more first whole =
    (without_left_out later whole ≡ without_left_out later first ++ more)
    × (begins_later (without_left_out later whole) ≡ begins_later (without_left_out later first))

stays-by : (later : Bool) (t : Token) (ts more : List Token) (test : Bool) → (later && (is_name t.kind && is_left_out t.text)) ≡ test → StaysBehind later more (t ∷ ts) (t ∷ (ts ++ more))
stays-by later t ts more true e = rw e (refl, refl)
stays-by later t ts more false e = rw e (refl, refl)

stays : (later : Bool) (t : Token) (ts more : List Token) → StaysBehind later more (t ∷ ts) (t ∷ (ts ++ more))
stays later t ts more = stays-by later t ts more (later && (is_name t.kind && is_left_out t.text)) refl

marked-by : (later : Bool) (t u : Token) (ts more : List Token) (two : Bool) (found : Option Section)
    → StaysBehind later more (if two then with_first_as Constraints (without_second (t ∷ u ∷ ts)) else with_found found (t ∷ u ∷ ts)) (if two then with_first_as Constraints (without_second (t ∷ u ∷ (ts ++ more))) else with_found found (t ∷ u ∷ (ts ++ more)))
marked-by later t u ts more true found = stays later (as_section Constraints t) ts more
marked-by later t u ts more false None = stays later t (u ∷ ts) more
marked-by later t u ts more false (Some section) = stays later (as_section section t) (u ∷ ts) more

marked : (later : Bool) (first more : List Token) → (length first < 2 → more ≡ []) → StaysBehind later more (with_section first) (with_section (first ++ more))
marked later [] more all = rw (all (omega arith)) (refl, refl)
marked later (t ∷ []) more all = rw (all (omega arith)) (sym (append-nil (without_left_out later (with_section (t ∷ [])))), refl)
marked later (t ∷ u ∷ ts) more all = marked-by later t u ts more ((is_name t.kind && is_name u.kind) && begins_constraints t.text u.text) (if is_name t.kind then section_of t.text else None)

-- the first tokens of a line with their marks, then those of what is left of it
pub line-begun : (later : Bool) (line : ℕ) (text kept rest : List ℕ) (first with_words new : List Token) → kept ≡ without_comment text → tokens_after line 0 kept ≡ first ++ tokens_after line 0 rest → (length first < 2 → rest ≡ []) → with_words ≡ with_section first → new ≡ without_left_out later with_words
    → (tokens_of_line later line text ≡ new ++ tokens_after line 0 rest) × (begins_later (tokens_of_line later line text) ≡ begins_later new)
line-begun later line text kept rest first with_words new k split two w n =
    let more : List Token = tokens_after line 0 rest in
    let none : length first < 2 → more ≡ [] = λ h. rw (two h) refl in
    let m : StaysBehind later more (with_section first) (with_section (first ++ more)) = marked later first more none in
    rw (← k, split, n, w) m
