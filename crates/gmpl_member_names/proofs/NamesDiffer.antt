-- Names of different members differ.
use Rattle.std.proofs.Common.{◌≡◌, ◌∙◌, ℕ, Bool, true, false, ◌||◌, List, [], ◌∷◌, ◌++◌, append-nil, append_assoc, refl, sym, ap, subst, arith}
use Rattle.std.specs.Prelude.{◌==◌, if◌then◌else◌}
use Rattle.std.specs.List.{list_all}
use Rattle.std.proofs.lemmas.Bool.{and_parts, and_from}
use Rattle.std.proofs.lemmas.Bool.Decides.{nat_tests}
use Rattle.rational.specs.Rational.{Rational}
use Rattle.fraction.specs.Text.{text_of}
use Rattle.gmpl_value.specs.declared.symbol.Symbol.{Symbol}
use Rattle.gmpl_value.specs.declared.symbol.Symbol.TheVariants.{Number, Word}
use Rattle.gmpl_member_names.specs.Names.{begins_bare, doubled, further, goes_on_bare, is_bare, is_name_byte, is_quote, member_name, quoted, symbol_text, word_text}
use Rattle.gmpl_member_names.specs.Narrow.{AreNarrow, IsNarrow}
use Rattle.gmpl_member_names.proofs.Split.{Stops, Starts, apart, same_front}
use Rattle.gmpl_member_names.proofs.NumberTexts.{is_number_byte, is_whole_byte, number_text, same_number}

-- bytes of a text without quotes
abbrev is_plain : ℕ → Bool
is_plain c = goes_on_bare c || (c == 47)

number-plain : (c : ℕ) → is_number_byte c ≡ true → is_plain c ≡ true
number-plain c h = grind (arith, nat_tests)

begins-plain : (c : ℕ) → begins_bare c ≡ true → is_plain c ≡ true
begins-plain c h = grind (arith, nat_tests)

whole-begins : (c : ℕ) → is_whole_byte c ≡ true → begins_bare c ≡ false
whole-begins c h = grind (arith, nat_tests)

whole-quote : (c : ℕ) → is_whole_byte c ≡ true → is_quote c ≡ false
whole-quote c h = grind (arith, nat_tests)

begins-quote : (c : ℕ) → begins_bare c ≡ true → is_quote c ≡ false
begins-quote c h = grind (arith, nat_tests)

or_left : (x y : Bool) → x ≡ true → (x || y) ≡ true
or_left true y h = refl
or_left false y h = absurd cc

all_of : (p q : ℕ → Bool) → ((c : ℕ) → p c ≡ true → q c ≡ true) → (s : List ℕ) → list_all p s ≡ true → list_all q s ≡ true
all_of p q h [] all = refl
all_of p q h (c ∷ cs) all =
    let parts = and_parts (p c) (list_all p cs) all in
    and_from (q c) (list_all q cs) (h c parts.0) (all_of p q h cs parts.1)

bare_plain : (s : List ℕ) → is_bare s ≡ true → list_all is_plain s ≡ true
bare_plain [] h = absurd cc
bare_plain (c ∷ cs) h =
    let parts = and_parts (begins_bare c) (list_all goes_on_bare cs) h in
    and_from (is_plain c) (list_all is_plain cs) (begins-plain c parts.0) (all_of goes_on_bare is_plain (λ d g. or_left (goes_on_bare d) (d == 47) g) cs parts.1)

bare_starts : (s : List ℕ) → is_bare s ≡ true → Starts begins_bare s
bare_starts [] h = absurd cc
bare_starts (c ∷ cs) h = (and_parts (begins_bare c) (list_all goes_on_bare cs) h).0

quoted_starts : (s : List ℕ) → Starts is_quote (quoted s)
quoted_starts s = refl

not_quote : (u v : List ℕ) → u ≡ 39 ∷ v → Stops is_quote u → ⊥
not_quote u v is stops = let fails : Stops is_quote (39 ∷ v) = subst (Stops is_quote) is stops in cc

-- strings in quotes end at the first quote that isn't twice
same_quoted : (s t u v : List ℕ) → Stops is_quote u → Stops is_quote v → doubled s ++ (39 ∷ u) ≡ doubled t ++ (39 ∷ v) → (s ≡ t) × (u ≡ v)
same_quoted [] [] u v su sv e = (refl, cc)
same_quoted [] (d ∷ t) u v su sv e = absurd (by (d == 39) refl e)
  where
    by : (b : Bool) → (d == 39) ≡ b → 39 ∷ u ≡ (if b then d ∷ d ∷ doubled t else d ∷ doubled t) ++ (39 ∷ v) → ⊥
    by true is e = let here : d ≡ 39 = grind (arith, nat_tests) in let next : u ≡ d ∷ (doubled t ++ (39 ∷ v)) = cc in not_quote u (doubled t ++ (39 ∷ v)) (next ∙ ap (λ x. x ∷ (doubled t ++ (39 ∷ v))) here) su
    by false is e = let here : 39 ≡ d = cc in let yes_it_is : (d == 39) ≡ true = grind (arith, nat_tests) in cc
same_quoted (c ∷ s) [] u v su sv e = absurd (by (c == 39) refl (sym e))
  where
    by : (b : Bool) → (c == 39) ≡ b → 39 ∷ v ≡ (if b then c ∷ c ∷ doubled s else c ∷ doubled s) ++ (39 ∷ u) → ⊥
    by true is e = let here : c ≡ 39 = grind (arith, nat_tests) in let next : v ≡ c ∷ (doubled s ++ (39 ∷ u)) = cc in not_quote v (doubled s ++ (39 ∷ u)) (next ∙ ap (λ x. x ∷ (doubled s ++ (39 ∷ u))) here) sv
    by false is e = let here : 39 ≡ c = cc in let yes_it_is : (c == 39) ≡ true = grind (arith, nat_tests) in cc
same_quoted (c ∷ s) (d ∷ t) u v su sv e = by (c == 39) (d == 39) refl refl e (same_quoted s t u v su sv)
  where
    by : (a b : Bool) → (c == 39) ≡ a → (d == 39) ≡ b → (if a then c ∷ c ∷ doubled s else c ∷ doubled s) ++ (39 ∷ u) ≡ (if b then d ∷ d ∷ doubled t else d ∷ doubled t) ++ (39 ∷ v)
        → (doubled s ++ (39 ∷ u) ≡ doubled t ++ (39 ∷ v) → (s ≡ t) × (u ≡ v)) → (c ∷ s ≡ d ∷ t) × (u ≡ v)
    by true true p q e rest =
        let first : c ≡ d = cc in
        let same = rest cc in
        ((λ j. first j ∷ same.0 j), same.1)
    by true false p q e rest = let first : c ≡ d = cc in let also : (c == 39) ≡ (d == 39) = ap (λ x. x == 39) first in absurd cc
    by false true p q e rest = let first : c ≡ d = cc in let also : (c == 39) ≡ (d == 39) = ap (λ x. x == 39) first in absurd cc
    by false false p q e rest =
        let first : c ≡ d = cc in
        let same = rest cc in
        ((λ j. first j ∷ same.0 j), same.1)

-- what may stand behind a symbol's text
record Ends (u : List ℕ) : Type 0 where
  plain : Stops is_plain u
  quote : Stops is_quote u

further_ends : (ss : List Symbol) → Ends (further ss)
further_ends [] = record { plain = refl; quote = refl }
further_ends (s ∷ ss) = record { plain = refl; quote = refl }

same_words : (s t u v : List ℕ) → Ends u → Ends v → word_text s ++ u ≡ word_text t ++ v → (s ≡ t) × (u ≡ v)
same_words s t u v eu ev e = by (is_bare s) (is_bare t) refl refl e
  where
    by : (a b : Bool) → is_bare s ≡ a → is_bare t ≡ b → (if a then s else quoted s) ++ u ≡ (if b then t else quoted t) ++ v → (s ≡ t) × (u ≡ v)
    by true true p q e = same_front is_plain s t u v (bare_plain s p) (bare_plain t q) eu.plain ev.plain e
    by true false p q e = absurd (apart begins_bare is_quote s (quoted t) u v begins-quote (bare_starts s p) (quoted_starts t) e)
    by false true p q e = absurd (apart begins_bare is_quote t (quoted s) v u begins-quote (bare_starts t q) (quoted_starts s) (sym e))
    by false false p q e =
        let inner : (doubled s ++ (39 ∷ [])) ++ u ≡ (doubled t ++ (39 ∷ [])) ++ v = cc in
        same_quoted s t u v eu.quote ev.quote (sym (append_assoc (doubled s) (39 ∷ []) u) ∙ inner ∙ append_assoc (doubled t) (39 ∷ []) v)

number_word : (q : Rational) (t u v : List ℕ) → Starts is_whole_byte (text_of q) → text_of q ++ u ≡ word_text t ++ v → ⊥
number_word q t u v starts e = by (is_bare t) refl e
  where
    by : (b : Bool) → is_bare t ≡ b → text_of q ++ u ≡ (if b then t else quoted t) ++ v → ⊥
    by true p e = apart is_whole_byte begins_bare (text_of q) t u v whole-begins starts (bare_starts t p) e
    by false p e = apart is_whole_byte is_quote (text_of q) (quoted t) u v whole-quote starts (quoted_starts t) e

same_symbol : (s t : Symbol) (u v : List ℕ) → IsNarrow s → IsNarrow t → Ends u → Ends v → symbol_text s ++ u ≡ symbol_text t ++ v → (s ≡ t) × (u ≡ v)
same_symbol (Number q) (Number r) u v ns nt eu ev e =
    let qt = number_text q ns.0 ns.1 in
    let rt = number_text r nt.0 nt.1 in
    let parts = same_front is_plain (text_of q) (text_of r) u v (all_of is_number_byte is_plain number-plain (text_of q) qt.all) (all_of is_number_byte is_plain number-plain (text_of r) rt.all) eu.plain ev.plain e in
    (ap Number (same_number q r ns.0 ns.1 nt.0 nt.1 parts.0), parts.1)
same_symbol (Number q) (Word t) u v ns nt eu ev e = absurd (number_word q t u v (number_text q ns.0 ns.1).starts e)
same_symbol (Word s) (Number r) u v ns nt eu ev e = absurd (number_word r s v u (number_text r nt.0 nt.1).starts (sym e))
same_symbol (Word s) (Word t) u v ns nt eu ev e = let parts = same_words s t u v eu ev e in (ap Word parts.0, parts.1)

no_more : (u : List ℕ) → 93 ∷ [] ≡ 44 ∷ u → ⊥
no_more u e = absurd cc

rest_of : (c : ℕ) (u v : List ℕ) → c ∷ u ≡ c ∷ v → u ≡ v
rest_of c u v e = cc

nothing_more : (c : ℕ) (u : List ℕ) → [] ≡ c ∷ u → ⊥
nothing_more c u e = absurd cc

same_further : (s t : List Symbol) → AreNarrow s → AreNarrow t → further s ≡ further t → s ≡ t
same_further [] [] ns nt e = refl
same_further [] (t ∷ ts) ns nt e = absurd (no_more (symbol_text t ++ further ts) e)
same_further (s ∷ ss) [] ns nt e = absurd (no_more (symbol_text s ++ further ss) (sym e))
same_further (s ∷ ss) (t ∷ ts) ns nt e =
    let rest : symbol_text s ++ further ss ≡ symbol_text t ++ further ts = rest_of 44 (symbol_text s ++ further ss) (symbol_text t ++ further ts) e in
    let parts = same_symbol s t (further ss) (further ts) ns.0 nt.0 (further_ends ss) (further_ends ts) rest in
    let more = same_further ss ts ns.1 nt.1 parts.1 in
    λ j. parts.0 j ∷ more j

bracket_stops : (u : List ℕ) → Stops is_name_byte (91 ∷ u)
bracket_stops u = refl

nothing_stops : Stops is_name_byte []
nothing_stops = tt

pub same_member : (m n : List ℕ) (s t : List Symbol) → list_all is_name_byte m ≡ true → list_all is_name_byte n ≡ true → AreNarrow s → AreNarrow t
    → member_name m s ≡ member_name n t → (m ≡ n) × (s ≡ t)
same_member m n [] [] hm hn ns nt e = (e, refl)
same_member m n [] (t ∷ ts) hm hn ns nt e =
    let rest = 91 ∷ (symbol_text t ++ further ts) in
    let parts = same_front is_name_byte m n [] rest hm hn nothing_stops (bracket_stops (symbol_text t ++ further ts)) (append-nil m ∙ e) in
    absurd (nothing_more 91 (symbol_text t ++ further ts) parts.1)
same_member m n (s ∷ ss) [] hm hn ns nt e =
    let rest = 91 ∷ (symbol_text s ++ further ss) in
    let parts = same_front is_name_byte m n rest [] hm hn (bracket_stops (symbol_text s ++ further ss)) nothing_stops (e ∙ sym (append-nil n)) in
    absurd (nothing_more 91 (symbol_text s ++ further ss) (sym parts.1))
same_member m n (s ∷ ss) (t ∷ ts) hm hn ns nt e =
    let parts = same_front is_name_byte m n (91 ∷ (symbol_text s ++ further ss)) (91 ∷ (symbol_text t ++ further ts)) hm hn (bracket_stops (symbol_text s ++ further ss)) (bracket_stops (symbol_text t ++ further ts)) e in
    let inside = rest_of 91 (symbol_text s ++ further ss) (symbol_text t ++ further ts) parts.1 in
    let first = same_symbol s t (further ss) (further ts) ns.0 nt.0 (further_ends ss) (further_ends ts) inside in
    let more = same_further ss ts ns.1 nt.1 first.1 in
    (parts.0, (λ j. first.0 j ∷ more j))
