-- Strings with each quote twice, up to the first quote and behind it.
use Rattle.std.proofs.Common.{◌≡◌, ◌<◌, ◌+◌, ◌∙◌, ℕ, suc, Bool, true, false, not, List, [], ◌∷◌, ◌++◌, length, refl, sym, ap, arith, take, drop, append_assoc}
use Rattle.std.proofs.lemmas.Bool.Decides.{nat_tests}
use Rattle.std.specs.Prelude.{◌==◌, Result, Ok, Err, OnOk, if◌then◌else◌}
use Rattle.std.specs.Result.{is_ok}
use Rattle.std.specs.List.{position_or_len, before_first, after_first}
use Rattle.gmpl_member_names.specs.Names.{doubled}

abbrev at_quote : ℕ → Bool
at_quote b = b == 39

abbrev place_in : List ℕ → ℕ
place_in = position_or_len at_quote

-- without a quote it stays
pub nothing_doubled : (s : List ℕ) → place_in s ≡ length s → doubled s ≡ s
nothing_doubled [] h = refl
nothing_doubled (c ∷ cs) h = by (c == 39) h (λ e. nothing_doubled cs e)
  where
    by : (b : Bool) → (if not b then 1 + place_in cs else 0) ≡ suc (length cs) → (place_in cs ≡ length cs → doubled cs ≡ cs) → (if b then c ∷ c ∷ doubled cs else c ∷ doubled cs) ≡ c ∷ cs
    by true e rest = absurd (omega arith)
    by false e rest = ap (λ l. c ∷ l) (rest (omega arith))

pub doubled_at : (s : List ℕ) → place_in s < length s → doubled s ≡ take (place_in s) s ++ (39 ∷ 39 ∷ doubled (drop (place_in s + 1) s))
doubled_at [] h = absurd (omega arith)
doubled_at (c ∷ cs) h = by (c == 39) refl h (λ e. doubled_at cs e)
  where
    by : (b : Bool) → (c == 39) ≡ b → (if not b then 1 + place_in cs else 0) < suc (length cs) → (place_in cs < length cs → doubled cs ≡ take (place_in cs) cs ++ (39 ∷ 39 ∷ doubled (drop (place_in cs + 1) cs)))
        → (if b then c ∷ c ∷ doubled cs else c ∷ doubled cs) ≡ take (if not b then 1 + place_in cs else 0) (c ∷ cs) ++ (39 ∷ 39 ∷ doubled (drop ((if not b then 1 + place_in cs else 0) + 1) (c ∷ cs)))
    by true is e rest = let here : c ≡ 39 = grind (arith, nat_tests) in ap (λ x. x ∷ x ∷ doubled cs) here
    by false is e rest =
        let place = place_in cs in
        let at : suc place ≡ 1 + place = omega arith in
        let past : suc (place + 1) ≡ 1 + place + 1 = omega arith in
        ap (λ l. c ∷ l) (rest (omega arith)) ∙ (λ j. take (at j) (c ∷ cs) ++ (39 ∷ 39 ∷ doubled (drop (past j) (c ∷ cs))))

-- a part up to a quote is written, and then the quote twice
pub part_doubled : (m more made rest before after whole : List ℕ) → m ++ doubled rest ≡ whole → place_in rest < length rest → before ≡ before_first at_quote rest → after ≡ after_first at_quote rest
    → more ≡ m ++ before → made ≡ more ++ 39 ∷ 39 ∷ [] → made ++ doubled after ≡ whole
part_doubled m more made rest before after whole is within front back e f =
    rw (f, e, front, back) (append_assoc (m ++ before_first at_quote rest) (39 ∷ 39 ∷ []) (doubled (after_first at_quote rest))
    ∙ append_assoc m (before_first at_quote rest) (39 ∷ 39 ∷ doubled (after_first at_quote rest)) ∙ ap (λ l. m ++ l) (sym (doubled_at rest within)) ∙ is)

-- the last part has no quote
pub last_doubled : {A E : Type 0} (r : Result A E) (m made rest whole : List ℕ) → m ++ doubled rest ≡ whole → place_in rest ≡ length rest → made ≡ (if is_ok r then m ++ rest else m) → OnOk r (made ≡ whole)
last_doubled (Ok a) m made rest whole is none e = e ∙ ap (λ l. m ++ l) (sym (nothing_doubled rest none)) ∙ is
last_doubled (Err f) m made rest whole is none e = tt
