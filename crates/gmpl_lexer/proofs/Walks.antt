-- Lengths, step by step from the left.
use Rattle.std.proofs.Common.{zero, suc, ◌≡◌, ℕ, ◌+◌, ◌-◌, ◌<◌, ◌≤◌, Bool, true, false, List, [], ◌∷◌, length, drop, refl, ap, ◌∙◌, arith, if◌then◌else◌, ◌==◌, ◌||◌}
use Rattle.std.proofs.lemmas.List.{length-drop}
use Rattle.std.proofs.lemmas.Bool.Decides.{nat_tests}
use Rattle.gmpl_lexer.specs.Strings.{string_length, closes_comment, comment_length}
use Rattle.gmpl_lexer.specs.Steps.{string_step}

pub comment-next : (text : List ℕ) (n : ℕ) → n < length text → closes_comment (drop n text) ≡ false → comment_length (drop n text) ≡ 1 + comment_length (drop (n + 1) text)
comment-next [] n h isnt = absurd (omega arith)
comment-next (b ∷ bs) zero h isnt = rw isnt refl
comment-next (b ∷ bs) (suc n) h isnt = let e : suc n + 1 ≡ suc (n + 1) = omega arith in rw e (comment-next bs n (omega arith) isnt)

two : (quote b c : ℕ) (x y z : Bool) (bs : List ℕ) → (s : ℕ) → s ≡ (if x then 0 else if y then (if z then 2 else 0) else 1)
    → (if x then 0 else if y then (if z then 2 + string_length quote bs else 0) else 1 + string_length quote (c ∷ bs)) ≡ (if s == 0 then 0 else s + string_length quote (drop s (b ∷ c ∷ bs)))
two quote b c true y z bs s is = rw is refl
two quote b c false true true bs s is = rw is refl
two quote b c false true false bs s is = rw is refl
two quote b c false false z bs s is = rw is refl

one : (quote b : ℕ) (x : Bool) (s : ℕ) → s ≡ (if x then 0 else 1) → (if x then 0 else 1) ≡ (if s == 0 then 0 else s + string_length quote (drop s (b ∷ [])))
one quote b true s is = rw is refl
one quote b false s is = rw is refl

pub string-step : (quote : ℕ) (text : List ℕ) (s : ℕ) → s ≡ string_step quote text → string_length quote text ≡ (if s == 0 then 0 else s + string_length quote (drop s text))
string-step quote [] s is = rw is refl
string-step quote (b ∷ []) s is = one quote b ((b == quote) || (b == 10)) s is
string-step quote (b ∷ c ∷ bs) s is = two quote b c (b == 10) (b == quote) (c == quote) bs s is

pub drop-drop : {X : Type 0} (m n : ℕ) (xs : List X) → drop n (drop m xs) ≡ drop (m + n) xs
drop-drop zero n xs = let e : 0 + n ≡ n = omega arith in rw e refl
drop-drop (suc m) zero [] = let e : suc m + 0 ≡ suc m = omega arith in rw e refl
drop-drop (suc m) (suc n) [] = let e : suc m + suc n ≡ suc (m + suc n) = omega arith in rw e refl
drop-drop (suc m) n (x ∷ xs) = let e : suc m + n ≡ suc (m + n) = omega arith in rw e (drop-drop m n xs)

is_some : (s : ℕ) → (s ≡ 0 → ⊥) → (s == 0) ≡ false
is_some s h = grind (arith, nat_tests)

chosen : (s x : ℕ) → (s ≡ 0 → ⊥) → (if s == 0 then 0 else x) ≡ x
chosen s x h = rw (is_some s h) refl

-- a step that is not 0 is passed
pub string-next : (quote : ℕ) (text : List ℕ) (n s whole : ℕ) → s ≡ string_step quote (drop n text) → (s ≡ 0 → ⊥) → whole ≡ n + string_length quote (drop n text) → whole ≡ n + s + string_length quote (drop (n + s) text)
string-next quote text n s whole is some e =
    let one = string-step quote (drop n text) s is ∙ chosen s (s + string_length quote (drop s (drop n text))) some in
    let there : string_length quote (drop s (drop n text)) ≡ string_length quote (drop (n + s) text) = ap (string_length quote) (drop-drop n s text) in
    omega (arith, one, there, e)

pub string-ends : (quote : ℕ) (text : List ℕ) (n s whole : ℕ) → s ≡ string_step quote (drop n text) → s ≡ 0 → whole ≡ n + string_length quote (drop n text) → n ≡ whole
string-ends quote text n s whole is none e =
    let one = string-step quote (drop n text) s is in
    let here : string_length quote (drop n text) ≡ 0 = one ∙ (rw none refl) in
    omega (arith, here, e)

pub comment-passed : (text : List ℕ) (n whole : ℕ) → n < length text → closes_comment (drop n text) ≡ false → whole ≡ n + comment_length (drop n text) → whole ≡ n + 1 + comment_length (drop (n + 1) text)
comment-passed text n whole h isnt e = let one = comment-next text n h isnt in omega (arith, one, e)

-- what lies within the rest lies within the whole
pub within : (text rest : List ℕ) (n s : ℕ) → rest ≡ drop n text → s ≤ length rest → n ≤ length text → n + s ≤ length text
within text rest n s is h k = let l : length rest ≡ length text - n = (rw is (length-drop n text)) in omega (arith, l)
