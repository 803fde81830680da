-- The splits on the ways to places, by their links.
use Rattle.std.proofs.Common.{◌≡◌, ◌∙◌, ℕ, zero, suc, ◌+◌, ◌-◌, ◌<◌, ◌≤◌, List, [], ◌∷◌, ◌++◌, get_or, length, length-append, reverse, refl, sym, ap, subst, append_assoc, arith}
use Rattle.std.proofs.lemmas.List.{get_or_append_left, get_or_at, reverse-append}
use Rattle.verdicts.specs.Certificate.{Split}
use Rattle.certificate.specs.declared.split.Side.TheVariants.{Low, High}
use Rattle.search_node.specs.declared.node.SplitTaken.{SplitTaken}
use Rattle.tree_pool.specs.declared.paths.Link.{Link}
use Rattle.tree_pool.specs.Paths.{path_at, next_path, paths_from, paths_of, AreAbove}

pub one_more : (paths : List (List SplitTaken)) (links : List Link) (k : Link) → paths_from paths (links ++ k ∷ []) ≡ paths_from paths links ++ next_path (paths_from paths links) k ∷ []
one_more paths [] k = refl
one_more paths (l ∷ links) k = one_more (paths ++ next_path paths l ∷ []) links k

pub many : (paths : List (List SplitTaken)) (links : List Link) → length (paths_from paths links) ≡ length paths + length links
many paths [] = omega arith
many paths (l ∷ links) = let more = many (paths ++ next_path paths l ∷ []) links in let one = length-append paths (next_path paths l ∷ []) in omega arith

pub above_more : (n : ℕ) (links : List Link) (k : Link) → AreAbove n links → k.above < n + length links → AreAbove n (links ++ k ∷ [])
above_more n [] k h less = ((omega arith), tt)
above_more n (l ∷ links) k h less = (h.0, above_more (suc n) links k h.1 (omega arith))

stays : (paths : List (List SplitTaken)) (links : List Link) (p : ℕ) → p < length paths → path_at (paths_from paths links) p ≡ path_at paths p
stays paths [] p less = refl
stays paths (l ∷ links) p less =
    let one = length-append paths (next_path paths l ∷ []) in
    stays (paths ++ next_path paths l ∷ []) links p (omega arith) ∙ get_or_append_left paths (next_path paths l ∷ []) [] p less

pub root_path : (links : List Link) → path_at (paths_of links) 0 ≡ []
root_path links = stays ([] ∷ []) links 0 (omega arith)

record IsLinked (whole : List (List SplitTaken)) (p : ℕ) (k : Link) : Type 0 where
  pub before : k.above < p
  pub is_path : path_at whole p ≡ path_at whole k.above ++ k.taken ∷ []

linked : (n : ℕ) (paths : List (List SplitTaken)) (links : List Link) (j : ℕ) (k : Link) → length paths ≡ n → j < length links → k ≡ get_or links j k → AreAbove n links → IsLinked (paths_from paths links) (n + j) k
linked n paths [] j k e less is h = absurd (omega arith)
linked n paths (l ∷ links) zero k e less is h =
    let one = length-append paths (next_path paths l ∷ []) in
    let whole = paths_from (paths ++ next_path paths l ∷ []) links in
    let here : n + 0 ≡ length paths = omega arith in
    let before : k.above < n = subst (λ (x : Link). x.above < n) (sym is) h.0 in
    let old : path_at whole k.above ≡ path_at paths k.above = stays (paths ++ next_path paths l ∷ []) links k.above (omega arith) ∙ get_or_append_left paths (next_path paths l ∷ []) [] k.above (omega arith) in
    record {
      before = omega arith;
      is_path = ap (path_at whole) here ∙ stays (paths ++ next_path paths l ∷ []) links (length paths) (omega arith) ∙ get_or_at paths (next_path paths l) [] [] (length paths) refl
          ∙ ap (next_path paths) (sym is) ∙ ap (λ path. path ++ k.taken ∷ []) (sym old);
    }
linked n paths (l ∷ links) (suc j) k e less is h =
    let one = length-append paths (next_path paths l ∷ []) in
    let more = linked (suc n) (paths ++ next_path paths l ∷ []) links j k (omega arith) (omega arith) is h.1 in
    subst (λ p. IsLinked (paths_from (paths ++ next_path paths l ∷ []) links) p k) (next n j) more
  where
    next : (n j : ℕ) → suc n + j ≡ n + suc j
    next n j = omega arith

-- one link further up
pub step_up : (links : List Link) (at : ℕ) (k : Link) (done news whole : List SplitTaken) → 0 < at → at ≤ length links → k ≡ get_or links (at - 1) k → AreAbove 1 links → news ≡ done ++ k.taken ∷ []
    → path_at (paths_of links) at ++ reverse done ≡ whole → (k.above < at) × (path_at (paths_of links) k.above ++ reverse news ≡ whole)
step_up links at k done news whole pos within is above are_news h =
    let link = linked 1 ([] ∷ []) links (at - 1) k refl (omega arith) is above in
    let here : 1 + (at - 1) ≡ at = omega arith in
    let P : ℕ → Type 0 = λ n. IsLinked (paths_of links) n k in
    let there = subst P here link in (
      there.before,
      ap (λ taken. path_at (paths_of links) k.above ++ taken) (ap reverse are_news ∙ reverse-append done (k.taken ∷ []))
          ∙ sym (append_assoc (path_at (paths_of links) k.above) (k.taken ∷ []) (reverse done)) ∙ ap (λ path. path ++ reverse done) (sym there.is_path) ∙ h,
    )

pub at_end : (links : List Link) (at : ℕ) (rest whole : List SplitTaken) → at ≤ 0 → path_at (paths_of links) at ++ rest ≡ whole → rest ≡ whole
at_end links zero rest whole less h = ap (λ path. path ++ rest) (sym (root_path links)) ∙ h
at_end links (suc at) rest whole less h = absurd (omega arith)

-- the sides of a split at a place, behind all others
pub forked : (links more : List Link) (a b : Link) (place : ℕ) (s : Split) → more ≡ (links ++ a ∷ []) ++ b ∷ [] → a ≡ record { above = place; taken = record { split = s; side = Low } } → b ≡ record { above = place; taken = record { split = s; side = High } }
    → place < length (paths_of links) → AreAbove 1 links
    → AreAbove 1 more × (paths_of more ≡ paths_of links ++ (path_at (paths_of links) place ++ record { split = s; side = Low } ∷ []) ∷ (path_at (paths_of links) place ++ record { split = s; side = High } ∷ []) ∷ [])
forked links more a b place s is_more is_a is_b less h =
    let w = paths_of links in
    let n = many ([] ∷ []) links in
    let one = length-append links (a ∷ []) in
    let high_taken : SplitTaken = record { split = s; side = High } in
    let low : List SplitTaken = path_at w place ++ record { split = s; side = Low } ∷ [] in
    let high : List SplitTaken = path_at w place ++ high_taken ∷ [] in
    let at_a : a.above ≡ place = ap (λ (k : Link). k.above) is_a in
    let at_b : b.above ≡ place = ap (λ (k : Link). k.above) is_b in
    let first : paths_of (links ++ a ∷ []) ≡ w ++ low ∷ [] = one_more ([] ∷ []) links a ∙ ap (λ k. w ++ next_path w k ∷ []) is_a in
    let last : next_path (w ++ low ∷ []) b ≡ high = ap (next_path (w ++ low ∷ [])) is_b ∙ ap (λ path. path ++ high_taken ∷ []) (get_or_append_left w (low ∷ []) [] place less) in (
      subst (AreAbove 1) (sym is_more) (above_more 1 (links ++ a ∷ []) b (above_more 1 links a h (omega arith)) (omega arith)),
      ap paths_of is_more ∙ one_more ([] ∷ []) (links ++ a ∷ []) b ∙ ap (λ v. v ++ next_path v b ∷ []) first ∙ ap (λ path. (w ++ low ∷ []) ++ path ∷ []) last ∙ append_assoc w (low ∷ []) (high ∷ []),
    )
