-- Weights that name the splits on the way have the sums of those that use the bounds of narrowed columns, and pass where these do.
use Rattle.std.proofs.Common.{◌≡◌, ◌∙◌, ℕ, zero, suc, List, [], ◌∷◌, length, Bool, true, false, if◌then◌else◌, Option, Some, None, refl, sym, ap}
use Rattle.std.proofs.lemmas.Bool.{and_parts, and_from}
use Rattle.rational.specs.Rational.{Rational, zero_ℚ, ◌*ℚ◌, ◌-ℚ◌}
use Rattle.rational.specs.Compare.{is_less, is_at_most, is_same}
use Rattle.rational.proofs.Laws.{same_true, true_same}
use Rattle.milp.specs.Form.{Entry}
use Rattle.milp.specs.Problem.{Problem}
use Rattle.milp.specs.Points.{objective_value, sign_of}
use Rattle.verdicts.specs.WeightedSums.{Weighted, scaled, combined, combined_bound, coefficient_of}
use Rattle.verdicts.specs.Certificate.{Item, Weights, Side, Derived}
use Rattle.verdicts.specs.Proves.{terms, split_term, same_form, shows, refutes}
use Rattle.verdicts.specs.Migrated.{Keeps, TermKeeps, source, kept, with_splits, named}
use Rattle.basis.proofs.Laws.{optimal_passes, refutes_leaf}
use Rattle.search_tree.specs.Named.{EmptyIsNamed, BoundIsNamed}

-- ---- sums that are the same

-- what the law of verdicts says: `splits_are_named`, `sums`
abbrev SumsAreNamed : Type 0
SumsAreNamed = (p : Problem) (ds : List Derived) (sides taken : List Side) (w : Weights) → ((i : Item) → TermKeeps (split_term taken i) (split_term sides i)) → Keeps (terms p ds sides taken w) (terms p ds [] sides (named p sides w))

none_taken : (sides : List Side) (i : Item) → TermKeeps (split_term [] i) (split_term sides i)
none_taken sides i = go (is_less zero_ℚ i.weight)
  where
    go : (b : Bool) → TermKeeps (if b then None else None) (split_term sides i)
    go true = tt
    go false = tt

same_form_too : (n : ℕ) (f g form : List Entry) → ((j : ℕ) → coefficient_of f j ≡ coefficient_of g j) → same_form n f form ≡ true → same_form n g form ≡ true
same_form_too zero f g form h t = refl
same_form_too (suc n) f g form h t =
    let both = and_parts (is_same (coefficient_of f n) (coefficient_of form n)) (same_form n f form) t in
    and_from _ _ (true_same (coefficient_of g n) (coefficient_of form n) (sym (h n) ∙ same_true (coefficient_of f n) (coefficient_of form n) both.0)) (same_form_too n f g form h both.1)

shows_too : (n : ℕ) (o r : Option (List Weighted)) (form : List Entry) (bound : Rational) → Keeps o r → shows n o form bound ≡ true → shows n r form bound ≡ true
shows_too n None r form bound k t = cc
shows_too n (Some ts) None form bound k t = absurd k
shows_too n (Some ts) (Some us) form bound k t =
    let both = and_parts (same_form n (combined ts) form) (is_at_most bound (combined_bound ts)) t in
    and_from _ _ (same_form_too n (combined ts) (combined us) form k.form both.0) (rw k.bound at both.1)

refutes_too : (n : ℕ) (o r : Option (List Weighted)) → Keeps o r → refutes n o ≡ true → refutes n r ≡ true
refutes_too n None r k t = cc
refutes_too n (Some ts) None k t = absurd k
refutes_too n (Some ts) (Some us) k t =
    let both = and_parts (same_form n (combined ts) []) (is_less zero_ℚ (combined_bound ts)) t in
    and_from _ _ (same_form_too n (combined ts) (combined us) [] k.form both.0) (rw k.bound at both.1)

pub empty_named : SumsAreNamed → EmptyIsNamed
empty_named keeps p goal ds sides w h =
    refutes_too (length p.columns) (terms p ds sides [] w) (terms p ds [] sides (named p sides w)) (keeps p ds sides [] w (none_taken sides)) (refutes_leaf p ds sides w h)

pub bound_named : SumsAreNamed → BoundIsNamed
bound_named keeps p ds sides x w h =
    shows_too (length p.columns) (terms p ds sides [] w) (terms p ds [] sides (named p sides w)) (scaled (sign_of p.direction) p.objective) (sign_of p.direction *ℚ (objective_value p x -ℚ p.constant)) (keeps p ds sides [] w (none_taken sides)) (optimal_passes p ds sides x w h)

-- ---- the root

own_at_root : (p : Problem) (i : Item) → source p [] i ≡ None
own_at_root p i = go (is_less zero_ℚ i.weight)
  where
    go : (b : Bool) → ◌≡◌ {A = Option ℕ} (if b then None else None) None
    go true = refl
    go false = refl

all_kept : (p : Problem) (is : List Item) → kept p [] is ≡ is
all_kept p [] = refl
all_kept p (i ∷ is) = rw (own_at_root p i) (ap (λ (xs : List Item). i ∷ xs) (all_kept p is))

none_placed : (p : Problem) (is splits : List Item) → with_splits p [] is splits ≡ splits
none_placed p [] splits = refl
none_placed p (i ∷ is) splits = rw (own_at_root p i) (none_placed p is splits)

-- at the root there is no split to name
pub named_at_root : (p : Problem) (w : Weights) → named p [] w ≡ w
named_at_root p w =
    ap (λ (xs : List Item). record { rows = w.rows; columns = xs; derived = w.derived; splits = with_splits p [] w.columns w.splits }) (all_kept p w.columns)
    ∙ ap (λ (xs : List Item). record { rows = w.rows; columns = w.columns; derived = w.derived; splits = xs }) (none_placed p w.columns w.splits)
