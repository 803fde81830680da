-- The causes of a search's faults are those of the whole.
use Rattle.std.proofs.Common.{◌≡◌, ◌∙◌, ℕ, List, [], refl, sym, subst, Result, Ok, Err, IfOk, IfErr}
use Rattle.rational.specs.Rational.{Rational, zero_ℚ, ◌*ℚ◌}
use Rattle.milp.specs.Problem.{Problem}
use Rattle.milp.specs.Points.{IsImprovingRay, sign_of}
use Rattle.rational.proofs.Laws as Q
use Rattle.verdicts.proofs.Laws.{le_by}
use Rattle.branch_search.specs.Faults.{IsEndlessAt}
use Rattle.branch_search.specs.Faults as of_search
use Rattle.branch_search.specs.declared.fault.EndlessAt.{EndlessAt}
use Rattle.branch_search.specs.declared.fault.SearchFault.{SearchFault}
use Rattle.branch_search.specs.declared.fault.SearchFault.TheVariants as in_search
use Rattle.branch_search.specs.declared.whole_fault.Wanted.{Wanted}
use Rattle.branch_search.specs.declared.whole_fault.Wanted.TheVariants.{Best, Any}
use Rattle.branch_search.specs.declared.whole_fault.VerdictFault.{VerdictFault}
use Rattle.branch_search.specs.declared.whole_fault.VerdictFault.TheVariants as of
use Rattle.branch_search.specs.WholeFaults.{without_objective, searched, IsWanted, IsFault, IsAfterSearch}
use Rattle.branch_search.specs.Told.{ray_or_fault}

-- ---- searches

told_ray : (p : Problem) (splits pivots : ℕ) (wanted : Wanted) (f : SearchFault) → of_search.IsFault p [] splits pivots f → IfOk (ray_or_fault wanted f) (IsEndlessAt p [] splits)
told_ray p splits pivots wanted (in_search.NoFit site) h = tt
told_ray p splits pivots wanted (in_search.PivotLimit bases board) h = tt
told_ray p splits pivots wanted (in_search.SplitLimit board) h = tt
told_ray p splits pivots wanted (in_search.Unbounded ray) h = h
told_ray p splits pivots wanted in_search.NoMemory h = tt

pub ray_found : (p : Problem) (splits pivots : ℕ) (wanted : Wanted) (f : SearchFault) (ray : EndlessAt) → ray_or_fault wanted f ≡ Ok ray → of_search.IsFault p [] splits pivots f → IsEndlessAt p [] splits ray
ray_found p splits pivots wanted f ray is h = subst (λ (r : Result EndlessAt VerdictFault). IfOk r (IsEndlessAt p [] splits)) is (told_ray p splits pivots wanted f h)

told_search : (p : Problem) (splits pivots : ℕ) (wanted : Wanted) (f : SearchFault) → IsWanted p wanted → of_search.IsFault (searched p wanted) [] splits pivots f → IfErr (ray_or_fault wanted f) (IsFault p splits pivots)
told_search p splits pivots wanted (in_search.NoFit site) w h = (w, h)
told_search p splits pivots wanted (in_search.PivotLimit bases board) w h = (w, h)
told_search p splits pivots wanted (in_search.SplitLimit board) w h = (w, h)
told_search p splits pivots wanted (in_search.Unbounded endless) w h = tt
told_search p splits pivots wanted in_search.NoMemory w h = tt

pub search_fault : (p : Problem) (splits pivots : ℕ) (wanted : Wanted) (f : SearchFault) (e : VerdictFault) → ray_or_fault wanted f ≡ Err e → IsWanted p wanted → of_search.IsFault (searched p wanted) [] splits pivots f → IsFault p splits pivots e
search_fault p splits pivots wanted f e is w h = subst (λ (r : Result EndlessAt VerdictFault). IfErr r (IsFault p splits pivots)) is (told_search p splits pivots wanted f w h)

-- no ray improves a problem without objective
pub none_improves : (p : Problem) (ray : List Rational) → ¬ (IsImprovingRay (without_objective p) ray)
none_improves p ray h = Q.lt-not-le _ _ h.improves (le_by zero_ℚ (sign_of p.direction *ℚ zero_ℚ) zero_ℚ zero_ℚ refl (Q.mul-zero (sign_of p.direction)) (Q.le_refl zero_ℚ))

pub never_endless : (p q : Problem) (splits pivots : ℕ) (f : SearchFault) (r : Result EndlessAt VerdictFault) (ray : EndlessAt) → q ≡ without_objective p
    → r ≡ ray_or_fault Any f → r ≡ Ok ray → of_search.IsFault q [] splits pivots f → ⊥
never_endless p q splits pivots f r ray e told is h =
    let H : Problem → Type 0 = λ s. of_search.IsFault s [] splits pivots f in
    none_improves p ray.endless.ray ((ray_found (without_objective p) splits pivots Any f ray (sym told ∙ is) (subst H e h)).endless.ray)

pub any_fault : (p q : Problem) (splits pivots : ℕ) (f : SearchFault) (r : Result EndlessAt VerdictFault) (fault : VerdictFault) (ray : EndlessAt) → q ≡ without_objective p
    → r ≡ ray_or_fault Any f → r ≡ Err fault → IsEndlessAt p [] splits ray → of_search.IsFault q [] splits pivots f → IsFault p splits pivots fault
any_fault p q splits pivots f r fault ray e told is found h =
    let H : Problem → Type 0 = λ s. of_search.IsFault s [] splits pivots f in
    search_fault p splits pivots Any f fault (sym told ∙ is) (ray.endless.ray, found.endless.ray) (subst H e h)

-- ---- after the last search

after : (p : Problem) (splits pivots : ℕ) (e : VerdictFault) → IsAfterSearch p splits e → IsFault p splits pivots e
after p splits pivots (of.NoFit Best site) h = (tt, h)
after p splits pivots (of.NoFit Any site) h = absurd h
after p splits pivots (of.PivotLimit wanted bases board) h = absurd h
after p splits pivots (of.SplitLimit wanted board) h = absurd h
after p splits pivots of.NoMemory h = tt

pub after_search : {A : Type 0} → (p : Problem) (splits pivots : ℕ) (r : Result A VerdictFault) → IfErr r (IsAfterSearch p splits) → IfErr r (IsFault p splits pivots)
after_search p splits pivots (Ok a) h = tt
after_search p splits pivots (Err e) h = after p splits pivots e h
