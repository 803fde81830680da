-- A certificate that proves its verdict is right.
use Rattle.std.proofs.Common.{append_assoc, append-nil, ◌≡◌, ◌∙◌, ℕ, ◌+◌, List, [], ◌∷◌, ◌++◌, true, ◌&&◌, ◌==◌, refl, ap, Option, Some, None, length}
use Rattle.rational.specs.Rational.{Rational}
use Rattle.milp.specs.Problem.{Problem}
use Rattle.milp.specs.Points.{Feasible}
use Rattle.verdicts.specs.Certificate.{Version, One, Two, Verdict, Optimal, Infeasible, Unbounded, Derived, Certificate}
use Rattle.verdicts.specs.Proves.{derived_passes, usable, Part, Test, derived_tests, node_tests, tree_tests, point_passes, value_passes, ray_passes, verdict_tests, first_failing, Proves, Holds}
use Rattle.rational.proofs.Laws.{same_true}
use Rattle.verdicts.proofs.Points.{meets_true, ray_true}
use Rattle.verdicts.specs.Proves.{AllDerived}
use Rattle.verdicts.proofs.DerivedRows.{derived_sound, derived_more}
use Rattle.verdicts.proofs.Nodes.{Beats, DerivedHold, passing, tree_closed}

passing_both : (ts us : List Test) → first_failing (ts ++ us) ≡ None → (first_failing ts ≡ None) × (first_failing us ≡ None)
passing_both [] us h = (refl, h)
passing_both (t ∷ ts) us h =
    let one = passing t (ts ++ us) h in
    let both = passing_both ts us one.1 in
    let e = one.0 in
    (rw e both.0, both.1)

usable_hold : (x : List Rational) (v : Version) (before : List Derived) → AllDerived x before → AllDerived x (usable v before)
usable_hold x One before h = λ k. tt
usable_hold x Two before h = h

rows_hold : (p : Problem) (v : Version) (x : List Rational) → Feasible p x → (k : ℕ) (before ds : List Derived) → AllDerived x before → first_failing (derived_tests p v k before ds) ≡ None → AllDerived x (before ++ ds)
rows_hold p v x f k before [] h t = rw (append-nil before) h
rows_hold p v x f k before (d ∷ ds) h t =
    let one = passing (record { part = Part.DerivedRow k; passes = derived_passes p (usable v before) d }) (derived_tests p v (k + 1) (before ++ d ∷ []) ds) t in
    let more = derived_more x before d h (derived_sound p (usable v before) x d f (usable_hold x v before h) one.0) in
    rw (append_assoc before (d ∷ []) ds) at (rows_hold p v x f (k + 1) (before ++ d ∷ []) ds more one.1)

derived_hold : (p : Problem) (v : Version) (ds : List Derived) → first_failing (derived_tests p v 1 [] ds) ≡ None → DerivedHold p ds
derived_hold p v ds h = record { all = λ x f. rows_hold p v x f 1 [] ds (λ k. tt) h }

none_beats : (p : Problem) (goal : Option Rational) (c : Certificate) → first_failing (tree_tests p goal c) ≡ None → (x : List Rational) → Feasible p x → Beats p goal x → ⊥
none_beats p goal c h x f b =
    let both = passing_both (derived_tests p c.version 1 [] c.derived) (node_tests p c.version goal c.derived 1 ([] ∷ []) c.tree) h in
    let closed = tree_closed p c.version goal c.derived (derived_hold p c.version c.derived both.0) c.tree 1 ([] ∷ []) both.1 in
    closed.0.none x f b tt

optimal_holds : (p : Problem) (c : Certificate) (point : Option (List Rational)) (value : Option Rational) → c.point ≡ point → c.value ≡ value → point_passes p point ≡ true → value_passes p point value ≡ true → first_failing (tree_tests p value c) ≡ None → Holds p c Optimal
optimal_holds p c None value e f g h t = cc
optimal_holds p c (Some x) None e f g h t = cc
optimal_holds p c (Some x) (Some v) e f g h t =
    let same = same_true _ _ h in
    (x, e, f ∙ ap Some same, record { feasible = meets_true p x g; best = λ y k b. none_beats p (Some v) c t y k (rw same b) })

unbounded_holds : (p : Problem) (c : Certificate) (point ray : Option (List Rational)) → c.point ≡ point → c.ray ≡ ray → point_passes p point ≡ true → ray_passes p ray ≡ true → Holds p c Unbounded
unbounded_holds p c None ray e f g h = cc
unbounded_holds p c (Some x) None e f g h = cc
unbounded_holds p c (Some x) (Some r) e f g h = (x, r, e, f, record { feasible = meets_true p x g; ray = ray_true p r h })

by_verdict : (p : Problem) (c : Certificate) (v : Verdict) → first_failing (verdict_tests p c v) ≡ None → Holds p c v
by_verdict p c Optimal h =
    let one = passing (record { part = Part.Point; passes = point_passes p c.point }) (record { part = Part.Value; passes = value_passes p c.point c.value } ∷ tree_tests p c.value c) h in
    let two = passing (record { part = Part.Value; passes = value_passes p c.point c.value }) (tree_tests p c.value c) one.1 in
    optimal_holds p c c.point c.value refl refl one.0 two.0 two.1
by_verdict p c Infeasible h = λ x f. none_beats p None c h x f tt
by_verdict p c Unbounded h =
    let one = passing (record { part = Part.Point; passes = point_passes p c.point }) (record { part = Part.Ray; passes = ray_passes p c.ray } ∷ []) h in
    let two = passing (record { part = Part.Ray; passes = ray_passes p c.ray }) [] one.1 in
    unbounded_holds p c c.point c.ray refl refl one.0 two.0

pub certificate_right : (p : Problem) (c : Certificate) → Proves p c → Holds p c c.verdict
certificate_right p c h = by_verdict p c c.verdict (passing (record { part = Part.Size; passes = (c.rows == length p.rows) && (c.columns == length p.columns) }) (verdict_tests p c c.verdict) h).1
