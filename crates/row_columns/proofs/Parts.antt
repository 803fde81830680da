-- The parts of a certificate: where those of one problem pass, so do those of another.
use Rattle.std.proofs.Common.{◌≡◌, List, [], ◌∷◌, Bool, true, false, ◌&&◌, ◌==◌, refl, None, Some, length, if◌then◌else◌}
use Rattle.std.proofs.lemmas.Bool.{and_parts, and_from, eqb-true, eq-eqb}
use Rattle.milp.specs.Problem.{Problem}
use Rattle.verdicts.specs.Certificate.{Verdict, Optimal, Infeasible, Unbounded, Certificate}
use Rattle.verdicts.specs.Proves.{Part, Test, tree_tests, point_passes, value_passes, ray_passes, verdict_tests, first_failing, Proves}

pub passing : (t : Test) (ts : List Test) → first_failing (t ∷ ts) ≡ None → (t.passes ≡ true) × (first_failing ts ≡ None)
passing t ts h = go t.passes refl h
  where
    go : (b : Bool) → t.passes ≡ b → (if b then first_failing ts else Some t.part) ≡ None → (t.passes ≡ true) × (first_failing ts ≡ None)
    go true e k = (e, k)
    go false e k = cc

pub from_passing : (t : Test) (ts : List Test) → t.passes ≡ true → first_failing ts ≡ None → first_failing (t ∷ ts) ≡ None
from_passing t ts e h = rw e h

-- each part of a certificate d for p passes where that of c for q does
pub record PartsPass (p q : Problem) (c d : Certificate) : Type 0 where
  pub point : point_passes q c.point ≡ true → point_passes p d.point ≡ true
  pub value : value_passes q c.point c.value ≡ true → value_passes p d.point d.value ≡ true
  pub ray : ray_passes q c.ray ≡ true → ray_passes p d.ray ≡ true
  pub best : c.verdict ≡ Optimal → first_failing (tree_tests q c.value c) ≡ None → first_failing (tree_tests p d.value d) ≡ None
  pub none : c.verdict ≡ Infeasible → first_failing (tree_tests q None c) ≡ None → first_failing (tree_tests p None d) ≡ None

verdict_passes : (p q : Problem) (c d : Certificate) → PartsPass p q c d → (v : Verdict) → c.verdict ≡ v → first_failing (verdict_tests q c v) ≡ None → first_failing (verdict_tests p d v) ≡ None
verdict_passes p q c d h Optimal e t =
    let one = passing (record { part = Part.Point; passes = point_passes q c.point }) (record { part = Part.Value; passes = value_passes q c.point c.value } ∷ tree_tests q c.value c) t in
    let two = passing (record { part = Part.Value; passes = value_passes q c.point c.value }) (tree_tests q c.value c) one.1 in
    from_passing (record { part = Part.Point; passes = point_passes p d.point }) (record { part = Part.Value; passes = value_passes p d.point d.value } ∷ tree_tests p d.value d) (h.point one.0)
    (from_passing (record { part = Part.Value; passes = value_passes p d.point d.value }) (tree_tests p d.value d) (h.value two.0) (h.best e two.1))
verdict_passes p q c d h Infeasible e t = h.none e t
verdict_passes p q c d h Unbounded e t =
    let one = passing (record { part = Part.Point; passes = point_passes q c.point }) (record { part = Part.Ray; passes = ray_passes q c.ray } ∷ []) t in
    let two = passing (record { part = Part.Ray; passes = ray_passes q c.ray }) [] one.1 in
    from_passing (record { part = Part.Point; passes = point_passes p d.point }) (record { part = Part.Ray; passes = ray_passes p d.ray } ∷ []) (h.point one.0)
    (from_passing (record { part = Part.Ray; passes = ray_passes p d.ray }) [] (h.ray two.0) refl)

-- so where c proves its verdict of q, d proves the same of p
pub parts_prove : (p q : Problem) (c d : Certificate) → d.rows ≡ length p.rows → (c.columns ≡ length q.columns → d.columns ≡ length p.columns) → d.verdict ≡ c.verdict → PartsPass p q c d → Proves q c → Proves p d
parts_prove p q c d rows columns verdict h t =
    let one = passing (record { part = Part.Size; passes = (c.rows == length q.rows) && (c.columns == length q.columns) }) (verdict_tests q c c.verdict) t in
    let size = and_parts (c.rows == length q.rows) (c.columns == length q.columns) one.0 in
    from_passing (record { part = Part.Size; passes = (d.rows == length p.rows) && (d.columns == length p.columns) }) (verdict_tests p d d.verdict) (and_from _ _ (eq-eqb d.rows (length p.rows) rows) (eq-eqb d.columns (length p.columns) (columns (eqb-true c.columns (length q.columns) size.1)))) (rw verdict (verdict_passes p q c d h c.verdict refl one.1))
