-- Forms that grow, in order.
use Rattle.std.proofs.Common.{◌≡◌, ℕ, ◌+◌, ◌-◌, ◌<◌, ◌≤◌, true, false, List, [], ◌∷◌, ◌++◌, refl, arith}
use Rattle.std.proofs.lemmas.Bool.{and_parts, and_from, le-leb, lt-ltb, ltb-true}
use Rattle.rational.specs.Rational.{Rational}
use Rattle.milp.specs.Form.{Entry}
use Rattle.rational.specs.Compare.{is_zero}
use Rattle.instance.specs.WellFormed.{are_entries_from}

-- one more, in the last of n columns
pub entries-push : (least m n : ℕ) (v : Rational) → least ≤ m → m < n → is_zero v ≡ false → (es : List Entry) → are_entries_from least m es ≡ true → are_entries_from least n (es ++ record { column = n - 1; coefficient = v } ∷ []) ≡ true
entries-push least m n v a b z [] t =
    and_from _ _ (le-leb least (n - 1) (omega arith)) (and_from _ _ (lt-ltb (n - 1) n (omega arith)) (rw z refl))
entries-push least m n v a b z (e ∷ es) t =
    let p = and_parts _ _ t in
    let q = and_parts _ _ p.1 in
    let r = and_parts _ _ q.1 in
    let below : e.column < m = ltb-true e.column m q.0 in
    and_from _ _ p.0 (and_from _ _ (lt-ltb e.column n (omega arith)) (and_from _ _ r.0 (entries-push (e.column + 1) m n v (omega arith) b z es r.1)))
