-- The ratio test: reaches of variables, and the first of them.
use Rattle.std.proofs.Common.{◌≡◌, ◌∙◌, ℕ, ◌+◌, ◌<◌, List, refl, sym, ap, subst, arith, Bool, true, false, cond, ◌==◌, Option, Some, None, slice_get, ◌⊎◌, inl, inr, if◌then◌else◌}
use Rattle.std.specs.Prelude.{pos, option_map, Result, Ok, Err, IfOk}
use Rattle.std.proofs.Math.Decide.{ℕ_discrete}
use Rattle.std.proofs.lemmas.Option.{same_Some}
use Rattle.rational.specs.Rational.{Rational, zero_ℚ, inv_ℚ, neg_ℚ, ◌+ℚ◌, ◌-ℚ◌, ◌*ℚ◌, ◌/ℚ◌, ◌≤ℚ◌, ◌<ℚ◌}
use Rattle.rational.proofs.Laws as Q
use Rattle.milp.specs.Form.{number_at}
use Rattle.rational.specs.Compare.{is_less}
use Rattle.rational.proofs.Laws.{less_true, less_false}
use Rattle.basis.specs.System.{Bounds, System, size, lower_of, upper_of}
use Rattle.basis.specs.Dictionary.{place_of, rate_of}
use Rattle.basis.specs.Bland.{Reaches}
use Rattle.basis.specs.Pivots.{IsLengthOperation}
use Rattle.basis.specs.Operations.{LiesAhead}
use Rattle.basis.specs.declared.Place.{Place}
use Rattle.basis.specs.declared.Place.TheVariants.{Basic, AtLower, AtUpper, AtZero}
use Rattle.basis.proofs.Laws.{above_some, below_some, not_le, zero_numerator, arrives}
use Rattle.fraction.specs.Answers.{sub_answer, div_answer}
use Rattle.fraction.specs.Fits.{fits, sum_fits}
use Rattle.fraction.specs.declared.frac.Op.TheVariants.{Sub, Div}
use Rattle.fraction.specs.declared.frac.NoFit.{NoFit}
use Rattle.dictionary.specs.Table.{Table, is_basic, dictionary_of}
use Rattle.dictionary.specs.Values.{direction_of}
use Rattle.simplex.specs.Ratio.{turned, along, bound_ahead, IsReach, IsWayFault, IsLengthFault, IsStepFault, IsReachOf, IsFirstReach, sooner_reach, sooner_of}
use Rattle.simplex.specs.declared.ratio.Reach.{Reach}
use Rattle.simplex.proofs.Choices.{lower_at, upper_at}
use Rattle.dictionary.proofs.Laws.{direction-self, direction-basic}

-- ---- how far the mover goes

pub sub_value : (a b w : Rational) (r : Result Rational NoFit) → r ≡ sub_answer a b → r ≡ Ok w → w ≡ a -ℚ b
sub_value a b w r e f = go (sum_fits a (neg_ℚ b)) r e f
  where
    clash : (d : NoFit) (o : Result Rational NoFit) → o ≡ Err d → o ≡ Ok w → ⊥
    clash d o h k = cc

    go : (t : Bool) (o : Result Rational NoFit) → o ≡ cond t (Ok (a -ℚ b)) (Err (record { a = a; op = Sub; b = b })) → o ≡ Ok w → w ≡ a -ℚ b
    go true o h k = cc
    go false o h k = absurd (clash _ o h k)

back : (x bound : Rational) → bound ≡ x +ℚ (bound -ℚ x)
back x bound = sym (ap (λ t. x +ℚ t) (Q.add_comm bound (neg_ℚ x)) ∙ Q.cancel_left x bound)

pub step_of_mover : (t : Table) (q v : ℕ) (x bound w : Rational) → (v == q) ≡ true → w ≡ bound -ℚ x → bound ≡ x +ℚ w *ℚ direction_of t q v
step_of_mover t q v x bound w e f = back x bound ∙ ap (λ u. x +ℚ u) (sym (ap (λ u. w *ℚ u) (direction-self t q v e) ∙ Q.mul-one w ∙ f))

pub step_of_basic : (t : Table) (q v : ℕ) (x bound w rate : Rational) (r : Result Rational NoFit) → (v == q) ≡ false → is_basic (place_of t.places v) ≡ true → w ≡ bound -ℚ x → rate ≡ rate_of (dictionary_of t) q v
    → ¬ ((direction_of t q v).numerator ≡ pos 0) → r ≡ div_answer w rate → IfOk r (λ u. bound ≡ x +ℚ u *ℚ direction_of t q v)
step_of_basic t q v x bound w rate r e f g h some k = let P : Result Rational NoFit → Type 0 = λ o. IfOk o (λ u. bound ≡ x +ℚ u *ℚ direction_of t q v) in subst P (sym k) (go (fits (w /ℚ rate)))
  where
    same : rate ≡ direction_of t q v
    same = h ∙ sym (direction-basic t q v e f)

    value : bound ≡ x +ℚ (w /ℚ rate) *ℚ direction_of t q v
    value = arrives x (direction_of t q v) bound some ∙ ap (λ u. x +ℚ u *ℚ direction_of t q v) (sym (ap (λ u. u /ℚ rate) g ∙ ap (λ u. (bound -ℚ x) /ℚ u) same))

    go : (u : Bool) → IfOk {E = NoFit} (cond u (Ok (w /ℚ rate)) (Err (record { a = w; op = Div; b = rate }))) (λ u. bound ≡ x +ℚ u *ℚ direction_of t q v)
    go true = value
    go false = tt

-- ---- the bound in the way

-- v, that changes at the rate c, has this bound at this place in its way
abbrev pub IsAhead : System → ℕ → Rational → Rational → Place → Type 0
IsAhead s v c bound Basic = ⊥
IsAhead s v c bound AtLower = (c <ℚ zero_ℚ) × (lower_of s v ≡ Some bound)
IsAhead s v c bound AtUpper = (zero_ℚ <ℚ c) × (upper_of s v ≡ Some bound)
IsAhead s v c bound AtZero = ⊥

placed : (place : Place) (o : Option Rational) (w : Rational × Place) → option_map {U = Rational × Place} (λ l. (l, place)) o ≡ Some w → (o ≡ Some w.0) × (place ≡ w.1)
placed place None w e = absurd (clash w e)
  where
    clash : (k : Rational × Place) → ¬ (None ≡ Some k)
    clash k l = cc
placed place (Some l) w e = let m = inside (l, place) w e in (ap (λ (k : Rational × Place). Some k.0) m, ap (λ (k : Rational × Place). k.1) m)
  where
    inside : (k n : Rational × Place) → Some k ≡ Some n → k ≡ n
    inside k n h = cc

placed_none : (place : Place) (o : Option Rational) → option_map {U = Rational × Place} (λ l. (l, place)) o ≡ None → o ≡ None
placed_none place None e = refl
placed_none place (Some l) e = absurd (clash _ refl e)
  where
    clash : (k : Option (Rational × Place)) → k ≡ Some (l, place) → ¬ (k ≡ None)
    clash k h m = cc

pub ahead_some : (s : System) (v : ℕ) (b : Bounds) (c : Rational) (w : Rational × Place) → slice_get s.bounds v ≡ Some b → bound_ahead b c ≡ Some w → IsAhead s v c w.0 w.1
ahead_some s v b c w e h = go (is_less zero_ℚ c) refl (is_less c zero_ℚ) refl h
  where
    clash : (k : Rational × Place) → ¬ (None ≡ Some k)
    clash k l = cc

    P : Place → Type 0
    P = IsAhead s v c w.0

    go : (t : Bool) → is_less zero_ℚ c ≡ t → (u : Bool) → is_less c zero_ℚ ≡ u
        → (if t then option_map {U = Rational × Place} (λ l. (l, AtUpper)) b.upper else (if u then option_map {U = Rational × Place} (λ l. (l, AtLower)) b.lower else None)) ≡ Some w → IsAhead s v c w.0 w.1
    go true k u l m = let n = placed AtUpper b.upper w m in subst P n.1 (less_true zero_ℚ c k, upper_at s v b e ∙ n.0)
    go false k true l m = let n = placed AtLower b.lower w m in subst P n.1 (less_true c zero_ℚ l, lower_at s v b e ∙ n.0)
    go false k false l m = absurd (clash w m)

pub ahead_none : (s : System) (v : ℕ) (b : Bounds) (c : Rational) → slice_get s.bounds v ≡ Some b → bound_ahead b c ≡ None → (bound : Rational) (p : Place) → ¬ (IsAhead s v c bound p)
ahead_none s v b c e h bound = go (is_less zero_ℚ c) refl (is_less c zero_ℚ) refl h
  where
    clash : (o : Option Rational) → o ≡ None → ¬ (o ≡ Some bound)
    clash o k l = cc

    go : (t : Bool) → is_less zero_ℚ c ≡ t → (u : Bool) → is_less c zero_ℚ ≡ u
        → (if t then option_map {U = Rational × Place} (λ l. (l, AtUpper)) b.upper else (if u then option_map {U = Rational × Place} (λ l. (l, AtLower)) b.lower else None)) ≡ None → (p : Place) → ¬ (IsAhead s v c bound p)
    go t k u l m Basic w = w
    go t k u l m AtZero w = w
    go true k u l m AtUpper w = clash _ (upper_at s v b e ∙ placed_none AtUpper b.upper m) w.1
    go true k u l m AtLower w = Q.lt-not-le c zero_ℚ w.0 (Q.le_of_lt _ _ (less_true zero_ℚ c k))
    go false k u l m AtUpper w = Q.lt-not-le zero_ℚ c w.0 (less_false zero_ℚ c k)
    go false k true l m AtLower w = clash _ (lower_at s v b e ∙ placed_none AtLower b.lower m) w.1
    go false k false l m AtLower w = Q.lt-not-le c zero_ℚ w.0 (less_false c zero_ℚ l)

ahead_same : (s : System) (v : ℕ) (c a b : Rational) (p o : Place) → IsAhead s v c a p → IsAhead s v c b o → a ≡ b
ahead_same s v c a b Basic o h k = absurd h
ahead_same s v c a b AtZero o h k = absurd h
ahead_same s v c a b AtLower Basic h k = absurd k
ahead_same s v c a b AtLower AtZero h k = absurd k
ahead_same s v c a b AtUpper Basic h k = absurd k
ahead_same s v c a b AtUpper AtZero h k = absurd k
ahead_same s v c a b AtLower AtLower h k = same_Some a b (sym h.1 ∙ k.1)
ahead_same s v c a b AtUpper AtUpper h k = same_Some a b (sym h.1 ∙ k.1)
ahead_same s v c a b AtLower AtUpper h k = absurd (Q.lt-not-le c zero_ℚ h.0 (Q.le_of_lt _ _ k.0))
ahead_same s v c a b AtUpper AtLower h k = absurd (Q.lt-not-le c zero_ℚ k.0 (Q.le_of_lt _ _ h.0))

pub ahead_moves : (s : System) (v : ℕ) (c a : Rational) (p : Place) → IsAhead s v c a p → ¬ (c.numerator ≡ pos 0)
ahead_moves s v c a Basic h = absurd h
ahead_moves s v c a AtZero h = absurd h
ahead_moves s v c a AtLower h = below_some c h.0
ahead_moves s v c a AtUpper h = above_some c h.0

ahead_lies : (s : System) (v : ℕ) (c a : Rational) (p : Place) → IsAhead s v c a p → LiesAhead s v c a
ahead_lies s v c a Basic h = absurd h
ahead_lies s v c a AtZero h = absurd h
ahead_lies s v c a AtLower h = inr h
ahead_lies s v c a AtUpper h = inl h

-- ---- the reach of one variable

reaches_ahead : (s : System) (x r : ℕ → Rational) (u : Rational) (v : ℕ) (p : Place) → Reaches s x r u v p → IsAhead s v (r v) (x v +ℚ u *ℚ r v) p
reaches_ahead s x r u v Basic h = h
reaches_ahead s x r u v AtLower h = h
reaches_ahead s x r u v AtUpper h = h
reaches_ahead s x r u v AtZero h = h

ahead_reaches : (s : System) (x r : ℕ → Rational) (u : Rational) (v : ℕ) (p : Place) → IsAhead s v (r v) (x v +ℚ u *ℚ r v) p → Reaches s x r u v p
ahead_reaches s x r u v Basic h = h
ahead_reaches s x r u v AtLower h = h
ahead_reaches s x r u v AtUpper h = h
ahead_reaches s x r u v AtZero h = h

cancel : (c t u : Rational) → ¬ (c.numerator ≡ pos 0) → t *ℚ c ≡ u *ℚ c → t ≡ u
cancel c t u h e = sym (undo t) ∙ ap (λ w. w *ℚ inv_ℚ c) e ∙ undo u
  where
    undo : (w : Rational) → w *ℚ c *ℚ inv_ℚ c ≡ w
    undo w = Q.mul_assoc w c (inv_ℚ c) ∙ ap (λ k. w *ℚ k) (Q.mul-inv c h) ∙ Q.mul-one w

is_reach : (s : System) (x r : ℕ → Rational) (v : ℕ) (bound t : Rational) (p : Place) → IsAhead s v (r v) bound p → bound ≡ x v +ℚ t *ℚ r v → IsReach s x r v t p
is_reach s x r v bound t p h e = record {
  reaches = let P : Rational → Type 0 = λ a. IsAhead s v (r v) a p in ahead_reaches s x r t v p (subst P e h);
  only = λ u o k. cancel (r v) u t (ahead_moves s v (r v) bound p h)
      (Q.add_left_cancel (x v) (u *ℚ r v) (t *ℚ r v) (ahead_same s v (r v) (x v +ℚ u *ℚ r v) bound o p (reaches_ahead s x r u v o k) h ∙ e));
}

pub turned_product : (rises : Bool) (t c : Rational) → t *ℚ c ≡ turned rises t *ℚ turned rises c
turned_product true t c = refl
turned_product false t c = sym (Q.neg_mul t (neg_ℚ c) ∙ ap neg_ℚ (Q.mul_neg t c) ∙ Q.neg_neg (t *ℚ c))

zero_turned : (a : Rational) → a.numerator ≡ pos 0 → (neg_ℚ a).numerator ≡ pos 0
unfolding neg_ℚ
zero_turned a k = ap (λ (u : Rational). (neg_ℚ u).numerator) (zero_numerator a k)

turned_some : (rises : Bool) (c : Rational) → ¬ ((turned rises c).numerator ≡ pos 0) → ¬ (c.numerator ≡ pos 0)
turned_some true c h = h
turned_some false c h = λ e. h (zero_turned c e)

pub way_fault : (t : Table) (xs : List Rational) (q v : ℕ) (x bound : Rational) (e : NoFit) → x ≡ number_at xs v → IsStepFault t q v x bound e → IsWayFault xs t q v bound e
way_fault t xs q v x bound e read (IsStepFault.way named fit) = rw named (record { operation = IsLengthOperation.way refl refl read; not_fit = fit })
way_fault t xs q v x bound e read (IsStepFault.length basic fault) = rw fault.named
    (record { operation = IsLengthOperation.length basic (ap (λ k. bound -ℚ k) read) refl refl; not_fit = fault.not_fit })

module _ (s : System) (t : Table) (xs : List Rational) (q : ℕ) (rises : Bool) (v : ℕ) (b : Bounds) (c rate : Rational) (o : Option (Rational × Place))
    (is_change : c ≡ direction_of t q v) (is_rate : rate ≡ turned rises c) (are_bounds : slice_get s.bounds v ≡ Some b) (ahead : o ≡ bound_ahead b rate) where
  same_rate : rate ≡ along t q rises v
  same_rate = is_rate ∙ ap (turned rises) is_change

  pub reach_none : o ≡ None → IsReachOf s (number_at xs) (along t q rises) v None
  reach_none e u p h = let P : Rational → Type 0 = λ k. IsAhead s v k (number_at xs v +ℚ u *ℚ along t q rises v) p in
      ahead_none s v b rate are_bounds (sym ahead ∙ e) _ p (subst P (sym same_rate) (reaches_ahead s (number_at xs) (along t q rises) u v p h))

  pub some_ahead : (w : Rational × Place) → o ≡ Some w → IsAhead s v (along t q rises v) w.0 w.1
  some_ahead w e = let P : Rational → Type 0 = λ k. IsAhead s v k w.0 w.1 in subst P same_rate (ahead_some s v b rate w are_bounds (sym ahead ∙ e))

  pub reach_moves : (w : Rational × Place) → o ≡ Some w → ¬ ((direction_of t q v).numerator ≡ pos 0)
  reach_moves w e = turned_some rises (direction_of t q v) (ahead_moves s v (along t q rises v) w.0 w.1 (some_ahead w e))

  pub reach_some : (w : Rational × Place) (x step turn : Rational) → o ≡ Some w → x ≡ number_at xs v → w.0 ≡ x +ℚ step *ℚ direction_of t q v → turn ≡ turned rises step
      → IsReachOf s (number_at xs) (along t q rises) v (Some (record { variable = v; place = w.1; step = turn }))
  reach_some w x step turn e f g h = (
    refl,
    is_reach s (number_at xs) (along t q rises) v w.0 turn w.1 (some_ahead w e)
        (g ∙ ap (λ k. k +ℚ step *ℚ direction_of t q v) f ∙ ap (λ k. number_at xs v +ℚ k) (turned_product rises step (direction_of t q v) ∙ ap (λ k. k *ℚ along t q rises v) (sym h))),
  )

  pub reach_fault : (w : Rational × Place) (x : Rational) (e : NoFit) → o ≡ Some w → v < size s → x ≡ number_at xs v → IsStepFault t q v x w.0 e → IsLengthFault s xs t q rises e
  reach_fault w x e f known read fault = record { variable = v; bound = w.0; known = known; ahead = ahead_lies s v (along t q rises v) w.0 w.1 (some_ahead w f); fault = way_fault t xs q v x w.0 e read fault }

-- ---- the first of all

-- of the variables before n, this one reaches a bound first, and is the least that does then
abbrev pub IsFirstBefore : System → (ℕ → Rational) → (ℕ → Rational) → ℕ → Option Reach → Type 0
IsFirstBefore s x r n None = (u : Rational) → (w : ℕ) → (p : Place) → w < n → ¬ (Reaches s x r u w p)
IsFirstBefore s x r n (Some reach) =
    (reach.variable < n)
    × Reaches s x r reach.step reach.variable reach.place
    × ((u : Rational) → (w : ℕ) → (p : Place) → w < n → Reaches s x r u w p → reach.step ≤ℚ u)
    × ((w : ℕ) → (p : Place) → w < reach.variable → ¬ (Reaches s x r reach.step w p))

last_or : (w n : ℕ) → w < n + 1 → (w ≡ n) ⊎ (w < n)
last_or w n h = elim (ℕ_discrete w n) [
  | yes same ↦ inl same
  | no differ ↦ inr (omega arith)
]

module _ (s : System) (x r : ℕ → Rational) where
  at : (u : Rational) (p : Place) (w n : ℕ) → w ≡ n → Reaches s x r u w p → Reaches s x r u n p
  at u p w n e h = let P : ℕ → Type 0 = λ k. Reaches s x r u k p in subst P e h

  first_still : (n : ℕ) (first : Option Reach) → IsFirstBefore s x r n first → IsReachOf s x r n None → IsFirstBefore s x r (n + 1) first
  first_still n None h k = λ u w p l m. elim (last_or w n l) [
    | inl same ↦ k u p (at u p w n same m)
    | inr less ↦ h u w p less m
  ]
  first_still n (Some best) h k = (
    (let l = h.0 in omega arith),
    h.1,
    (λ u w p l m. elim (last_or w n l) [
      | inl same ↦ absurd (k u p (at u p w n same m))
      | inr less ↦ h.2 u w p less m
    ]),
    h.3,
  )

  -- the new one is sooner than all before
  newly_first : (n : ℕ) (reach : Reach) → IsReachOf s x r n (Some reach) → ((u : Rational) → (w : ℕ) → (p : Place) → w < n → Reaches s x r u w p → (reach.step <ℚ u)) → IsFirstBefore s x r (n + 1) (Some reach)
  newly_first n reach h k = (
    (let l = h.0 in omega arith),
    at reach.step reach.place n reach.variable (sym h.0) h.1.reaches,
    (λ u w p l m. elim (last_or w n l) [
      | inl same ↦ let P : Rational → Type 0 = λ v. v ≤ℚ u in subst P (h.1.only u p (at u p w n same m)) (Q.le_refl u)
      | inr less ↦ Q.le_of_lt _ _ (k u w p less m)
    ]),
    (λ w p l m. Q.lt-not-le reach.step reach.step (k reach.step w p (let v = h.0 in omega arith) m) (Q.le_refl reach.step)),
  )

  le_lt : (a b c : Rational) → a <ℚ b → b ≤ℚ c → a <ℚ c
  le_lt a b c h k = not_le c a (λ l. Q.lt-not-le a b h (Q.le_trans b c a k l))

  first_with : (n : ℕ) (first : Option Reach) (reach : Reach) → IsFirstBefore s x r n first → IsReachOf s x r n (Some reach) → IsFirstBefore s x r (n + 1) (Some (sooner_reach first reach))
  first_with n None reach h k = newly_first n reach k (λ u w p l m. absurd (h u w p l m))
  first_with n (Some best) reach h k = go (is_less reach.step best.step) refl
    where
      go : (t : Bool) → is_less reach.step best.step ≡ t → IsFirstBefore s x r (n + 1) (Some (if t then reach else best))
      go true e = newly_first n reach k (λ u w p l m. le_lt reach.step best.step u (less_true reach.step best.step e) (h.2 u w p l m))
      go false e = (
        (let l = h.0 in omega arith),
        h.1,
        (λ u w p l m. elim (last_or w n l) [
          | inl same ↦ let P : Rational → Type 0 = λ v. best.step ≤ℚ v in subst P (sym (k.1.only u p (at u p w n same m))) (less_false reach.step best.step e)
          | inr less ↦ h.2 u w p less m
        ]),
        h.3,
      )

  pub first_more : (n : ℕ) (first other : Option Reach) → IsFirstBefore s x r n first → IsReachOf s x r n other → IsFirstBefore s x r (n + 1) (sooner_of first other)
  first_more n first None h k = first_still n first h k
  first_more n first (Some reach) h k = first_with n first reach h k

  pub first_all : (n : ℕ) (first : Option Reach) → n ≡ size s → IsFirstBefore s x r n first → IsFirstReach s x r first
  first_all n None e h = λ t v p l. h t v p (omega arith)
  first_all n (Some reach) e h = ((let l = h.0 in omega arith), h.1, record { no_sooner = λ u w p l m. h.2 u w p (omega arith) m; least = h.3 })
