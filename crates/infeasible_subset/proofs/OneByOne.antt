-- One member after the other: how it begins, what each trial makes of it, and what stands at the end.
use Rattle.std.proofs.Common.{◌≡◌, ◌⊎◌, ◌≤◌, inl, inr, suc, length, cond, arith, Result, Ok, Err, IfOk, OnOk, List, [], ◌∷◌, ◌++◌, map, Bool, true, false, ◌||◌, not, refl, sym, ap, subst, IsTrue}
use Rattle.std.proofs.lemmas.Bool.{and_parts}
use Rattle.std.proofs.lemmas.List.{append-nil}
use Rattle.rational.specs.Rational.{Rational}
use Rattle.milp.specs.Problem.{Problem}
use Rattle.milp.specs.Points.{Feasible}
use Rattle.verdicts.specs.Certificate.{Weights}
use Rattle.infeasible_subset.specs.Members.{Member, same_member, has, both}
use Rattle.infeasible_subset.specs.Subsets.{sub, without, row_used, column_used, IsIrreducible, UsesOnly, Refutes, AreAccepted}
use Rattle.infeasible_subset.specs.Listed.{AreAmong, all_bounds}
use Rattle.infeasible_subset.specs.Underway.{Witness, members_of, AllMeet, IsUnderway}
use Rattle.infeasible_subset.proofs.Lists.{or_right, either_way, same_members, in_front, behind, front_or_behind, of_both, all_among, among_less, both_among, among_then}
use Rattle.infeasible_subset.proofs.Subsets.{fewer_bounds, members_fewer, refuted_with, none_meets}
use Rattle.infeasible_subset.proofs.Accepted.{refuted, trial_accepted}
use Rattle.infeasible_subset.proofs.There.{bounds_there, uses_left}

-- what weights use, by rows and then by columns
abbrev pub used : Weights → List Member
used w = map row_used w.rows ++ map column_used w.columns

-- ---- points

all_meet_fewer : (p : Problem) (few many : List Member) (ws : List Witness) → ((k : Member) → IsTrue (has few k) → IsTrue (has many k)) → AllMeet p many ws → AllMeet p few ws
all_meet_fewer p few many [] h k = tt
all_meet_fewer p few many (w ∷ ws) h k = (fewer_bounds p (without w.member (has few)) (without w.member (has many)) w.point (members_fewer w.member (has few) (has many) h) k.0, all_meet_fewer p few many ws h k.1)

one_more_meets : (p : Problem) (ms : List Member) (ws : List Witness) (w : Witness) → AllMeet p ms ws → Feasible (sub p (without w.member (has ms))) w.point → AllMeet p ms (ws ++ w ∷ [])
one_more_meets p ms [] w h k = (k, tt)
one_more_meets p ms (v ∷ ws) w h k = (h.0, one_more_meets p ms ws w h.1 k)

point_of : (p : Problem) (ms : List Member) (ws : List Witness) (m : Member) → AllMeet p ms ws → IsTrue (has (members_of ws) m) → (x : List Rational) × Feasible (sub p (without m (has ms))) x
point_of p ms [] m h t = cc
point_of p ms (w ∷ ws) m h t = go (either_way (same_member w.member m) (has (members_of ws) m) t) (point_of p ms ws m h.1)
  where
    go : IsTrue (same_member w.member m) ⊎ IsTrue (has (members_of ws) m) → (IsTrue (has (members_of ws) m) → (x : List Rational) × Feasible (sub p (without m (has ms))) x) → (x : List Rational) × Feasible (sub p (without m (has ms))) x
    go (inl same) more = let P : Member → Type 0 = λ k. (x : List Rational) × Feasible (sub p (without k (has ms))) x in subst P (same_members w.member m same) (w.point, h.0)
    go (inr k) more = more k

-- ---- the beginning

pub begun : (p : Problem) (w : Weights) (left : List Member) → AreAccepted p w → left ≡ both (all_bounds p) (used w) → IsUnderway p [] left w
begun p w left a is = record {
  accepted = a;
  uses = subst (λ ms. UsesOnly (has ms) w) (sym is) (uses_left [] (all_bounds p) w (bounds_there p w (refuted p w a)));
  points = tt;
  among = subst (λ ms. AreAmong ms (all_bounds p)) (sym is) (both_among (used w) (all_bounds p) (all_bounds p) (all_among (all_bounds p)));
}

-- ---- a trial that refutes

still_there : (front ms ks : List Member) (m k : Member) → IsTrue (has (front ++ both ms ks) k) → IsTrue (has (front ++ m ∷ ms) k)
still_there front ms ks m k h = go (front_or_behind front (both ms ks) k h)
  where
    go : IsTrue (has front k) ⊎ IsTrue (has (both ms ks) k) → IsTrue (has (front ++ m ∷ ms) k)
    go (inl t) = in_front front (m ∷ ms) k t
    go (inr t) = behind front (m ∷ ms) k (or_right (same_member m k) (has ms k) (of_both ms ks k t))

pub dropped : (p : Problem) (done : List Witness) (m : Member) (rest left : List Member) (w v : Weights) → IsUnderway p done (m ∷ rest) w → AreAccepted (sub p (has (members_of done ++ rest))) v → left ≡ both rest (used v) → IsUnderway p done left v
dropped p done m rest left w v h a is =
    let shown = trial_accepted p (has (members_of done ++ rest)) v a in
    subst (λ ms. IsUnderway p done ms v) (sym is) (record {
      accepted = shown.1;
      uses = uses_left (members_of done) rest v shown.0;
      points = all_meet_fewer p (members_of done ++ both rest (used v)) (members_of done ++ m ∷ rest) done (still_there (members_of done) rest (used v) m) h.points;
      among = among_then (members_of done) (m ∷ rest) (both rest (used v)) (all_bounds p) (λ cs t. both_among (used v) rest cs (among_less m rest cs t)) h.among;
    })

-- ---- a trial that finds a point

members_more : (done : List Witness) (w : Witness) (rest : List Member) → members_of (done ++ w ∷ []) ++ rest ≡ members_of done ++ w.member ∷ rest
members_more [] w rest = refl
members_more (v ∷ done) w rest = ap (λ ms. v.member ∷ ms) (members_more done w rest)

but_one : (front rest : List Member) (m k : Member) → IsTrue (without m (has (front ++ m ∷ rest)) k) → IsTrue (has (front ++ rest) k)
but_one front rest m k h = let parts = and_parts (has (front ++ m ∷ rest) k) (not (same_member m k)) h in go (front_or_behind front (m ∷ rest) k parts.0) parts.1
  where
    other : (a b : Bool) → IsTrue (a || b) → not a ≡ true → IsTrue b
    other true b t e = cc
    other false b t e = t

    go : IsTrue (has front k) ⊎ IsTrue (has (m ∷ rest) k) → not (same_member m k) ≡ true → IsTrue (has (front ++ rest) k)
    go (inl t) e = in_front front rest k t
    go (inr t) e = behind front rest k (other (same_member m k) (has rest k) t e)

pub found : (p : Problem) (done : List Witness) (m : Member) (rest : List Member) (w : Weights) (x : List Rational) → IsUnderway p done (m ∷ rest) w → Feasible (sub p (has (members_of done ++ rest))) x → IsUnderway p (done ++ record { member = m; point = x } ∷ []) rest w
found p done m rest w x h f =
    let made : Witness = record { member = m; point = x } in
    let same : members_of done ++ m ∷ rest ≡ members_of (done ++ made ∷ []) ++ rest = sym (members_more done made rest) in
    let all : List Member = members_of done ++ m ∷ rest in
    let point = fewer_bounds p (without m (has all)) (has (members_of done ++ rest)) x (but_one (members_of done) rest m) f in
    record {
      accepted = h.accepted;
      uses = subst (λ ms. UsesOnly (has ms) w) same h.uses;
      points = subst (λ ms. AllMeet p ms (done ++ made ∷ [])) same (one_more_meets p all done made h.points point);
      among = subst (λ ms. AreAmong ms (all_bounds p)) same h.among;
    }

-- ---- the end

module _ (p : Problem) (done : List Witness) (w : Weights) (h : IsUnderway p done [] w) where
  all_done : members_of done ++ [] ≡ members_of done
  all_done = append-nil (members_of done)

  pub uses_members : UsesOnly (has (members_of done)) w
  uses_members = subst (λ ms. UsesOnly (has ms) w) all_done h.uses

  pub points_meet : AllMeet p (members_of done) done
  points_meet = subst (λ ms. AllMeet p ms done) all_done h.points

  pub listed : AreAmong (members_of done) (all_bounds p)
  listed = subst (λ ms. AreAmong ms (all_bounds p)) all_done h.among

  pub refutes : Refutes p w
  refutes = refuted p w h.accepted

  pub irreducible : IsIrreducible p (members_of done)
  irreducible = record {
    none = none_meets (sub p (has (members_of done))) w (refuted_with p (has (members_of done)) w uses_members refutes);
    each = λ m t. point_of p (members_of done) done m points_meet t;
  }

-- ---- a turn of the code

both_fewer : (ms ks : List Member) → length (both ms ks) ≤ length ms
both_fewer [] ks = omega arith
both_fewer (m ∷ ms) ks = go (has ks m) (both_fewer ms ks)
  where
    go : (b : Bool) → length (both ms ks) ≤ length ms → length (cond b (m ∷ both ms ks) (both ms ks)) ≤ suc (length ms)
    go true h = omega arith
    go false h = omega arith

pub left_fewer : (left ms rest ks : List Member) → left ≡ both ms ks → ms ≡ rest → length left ≤ length rest
left_fewer left ms rest ks is same = rw (is, same) (both_fewer rest ks)

pub others_among : (p : Problem) (done : List Witness) (m : Member) (rest others : List Member) (w : Weights) → IsUnderway p done (m ∷ rest) w → others ≡ members_of done ++ rest → AreAmong others (all_bounds p)
others_among p done m rest others w h is = subst (λ ms. AreAmong ms (all_bounds p)) (sym is) (among_then (members_of done) (m ∷ rest) rest (all_bounds p) (λ cs t. among_less m rest cs t) h.among)

pub when_pushed : {A E : Type 0} (r : Result A E) (p : Problem) (done made : List Witness) (left : List Member) (w : Weights) → OnOk r (done ≡ made) → IsUnderway p made left w → IfOk r (λ x. IsUnderway p done left w)
when_pushed (Ok a) p done made left w e h = subst (λ d. IsUnderway p d left w) (sym e) h
when_pushed (Err e) p done made left w k h = tt
