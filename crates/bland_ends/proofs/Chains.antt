-- Loops of pivots. A variable that enters somewhere on a loop leaves somewhere on it too; so where no variable can be the greatest one that does, there is no loop.
use Rattle.std.proofs.Common.{◌≡◌, ◌∙◌, ℕ, zero, suc, ◌+◌, ◌<◌, ◌≤◌, ◌≢◌, List, [], ◌∷◌, ◌++◌, refl, sym, ap, subst, arith, set}
use Rattle.std.proofs.lemmas.List.{get_or-set_same, length-set}
use Rattle.std.proofs.Math.Decide.{ℕ_discrete, dec_lt}
use Rattle.basis.specs.Dictionary.{place_of, IsBasic, IsResting}
use Rattle.basis.specs.Bland.{exchanged}
use Rattle.basis.specs.declared.Place.{Place}
use Rattle.basis.specs.declared.Place.TheVariants.{Basic, AtZero}
use Rattle.basis.proofs.Laws.{basic_known, enters_basic, other_place}

-- ---- chains

-- steps of T lead from e to f, by way of these bases, of which the last is f
abbrev pub Chain : (List Place → List Place → Type 0) → List (List Place) → List Place → List Place → Type 0
Chain T [] e f = e ≡ f
Chain T (m ∷ ms) e f = T e m × Chain T ms m f

pub join : (T : List Place → List Place → Type 0) (ms ns : List (List Place)) (e f g : List Place) → Chain T ms e f → Chain T ns f g → Chain T (ms ++ ns) e g
join T [] ns e f g h k = let P : List Place → Type 0 = λ u. Chain T ns u g in subst P (sym h) k
join T (m ∷ ms) ns e f g h k = (h.0, join T ms ns m f g h.1 k)

pub one_more : (T : List Place → List Place → Type 0) (ms : List (List Place)) (e f g : List Place) → Chain T ms e f → T f g → Chain T (ms ++ (g ∷ [])) e g
one_more T ms e f g h t = join T ms (g ∷ []) e f g h (t, refl)

-- ---- pivots

-- a resting variable below n enters, a basic one leaves
pub record Pivot (n : ℕ) (g h : List Place) : Type 0 where
  pub enters : ℕ
  pub leaves : ℕ
  pub place : Place
  pub known : enters < n
  pub resting : IsResting g enters
  pub basic : IsBasic g leaves
  pub stops : place ≢ Basic
  pub exchange : h ≡ exchanged g enters leaves place

module _ (n : ℕ) (g h : List Place) (p : Pivot n g h) where
  apart : p.enters ≢ p.leaves
  apart e = p.resting.not_basic (subst (IsBasic g) (sym e) p.basic)

  pub others_stay : (v : ℕ) → v ≢ p.enters → v ≢ p.leaves → place_of h v ≡ place_of g v
  others_stay v k l = ap (λ u. place_of u v) p.exchange ∙ other_place g p.enters p.leaves p.place v k l

  pub lands : place_of h p.leaves ≡ p.place
  lands = ap (λ u. place_of u p.leaves) p.exchange ∙ get_or-set_same (set g p.enters Basic) p.leaves p.place AtZero (rw (length-set g p.enters Basic) (basic_known g p.leaves p.basic))

  pub comes_in : IsBasic h p.enters
  comes_in = ap (λ u. place_of u p.enters) p.exchange ∙ enters_basic g p.enters p.leaves p.place p.resting.known apart

-- ---- loops through the basis b

-- a step of a loop through b
pub record OnLoop (T : List Place → List Place → Type 0) (b g h : List Place) : Type 0 where
  pub before : List (List Place)
  pub from : Chain T before b g
  pub step : T g h
  pub after : List (List Place)
  pub to : Chain T after h b

module _ (T : List Place → List Place → Type 0) (n : ℕ) (pivot : (g h : List Place) → T g h → Pivot n g h) (b : List Place) where
  -- the variable r enters at a step of the loop
  pub record Entry (r : ℕ) : Type 0 where
    pub base : List Place
    pub next : List Place
    pub on_loop : OnLoop T b base next
    pub enters : (pivot base next on_loop.step).enters ≡ r

  -- the variable r leaves at a step of the loop
  pub record Exit (r : ℕ) : Type 0 where
    pub base : List Place
    pub next : List Place
    pub on_loop : OnLoop T b base next
    pub leaves : (pivot base next on_loop.step).leaves ≡ r

  -- where r rests at first and is basic in the end, it enters somewhere, and rests up to there where it did at first
  pub find_entry : (r : ℕ) (before ms after : List (List Place)) (e f : List Place) → Chain T before b e → Chain T ms e f → Chain T after f b
      → ¬ (IsBasic e r) → IsBasic f r → (k : Entry r) × (place_of k.base r ≡ place_of e r)
  find_entry r before [] after e f from way to rests basic = absurd (rests (let P : List Place → Type 0 = λ u. IsBasic u r in subst P (sym way) basic))
  find_entry r before (m ∷ ms) after e f from way to rests basic =
      let p : Pivot n e m = pivot e m way.0 in
      elim (ℕ_discrete r p.enters) [
        | yes same ↦ (record { base = e; next = m; on_loop = record { before = before; from = from; step = way.0; after = ms ++ after; to = join T ms after m f b way.1 to }; enters = sym same }, refl)
        | no n ↦
            let stays : place_of m r ≡ place_of e r = others_stay _ e m p r n (λ w. rests (subst (IsBasic e) (sym w) p.basic)) in
            let rest = find_entry r (before ++ (m ∷ [])) ms after m f (one_more T before b e m from way.0) way.1 to (λ w. rests (sym stays ∙ w)) basic in
            (rest.0, rest.1 ∙ stays)
      ]

  -- where r is basic at first and rests in the end, it leaves somewhere
  pub find_exit : (r : ℕ) (before ms after : List (List Place)) (e f : List Place) → Chain T before b e → Chain T ms e f → Chain T after f b
      → IsBasic e r → ¬ (IsBasic f r) → Exit r
  find_exit r before [] after e f from way to basic rests = absurd (rests (let P : List Place → Type 0 = λ u. IsBasic u r in subst P way basic))
  find_exit r before (m ∷ ms) after e f from way to basic rests =
      let p : Pivot n e m = pivot e m way.0 in
      elim (ℕ_discrete r p.leaves) [
        | yes same ↦ record { base = e; next = m; on_loop = record { before = before; from = from; step = way.0; after = ms ++ after; to = join T ms after m f b way.1 to }; leaves = sym same }
        | no n ↦
            let stays : place_of m r ≡ place_of e r = others_stay _ e m p r (λ w. p.resting.not_basic (subst (IsBasic e) w basic)) n in
            find_exit r (before ++ (m ∷ [])) ms after m f (one_more T before b e m from way.0) way.1 to (stays ∙ basic) rests
      ]

  -- the way round, from the end of a step of the loop to the beginning of another
  pub way_round : (g h k l : List Place) (u : OnLoop T b g h) (v : OnLoop T b k l) → Chain T (u.after ++ v.before) h k
  way_round g h k l u v = join T u.after v.before h b k u.to v.from

  -- a variable that leaves somewhere on the loop enters somewhere, and rests up to there where it went
  pub enters_again : (r : ℕ) (x : Exit r) → (k : Entry r) × (place_of k.base r ≡ (pivot x.base x.next x.on_loop.step).place)
  enters_again r x =
      let p : Pivot n x.base x.next = pivot x.base x.next x.on_loop.step in
      let landed : place_of x.next r ≡ p.place = (let P : ℕ → Type 0 = λ u. place_of x.next u ≡ p.place in subst P x.leaves (lands _ x.base x.next p)) in
      let was : IsBasic x.base r = subst (IsBasic x.base) x.leaves p.basic in
      let found = find_entry r (x.on_loop.before ++ (x.next ∷ [])) (x.on_loop.after ++ x.on_loop.before) (x.next ∷ x.on_loop.after) x.next x.base
      (one_more T x.on_loop.before b x.base x.next x.on_loop.from x.on_loop.step)
      (way_round x.base x.next x.base x.next x.on_loop x.on_loop)
      (x.on_loop.step, x.on_loop.to)
      (λ w. p.stops (sym landed ∙ w)) was in
      (found.0, found.1 ∙ landed)

  -- one that enters somewhere leaves somewhere
  pub leaves_again : (r : ℕ) → Entry r → Exit r
  leaves_again r k =
      let p : Pivot n k.base k.next = pivot k.base k.next k.on_loop.step in
      let basic : IsBasic k.next r = subst (IsBasic k.next) k.enters (comes_in _ k.base k.next p) in
      let rested : ¬ (IsBasic k.base r) = (λ w. p.resting.not_basic (subst (IsBasic k.base) (sym k.enters) w)) in
      find_exit r (k.on_loop.before ++ (k.next ∷ [])) (k.on_loop.after ++ k.on_loop.before) (k.next ∷ k.on_loop.after) k.next k.base
      (one_more T k.on_loop.before b k.base k.next k.on_loop.from k.on_loop.step)
      (way_round k.base k.next k.base k.next k.on_loop k.on_loop)
      (k.on_loop.step, k.on_loop.to) basic rested

  -- one that enters nowhere keeps its place
  pub keeps_place : (v : ℕ) → ¬ (Entry v) → (before ms after : List (List Place)) (e f : List Place) → Chain T before b e → Chain T ms e f → Chain T after f b
      → place_of e v ≡ place_of f v
  keeps_place v never before [] after e f from way to = ap (λ u. place_of u v) way
  keeps_place v never before (m ∷ ms) after e f from way to =
      let on_loop : OnLoop T b e m = record { before = before; from = from; step = way.0; after = ms ++ after; to = join T ms after m f b way.1 to } in
      let p : Pivot n e m = pivot e m way.0 in
      let stays : place_of m v ≡ place_of e v = others_stay _ e m p v
      (λ w. never (record { base = e; next = m; on_loop = on_loop; enters = sym w }))
      (λ w. never (enters_again v (record { base = e; next = m; on_loop = on_loop; leaves = sym w })).0) in
      sym stays ∙ keeps_place v never (before ++ (m ∷ [])) ms after m f (one_more T before b e m from way.0) way.1 to

  -- ---- the greatest variable that enters

  -- r leaves at a step to the place at which it is when it enters at another, and the variables above r are the same at both
  pub record IsGreatest (r : ℕ) : Type 0 where
    pub exit : Exit r
    pub entry : Entry r
    pub same_place : place_of entry.base r ≡ (pivot exit.base exit.next exit.on_loop.step).place
    pub above : (v : ℕ) → r < v → place_of exit.base v ≡ place_of entry.base v
    pub mover : (pivot exit.base exit.next exit.on_loop.step).enters ≤ r
    pub leaver : (pivot entry.base entry.next entry.on_loop.step).leaves ≤ r

  greatest : (r : ℕ) → Entry r → ((v : ℕ) → r < v → ¬ (Entry v)) → IsGreatest r
  greatest r k none =
      let x : Exit r = leaves_again r k in
      let y = enters_again r x in
      let p : Pivot n x.base x.next = pivot x.base x.next x.on_loop.step in
      let q : Pivot n y.0.base y.0.next = pivot y.0.base y.0.next y.0.on_loop.step in
      record {
        exit = x;
        entry = y.0;
        same_place = y.1;
        above = λ v h. keeps_place v (none v h) x.on_loop.before ((x.next ∷ x.on_loop.after) ++ y.0.on_loop.before) (y.0.next ∷ y.0.on_loop.after) x.base y.0.base x.on_loop.from
            (join T (x.next ∷ x.on_loop.after) y.0.on_loop.before x.base b y.0.base (x.on_loop.step, x.on_loop.to) y.0.on_loop.from) (y.0.on_loop.step, y.0.on_loop.to);
        mover = elim (dec_lt r p.enters) [
          | yes high ↦ absurd (none p.enters high (record { base = x.base; next = x.next; on_loop = x.on_loop; enters = refl }))
          | no low ↦ omega arith
        ];
        leaver = elim (dec_lt r q.leaves) [
          | yes high ↦ absurd (none q.leaves high (enters_again q.leaves (record { base = y.0.base; next = y.0.next; on_loop = y.0.on_loop; leaves = refl })).0)
          | no low ↦ omega arith
        ];
      }

  module _ (no_greatest : (r : ℕ) → ¬ (IsGreatest r)) where
    -- none of the last m variables enters
    none_enters : (m v : ℕ) → n ≤ v + m → ¬ (Entry v)
    none_enters zero v h k =
        let p : Pivot n k.base k.next = pivot k.base k.next k.on_loop.step in
        let same : p.enters ≡ v = k.enters in
        let known : p.enters < n = p.known in
        omega arith
    none_enters (suc m) v h k = no_greatest v (greatest v k (λ w l. none_enters m w (omega arith)))

    -- so there is no loop
    pub no_loop : (m : List Place) (ms : List (List Place)) → T b m → Chain T ms m b → ⊥
    no_loop m ms step way =
        let p : Pivot n b m = pivot b m step in
        none_enters n p.enters (omega arith) (record { base = b; next = m; on_loop = record { before = []; from = refl; step = step; after = ms; to = way }; enters = refl })
