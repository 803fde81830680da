-- The walk back from a leaf over the turns finds the split that gives a bound.
use Rattle.std.proofs.lemmas.List.{drop_all}
use Rattle.std.proofs.Common.{◌≡◌, ◌∙◌, ℕ, suc, ◌+◌, ◌-◌, ◌<◌, ◌≤◌, add-one, drop, drop-cons, length-drop, get_or, true, false, ◌&&◌, Bool, if◌then◌else◌, List, [], ◌∷◌, length, Option, Some, None, IfSome, refl, sym, ap, arith}
use Rattle.std.specs.Prelude.{option_and_then}
use Rattle.rational.specs.Rational.{Rational}
use Rattle.milp.specs.Problem.{Problem}
use Rattle.verdicts.specs.Certificate.{Split, Side as SideOf}
use Rattle.verdicts.specs.Certificate as of
use Rattle.verdicts.specs.Proves.{narrows}
use Rattle.certificate.specs.declared.split.Side.{Side}
use Rattle.certificate.specs.declared.split.Side.TheVariants.{Low, High}
use Rattle.migration.specs.declared.sources.Tightest.{Tightest}
use Rattle.migration.specs.Sources.{bound_on, source_on, tightens, is_as_tight, tighter, is_on, split_of, with_split, tightest_of, source_from}
use Rattle.migration.proofs.Tests.{narrowed_by, covers, tightened, neither}

-- a split of the column
of_column : (side : Side) (index : ℕ) (s : Split) (from : Option ℕ) (bound : Option Rational) (found : Option Tightest) → tightest_of side (if tightens side bound s.at then Some index else from) (Some (narrowed_by side bound s.at)) found ≡ tightest_of side from bound (Some (tighter side found (record { index = index; at = s.at })))
of_column side index s from bound None = refl
of_column side index s from bound (Some f) = go (is_as_tight side s.at f.at) refl
  where
    last : is_as_tight side s.at f.at ≡ false → (u : Bool) → tightens side bound f.at ≡ u → (if u then Some f.index else (if tightens side bound s.at then Some index else from)) ≡ (if u then Some f.index else from)
    last h true e = refl
    last h false e = rw (neither side bound s.at f.at h e) refl

    go : (t : Bool) → is_as_tight side s.at f.at ≡ t → (if tightens side (Some (narrowed_by side bound s.at)) f.at then Some f.index else (if tightens side bound s.at then Some index else from)) ≡ tightest_of side from bound (Some (if t then record { index = index; at = s.at } else f))
    go true h = rw (covers side bound s.at f.at h) refl
    go false h = rw (tightened side bound s.at f.at h) (last h (tightens side bound f.at) refl)

one_side : (side : Side) (index j : ℕ) (s : Split) (from : Option ℕ) (bound : Option Rational) (found : Option Tightest) (t : Bool) → tightest_of side (if t && tightens side bound s.at then Some index else from) (if t then Some (narrowed_by side bound s.at) else bound) found ≡ tightest_of side from bound (if t then Some (tighter side found (record { index = index; at = s.at })) else found)
one_side side index j s from bound found true = of_column side index s from bound found
one_side side index j s from bound found false = refl

one_turn : (side : Side) (p : Problem) (j : ℕ) (s : SideOf) (sides : List SideOf) (found : Option Tightest) → source_from side p (s ∷ sides) j found ≡ source_from side p sides j (with_split side found (length sides) s j)
one_turn High p j (of.High s) sides found = one_side High (length sides) j s (source_on High p sides j) (bound_on High p sides j) found (narrows s j)
one_turn High p j (of.Low s) sides found = refl
one_turn Low p j (of.High s) sides found = refl
one_turn Low p j (of.Low s) sides found = one_side Low (length sides) j s (source_on Low p sides j) (bound_on Low p sides j) found (narrows s j)

next : (turns : List SideOf) (i : ℕ) (s : SideOf) → i < length turns → s ≡ get_or turns i s → drop i turns ≡ s ∷ drop (i + 1) turns
next turns i s h e = rw (add-one i) (drop-cons turns i s h ∙ ap (λ y. y ∷ drop (suc i) turns) (sym e))

-- one turn of the walk back
pub source_more : (side : Side) (p : Problem) (j : ℕ) (turns : List SideOf) (i left : ℕ) (s : SideOf) (found f : Option Tightest) (all : Option ℕ) → i < length turns → s ≡ get_or turns i s → left + (i + 1) ≡ length turns → f ≡ with_split side found left s j → source_from side p (drop i turns) j found ≡ all → source_from side p (drop (i + 1) turns) j f ≡ all
source_more side p j turns i left s found f all h is count e inv =
    let start : source_from side p (s ∷ drop (i + 1) turns) j found ≡ all = rw (next turns i s h is) at inv in
    let rest : length turns - (i + 1) ≡ left = omega arith in
    let index : length (drop (i + 1) turns) ≡ left = length-drop (i + 1) turns ∙ rest in
    ap (λ g. source_from side p (drop (i + 1) turns) j g) (e ∙ ap (λ n. with_split side found n s j) (sym index)) ∙ sym (one_turn side p j s (drop (i + 1) turns) found) ∙ start

-- the split that was found is on the way
pub with_split_within : (side : Side) (index j most : ℕ) (s : SideOf) (found f : Option Tightest) → f ≡ with_split side found index s j → index < most → IfSome found (λ t. t.index < most) → IfSome f (λ t. t.index < most)
with_split_within side index j most s found f e h k = rw e (go (is_on side s && narrows (split_of s) j))
  where
    best : (o : Option Tightest) → IfSome o (λ t. t.index < most) → (tighter side o (record { index = index; at = (split_of s).at })).index < most
    best None i = h
    best (Some g) i = pick (is_as_tight side (split_of s).at g.at)
      where
        pick : (u : Bool) → (if u then record { index = index; at = (split_of s).at } else g).index < most
        pick true = h
        pick false = i

    go : (t : Bool) → IfSome (if t then Some (tighter side found (record { index = index; at = (split_of s).at })) else found) (λ t. t.index < most)
    go true = best found k
    go false = k

-- at the root
pub at_root : (side : Side) (p : Problem) (j : ℕ) (turns : List SideOf) (i : ℕ) (bound : Option Rational) (found : Option Tightest) (result all : Option ℕ) → length turns ≤ i → bound ≡ bound_on side p [] j → result ≡ option_and_then (λ t. if tightens side bound t.at then Some t.index else None) found → source_from side p (drop i turns) j found ≡ all → result ≡ all
at_root side p j turns i bound found result all h is e inv = e ∙ ap (λ (b : Option Rational). option_and_then (λ t. if tightens side b t.at then Some t.index else None) found) is ∙ own found ∙ (rw (drop_all i turns h) at inv)
  where
    own : (o : Option Tightest) → option_and_then (λ t. if tightens side (bound_on side p [] j) t.at then Some t.index else None) o ≡ source_from side p [] j o
    own None = no_source side
      where
        no_source : (side : Side) → None ≡ source_on side p [] j
        no_source High = refl
        no_source Low = refl
    own (Some t) = go side (tightens side (bound_on side p [] j) t.at)
      where
        go : (d : Side) (u : Bool) → (if u then Some t.index else None) ≡ (if u then Some t.index else source_on d p [] j)
        go d true = refl
        go High false = refl
        go Low false = refl

pub index_within : (side : Side) (bound : Option Rational) (found : Option Tightest) (result : Option ℕ) (count most : ℕ) → result ≡ option_and_then (λ t. if tightens side bound t.at then Some t.index else None) found → count ≤ most → IfSome found (λ t. t.index < count) → IfSome result (λ index. index < most)
index_within side bound None result count most e h k = rw e tt
index_within side bound (Some t) result count most e h k = rw e (go (tightens side bound t.at))
  where
    go : (u : Bool) → IfSome (if u then Some t.index else None) (λ index. index < most)
    go true = omega (arith, h, k)
    go false = tt
