-- Two texts that begin with a part of certain bytes and go on with another byte.
use Rattle.std.proofs.Common.{◌≡◌, ℕ, Bool, true, false, List, [], ◌∷◌, ◌++◌, refl, sym, subst}
use Rattle.std.specs.List.{list_all}
use Rattle.std.proofs.lemmas.Bool.{and_parts}

-- it is empty, or its first byte doesn't pass
abbrev pub Stops : (ℕ → Bool) → List ℕ → Type 0
Stops p [] = Unit {0}
Stops p (c ∷ cs) = p c ≡ false

-- its first byte passes
abbrev pub Starts : (ℕ → Bool) → List ℕ → Type 0
Starts p [] = ⊥
Starts p (c ∷ cs) = p c ≡ true

module _ (p : ℕ → Bool) where
  not_both : (c : ℕ) (cs xs : List ℕ) → xs ≡ c ∷ cs → p c ≡ true → Stops p xs → ⊥
  not_both c cs xs is passes stops = let fails : Stops p (c ∷ cs) = subst (Stops p) is stops in cc

  -- the parts are the same, and so is what follows
  pub same_front : (a b u v : List ℕ) → list_all p a ≡ true → list_all p b ≡ true → Stops p u → Stops p v → a ++ u ≡ b ++ v → (a ≡ b) × (u ≡ v)
  same_front [] [] u v pa pb su sv e = (refl, e)
  same_front [] (y ∷ b) u v pa pb su sv e = absurd (not_both y (b ++ v) u e (and_parts (p y) (list_all p b) pb).0 su)
  same_front (x ∷ a) [] u v pa pb su sv e = absurd (not_both x (a ++ u) v (sym e) (and_parts (p x) (list_all p a) pa).0 sv)
  same_front (x ∷ a) (y ∷ b) u v pa pb su sv e =
      let first : x ≡ y = cc in
      let rest : a ++ u ≡ b ++ v = cc in
      let more = same_front a b u v (and_parts (p x) (list_all p a) pa).1 (and_parts (p y) (list_all p b) pb).1 su sv rest in
      ((λ j. first j ∷ more.0 j), more.1)

-- two texts whose first bytes are of kinds that exclude each other
pub apart : (p q : ℕ → Bool) (s t u v : List ℕ) → ((c : ℕ) → p c ≡ true → q c ≡ false) → Starts p s → Starts q t → s ++ u ≡ t ++ v → ⊥
apart p q [] t u v excludes never h e = never
apart p q (c ∷ s) [] u v excludes h never e = never
apart p q (c ∷ s) (d ∷ t) u v excludes h g e =
    let same : c ≡ d = cc in
    let fails : q d ≡ false = subst (λ x. q x ≡ false) same (excludes c h) in
    cc
