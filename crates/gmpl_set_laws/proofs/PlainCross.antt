-- The elements of a cross are without repeats, where those of the first set have one dimension.
use Rattle.std.proofs.Common.{◌≡◌, ◌∙◌, ◌++◌, ◌∷◌, [], ℕ, Bool, true, false, ◌&&◌, List, length, refl, sym, ap, arith}
use Rattle.std.specs.List.{IsDistinct, AllByRecursion, flat_map}
use Rattle.gmpl_value.specs.declared.symbol.Symbol.{Symbol}
use Rattle.gmpl_value.specs.SymbolEquality.{symbol_eq, tuple_eq}
use Rattle.gmpl_value.specs.Sets.{Elements, cross_of, joined_with}
use Rattle.gmpl_set_laws.specs.PlainSets.{AreOfDimension, IsSet, limited}
use Rattle.gmpl_set_laws.proofs.PlainLists.{set_of_distinct}

-- tuples of one front length are apart where their fronts are
front_apart : (a c b e : List Symbol) → length a ≡ length c → tuple_eq a c ≡ false → tuple_eq (a ++ b) (c ++ e) ≡ false
front_apart [] [] b e same h = absurd cc
front_apart [] (y ∷ c) b e same h = absurd (omega arith)
front_apart (x ∷ a) [] b e same h = absurd (omega arith)
front_apart (x ∷ a) (y ∷ c) b e same h = by (symbol_eq x y) h (λ g. front_apart a c b e (omega arith) g)
  where
    by : (p : Bool) → (p && tuple_eq a c) ≡ false → (tuple_eq a c ≡ false → tuple_eq (a ++ b) (c ++ e) ≡ false) → (p && tuple_eq (a ++ b) (c ++ e)) ≡ false
    by true h rest = rest h
    by false h rest = refl

and_false : (p : Bool) → (p && false) ≡ false
and_false true = refl
and_false false = refl

-- and where their ends are
end_apart : (a b e : List Symbol) → tuple_eq b e ≡ false → tuple_eq (a ++ b) (a ++ e) ≡ false
end_apart [] b e h = h
end_apart (x ∷ a) b e h = ap (λ q. symbol_eq x x && q) (end_apart a b e h) ∙ and_false (symbol_eq x x)

Apart : List Symbol → Elements → Type 0
Apart t = AllByRecursion (λ y. tuple_eq t y ≡ false)

apart_append : (t : List Symbol) (xs ys : Elements) → Apart t xs → Apart t ys → Apart t (xs ++ ys)
unfolding Apart
apart_append t [] ys h g = g
apart_append t (x ∷ xs) ys h g = (h.0, apart_append t xs ys h.1 g)

apart_joined : (a b : List Symbol) (ys : Elements) → Apart b ys → Apart (a ++ b) (joined_with ys a)
unfolding Apart
apart_joined a b [] h = tt
apart_joined a b (y ∷ ys) h = (end_apart a b y h.0, apart_joined a b ys h.1)

apart_other : (a b c : List Symbol) (ys : Elements) → length a ≡ length c → tuple_eq a c ≡ false → Apart (a ++ b) (joined_with ys c)
unfolding Apart
apart_other a b c [] same h = tt
apart_other a b c (y ∷ ys) same h = (front_apart a c b y same h, apart_other a b c ys same h)

apart_rest : (a b : List Symbol) (xs ys : Elements) (d : ℕ) → length a ≡ d → AreOfDimension d xs → Apart a xs → Apart (a ++ b) (flat_map (joined_with ys) xs)
unfolding Apart
apart_rest a b [] ys d of dims h = tt
apart_rest a b (c ∷ xs) ys d of dims h =
    apart_append (a ++ b) (joined_with ys c) (flat_map (joined_with ys) xs) (apart_other a b c ys (of ∙ sym dims.0) h.0) (apart_rest a b xs ys d of dims.1 h.1)

-- the pairs of one element, before the rest
block : (a : List Symbol) (ys rest : Elements) → IsDistinct tuple_eq ys → ((b : List Symbol) → Apart (a ++ b) rest) → IsDistinct tuple_eq rest → IsDistinct tuple_eq (joined_with ys a ++ rest)
unfolding IsDistinct Apart
block a [] rest d apart r = r
block a (y ∷ ys) rest d apart r = (apart_append (a ++ y) (joined_with ys a) rest (apart_joined a y ys d.0) (apart y), block a ys rest d.1 apart r)

cross_distinct : (xs ys : Elements) (d : ℕ) → IsDistinct tuple_eq xs → IsDistinct tuple_eq ys → AreOfDimension d xs → IsDistinct tuple_eq (flat_map (joined_with ys) xs)
unfolding IsDistinct Apart
cross_distinct [] ys d first second dims = tt
cross_distinct (x ∷ xs) ys d first second dims =
    block x ys (flat_map (joined_with ys) xs) second (λ b. apart_rest x b xs ys d dims.0 dims.1 first.0) (cross_distinct xs ys d first.1 second dims.1)

pub cross_plain : (d : ℕ) (xs ys : Elements) → IsSet xs → IsSet ys → AreOfDimension d xs → cross_of xs ys ≡ limited (flat_map (joined_with ys) xs)
cross_plain d xs ys s t dims = set_of_distinct (flat_map (joined_with ys) xs) (cross_distinct xs ys d s.distinct t.distinct dims)
