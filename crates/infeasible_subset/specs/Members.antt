-- Bounds of rows and columns by their places, and lists of them.
use Rattle.std.specs.Prelude.{List, [], ◌∷◌, Bool, true, false, ◌&&◌, ◌||◌, ◌==◌, cond}
pub use Rattle.infeasible_subset.specs.declared.member.Side.{Side}
pub use Rattle.infeasible_subset.specs.declared.member.Side.TheVariants.{Lower, Upper}
pub use Rattle.infeasible_subset.specs.declared.member.Member.{Member}
pub use Rattle.infeasible_subset.specs.declared.member.Member.TheVariants.{OfRow, OfColumn}

abbrev pub same_side : Side → Side → Bool
same_side Lower Lower = true
same_side Lower Upper = false
same_side Upper Lower = false
same_side Upper Upper = true

abbrev pub same_member : Member → Member → Bool
same_member (OfRow i s) (OfRow j t) = (i == j) && same_side s t
same_member (OfRow i s) (OfColumn j t) = false
same_member (OfColumn i s) (OfRow j t) = false
same_member (OfColumn i s) (OfColumn j t) = (i == j) && same_side s t

-- the member is one of these
abbrev pub has : List Member → Member → Bool
has [] m = false
has (k ∷ ks) m = same_member k m || has ks m

-- those of the first list that are in the second one too
abbrev pub both : List Member → List Member → List Member
both [] ks = []
both (m ∷ ms) ks = cond (has ks m) (m ∷ both ms ks) (both ms ks)
