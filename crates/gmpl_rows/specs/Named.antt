-- Members that have names, and differ: for proofs alone.
use Rattle.std.specs.Prelude.{cond, List, ◌∷◌}
use Rattle.std.specs.List.{AllByRecursion, IsDistinct}
use Rattle.gmpl_value.specs.SymbolEquality.{tuple_eq}
use Rattle.gmpl_value.specs.declared.symbol.Symbol.{Symbol}
use Rattle.gmpl_member_names.specs.Narrow.{AreNarrow}
use Rattle.gmpl_rows.specs.MemberColumn.{MemberColumn, is_used}
use Rattle.gmpl_rows.specs.Demanded.{Demanded}
use Rattle.gmpl_rows.specs.declared.declared.Declared.{Declared}
use Rattle.gmpl_rows.specs.declared.draft.RowHead.{RowHead}

-- the numbers in the subscripts of members that are columns have at most 64 digits
abbrev pub AreUsedNarrow : List (List Symbol) → List MemberColumn → Type 0
AreUsedNarrow (m ∷ ms) (k ∷ ks) = cond (is_used k) (AreNarrow m) (Unit {0}) × AreUsedNarrow ms ks
AreUsedNarrow _ _ = Unit {0}

-- of each variable the members differ, and those that are columns have names
abbrev pub AreApart : List Declared → List Demanded → Type 0
AreApart (v ∷ vs) (d ∷ ds) = (AreUsedNarrow d.members d.columns × IsDistinct tuple_eq d.members) × AreApart vs ds
AreApart _ _ = Unit {0}

abbrev pub IsRowNarrow : RowHead → Type 0
IsRowNarrow h = AreNarrow h.subscripts

abbrev pub AreRowsNarrow : List RowHead → Type 0
AreRowsNarrow hs = AllByRecursion IsRowNarrow hs
