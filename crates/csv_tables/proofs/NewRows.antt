-- Rows with new keys.
use Rattle.std.proofs.Common.{◌≡◌, false, List, [], ◌∷◌, ◌++◌, refl, ap, inl, inr, is_some}
use Rattle.std.specs.Map.{lookup}
use Rattle.std.proofs.lemmas.Bool.{cases_Bool}
use Rattle.indexmap.specs.IndexMap.{insert_entry}
use Rattle.gmpl_value.specs.declared.symbol.Symbol.{Symbol}
use Rattle.gmpl_value.specs.SymbolEquality.{tuple_eq}
use Rattle.csv_tables.specs.Reading.{Rows}

-- what is inserted under a new key stands behind the others
pub new_row : (rows : Rows) (key values : List Symbol) → is_some (lookup (tuple_eq key) rows) ≡ false → insert_entry tuple_eq rows key values ≡ rows ++ (key, values) ∷ []
new_row [] key values none = refl
new_row (row ∷ rows) key values none = elim (cases_Bool (tuple_eq key row.0)) [
  | inl same ↦ let there = rw same at none in cc there
  | inr other ↦ let later = rw other at none in rw other (ap (λ (t : Rows). row ∷ t) (new_row rows key values later))
]
