-- Lists of tuples without repeats.
use Rattle.std.proofs.Common.{◌≡◌, []}
use Rattle.std.specs.Cmp.{IsEquivalence}
use Rattle.std.specs.List.{IsDistinct}
use Rattle.indexmap.specs.IndexSet.{insert_all}
use Rattle.indexmap.proofs.SetLemmas.{set_all_distinct}
use Rattle.gmpl_value.specs.contracts.tuple.TupleEq.TheImpl.Laws.{laws-law}
use Rattle.gmpl_value.specs.SymbolEquality.{tuple_eq}
use Rattle.gmpl_value.specs.Sets.{Elements}

pub tuple_laws : IsEquivalence tuple_eq
tuple_laws = laws-law

-- inserted in turn they are the list again
pub inserted_again : (xs : Elements) → IsDistinct tuple_eq xs → insert_all tuple_eq [] xs ≡ xs
inserted_again xs distinct = set_all_distinct tuple_laws [] xs distinct
