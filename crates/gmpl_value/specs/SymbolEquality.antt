-- Equality of symbols and tuples: number and number, or string and string, and the same one; tuples place by place.
use Rattle.std.specs.Prelude.{Bool, List}
use Rattle.std.specs.Hash.{HashWrites, Alike}
use Rattle.std.specs.Cmp.Lexicographic.{pointwise}
use Rattle.gmpl_value.specs.contracts.symbol.SymbolHash.TheImpl.Laws.{respects_eq-law}
use Rattle.gmpl_value.specs.contracts.symbol.SymbolHash.TheImpl as hash
use Rattle.gmpl_value.specs.declared.symbol.Symbol.{Symbol}
use Rattle.gmpl_value.specs.contracts.symbol.SymbolPartialEq.TheImpl as impl

abbrev pub symbol_eq : Symbol → Symbol → Bool
symbol_eq = (impl.ghosts).eq

abbrev pub tuple_eq : List Symbol → List Symbol → Bool
tuple_eq = pointwise symbol_eq

abbrev pub symbol_fed : Symbol → HashWrites
symbol_fed = (hash.ghosts).hash_input

-- equal symbols are fed alike
pub symbols_alike : Alike symbol_eq symbol_fed
symbols_alike = record { fed = respects_eq-law }
