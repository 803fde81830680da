-- The order of symbols.
use Rattle.std.specs.declared.cmp.Ordering.{Ordering}
use Rattle.std.specs.declared.cmp.Ordering.TheVariants.{Less, Greater}
use Rattle.std.specs.Ordering.{nat_cmp}
use Rattle.std.specs.Cmp.Lexicographic.{slice_cmp}
use Rattle.rational.specs.Rational.{compare_ℚ}
use Rattle.gmpl_value.specs.declared.symbol.Symbol.{Symbol}
use Rattle.gmpl_value.specs.declared.symbol.Symbol.TheVariants.{Number, Word}

-- numbers by their value, then strings by their bytes
abbrev pub symbol_order : Symbol → Symbol → Ordering
symbol_order (Number a) (Number b) = compare_ℚ a b
symbol_order (Number a) (Word t) = Less
symbol_order (Word s) (Number b) = Greater
symbol_order (Word s) (Word t) = slice_cmp nat_cmp s t
