-- Numbers of at most 64 digits in numerator and denominator, as each fraction of 128 bits has.
use Rattle.std.specs.Prelude.{◌<◌, ◌^◌, List, unsigned_abs}
use Rattle.std.specs.List.{AllByRecursion}
use Rattle.gmpl_value.specs.declared.symbol.Symbol.{Symbol}
use Rattle.gmpl_value.specs.declared.symbol.Symbol.TheVariants.{Number, Word}

abbrev pub IsNarrow : Symbol → Type 0
IsNarrow (Number q) = (unsigned_abs q.numerator < 10 ^ 64) × (q.denominator < 10 ^ 64)
IsNarrow (Word text) = Unit {0}

abbrev pub AreNarrow : List Symbol → Type 0
AreNarrow = AllByRecursion IsNarrow
