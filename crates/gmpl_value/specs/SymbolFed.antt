-- What a symbol feeds a hasher: no tag, and one short write where it is a whole number of 64 bits.
use Rattle.std.specs.Prelude.{ℤ, pos, neg_ℤ, ◌^◌, ◌≡◌, Bool, true, cond, ◌&&◌, ◌++◌, int_le, int_lt}
use Rattle.std.proofs.Common.{ap, sym}
use Rattle.std.specs.Hash.{HashWrites}
use Rattle.std.specs.Hash as fed
use Rattle.std.specs.Cmp.Lexicographic.{same_text}
use Rattle.rational.proofs.Laws.{same_true}
use Rattle.rational.specs.Rational.{Rational}
use Rattle.rational.specs.Compare.{is_whole}
use Rattle.gmpl_value.specs.contracts.symbol.SymbolPartialEq.TheImpl as impl
use Rattle.gmpl_value.specs.declared.symbol.Symbol.{Symbol}
use Rattle.gmpl_value.specs.declared.symbol.Symbol.TheVariants.{Number, Word}

-- it fits in 64 bits with a sign
abbrev pub is_word : ℤ → Bool
is_word n = int_le (neg_ℤ (pos (2 ^ 63))) n && int_lt n (pos (2 ^ 63))

-- a whole number of 64 bits, and else the numerator and then the denominator
abbrev pub number_fed : Rational → HashWrites
number_fed q = cond (is_whole q && is_word q.numerator) (fed.i64 q.numerator) (fed.i128 q.numerator ++ fed.u128 q.denominator)

abbrev pub fed_of : Symbol → HashWrites
fed_of (Number q) = number_fed q
fed_of (Word text) = fed.str text

-- the test for equal symbols finds one symbol
pub same_symbol : (s t : Symbol) → (impl.ghosts).eq s t ≡ true → s ≡ t
same_symbol (Number a) (Number b) h = ap Number (same_true a b h)
same_symbol (Number a) (Word t) h = absurd cc
same_symbol (Word s) (Number b) h = absurd cc
same_symbol (Word s) (Word t) h = ap Word (same_text s t (sym h))

-- equal symbols are fed alike
pub fed_alike : (s t : Symbol) → (impl.ghosts).eq s t ≡ true → fed_of s ≡ fed_of t
fed_alike s t same = ap fed_of (same_symbol s t same)
