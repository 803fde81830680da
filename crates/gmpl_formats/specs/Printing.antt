-- What a format makes of its arguments.
use Rattle.std.specs.Prelude.{ℕ, Ok, Err, List, [], ◌∷◌, ◌++◌, drop}
use Rattle.std.specs.Str.{chars}
use Rattle.std.specs.Char.{encode_utf8}
use Rattle.gmpl_value.specs.declared.symbol.Symbol.{Symbol}
use Rattle.gmpl_value.specs.declared.eval_fault.EvalFault.TheVariants.{BadFormat}
use Rattle.gmpl_value.specs.Outcome.{Outcome, then_do}
use Rattle.gmpl_formats.specs.declared.conversion.Piece.{Piece}
use Rattle.gmpl_formats.specs.declared.conversion.Piece.TheVariants.{Character, Value, Bad}
use Rattle.gmpl_formats.specs.Pieces.{pieces_of}
use Rattle.gmpl_formats.specs.Texts.{conversion_text}

-- the text of a piece, where a conversion takes the first argument
abbrev pub piece_text : Piece → List Symbol → Outcome (List ℕ)
piece_text (Character c) arguments = Ok (encode_utf8 c)
piece_text (Value c) [] = Err BadFormat
piece_text (Value c) (s ∷ arguments) = conversion_text c s
piece_text Bad arguments = Err BadFormat

-- the arguments that are left behind a piece
abbrev pub left_behind : Piece → List Symbol → List Symbol
left_behind (Value c) arguments = drop 1 arguments
left_behind piece arguments = arguments

-- a text with a piece's text behind it
abbrev pub with_piece : List ℕ → Piece → List Symbol → Outcome (List ℕ)
with_piece text piece arguments = then_do (λ added. Ok (text ++ added)) (piece_text piece arguments)

-- what the pieces add to a text, piece by piece; arguments that are left over are passed over
unfoldable pub printed_onto : List ℕ → List Piece → List Symbol → Outcome (List ℕ)
printed_onto text [] arguments = Ok text
printed_onto text (piece ∷ pieces) arguments = then_do (λ now. printed_onto now pieces (left_behind piece arguments)) (with_piece text piece arguments)

abbrev pub printed : List ℕ → List Symbol → Outcome (List ℕ)
printed format arguments = printed_onto [] (pieces_of (chars format)) arguments
