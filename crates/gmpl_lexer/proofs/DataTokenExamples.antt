-- Worked examples of the definition.
use Rattle.std.specs.Prelude.{◌≡◌, refl, Some, None, codes, [], ◌∷◌}
use Rattle.std.specs.Str.{is_utf8, chars}
use Rattle.std.specs.Char.{encode_utf8}
use Rattle.gmpl_token.specs.declared.kind.TokenKind.TheVariants.{Name, Assign, Times}
use Rattle.gmpl_token.specs.declared.token.LexFaultKind.TheVariants.{BadByte}
use Rattle.gmpl_lexer.specs.DataTokens.{data_tokens, tokens_from}

nothing : data_tokens 3 (codes "ab") ≡ record { items = []; fault = None }
unfolding tokens_from
nothing = refl

-- signs and points are parts of a bare symbol, and `*` is none
symbols : data_tokens 1 (codes ";a-b.c:=_*\n{") ≡ record {
  items =
      record { kind = Name; at = 1; line = 1; text = codes "a-b.c" }
      ∷ record { kind = Assign; at = 6; line = 1; text = codes ":=" }
      ∷ record { kind = Name; at = 8; line = 1; text = codes "_" }
      ∷ record { kind = Times; at = 9; line = 1; text = codes "*" } ∷ [];
  fault = Some (record { at = 11; line = 2; kind = BadByte });
}
unfolding tokens_from is_utf8 chars encode_utf8
symbols = refl
