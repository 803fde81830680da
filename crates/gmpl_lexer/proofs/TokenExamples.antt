-- Worked examples of the definition.
use Rattle.std.specs.Prelude.{◌≡◌, refl, Some, None, codes, [], ◌∷◌}
use Rattle.std.specs.Str.{is_utf8, chars}
use Rattle.std.specs.Char.{encode_utf8}
use Rattle.gmpl_token.specs.declared.kind.TokenKind.TheVariants.{Name, NumericLiteral, StringLiteral, SubjectTo, DotDot, Semicolon, Point}
use Rattle.gmpl_token.specs.declared.token.LexFaultKind.TheVariants.{UnendedComment}
use Rattle.gmpl_lexer.specs.Tokens.{tokens_of, tokens_from}

nothing : tokens_of [] ≡ record { items = []; fault = None }
unfolding tokens_from
nothing = refl

-- a point before another one is no part of a number
range : tokens_of (codes "1..3;") ≡ record {
  items =
      record { kind = NumericLiteral; at = 0; line = 1; text = codes "1" }
      ∷ record { kind = DotDot; at = 1; line = 1; text = codes ".." }
      ∷ record { kind = NumericLiteral; at = 3; line = 1; text = codes "3" }
      ∷ record { kind = Semicolon; at = 4; line = 1; text = codes ";" } ∷ [];
  fault = None;
}
unfolding tokens_from is_utf8 chars encode_utf8
range = refl

-- `s.t.` is one token where a statement begins, and else four
twice : tokens_of (codes "s.t. s.t.") ≡ record {
  items =
      record { kind = SubjectTo; at = 0; line = 1; text = codes "s.t." }
      ∷ record { kind = Name; at = 5; line = 1; text = codes "s" }
      ∷ record { kind = Point; at = 6; line = 1; text = codes "." }
      ∷ record { kind = Name; at = 7; line = 1; text = codes "t" }
      ∷ record { kind = Point; at = 8; line = 1; text = codes "." } ∷ [];
  fault = None;
}
unfolding tokens_from is_utf8 chars encode_utf8
twice = refl

-- a quote doubled stands in the string, and a comment must end
unended : tokens_of (codes "'a''b'\n/* x") ≡ record {
  items = record { kind = StringLiteral; at = 0; line = 1; text = codes "'a''b'" } ∷ [];
  fault = Some (record { at = 7; line = 2; kind = UnendedComment });
}
unfolding tokens_from is_utf8 chars encode_utf8
unended = refl
