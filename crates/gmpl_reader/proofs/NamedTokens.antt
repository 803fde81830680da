-- Tokens of which the names have names as their texts.
use Rattle.std.proofs.Common.{ℕ, List}
use Rattle.std.specs.List.{AllByRecursion}
use Rattle.gmpl_token.specs.declared.kind.TokenKind.{TokenKind}
use Rattle.gmpl_token.specs.declared.kind.TokenKind.TheVariants as k
use Rattle.gmpl_token.specs.Token.{Token}
use Rattle.gmpl_rows.specs.Premises.{IsName}

-- the text of a token of this kind, where that is a name
abbrev pub HasText : TokenKind → List ℕ → Type 0
HasText k.Name text = IsName text
HasText _ text = Unit {0}

abbrev pub IsNamed : Token → Type 0
IsNamed token = HasText token.kind token.text

abbrev pub AreNamed : List Token → Type 0
AreNamed tokens = AllByRecursion IsNamed tokens

-- a name has such a text, whatever kind it is read as
pub any_kind : (kind : TokenKind) (text : List ℕ) → IsName text → HasText kind text
any_kind k.Name text h = h
any_kind _ text h = tt
