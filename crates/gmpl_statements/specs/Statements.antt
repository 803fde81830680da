-- The statements of a model, up to its end or to the first that no rule reads (GNU MathProg Language Reference, chapter on
-- statements; sections on the end and the data statement).
use Rattle.std.specs.Prelude.{ℕ, zero, suc, ◌+◌, Bool, true, false, ◌&&◌, ◌||◌, if◌then◌else◌, List, [], ◌∷◌, ◌++◌, ◌==◌, length, Option, Some, None, Result, Ok, Err}
use Rattle.gmpl_token.specs.declared.kind.TokenKind.TheVariants as k
use Rattle.gmpl_token.specs.declared.token.LexFault.{LexFault}
use Rattle.gmpl_token.specs.declared.token.LexFaultKind.{LexFaultKind}
use Rattle.gmpl_token.specs.declared.token.LexFaultKind.TheVariants as lex
use Rattle.gmpl_token.specs.Token.{Token, Tokens}
use Rattle.gmpl_syntax.specs.declared.fault.SyntaxFault.{SyntaxFault}
use Rattle.gmpl_syntax.specs.declared.fault.SyntaxFaultKind.{SyntaxFaultKind}
use Rattle.gmpl_syntax.specs.declared.fault.SyntaxFaultKind.TheVariants.{BadByte, UnendedString, UnendedComment, TooWide, Unended}
use Rattle.gmpl_syntax.specs.declared.statement.Statement.{Statement}
use Rattle.gmpl_syntax.specs.declared.statement.Statement.TheVariants as s
use Rattle.gmpl_syntax.specs.declared.statement.Numbered.{Numbered}
use Rattle.gmpl_syntax.specs.declared.statement.Statements.{Statements}
use Rattle.gmpl_input.specs.Input.{Input, kind, next as behind_first, sees, spelling, behind, is_kind}
use Rattle.gmpl_input.specs.Rules.{Outcome}
use Rattle.gmpl_words.specs.Statements.{is_end, is_data}
use Rattle.gmpl_statements.specs.declared.reader.Next.{Next}
use Rattle.gmpl_statements.specs.declared.reader.Next.TheVariants as next
use Rattle.gmpl_statements.specs.Statement.{statement}

-- ---- where the tokens end

abbrev pub fault_kind : LexFaultKind → SyntaxFaultKind
fault_kind lex.BadByte = BadByte
fault_kind lex.UnendedString = UnendedString
fault_kind lex.UnendedComment = UnendedComment
fault_kind lex.TooWide = TooWide

-- why a statement has no more tokens
abbrev pub end_of : Option LexFault → SyntaxFaultKind
end_of (Some fault) = fault_kind fault.kind
end_of None = Unended

-- a bad token where a statement begins is a bad statement
abbrev pub unread : ℕ → Option LexFault → Option SyntaxFault
unread number (Some fault) = Some (record { statement = number; line = fault.line; kind = fault_kind fault.kind })
unread number None = None

-- ---- the next token

abbrev pub line_at : List Token → ℕ
line_at [] = 0
line_at (token ∷ tokens) = token.line

abbrev pub place_at : List Token → ℕ
place_at [] = 0
place_at (token ∷ tokens) = token.at

-- `end` and `data` are a statement's word only before `;`
unfoldable pub is_last : (List ℕ → Bool) → Input → Bool
is_last is_word i = sees k.Name i && (is_word (spelling i) && is_kind k.Semicolon (kind (behind_first i)))

abbrev pub is_solve : Statement → Bool
is_solve s.Solve = true
is_solve _ = false

-- ---- the list of statements

-- a statement before those behind it
abbrev pub with_first : Numbered → Statements → Statements
with_first x behind_it = record { items = x ∷ behind_it.items; data_at = behind_it.data_at; fault = behind_it.fault }

abbrev pub ended : Option SyntaxFault → Statements
ended fault = record { items = []; data_at = None; fault = fault }

-- `data` is a statement, behind whose semicolon, at this place, a data section begins
abbrev pub with_data : ℕ → ℕ → Statements
with_data line place = record { items = record { line = line; statement = s.Data } ∷ []; data_at = Some place; fault = None }

-- a statement of this number, whose first token stands in this line, before those behind it
abbrev pub with_statement : ℕ → ℕ → Outcome Statement → (Statement → Input → Statements) → Statements
with_statement number line (Ok p) go = with_first (record { line = line; statement = p.0 }) (go p.0 p.1)
with_statement number line (Err kind) go = ended (Some (record { statement = number; line = line; kind = kind }))

-- from the statement of this number on. The count bounds the turns; each turn takes a token, so that the count of the tokens left is
-- enough.
unfoldable pub statements_from : Option LexFault → ℕ → Bool → ℕ → Input → Statements
statements_from fault zero solved number i = ended (unread number fault)
statements_from fault (suc n) solved number i =
    if length i.rest == 0 then ended (unread number fault)
    else if is_last is_end i then ended None
    else if is_last is_data i then with_data (line_at i.rest) (place_at (behind i.rest))
    else with_statement number (line_at i.rest) (statement solved i) (λ x j. statements_from fault n (solved || is_solve x) (number + 1) j)

-- the statements of a model with these tokens
unfoldable pub statements_of : Tokens → Statements
statements_of tokens = statements_from tokens.fault (length tokens.items) false 1 (record { rest = tokens.items; end = end_of tokens.fault })

-- ---- the same, one by one

-- where reading stands: the tokens that are left, the fault behind them, and whether `solve` was read
pub record Reading : Type 0 where
  pub input : Input
  pub fault : Option LexFault
  pub solved : Bool

abbrev pub beginning : Tokens → Reading
beginning tokens = record { input = record { rest = tokens.items; end = end_of tokens.fault }; fault = tokens.fault; solved = false }

-- the statements from the one of this number on, in so many turns
abbrev pub statements_left : ℕ → ℕ → Reading → Statements
statements_left n number r = statements_from r.fault n r.solved number r.input

-- what comes next, and the statements behind it
abbrev pub behind_next : Next → Statements → Statements
behind_next (next.Statement x) left = with_first x left
behind_next (next.Data line place) left = with_data line place
behind_next (next.End fault) left = ended fault
