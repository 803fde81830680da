-- The first two passes together: what is left to be read and resolved is the rest of the whole.
use Rattle.std.proofs.Common.{◌≡◌, ◌∙◌, ℕ, suc, ◌+◌, ◌-◌, ◌<◌, List, ◌∷◌, length, Option, Some, None, ap, sym, arith}
use Rattle.std.proofs.lemmas.Option.{none-some}
use Rattle.gmpl_token.specs.Token.{Tokens}
use Rattle.gmpl_syntax.specs.declared.fault.SyntaxFault.{SyntaxFault}
use Rattle.gmpl_syntax.specs.declared.statement.Numbered.{Numbered}
use Rattle.gmpl_syntax.specs.declared.statement.Statements.{Statements}
use Rattle.gmpl_statements.specs.declared.reader.Next.{Next}
use Rattle.gmpl_statements.specs.declared.reader.Next.TheVariants as next
use Rattle.gmpl_statements.specs.Statements.{Reading, beginning, behind_next, ended, statements_left, statements_of}
use Rattle.gmpl_names.specs.Statements.{Resolving, goes_on, nothing_resolved, resolved_behind, statements, stopped}
use Rattle.gmpl_parse.specs.Models.{IsResolved}

-- behind what is resolved so far, the statements from this number on are left of the whole
pub record IsLeft (whole left : Statements) (r : Resolving) (number : ℕ) : Type 0 where
  pub resolved : statements whole ≡ resolved_behind r number left.items left.fault
  pub data_at_is : whole.data_at ≡ left.data_at

-- at first it is all of them
pub starts : (tokens : Tokens) (turns : ℕ) (reader : Reading) (r : Resolving) → reader ≡ beginning tokens → r ≡ nothing_resolved → turns ≡ length reader.input.rest
    → IsLeft (statements_of tokens) (statements_left (turns - 0) 1 reader) r 1
unfolding statements_of
starts tokens turns reader r reader_is r_is count =
    let same : turns - 0 ≡ turns = omega arith in
    let turns_are : turns - 0 ≡ length tokens.items = same ∙ count ∙ ap (λ b. length b.input.rest) reader_is in
    let whole_is : statements_of tokens ≡ statements_left (turns - 0) 1 reader = sym (ap (λ b. statements_left (turns - 0) 1 b) reader_is ∙ ap (λ n. statements_left n 1 (beginning tokens)) turns_are) in
    let left = statements_left (turns - 0) 1 reader in
    record {
      resolved = ap (λ s. resolved_behind nothing_resolved 1 s.items s.fault) whole_is ∙ ap (λ b. resolved_behind b 1 left.items left.fault) (sym r_is);
      data_at_is = ap (λ s. s.data_at) whole_is;
    }

-- one more turn of reading
module _ (whole : Statements) (turns turn : ℕ) (reader later : Reading) (r : Resolving) (found : Next) (more : turn < turns)
    (read : (n : ℕ) → statements_left (suc n) (turn + 1) reader ≡ behind_next found (statements_left n (turn + 1 + 1) later))
    (is_left : IsLeft whole (statements_left (turns - turn) (turn + 1) reader) r (turn + 1)) where
  abbrev pub behind : Statements
  behind = statements_left (turns - (turn + 1)) (turn + 1 + 1) later

  left_is : statements_left (turns - turn) (turn + 1) reader ≡ behind_next found behind
  left_is =
      let one_less : turns - turn ≡ suc (turns - (turn + 1)) = omega arith in
      ap (λ n. statements_left n (turn + 1) reader) one_less ∙ read (turns - (turn + 1))

  rest : IsLeft whole (behind_next found behind) r (turn + 1)
  rest = record {
    resolved = is_left.resolved ∙ ap (λ s. resolved_behind r (turn + 1) s.items s.fault) left_is;
    data_at_is = is_left.data_at_is ∙ ap (λ s. s.data_at) left_is;
  }

  -- what becomes of the next statement, whatever comes behind it
  abbrev pub Adds : Numbered → Option SyntaxFault → Resolving → Type 0
  Adds x own after = (xs : List Numbered) (end : Option SyntaxFault) → resolved_behind r (turn + 1) (x ∷ xs) end ≡ goes_on own after (turn + 1) xs end

  -- a statement with a fault of its names
  pub ends_before : (x : Numbered) (own : Option SyntaxFault) (fault : SyntaxFault) (after : Resolving) → found ≡ next.Statement x → own ≡ Some fault → Adds x own after → IsResolved (stopped after.made (Some fault)) None whole
  ends_before x own fault after is bad adds = record {
    resolved = sym (rest.resolved ∙ ap (λ f. resolved_behind r (turn + 1) (behind_next f behind).items (behind_next f behind).fault) is ∙ adds behind.items behind.fault ∙ ap (λ o. goes_on o after (turn + 1) behind.items behind.fault) bad);
    data_at_is = λ good. absurd (none-some fault (sym good));
  }

  -- `data`
  pub ends_with_data : (line place : ℕ) → found ≡ next.Data line place → IsResolved (stopped r.made None) (Some place) whole
  ends_with_data line place is = record {
    resolved = sym (rest.resolved ∙ ap (λ f. resolved_behind r (turn + 1) (behind_next f behind).items (behind_next f behind).fault) is);
    data_at_is = λ _. sym (rest.data_at_is ∙ ap (λ f. (behind_next f behind).data_at) is);
  }

  -- the end, or a bad statement
  pub ends_here : (fault : Option SyntaxFault) → found ≡ next.End fault → IsResolved (stopped r.made fault) None whole
  ends_here fault is = record {
    resolved = sym (rest.resolved ∙ ap (λ f. resolved_behind r (turn + 1) (behind_next f behind).items (behind_next f behind).fault) is);
    data_at_is = λ _. sym (rest.data_at_is ∙ ap (λ f. (behind_next f behind).data_at) is);
  }
