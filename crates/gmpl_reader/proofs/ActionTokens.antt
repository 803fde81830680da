-- Statements that may stand in a `for`, and `for`, leave names as they are.
use Rattle.std.proofs.Common.{ℕ, zero, suc, ◌&&◌, List, [], ◌∷◌, ◌++◌, length}
use Rattle.gmpl_token.specs.declared.kind.TokenKind.TheVariants as k
use Rattle.gmpl_syntax.specs.declared.expression.Indexing.{Indexing}
use Rattle.gmpl_syntax.specs.declared.statement.Action.{Action}
use Rattle.gmpl_input.specs.Input.{kind, spelling, next, sees}
use Rattle.gmpl_input.specs.Rules.{Rule, after, expect}
use Rattle.gmpl_words.specs.Braces.{is_domain}
use Rattle.gmpl_words.specs.declared.statements.Beginning.{Beginning}
use Rattle.gmpl_words.specs.declared.statements.Beginning.TheVariants as b
use Rattle.gmpl_words.specs.Statements.{begins_with}
use Rattle.gmpl_expressions.specs.Grammar.{expression, logical_expression, indexing_expression}
use Rattle.gmpl_statements.specs.Parts.{titled_name}
use Rattle.gmpl_statements.specs.Tables.{table_output}
use Rattle.gmpl_statements.specs.Simple.{governing_domain, governed, listed, check, display, printed_file, printf}
use Rattle.gmpl_statements.specs.Actions.{is_for, one_head, heads_from, heads, actions_from, written_table, simple_by, simple, body, looped, action_by, action_with, block_in, block, action}
use Rattle.gmpl_reader.proofs.KeptTokens.{Keeps, then_left, made_left, next_kept, after_kept, either_rule, either_left, expect_keeps, optional_keeps, further_keeps}
use Rattle.gmpl_reader.proofs.ExpressionTokens.{expression_keeps, logical_expression_keeps, indexing_expression_keeps}
use Rattle.gmpl_reader.proofs.TableTokens.{titled_name_keeps, table_output_keeps}

-- ---- check, display and printf

governing_domain_keeps : (depth : ℕ) → Keeps (governing_domain depth)
unfolding governing_domain
governing_domain_keeps depth i h = optional_keeps (sees k.OpenBrace i && is_domain i.rest) (indexing_expression depth) (indexing_expression_keeps depth) i h

governed_keeps : (depth : ℕ) → Keeps (governed depth)
unfolding governed
governed_keeps depth i h = then_left (governing_domain depth i) _ (governing_domain_keeps depth i h) (λ _ j kept. after_kept k.Colon j kept)

listed_keeps : (depth : ℕ) → Keeps (listed depth)
unfolding listed
listed_keeps depth i h =
    then_left (expression depth i) _ (expression_keeps depth i h) (λ first j kept. further_keeps (expression depth) (expression_keeps depth) (first ∷ []) j kept)

check_keeps : (depth : ℕ) → Keeps (check depth)
unfolding check
check_keeps depth i h =
    then_left (governed depth i) _ (governed_keeps depth i h)
    (λ _ j kept. then_left (logical_expression depth j) _ (logical_expression_keeps depth j kept)
    (λ _ n left. then_left (expect k.Semicolon n) _ (expect_keeps k.Semicolon n left) (λ _ _ end. end)))

display_keeps : (depth : ℕ) → Keeps (display depth)
unfolding display
display_keeps depth i h =
    then_left (governed depth i) _ (governed_keeps depth i h)
    (λ _ j kept. then_left (listed depth j) _ (listed_keeps depth j kept)
    (λ _ n left. then_left (expect k.Semicolon n) _ (expect_keeps k.Semicolon n left) (λ _ _ end. end)))

printed_file_keeps : (depth : ℕ) → Keeps (printed_file depth)
unfolding printed_file
printed_file_keeps depth i h =
    let j = after k.Above i in
    let kept = after_kept k.Above i h in
    either_rule (sees k.Above i) _ _ j (made_left _ (expression depth) (expression_keeps depth) (after k.Above j) (after_kept k.Above j kept)) kept

printf_keeps : (depth : ℕ) → Keeps (printf depth)
unfolding printf
printf_keeps depth i h =
    then_left (governed depth i) _ (governed_keeps depth i h)
    (λ _ j kept. then_left (listed depth j) _ (listed_keeps depth j kept)
    (λ _ n left. then_left (printed_file depth n) _ (printed_file_keeps depth n left)
    (λ _ m more. then_left (expect k.Semicolon m) _ (expect_keeps k.Semicolon m more) (λ _ _ end. end))))

written_table_keeps : (depth : ℕ) → Keeps (written_table depth)
unfolding written_table
written_table_keeps depth i h = then_left (titled_name i) _ (titled_name_keeps i h) (λ said j kept. made_left _ (table_output depth said) (table_output_keeps depth said) j kept)

-- ---- the heads of a `for`

one_head_keeps : (depth : ℕ) → Keeps (one_head depth)
unfolding one_head
one_head_keeps depth i h = then_left (indexing_expression depth i) _ (indexing_expression_keeps depth i h) (λ _ j kept. after_kept k.Colon j kept)

heads_from_keeps : (depth n : ℕ) (found : List Indexing) → Keeps (heads_from depth n found)
unfolding heads_from
heads_from_keeps depth zero found i h = h
heads_from_keeps depth (suc n) found i h =
    either_rule (is_for (begins_with (kind i) (spelling i))) _ _ i
    (then_left (one_head depth (next i)) _ (one_head_keeps depth (next i) (next_kept i h)) (λ x j kept. heads_from_keeps depth n (found ++ x ∷ []) j kept))
    h

heads_keeps : (depth : ℕ) → Keeps (heads depth)
unfolding heads
heads_keeps depth i h = then_left (one_head depth i) _ (one_head_keeps depth i h) (λ first j kept. heads_from_keeps depth (length j.rest) (first ∷ []) j kept)

-- ---- its body

actions_from_keeps : (one : Rule Action) → Keeps one → (n : ℕ) (found : List Action) → Keeps (actions_from one n found)
unfolding actions_from
actions_from_keeps one keeps zero found i h = h
actions_from_keeps one keeps (suc n) found i h =
    either_left (sees k.CloseBrace i) _ _ h
    (then_left (one i) _ (keeps i h) (λ x j kept. actions_from_keeps one keeps n (found ++ x ∷ []) j kept))

module _ (depth : ℕ) (inner : Rule (List Action)) where
  simple_by_keeps : (beginning : Beginning) → Keeps (simple_by depth inner beginning)
  simple_by_keeps b.Check i h = check_keeps depth (next i) (next_kept i h)
  simple_by_keeps b.Display i h = display_keeps depth (next i) (next_kept i h)
  simple_by_keeps b.Printf i h = printf_keeps depth (next i) (next_kept i h)
  simple_by_keeps b.Table i h = written_table_keeps depth (next i) (next_kept i h)
  simple_by_keeps _ i h = tt

  simple_keeps : Keeps (simple depth inner)
  unfolding simple
  simple_keeps i h = simple_by_keeps (begins_with (kind i) (spelling i)) i h

  body_keeps : Keeps inner → Keeps (body depth inner)
  unfolding body
  body_keeps keeps i h =
      let j = after k.OpenBrace i in
      let kept = after_kept k.OpenBrace i h in
      either_rule (sees k.OpenBrace i) inner _ j (keeps j kept) (made_left _ (simple depth inner) simple_keeps j kept)

  looped_keeps : Keeps inner → Keeps (looped depth inner)
  unfolding looped
  looped_keeps keeps i h =
      then_left (heads depth i) _ (heads_keeps depth i h)
      (λ _ j kept. then_left (body depth inner j) _ (body_keeps keeps j kept) (λ _ _ end. end))

  action_by_keeps : Keeps inner → (beginning : Beginning) → Keeps (action_by depth inner beginning)
  action_by_keeps keeps b.For i h = looped_keeps keeps (next i) (next_kept i h)
  action_by_keeps keeps b.Check i h = check_keeps depth (next i) (next_kept i h)
  action_by_keeps keeps b.Display i h = display_keeps depth (next i) (next_kept i h)
  action_by_keeps keeps b.Printf i h = printf_keeps depth (next i) (next_kept i h)
  action_by_keeps keeps b.Table i h = written_table_keeps depth (next i) (next_kept i h)
  action_by_keeps keeps _ i h = tt

  action_with_keeps : Keeps inner → Keeps (action_with depth inner)
  unfolding action_with
  action_with_keeps keeps i h = action_by_keeps keeps (begins_with (kind i) (spelling i)) i h

  block_in_keeps : Keeps inner → Keeps (block_in depth inner)
  unfolding block_in
  block_in_keeps keeps i h =
      then_left (actions_from (action_with depth inner) (length i.rest) [] i) _ (actions_from_keeps (action_with depth inner) (action_with_keeps keeps) (length i.rest) [] i h)
      (λ _ j kept. then_left (expect k.CloseBrace j) _ (expect_keeps k.CloseBrace j kept) (λ _ _ end. end))

block_keeps : (depth : ℕ) → Keeps (block depth)
unfolding block
block_keeps zero i h = tt
block_keeps (suc n) i h = block_in_keeps n (block n) (block_keeps n) i h

pub action_keeps : (depth : ℕ) → Keeps (action depth)
action_keeps depth = action_with_keeps depth (block depth) (block_keeps depth)
