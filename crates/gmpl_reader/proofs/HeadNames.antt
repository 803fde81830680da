-- The names in the heads of statements are texts of name tokens.
use Rattle.std.proofs.Common.{ℕ, zero, suc, ◌+◌, ◌==◌, ◌||◌, Bool, true, false, if◌then◌else◌, List, [], ◌∷◌, ◌++◌, length, Option, Some, Ok, Err, IfOk}
use Rattle.gmpl_token.specs.declared.kind.TokenKind.{TokenKind}
use Rattle.gmpl_token.specs.declared.kind.TokenKind.TheVariants as k
use Rattle.gmpl_token.specs.declared.token.LexFault.{LexFault}
use Rattle.gmpl_token.specs.Token.{Token, Tokens}
use Rattle.gmpl_syntax.specs.declared.fault.SyntaxFaultKind.{SyntaxFaultKind}
use Rattle.gmpl_syntax.specs.declared.expression.Relation.{Relation}
use Rattle.gmpl_syntax.specs.declared.statement.Head.{Head}
use Rattle.gmpl_syntax.specs.declared.statement.Attribute.{Attribute}
use Rattle.gmpl_syntax.specs.declared.statement.Declaration.{Declaration}
use Rattle.gmpl_syntax.specs.declared.statement.Constraint.{Constraint}
use Rattle.gmpl_syntax.specs.declared.statement.Objective.{Objective}
use Rattle.gmpl_syntax.specs.declared.statement.Direction.{Direction}
use Rattle.gmpl_syntax.specs.declared.statement.Direction.TheVariants as direction
use Rattle.gmpl_syntax.specs.declared.statement.TableInput.{TableInput}
use Rattle.gmpl_syntax.specs.declared.statement.TableOutput.{TableOutput}
use Rattle.gmpl_syntax.specs.declared.statement.Action.{Action}
use Rattle.gmpl_syntax.specs.declared.statement.Action.TheVariants as a
use Rattle.gmpl_syntax.specs.declared.statement.Statement.{Statement}
use Rattle.gmpl_syntax.specs.declared.statement.Statement.TheVariants as s
use Rattle.gmpl_syntax.specs.declared.statement.Statements.{Statements}
use Rattle.gmpl_input.specs.Input.{Input, kind, spelling, next, sees}
use Rattle.gmpl_input.specs.Rules.{Outcome, Rule, and_then, pure, after, expect}
use Rattle.gmpl_words.specs.declared.attributes.Declared.{Declared}
use Rattle.gmpl_words.specs.declared.attributes.Declared.TheVariants as declared
use Rattle.gmpl_words.specs.declared.attributes.AttributeWord.{AttributeWord}
use Rattle.gmpl_words.specs.declared.attributes.AttributeWord.TheVariants as w
use Rattle.gmpl_words.specs.declared.statements.Beginning.{Beginning}
use Rattle.gmpl_words.specs.declared.statements.Beginning.TheVariants as b
use Rattle.gmpl_words.specs.Attributes.{attribute_word, fits, noted}
use Rattle.gmpl_words.specs.Operators.{bound_relation, may_follow}
use Rattle.gmpl_words.specs.Statements.{begins_with, is_to, is_end, is_data}
use Rattle.gmpl_expressions.specs.Grammar.{expression, indexing_expression, max_depth}
use Rattle.gmpl_statements.specs.Parts.{name_by, name, titled_name, optional_domain, head}
use Rattle.gmpl_statements.specs.Attributes.{literal_by, literal, attribute_value, attribute, attributes_from, attributes}
use Rattle.gmpl_statements.specs.Declarations.{declaration, first_relation, last_side, optional_last_side, sides, constraint, objective}
use Rattle.gmpl_statements.specs.Tables.{input_word, table_input, table_output}
use Rattle.gmpl_statements.specs.Actions.{action}
use Rattle.gmpl_statements.specs.Statement.{subject_by, subject, read_table, table_by, table, solve, statement_by, statement}
use Rattle.gmpl_statements.specs.Statements.{end_of, line_at, is_last, is_solve, with_statement, statements_from, statements_of}
use Rattle.gmpl_rows.specs.Premises.{IsName}
use Rattle.gmpl_reader.proofs.NamedTokens.{HasText, AreNamed}
use Rattle.gmpl_reader.proofs.KeptTokens.{Kept, Left, Keeps, then_left, made_left, next_kept, after_kept, either_rule, either_left, given_left, expect_keeps, optional_keeps}
use Rattle.gmpl_reader.proofs.ExpressionTokens.{number_keeps, expression_keeps, indexing_expression_keeps}
use Rattle.gmpl_reader.proofs.TableTokens.{titled_name_keeps, table_input_keeps, input_word_keeps, table_output_keeps}
use Rattle.gmpl_reader.proofs.ActionTokens.{action_keeps}
use Rattle.gmpl_reader.proofs.Heads.{HeadThen, HeadsThen, head_then}

-- ---- a value of which something holds, with names behind it that are names

abbrev Gives : {A : Type 0} → (A → Type 0) → Outcome A → Type 0
Gives P outcome = IfOk outcome (λ r. P r.0 × Kept r.1)

then_of : {A B : Type 0} (P : A → Type 0) (Q : B → Type 0) (outcome : Outcome A) (go : A → Rule B) → Gives P outcome → ((a : A) (j : Input) → P a → Kept j → Gives Q (go a j)) → Gives Q (and_then outcome go)
then_of P Q (Ok r) go h f = f r.0 r.1 h.0 h.1
then_of P Q (Err fault) go h f = tt

then_gives : {A B : Type 0} (Q : B → Type 0) (outcome : Outcome A) (go : A → Rule B) → Left outcome → ((a : A) (j : Input) → Kept j → Gives Q (go a j)) → Gives Q (and_then outcome go)
then_gives Q (Ok r) go h f = f r.0 r.1 h
then_gives Q (Err fault) go h f = tt

either_gives : {A : Type 0} (Q : A → Type 0) (b : Bool) (first second : Rule A) (i : Input) → Gives Q (first i) → Gives Q (second i) → Gives Q ((if b then first else second) i)
either_gives Q true first second i h g = h
either_gives Q false first second i h g = g

-- ---- names and heads

name_by_gives : (kind : TokenKind) (i : Input) → HasText kind (spelling i) → Kept i → Gives IsName (name_by (Some kind) i)
name_by_gives k.Name i h kept = (h, next_kept i kept)
name_by_gives _ i h kept = tt

name_at_gives : (tokens : List Token) (end : SyntaxFaultKind) → AreNamed tokens → Gives IsName (name (record { rest = tokens; end = end }))
unfolding name kind spelling
name_at_gives [] end h = tt
name_at_gives (token ∷ tokens) end h = name_by_gives token.kind (record { rest = token ∷ tokens; end = end }) h.0 h

name_gives : (i : Input) → Kept i → Gives IsName (name i)
name_gives i h = name_at_gives i.rest i.end h

titled_name_gives : (i : Input) → Kept i → Gives IsName (titled_name i)
unfolding titled_name
titled_name_gives i h = then_of IsName IsName (name i) _ (name_gives i h) (λ said j is kept. (is, after_kept k.StringLiteral j kept))

optional_domain_keeps : (depth : ℕ) → Keeps (optional_domain depth)
unfolding optional_domain
optional_domain_keeps depth i h = optional_keeps (sees k.OpenBrace i) (indexing_expression depth) (indexing_expression_keeps depth) i h

abbrev HasName : Head → Type 0
HasName head = IsName head.name

head_gives : (depth : ℕ) (i : Input) → Kept i → Gives HasName (head depth i)
unfolding head
head_gives depth i h =
    then_of IsName HasName (titled_name i) _ (titled_name_gives i h)
    (λ said j is kept. then_gives HasName (optional_domain depth j) _ (optional_domain_keeps depth j kept) (λ _ _ left. (is, left)))

-- ---- attributes

literal_by_keeps : (kind : Option TokenKind) → Keeps (literal_by kind)
literal_by_keeps (Some k.NumericLiteral) i h = number_keeps i h
literal_by_keeps _ i h = tt

literal_keeps : Keeps literal
unfolding literal
literal_keeps i h = literal_by_keeps (kind i) i h

attribute_value_keeps : (depth : ℕ) (word : AttributeWord) → Keeps (attribute_value depth word)
attribute_value_keeps depth w.Dimension = made_left _ literal literal_keeps
attribute_value_keeps depth (w.Restriction relation) = made_left _ (expression depth) (expression_keeps depth)
attribute_value_keeps depth w.Assigned = made_left _ (expression depth) (expression_keeps depth)
attribute_value_keeps depth w.Default = made_left _ (expression depth) (expression_keeps depth)
attribute_value_keeps depth w.Integer = λ _ h. h
attribute_value_keeps depth w.Binary = λ _ h. h
attribute_value_keeps depth w.Symbolic = λ _ h. h

attribute_keeps : (depth : ℕ) (word : AttributeWord) → Keeps (attribute depth word)
unfolding attribute
attribute_keeps depth word i h = attribute_value_keeps depth word (next i) (next_kept i h)

attributes_from_keeps : (depth : ℕ) (which : Declared) (n : ℕ) (words : List AttributeWord) (found : List Attribute) → Keeps (attributes_from depth which n words found)
unfolding attributes_from
attributes_from_keeps depth which zero words found i h = h
attributes_from_keeps depth which (suc n) words found i h =
    let j = after k.Comma i in
    let kept : Kept j = after_kept k.Comma i h in
    given_left (attribute_word which (kind j) (spelling j)) _ _ j
    (λ word. either_rule (fits which words word) _ _ j
    (then_left (attribute depth word j) _ (attribute_keeps depth word j kept) (λ x m left. attributes_from_keeps depth which n (noted which words word) (found ++ x ∷ []) m left))
    tt)
    (either_rule (sees k.Comma i) _ _ j tt kept)

attributes_keeps : (depth : ℕ) (which : Declared) → Keeps (attributes depth which)
attributes_keeps depth which i h = attributes_from_keeps depth which (length i.rest) [] [] i h

-- ---- declarations

abbrev DeclarationIsNamed : Declaration → Type 0
DeclarationIsNamed declaration = IsName declaration.head.name

declaration_gives : (depth : ℕ) (which : Declared) (i : Input) → Kept i → Gives DeclarationIsNamed (declaration depth which i)
unfolding declaration
declaration_gives depth which i h =
    then_of HasName DeclarationIsNamed (head depth i) _ (head_gives depth i h)
    (λ said j is kept. then_gives DeclarationIsNamed (attributes depth which j) _ (attributes_keeps depth which j kept)
    (λ _ n left. then_gives DeclarationIsNamed (expect k.Semicolon n) _ (expect_keeps k.Semicolon n left) (λ _ _ end. (is, end))))

-- ---- constraints

first_relation_keeps : Keeps first_relation
unfolding first_relation
first_relation_keeps i h = given_left (bound_relation (kind i)) _ _ i (λ _. next_kept i h) tt

last_side_keeps : (depth : ℕ) (first : Relation) → Keeps (last_side depth first)
unfolding last_side
last_side_keeps depth first i h =
    let j = after k.Comma i in
    let kept : Kept j = after_kept k.Comma i h in
    either_rule (may_follow first (kind j)) _ _ j (expression_keeps depth (next j) (next_kept j kept)) tt

optional_last_side_keeps : (depth : ℕ) (first : Relation) → Keeps (optional_last_side depth first)
unfolding optional_last_side
optional_last_side_keeps depth first i h = either_left (sees k.Semicolon i) _ _ h (made_left _ (last_side depth first) (last_side_keeps depth first) i h)

abbrev ConstraintIsNamed : Constraint → Type 0
ConstraintIsNamed constraint = IsName constraint.head.name

sides_gives : (depth : ℕ) (said : Head) → HasName said → (i : Input) → Kept i → Gives ConstraintIsNamed (sides depth said i)
unfolding sides
sides_gives depth said is i h =
    then_gives ConstraintIsNamed (expression depth i) _ (expression_keeps depth i h)
    (λ left j kept. then_gives ConstraintIsNamed (first_relation (after k.Comma j)) _ (first_relation_keeps (after k.Comma j) (after_kept k.Comma j kept))
    (λ relation n more. then_gives ConstraintIsNamed (expression depth n) _ (expression_keeps depth n more)
    (λ right m some. then_gives ConstraintIsNamed (optional_last_side depth relation m) _ (optional_last_side_keeps depth relation m some) (λ _ _ end. (is, end)))))

constraint_gives : (depth : ℕ) (i : Input) → Kept i → Gives ConstraintIsNamed (constraint depth i)
unfolding constraint
constraint_gives depth i h =
    then_of HasName ConstraintIsNamed (head depth i) _ (head_gives depth i h)
    (λ said j is kept. then_gives ConstraintIsNamed (expect k.Colon j) _ (expect_keeps k.Colon j kept)
    (λ _ n left. then_of ConstraintIsNamed ConstraintIsNamed (sides depth said n) _ (sides_gives depth said is n left)
    (λ made m named more. then_gives ConstraintIsNamed (expect k.Semicolon m) _ (expect_keeps k.Semicolon m more) (λ _ _ end. (named, end)))))

subject_by_gives : (depth : ℕ) (kind : Option TokenKind) (text : List ℕ) (i : Input) → Kept i → Gives ConstraintIsNamed (subject_by depth kind text i)
subject_by_gives depth (Some k.Name) text i h = either_gives ConstraintIsNamed (is_to text) _ _ i (constraint_gives depth (next i) (next_kept i h)) tt
subject_by_gives depth _ text i h = tt

subject_gives : (depth : ℕ) (i : Input) → Kept i → Gives ConstraintIsNamed (subject depth i)
unfolding subject
subject_gives depth i h = subject_by_gives depth (kind i) (spelling i) i h

-- ---- objectives

abbrev ObjectiveIsNamed : Objective → Type 0
ObjectiveIsNamed objective = IsName objective.head.name

objective_gives : (depth : ℕ) (which : Direction) (i : Input) → Kept i → Gives ObjectiveIsNamed (objective depth which i)
unfolding objective
objective_gives depth which i h =
    then_of HasName ObjectiveIsNamed (head depth i) _ (head_gives depth i h)
    (λ said j is kept. then_gives ObjectiveIsNamed (expect k.Colon j) _ (expect_keeps k.Colon j kept)
    (λ _ n left. then_gives ObjectiveIsNamed (expression depth n) _ (expression_keeps depth n left)
    (λ form m more. then_gives ObjectiveIsNamed (expect k.Semicolon m) _ (expect_keeps k.Semicolon m more) (λ _ _ end. (is, end)))))

-- ---- a statement

-- its name, where it declares an object, and names behind it that are names
abbrev IsRead : Outcome Statement → Type 0
IsRead outcome = IfOk outcome (λ r. HeadThen IsName r.0 (Kept r.1))

told_as : {A : Type 0} (P : A → Type 0) (make : A → Statement) (outcome : Outcome A) → Gives P outcome → ((a : A) (j : Input) → P a → Kept j → HeadThen IsName (make a) (Kept j)) → IsRead (and_then outcome (λ a. pure (make a)))
told_as P make (Ok r) h f = f r.0 r.1 h.0 h.1
told_as P make (Err fault) h f = tt

then_read : {A : Type 0} (outcome : Outcome A) (go : A → Rule Statement) → Left outcome → ((a : A) (j : Input) → Kept j → IsRead (go a j)) → IsRead (and_then outcome go)
then_read (Ok r) go h f = f r.0 r.1 h
then_read (Err fault) go h f = tt

read_told : (outcome : Outcome TableInput) → Left outcome → IsRead (and_then outcome (λ x. pure (s.TableInput x)))
read_told (Ok r) h = h
read_told (Err fault) h = tt

read_table_is_read : (depth : ℕ) (solved : Bool) (said : List ℕ) (i : Input) → Kept i → IsRead (read_table depth solved said i)
unfolding read_table
read_table_is_read depth solved said i h =
    then_read (input_word solved i) _ (input_word_keeps solved i h) (λ _ j kept. read_told (table_input depth said j) (table_input_keeps depth said j kept))

written_told : (outcome : Outcome TableOutput) → Left outcome → IsRead (and_then outcome (λ x. pure (s.Action (a.TableOutput x))))
written_told (Ok r) h = h
written_told (Err fault) h = tt

table_by_is_read : (depth : ℕ) (solved : Bool) (said : List ℕ) (kind : Option TokenKind) (i : Input) → Kept i → IsRead (table_by depth solved said kind i)
table_by_is_read depth solved said (Some k.OpenBrace) i h = written_told (table_output depth said i) (table_output_keeps depth said i h)
table_by_is_read depth solved said _ i h = read_table_is_read depth solved said i h

table_is_read : (depth : ℕ) (solved : Bool) (i : Input) → Kept i → IsRead (table depth solved i)
unfolding table
table_is_read depth solved i h = then_read (titled_name i) _ (titled_name_keeps i h) (λ said j kept. table_by_is_read depth solved said (kind j) j kept)

solve_told : (outcome : Outcome (Unit {0})) → Left outcome → IsRead (and_then outcome (λ _. pure s.Solve))
solve_told (Ok r) h = h
solve_told (Err fault) h = tt

solve_is_read : (i : Input) → Kept i → IsRead (solve i)
unfolding solve
solve_is_read i h = solve_told (expect k.Semicolon i) (expect_keeps k.Semicolon i h)

action_told : (outcome : Outcome Action) → Left outcome → IsRead (and_then outcome (λ a. pure (s.Action a)))
action_told (Ok r) h = h
action_told (Err fault) h = tt

action_is_read : (depth : ℕ) (i : Input) → Kept i → IsRead (and_then (action depth i) (λ a. pure (s.Action a)))
action_is_read depth i h = action_told (action depth i) (action_keeps depth i h)

set_is_read : (depth : ℕ) (i : Input) → Kept i → IsRead (and_then (declaration depth declared.Set (next i)) (λ d. pure (s.Set d)))
set_is_read depth i h = told_as DeclarationIsNamed s.Set (declaration depth declared.Set (next i)) (declaration_gives depth declared.Set (next i) (next_kept i h)) (λ _ _ is kept. (is, kept))

param_is_read : (depth : ℕ) (i : Input) → Kept i → IsRead (and_then (declaration depth declared.Param (next i)) (λ d. pure (s.Param d)))
param_is_read depth i h = told_as DeclarationIsNamed s.Param (declaration depth declared.Param (next i)) (declaration_gives depth declared.Param (next i) (next_kept i h)) (λ _ _ is kept. (is, kept))

var_is_read : (depth : ℕ) (i : Input) → Kept i → IsRead (and_then (declaration depth declared.Var (next i)) (λ d. pure (s.Var d)))
var_is_read depth i h = told_as DeclarationIsNamed s.Var (declaration depth declared.Var (next i)) (declaration_gives depth declared.Var (next i) (next_kept i h)) (λ _ _ is kept. (is, kept))

constraint_is_read : (outcome : Outcome Constraint) → Gives ConstraintIsNamed outcome → IsRead (and_then outcome (λ x. pure (s.Constraint x)))
constraint_is_read outcome h = told_as ConstraintIsNamed s.Constraint outcome h (λ _ _ is kept. (is, kept))

objective_is_read : (outcome : Outcome Objective) → Gives ObjectiveIsNamed outcome → IsRead (and_then outcome (λ x. pure (s.Objective x)))
objective_is_read outcome h = told_as ObjectiveIsNamed s.Objective outcome h (λ _ _ is kept. (is, kept))

statement_by_is_read : (depth : ℕ) (solved : Bool) (beginning : Beginning) (i : Input) → Kept i → IsRead (statement_by depth solved beginning i)
unfolding statement_by
statement_by_is_read depth solved b.Set i h = set_is_read depth i h
statement_by_is_read depth solved b.Param i h = param_is_read depth i h
statement_by_is_read depth false b.Var i h = var_is_read depth i h
statement_by_is_read depth false b.SubjectTo i h = constraint_is_read (constraint depth (next i)) (constraint_gives depth (next i) (next_kept i h))
statement_by_is_read depth false b.Subject i h = constraint_is_read (subject depth (next i)) (subject_gives depth (next i) (next_kept i h))
statement_by_is_read depth false b.Name i h = constraint_is_read (constraint depth i) (constraint_gives depth i h)
statement_by_is_read depth false b.Minimize i h = objective_is_read (objective depth direction.Minimize (next i)) (objective_gives depth direction.Minimize (next i) (next_kept i h))
statement_by_is_read depth false b.Maximize i h = objective_is_read (objective depth direction.Maximize (next i)) (objective_gives depth direction.Maximize (next i) (next_kept i h))
statement_by_is_read depth false b.Solve i h = solve_is_read (next i) (next_kept i h)
statement_by_is_read depth solved b.Table i h = table_is_read depth solved (next i) (next_kept i h)
statement_by_is_read depth solved b.Check i h = action_is_read depth i h
statement_by_is_read depth solved b.Display i h = action_is_read depth i h
statement_by_is_read depth solved b.Printf i h = action_is_read depth i h
statement_by_is_read depth solved b.For i h = action_is_read depth i h
statement_by_is_read depth false b.Nothing i h = tt
statement_by_is_read depth true beginning i h = tt

statement_is_read : (solved : Bool) (i : Input) → Kept i → IsRead (statement solved i)
unfolding statement
statement_is_read solved i h = statement_by_is_read max_depth solved (begins_with (kind i) (spelling i)) i h

-- ---- all statements

abbrev AreHeads : Statements → Type 0
AreHeads statements = HeadsThen IsName statements.items (Unit {0})

either_list : (b : Bool) (first second : Statements) → AreHeads first → AreHeads second → AreHeads (if b then first else second)
either_list true first second h g = h
either_list false first second h g = g

one_more : (number line : ℕ) (outcome : Outcome Statement) (go : Statement → Input → Statements) → IsRead outcome
    → ((x : Statement) (j : Input) → Kept j → AreHeads (go x j)) → AreHeads (with_statement number line outcome go)
one_more number line (Ok r) go read then_all = head_then IsName r.0 (Kept r.1) (AreHeads (go r.0 r.1)) (then_all r.0 r.1) read
one_more number line (Err kind) go read then_all = tt

heads_from : (fault : Option LexFault) (n : ℕ) (solved : Bool) (number : ℕ) (i : Input) → Kept i → AreHeads (statements_from fault n solved number i)
unfolding statements_from
heads_from fault zero solved number i h = tt
heads_from fault (suc n) solved number i h =
    either_list (length i.rest == 0) _ _ tt
    (either_list (is_last is_end i) _ _ tt
    (either_list (is_last is_data i) _ _ tt
    (one_more number (line_at i.rest) (statement solved i) (λ x j. statements_from fault n (solved || is_solve x) (number + 1) j) (statement_is_read solved i h) (λ x j kept. heads_from fault n (solved || is_solve x) (number + 1) j kept))))

pub statements_named : (tokens : Tokens) → AreNamed tokens.items → HeadsThen IsName (statements_of tokens).items (Unit {0})
unfolding statements_of
statements_named tokens h = heads_from tokens.fault (length tokens.items) false 1 (record { rest = tokens.items; end = end_of tokens.fault }) h
