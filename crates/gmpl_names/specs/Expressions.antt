-- What the names of an expression mean (GNU MathProg Language Reference, chapters on expressions and on indexing
-- expressions), or the first fault: from left to right, inner parts before outer ones.
use Rattle.std.specs.Prelude.{◌≡◌, if◌then◌else◌, List, [], ◌∷◌, ◌++◌, length, map, take, Option, Some, None, Result, Ok, Err}
use Rattle.gmpl_syntax.specs.declared.fault.SyntaxFaultKind.TheVariants.{Unsupported}
use Rattle.gmpl_syntax.specs.declared.expression.Function.{Function}
use Rattle.gmpl_syntax.specs.declared.expression.Suffix.{Suffix}
use Rattle.gmpl_syntax.specs.declared.expression.Expr.{Expr}
use Rattle.gmpl_syntax.specs.declared.expression.Component.{Component}
use Rattle.gmpl_syntax.specs.declared.expression.Entry.{Entry}
use Rattle.gmpl_syntax.specs.declared.expression.Indexing.{Indexing}
use Rattle.gmpl_syntax.specs.declared.expression.Link.{Link}
use Rattle.gmpl_syntax.specs.declared.expression.Component.TheOpen.{Component-F, Expr-F, Entry-F, Indexing-F, Link-F}
use Rattle.gmpl_syntax.specs.declared.expression.Component.TheFolds.{fold-Component, fold-Expr, fold-Entry, fold-Indexing, fold-Link}
use Rattle.gmpl_resolved.specs.declared.expression.Expr.{Expr as Resolved}
use Rattle.gmpl_resolved.specs.declared.expression.Expr.TheVariants as e
use Rattle.gmpl_resolved.specs.declared.expression.Component.{Component as ResolvedComponent}
use Rattle.gmpl_resolved.specs.declared.expression.Component.TheVariants as c
use Rattle.gmpl_resolved.specs.declared.expression.Entry.{Entry as ResolvedEntry, roll-Entry}
use Rattle.gmpl_resolved.specs.declared.expression.Indexing.{Indexing as ResolvedIndexing, roll-Indexing}
use Rattle.gmpl_resolved.specs.declared.expression.Link.{Link as ResolvedLink, roll-Link}
use Rattle.gmpl_names.specs.declared.error.NamesError.{NamesError}
use Rattle.gmpl_names.specs.declared.error.NamesError.TheVariants.{Fault, NoMemory}
use Rattle.gmpl_names.specs.Names.{Name, with_names}
use Rattle.gmpl_names.specs.Supported.{supports_function}
use Rattle.gmpl_names.specs.Meanings.{Or_fault, used, named_by, lone}

-- ---- what is resolved where these indices are in scope, and the indices in scope behind it

abbrev pub Outcome : Type 0 → Type 0
Outcome A = Or_fault (A × List Name)

abbrev pub Pass : Type 0 → Type 0
Pass A = List Name → Outcome A

abbrev pub and_then : {A B : Type 0} → Outcome A → (A → Pass B) → Outcome B
and_then (Ok r) f = f r.0 r.1
and_then (Err fault) f = Err fault

infixl 10 ◌>>=◌
abbrev pub ◌>>=◌ : {A B : Type 0} → Pass A → (A → Pass B) → Pass B
p >>= f = λ scope. and_then (p scope) f

abbrev pub pure : {A : Type 0} → A → Pass A
pure a = λ scope. Ok (a, scope)

infixr 11 ◌<$>◌
abbrev pub ◌<$>◌ : {A B : Type 0} → (A → B) → Pass A → Pass B
f <$> p = p >>= (λ x. pure (f x))

-- a part that leaves the indices as they are
abbrev pub beside : {A : Type 0} → Or_fault A → Pass A
beside (Ok a) scope = Ok (a, scope)
beside (Err fault) scope = Err fault

-- parts from the left, behind those that were gone over
abbrev pub all_from : {A : Type 0} → List A → List (Pass A) → Pass (List A)
all_from before [] = pure before
all_from before (p ∷ ps) = p >>= (λ x. all_from (before ++ x ∷ []) ps)

abbrev pub all : {A : Type 0} → List (Pass A) → Pass (List A)
all ps = all_from [] ps

abbrev pub optional : {A : Type 0} → Option (Pass A) → Pass (Option A)
optional None = pure None
optional (Some p) = Some <$> p

-- the indices of a part hold within it alone
abbrev pub within : {A : Type 0} → Pass A → Pass A
within p = λ scope. and_then (p scope) (λ a after. Ok (a, take (length scope) after))

-- ---- indices: the new ones of an entry, and the indices in scope behind a component

abbrev pub IndexOutcome : Type 0 → Type 0
IndexOutcome A = Or_fault (A × (List Name × List Name))

abbrev pub IndexPass : Type 0 → Type 0
IndexPass A = List Name → List Name → IndexOutcome A

abbrev pub index_then : {A B : Type 0} → IndexOutcome A → (A → IndexPass B) → IndexOutcome B
index_then (Ok r) f = f r.0 r.1.0 r.1.1
index_then (Err fault) f = Err fault

abbrev pub components_from : List ResolvedComponent → List (IndexPass ResolvedComponent) → IndexPass (List ResolvedComponent)
components_from before [] found scope = Ok (before, (found, scope))
components_from before (p ∷ ps) found scope = index_then (p found scope) (λ x. components_from (before ++ x ∷ []) ps)

abbrev pub lone_component : Or_fault (ResolvedComponent × List Name) → List Name → IndexOutcome ResolvedComponent
lone_component (Ok r) scope = Ok (r.0, (r.1, scope))
lone_component (Err fault) scope = Err fault

abbrev pub value_component : Outcome Resolved → List Name → IndexOutcome ResolvedComponent
value_component (Ok r) found = Ok (c.Value r.0, (found, r.1))
value_component (Err fault) found = Err fault

-- an entry with an index: the new indices are known to the right of it
abbrev pub indexed_entry : IndexOutcome (List ResolvedComponent) → Pass Resolved → Outcome ResolvedEntry
indexed_entry (Ok r) set = and_then (set r.1.1) (λ s after. Ok (roll-Entry (record { index = Some r.0; set = s }), with_names after r.1.0))
indexed_entry (Err fault) set = Err fault

abbrev pub entry_by : Option (List (IndexPass ResolvedComponent)) → Pass Resolved → Pass ResolvedEntry
entry_by None set = (λ s. roll-Entry (record { index = None; set = s })) <$> set
entry_by (Some index) set = λ scope. indexed_entry (components_from [] index [] scope) set

abbrev pub indexing_by : List (Pass ResolvedEntry) → Option (Pass Resolved) → Pass ResolvedIndexing
indexing_by entries condition = do
  es ← all entries
  held ← optional condition
  pure (roll-Indexing (record { entries = es; condition = held }))

-- ---- expressions

-- arguments, then the function
abbrev pub called : Function → List (Pass Resolved) → Pass Resolved
called function arguments = do
  found ← all arguments
  beside (if supports_function function then Ok (e.Call function found) else Err Unsupported)

abbrev pub both : (Resolved → Resolved → Resolved) → Pass Resolved → Pass Resolved → Pass Resolved
both make left right = do
  first ← left
  second ← right
  pure (make first second)

abbrev pub with_third : (Resolved → Resolved → Option Resolved → Resolved) → Pass Resolved → Pass Resolved → Option (Pass Resolved) → Pass Resolved
with_third make left right last = do
  first ← left
  second ← right
  third ← optional last
  pure (make first second third)

abbrev pub chain : Pass Resolved → List (Pass ResolvedLink) → Pass Resolved
chain head links = do
  first ← head
  others ← all links
  pure (e.Chain first others)

module _ (objects : List Name) where
  -- subscripts, then the name, then the suffix
  abbrev pub named : Name → List (Pass Resolved) → Option Suffix → Pass Resolved
  named name subscripts suffix = all subscripts >>= (λ found scope. beside (named_by (used objects scope name) found suffix) scope)

  abbrev pub component_step : Component-F (IndexPass ResolvedComponent) (Pass Resolved) (Pass ResolvedEntry) (Pass ResolvedIndexing) (Pass ResolvedLink) → IndexPass ResolvedComponent
  component_step (Component-F.Name name) = λ found scope. lone_component (lone objects scope name found) scope
  component_step (Component-F.Value value) = λ found scope. value_component (value scope) found

  abbrev pub expr_step : Expr-F (IndexPass ResolvedComponent) (Pass Resolved) (Pass ResolvedEntry) (Pass ResolvedIndexing) (Pass ResolvedLink) → Pass Resolved
  expr_step (Expr-F.Number number) = pure (e.Number number)
  expr_step (Expr-F.Text text) = pure (e.Text text)
  expr_step (Expr-F.Named name subscripts suffix) = named name subscripts suffix
  expr_step (Expr-F.Call function arguments) = called function arguments
  expr_step (Expr-F.Group parts) = e.Group <$> all parts
  expr_step (Expr-F.Braces indexing) = within (e.Braces <$> indexing)
  expr_step (Expr-F.Iterated iteration indexing body) = within (indexing >>= (λ over. e.Iterated iteration over <$> body))
  expr_step (Expr-F.If condition first other) = with_third e.If condition first other
  expr_step (Expr-F.Signed sign part) = e.Signed sign <$> part
  expr_step (Expr-F.Power base exponent) = both e.Power base exponent
  expr_step (Expr-F.Chain first links) = chain first links
  expr_step (Expr-F.Range first last step) = with_third e.Range first last step
  expr_step (Expr-F.Compared relation left right) = both (e.Compared relation) left right
  expr_step (Expr-F.Not part) = e.Not <$> part

  abbrev pub entry_step : Entry-F (IndexPass ResolvedComponent) (Pass Resolved) (Pass ResolvedEntry) (Pass ResolvedIndexing) (Pass ResolvedLink) → Pass ResolvedEntry
  entry_step entry = entry_by entry.index entry.set

  abbrev pub indexing_step : Indexing-F (IndexPass ResolvedComponent) (Pass Resolved) (Pass ResolvedEntry) (Pass ResolvedIndexing) (Pass ResolvedLink) → Pass ResolvedIndexing
  indexing_step indexing = indexing_by indexing.entries indexing.condition

  abbrev pub link_step : Link-F (IndexPass ResolvedComponent) (Pass Resolved) (Pass ResolvedEntry) (Pass ResolvedIndexing) (Pass ResolvedLink) → Pass ResolvedLink
  link_step link = (λ x. roll-Link (record { operator = link.operator; operand = x })) <$> link.operand

  -- an expression with its names resolved
  abbrev pub expr : Expr → Pass Resolved
  expr = fold-Expr (IndexPass ResolvedComponent) (Pass Resolved) (Pass ResolvedEntry) (Pass ResolvedIndexing) (Pass ResolvedLink) component_step expr_step entry_step indexing_step link_step

  abbrev pub exprs : List Expr → Pass (List Resolved)
  exprs xs = all (map expr xs)

  abbrev pub optional_expr : Option Expr → Pass (Option Resolved)
  optional_expr None = pure None
  optional_expr (Some x) = Some <$> expr x

  abbrev pub component : Component → IndexPass ResolvedComponent
  component = fold-Component (IndexPass ResolvedComponent) (Pass Resolved) (Pass ResolvedEntry) (Pass ResolvedIndexing) (Pass ResolvedLink) component_step expr_step entry_step indexing_step link_step

  abbrev pub components : List Component → IndexPass (List ResolvedComponent)
  components xs = components_from [] (map component xs)

  -- an entry, and the indices in scope behind it
  abbrev pub entry : Entry → Pass ResolvedEntry
  entry = fold-Entry (IndexPass ResolvedComponent) (Pass Resolved) (Pass ResolvedEntry) (Pass ResolvedIndexing) (Pass ResolvedLink) component_step expr_step entry_step indexing_step link_step

  abbrev pub entries : List Entry → Pass (List ResolvedEntry)
  entries xs = all (map entry xs)

  -- an indexing expression, and the indices in scope behind it
  abbrev pub indexing : Indexing → Pass ResolvedIndexing
  indexing = fold-Indexing (IndexPass ResolvedComponent) (Pass Resolved) (Pass ResolvedEntry) (Pass ResolvedIndexing) (Pass ResolvedLink) component_step expr_step entry_step indexing_step link_step

  abbrev pub link : Link → Pass ResolvedLink
  link = fold-Link (IndexPass ResolvedComponent) (Pass Resolved) (Pass ResolvedEntry) (Pass ResolvedIndexing) (Pass ResolvedLink) component_step expr_step entry_step indexing_step link_step

  abbrev pub links : List Link → Pass (List ResolvedLink)
  links xs = all (map link xs)

-- ---- the code and the definition go the same way; want of memory is free

abbrev pub Follows : {A : Type 0} → Outcome A → Result A NamesError → List Name → Type 0
Follows outcome (Ok a) scope = outcome ≡ Ok (a, scope)
Follows outcome (Err (Fault kind)) scope = outcome ≡ Err kind
Follows outcome (Err NoMemory) scope = Unit {0}

-- the same of the components of an index
abbrev pub FollowsIndex : {A : Type 0} → IndexOutcome A → Result A NamesError → List Name → List Name → Type 0
FollowsIndex outcome (Ok a) found scope = outcome ≡ Ok (a, (found, scope))
FollowsIndex outcome (Err (Fault kind)) found scope = outcome ≡ Err kind
FollowsIndex outcome (Err NoMemory) found scope = Unit {0}

-- the same of a name alone in an index, where the indices in scope stay
abbrev pub FollowsFound : {A : Type 0} → Or_fault (A × List Name) → Result A NamesError → List Name → Type 0
FollowsFound outcome (Ok a) found = outcome ≡ Ok (a, found)
FollowsFound outcome (Err (Fault kind)) found = outcome ≡ Err kind
FollowsFound outcome (Err NoMemory) found = Unit {0}

-- and of a part that changes nothing
abbrev pub Gives : {A : Type 0} → Or_fault A → Result A NamesError → Type 0
Gives outcome (Ok a) = outcome ≡ Ok a
Gives outcome (Err (Fault kind)) = outcome ≡ Err kind
Gives outcome (Err NoMemory) = Unit {0}
