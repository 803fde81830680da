-- The second pass keeps the names of heads, and of a name that is there already it makes a fault.
use Rattle.std.proofs.Common.{◌≡◌, ◌∙◌, ℕ, ◌+◌, Bool, true, false, true≢false, ◌||◌, if◌then◌else◌, List, [], ◌∷◌, ◌++◌, Option, Ok, Err, IfOk, refl, ap, sym, subst}
use Rattle.std.specs.List.{AllByRecursion}
use Rattle.std.specs.Str.{bytes_eq}
use Rattle.std.proofs.lemmas.List.{map-append}
use Rattle.std.proofs.lemmas.Slice.Eq.{bytes_eq-Decides}
use Rattle.gmpl_syntax.specs.declared.fault.SyntaxFault.{SyntaxFault}
use Rattle.gmpl_syntax.specs.declared.fault.SyntaxFaultKind.TheVariants.{Declared as DeclaredAgain}
use Rattle.gmpl_syntax.specs.declared.statement.Head.{Head}
use Rattle.gmpl_syntax.specs.declared.statement.Declaration.{Declaration}
use Rattle.gmpl_syntax.specs.declared.statement.Constraint.{Constraint}
use Rattle.gmpl_syntax.specs.declared.statement.Objective.{Objective}
use Rattle.gmpl_syntax.specs.declared.statement.Statement.{Statement}
use Rattle.gmpl_syntax.specs.declared.statement.Statement.TheVariants as s
use Rattle.gmpl_syntax.specs.declared.statement.Numbered.{Numbered}
use Rattle.gmpl_resolved.specs.declared.statement.Statement.{Statement as ResolvedStatement}
use Rattle.gmpl_resolved.specs.declared.statement.Statement.TheVariants as rs
use Rattle.gmpl_resolved.specs.declared.statement.Step.{Step}
use Rattle.gmpl_resolved.specs.declared.statement.Step.TheVariants as step
use Rattle.gmpl_resolved.specs.declared.statement.Numbered.{Numbered as ResolvedNumbered}
use Rattle.gmpl_resolved.specs.declared.statement.Statements.{Statements as ResolvedStatements}
use Rattle.gmpl_names.specs.Names.{Name, has}
use Rattle.gmpl_names.specs.Meanings.{Or_fault}
use Rattle.gmpl_names.specs.Expressions.{Outcome, Pass, pure, and_then, expr}
use Rattle.gmpl_names.specs.declared.resolved.Resolved.{Resolved}
use Rattle.gmpl_names.specs.declared.resolved.Resolved.TheVariants as made
use Rattle.gmpl_names.specs.Statements.{Judged, JudgedBoth, optional_indexing, optional_side, head, attributes, declaration, declared, constraint, declared_constraint, objective, declared_objective, table_input, declare_table, apart, action, alone, declaring, declaring_by, told_as, then_names, with_tables, both_then, judged, none, with_statement, behind, statements_from}
use Rattle.gmpl_rows.specs.Premises.{AreDifferent}
use Rattle.gmpl_reader.specs.Names.{head_of, object_name, names_of}
use Rattle.gmpl_reader.proofs.Heads.{HeadThen, HeadsThen}

-- ---- parts behind parts

then_any : {A B : Type 0} (outcome : Outcome A) (go : A → Pass B) (Q : B × List Name → Type 0) → ((a : A) (scope : List Name) → IfOk (go a scope) Q) → IfOk (and_then outcome go) Q
then_any (Ok r) go Q h = h r.0 r.1
then_any (Err fault) go Q h = tt

then_of : {A B : Type 0} (P : A → Type 0) (outcome : Outcome A) (go : A → Pass B) (Q : B × List Name → Type 0) → IfOk outcome (λ r. P r.0) → ((a : A) (scope : List Name) → P a → IfOk (go a scope) Q) → IfOk (and_then outcome go) Q
then_of P (Ok r) go Q p h = h r.0 r.1 p
then_of P (Err fault) go Q p h = tt

-- ---- the name of the head stays

head_kept : (os : List Name) (h : Head) (scope : List Name) → IfOk (head os h scope) (λ r. r.0.name ≡ h.name)
head_kept os h scope = then_any (optional_indexing os h.domain scope) _ _ (λ domain after. refl)

declaration_kept : (os : List Name) (d : Declaration) (scope : List Name) → IfOk (declaration os d scope) (λ r. r.0.head.name ≡ d.head.name)
declaration_kept os d scope =
    then_of (λ made. made.name ≡ d.head.name) (head os d.head scope) _ _ (head_kept os d.head scope)
    (λ made after same. then_any (attributes os d.attributes after) _ _ (λ _ _. same))

constraint_kept : (os : List Name) (x : Constraint) (scope : List Name) → IfOk (constraint os x scope) (λ r. r.0.head.name ≡ x.head.name)
constraint_kept os x scope =
    then_of (λ made. made.name ≡ x.head.name) (head os x.head scope) _ _ (head_kept os x.head scope)
    (λ made after same. then_any (expr os x.left after) _ _ (λ _ left. then_any (expr os x.right left) _ _ (λ _ right. then_any (optional_side os x.last right) _ _ (λ _ _. same))))

objective_kept : (os : List Name) (x : Objective) (scope : List Name) → IfOk (objective os x scope) (λ r. r.0.head.name ≡ x.head.name)
objective_kept os x scope =
    then_of (λ made. made.name ≡ x.head.name) (head os x.head scope) _ _ (head_kept os x.head scope)
    (λ made after same. then_any (expr os x.form after) _ _ (λ _ _. same))

-- ---- names of tables are no names of objects

module _ {A : Type 0} (Q : A × List Name → Type 0) where
  judged_alone : (tables : List Name) (found : Judged A) → IfOk found Q → IfOk (with_tables tables found) (λ r. Q (r.0, r.1.0))
  judged_alone tables (Ok r) h = h
  judged_alone tables (Err fault) h = tt

  judged_behind : (found : Judged A) (tables : Or_fault (List Name)) → IfOk found Q → IfOk (then_names tables (λ ts. with_tables ts found)) (λ r. Q (r.0, r.1.0))
  judged_behind found (Ok tables) h = judged_alone tables found h
  judged_behind found (Err fault) h = tt

-- ---- what a statement declares is a new name, which is the last one from then on

pub record DeclaresNew (P : List ℕ → Type 0) (rest : Type 0) (objects : List Name) (x : ResolvedStatement) (after : List Name) : Type 0 where
  pub new : has (head_of x).name objects ≡ false
  pub names : after ≡ objects ++ (head_of x).name ∷ []
  pub named : P (head_of x).name
  pub left : rest

-- a statement that is executed declares none, not even a table, and neither do `solve` and `data`
pub record DeclaresNone (rest : Type 0) (objects : List Name) (after : List Name) : Type 0 where
  pub names : after ≡ objects
  pub left : rest

module _ (P : List ℕ → Type 0) (rest : Type 0) (objects : List Name) where
  abbrev pub DeclaresBy : Resolved → List Name → Type 0
  DeclaresBy (made.Declaration x) after = DeclaresNew P rest objects x after
  DeclaresBy (made.Step step) after = DeclaresNone rest objects after
  DeclaresBy made.Nothing after = DeclaresNone rest objects after

  abbrev pub Declares : Resolved × List Name → Type 0
  Declares r = DeclaresBy r.0 r.1

  told_alone : {A : Type 0} (make : A → ResolvedStatement) (name : Name) (os : List Name) (outcome : Outcome A) → has name objects ≡ false → os ≡ objects ++ name ∷ [] → P name × rest
      → IfOk outcome (λ r. (head_of (make r.0)).name ≡ name) → IfOk (told_as make (alone os outcome)) Declares
  told_alone make name os (Ok r) new names h same =
      record { new = rw same new; names = rw same names; named = subst P (sym same) h.0; left = h.1 }
  told_alone make name os (Err fault) new names h same = tt

  told_where : {A : Type 0} (make : A → ResolvedStatement) (name : Name) (pass : List Name → Pass A) (b : Bool) → has name objects ≡ b → P name × rest
      → ((os : List Name) → IfOk (pass os []) (λ r. (head_of (make r.0)).name ≡ name))
      → IfOk (told_as make (declaring_by pass (if b then Err DeclaredAgain else Ok (if b then objects else objects ++ name ∷ [])))) Declares
  told_where make name pass true is h same = tt
  told_where make name pass false is h same = told_alone make name _ (pass _ []) is refl h (same _)

  told : {A : Type 0} (make : A → ResolvedStatement) (name : Name) (pass : List Name → Pass A) → P name × rest → ((os : List Name) → IfOk (pass os []) (λ r. (head_of (make r.0)).name ≡ name))
      → IfOk (told_as make (declaring name pass objects)) Declares
  told make name pass h same = told_where make name pass (has name objects) refl h same

  -- ---- what is executed declares none

  executed_alone : {A : Type 0} (make : A → Step) (outcome : Outcome A) → rest → IfOk (alone objects (and_then outcome (λ x. pure (made.Step (make x))))) Declares
  executed_alone make (Ok r) h = record { names = refl; left = h }
  executed_alone make (Err fault) h = tt

  executed_beside : {A : Type 0} (make : A → Step) (outcome : JudgedBoth A) → rest → IfOk (both_then outcome (λ x scope ts. Ok (made.Step (make x), (objects, ts)))) (λ r. Declares (r.0, r.1.0))
  executed_beside make (Ok r) h = record { names = refl; left = h }
  executed_beside make (Err fault) h = tt

  pub statement_declares : (x : Statement) (tables : List Name) → HeadThen P x rest → IfOk (judged x objects tables) (λ r. Declares (r.0, r.1.0))
  statement_declares (s.Set d) tables h =
      judged_behind Declares (told_as rs.Set (declared d objects)) (apart d.head.name tables) (told rs.Set d.head.name (λ os. declaration os d) h (λ os. declaration_kept os d []))
  statement_declares (s.Param d) tables h =
      judged_behind Declares (told_as rs.Param (declared d objects)) (apart d.head.name tables) (told rs.Param d.head.name (λ os. declaration os d) h (λ os. declaration_kept os d []))
  statement_declares (s.Var d) tables h =
      judged_behind Declares (told_as rs.Var (declared d objects)) (apart d.head.name tables) (told rs.Var d.head.name (λ os. declaration os d) h (λ os. declaration_kept os d []))
  statement_declares (s.Constraint x) tables h =
      judged_behind Declares (told_as rs.Constraint (declared_constraint x objects)) (apart x.head.name tables) (told rs.Constraint x.head.name (λ os. constraint os x) h (λ os. constraint_kept os x []))
  statement_declares (s.Objective x) tables h =
      judged_behind Declares (told_as rs.Objective (declared_objective x objects)) (apart x.head.name tables) (told rs.Objective x.head.name (λ os. objective os x) h (λ os. objective_kept os x []))
  statement_declares (s.TableInput t) tables h =
      judged_behind Declares (alone objects (and_then (table_input objects t []) (λ x. pure (made.Step (step.TableInput x))))) (declare_table objects t.name tables) (executed_alone step.TableInput (table_input objects t []) h)
  statement_declares s.Solve tables h = record { names = refl; left = h }
  statement_declares (s.Action x) tables h = executed_beside step.Action (action objects x [] tables) h
  statement_declares s.Data tables h = record { names = refl; left = h }

-- ---- one more name that is new

all_more : {X : Type 0} (P : X → Type 0) (xs : List X) (y : X) → AllByRecursion P xs → P y → AllByRecursion P (xs ++ y ∷ [])
all_more P [] y h p = (p, tt)
all_more P (x ∷ xs) y h p = (h.0, all_more P xs y h.1 p)

neither : (a b : Bool) → (a || b) ≡ false → (a ≡ false) × (b ≡ false)
neither true b h = absurd (true≢false h)
neither false b h = (refl, h)

unlike : (x y : Name) → bytes_eq y x ≡ false → x ≡ y → ⊥
unlike x y isnt same = true≢false (sym ((bytes_eq-Decides y x).1 (sym same)) ∙ isnt)

different_more : (xs : List Name) (y : Name) → has y xs ≡ false → AreDifferent xs → AreDifferent (xs ++ y ∷ [])
different_more [] y h d = (tt, tt)
different_more (x ∷ xs) y h d =
    let apart = neither (bytes_eq y x) (has y xs) h in
    (all_more (λ z. x ≡ z → ⊥) xs y d.0 (unlike x y apart.0), different_more xs y apart.1 d.1)

-- ---- all statements

-- the names so far are those that the statements declared
pub record HaveNames (P : List ℕ → Type 0) (made : List ResolvedNumbered) : Type 0 where
  pub names : AllByRecursion P (names_of made)
  pub differ : AreDifferent (names_of made)

module _ (P : List ℕ → Type 0) where
  -- what is said of the statements, where it is said of those up to here
  abbrev Goes : Type 0 → (ResolvedStatements → List Name → List Name → ResolvedStatements) → Type 0
  Goes rest go = (more : ResolvedStatements) (os tables : List Name) → names_of more.items ≡ os → HaveNames P more.items → rest → HaveNames P (go more os tables).items

  one_declaration : (found : ResolvedStatements) (objects : List Name) (x : ResolvedNumbered) (after : List Name) (rest : Type 0)
      → names_of found.items ≡ objects → HaveNames P found.items → DeclaresNew P rest objects x.statement after
      → (names_of (found.items ++ x ∷ []) ≡ after) × HaveNames P (found.items ++ x ∷ [])
  one_declaration found objects x after rest same named declares =
      let more : names_of (found.items ++ x ∷ []) ≡ names_of found.items ++ object_name x ∷ [] = map-append object_name found.items (x ∷ []) in
      let new : has (object_name x) (names_of found.items) ≡ false = rw same declares.new in (
        more ∙ ap (λ names. names ++ object_name x ∷ []) same ∙ sym declares.names,
        record {
          names = subst (AllByRecursion P) (sym more) (all_more P (names_of found.items) (object_name x) named.names declares.named);
          differ = subst AreDifferent (sym more) (different_more (names_of found.items) (object_name x) new named.differ);
        },
      )

  one_statement : (found : ResolvedStatements) (objects : List Name) (number line : ℕ) (rest : Type 0) (x : Resolved) (after tables : List Name) (go : ResolvedStatements → List Name → List Name → ResolvedStatements)
      → names_of found.items ≡ objects → HaveNames P found.items → DeclaresBy P rest objects x after → Goes rest go
      → HaveNames P (go (with_statement found number line x) after tables).items
  one_statement found objects number line rest (made.Declaration x) after tables go same named declares then_all =
      let more = one_declaration found objects (record { steps = found.steps; number = number; line = line; statement = x }) after rest same named declares in
      then_all (with_statement found number line (made.Declaration x)) after tables more.0 more.1 declares.left
  one_statement found objects number line rest (made.Step x) after tables go same named declares then_all =
      then_all (with_statement found number line (made.Step x)) after tables (same ∙ sym declares.names) named declares.left
  one_statement found objects number line rest made.Nothing after tables go same named declares then_all = then_all found after tables (same ∙ sym declares.names) named declares.left

  one_more : (found : ResolvedStatements) (objects : List Name) (number line : ℕ) (rest : Type 0) (of_one : JudgedBoth Resolved) (go : ResolvedStatements → List Name → List Name → ResolvedStatements)
      → names_of found.items ≡ objects → HaveNames P found.items → IfOk of_one (λ r. Declares P rest objects (r.0, r.1.0)) → Goes rest go
      → HaveNames P (behind found number line of_one go).items
  one_more found objects number line rest (Ok r) go same named declares then_all = one_statement found objects number line rest r.0 r.1.0 r.1.1 go same named declares then_all
  one_more found objects number line rest (Err kind) go same named declares then_all = named

  all_named : (found : ResolvedStatements) (number : ℕ) (objects tables : List Name) (xs : List Numbered) (fault : Option SyntaxFault) → names_of found.items ≡ objects → HaveNames P found.items → HeadsThen P xs (Unit {0})
      → HaveNames P (statements_from found number objects tables xs fault).items
  all_named found number objects tables [] fault same named heads = named
  all_named found number objects tables (x ∷ xs) fault same named heads =
      one_more found objects number x.line (HeadsThen P xs (Unit {0})) (judged x.statement objects tables) (λ more os ts. statements_from more (number + 1) os ts xs fault) same named
      (statement_declares P (HeadsThen P xs (Unit {0})) objects x.statement tables heads)
      (λ more os ts same_names now left. all_named more (number + 1) os ts xs fault same_names now left)

  pub resolved_named : (xs : List Numbered) (fault : Option SyntaxFault) → HeadsThen P xs (Unit {0}) → HaveNames P (statements_from none 1 [] [] xs fault).items
  resolved_named xs fault heads = all_named none 1 [] [] xs fault refl (record { names = tt; differ = tt }) heads
