-- The kind and dimension of an expression whose names are resolved, or its first fault (GNU MathProg Language Reference,
-- chapter on expressions).
use Rattle.std.specs.Prelude.{ℕ, Bool, true, false, ◌||◌, if◌then◌else◌, List, [], ◌∷◌, length, map, Option, Some, None, Ok}
use Rattle.gmpl_syntax.specs.declared.expression.Function.{Function}
use Rattle.gmpl_syntax.specs.declared.expression.Function.TheVariants as f
use Rattle.gmpl_syntax.specs.declared.expression.Operator.{Operator}
use Rattle.gmpl_syntax.specs.declared.expression.Relation.{Relation}
use Rattle.gmpl_resolved.specs.declared.expression.Component.{Component}
use Rattle.gmpl_resolved.specs.declared.expression.Component.TheOpen.{Component-F, Expr-F, Entry-F, Indexing-F, Link-F}
use Rattle.gmpl_resolved.specs.declared.expression.Component.TheFolds.{fold-Component, fold-Expr, fold-Entry, fold-Indexing, fold-Link}
use Rattle.gmpl_resolved.specs.declared.expression.Expr.{Expr}
use Rattle.gmpl_resolved.specs.declared.expression.Indexing.{Indexing}
use Rattle.gmpl_resolved.specs.declared.expression.Entry.{Entry}
use Rattle.gmpl_resolved.specs.declared.expression.Link.{Link}
use Rattle.gmpl_kinds.specs.declared.shape.Shape.{Shape}
use Rattle.gmpl_kinds.specs.declared.shape.Shape.TheVariants.{Scalar, Logic, SetOf, Tuple}
use Rattle.gmpl_kinds.specs.declared.shape.Gathered.{Gathered}
use Rattle.gmpl_kinds.specs.declared.shape.Gathered.TheVariants.{Nothing}
use Rattle.gmpl_kinds.specs.declared.shape.Object.{Object}
use Rattle.gmpl_kinds.specs.declared.shape.Site.{Site}
use Rattle.gmpl_kinds.specs.Demands.{Judged, Or_fault, and_then, within_most, add_dimensions, same_dimension, as_scalar, as_logic, as_set, as_branch, same_branch, set_of_dimension, part_of, joined, iterated_by, left_of, right_of, related, or_one, gathered, gathered_shape}
use Rattle.gmpl_kinds.specs.Objects.{named}

abbrev pub has : {A : Type 0} → Option A → Bool
has None = false
has (Some a) = true

-- ---- lists

abbrev pub all_scalars : List Judged → Judged
all_scalars [] = Ok Scalar
all_scalars (x ∷ xs) = and_then (and_then x as_scalar) (λ _. all_scalars xs)

abbrev pub all_sets : List Judged → Judged
all_sets [] = Ok Scalar
all_sets (x ∷ xs) = and_then (and_then x as_set) (λ _. all_sets xs)

-- the operator before a part of a chain, and what the part is
pub record LinkPart : Type 0 where
  pub operator : Operator
  pub operand : Judged

-- a chain behind a part of this shape
abbrev pub links_from : Shape → List LinkPart → Judged
links_from s [] = Ok s
links_from s (link ∷ links) = and_then (and_then (and_then link.operand (part_of link.operator)) (joined link.operator s)) (λ s. links_from s links)

-- a chain whose first part has this shape
abbrev pub chain_behind : Shape → List LinkPart → Judged
chain_behind s [] = Ok s
chain_behind s (link ∷ links) = and_then (part_of link.operator s) (λ s. links_from s (link ∷ links))

abbrev pub chain : Judged → List LinkPart → Judged
chain first links = and_then first (λ s. chain_behind s links)

-- ---- indexing expressions

-- a component of an index: what it must equal, or none of a new index
abbrev pub Part : Type 0
Part = Option Judged

abbrev pub part : Part → Judged
part None = Ok Scalar
part (Some x) = and_then x as_scalar

abbrev pub all_parts : List Part → Judged
all_parts [] = Ok Scalar
all_parts (x ∷ xs) = and_then (part x) (λ _. all_parts xs)

pub record EntryParts : Type 0 where
  pub index : Option (List Part)
  pub set : Judged

pub record IndexingParts : Type 0 where
  pub entries : List EntryParts
  pub condition : Option Judged

-- the dimension of an entry whose set has this one
abbrev pub entry_by : Option (List Part) → Option ℕ → Or_fault ℕ
entry_by None n = Ok (or_one n)
entry_by (Some index) n = and_then (same_dimension (Some (length index)) n) (λ _. Ok (length index))

abbrev pub index_parts : Option (List Part) → Judged
index_parts None = Ok Scalar
index_parts (Some parts) = all_parts parts

abbrev pub entry_dimension : EntryParts → Or_fault ℕ
entry_dimension entry = and_then (index_parts entry.index) (λ _. and_then (and_then entry.set as_set) (entry_by entry.index))

abbrev pub dimensions_from : ℕ → List EntryParts → Or_fault ℕ
dimensions_from n [] = Ok n
dimensions_from n (entry ∷ entries) = and_then (and_then (entry_dimension entry) (add_dimensions n)) (λ n. dimensions_from n entries)

abbrev pub holds : Option Judged → Judged
holds None = Ok Logic
holds (Some condition) = and_then condition as_logic

abbrev pub indexing_dimension : IndexingParts → Or_fault ℕ
indexing_dimension indexing = and_then (dimensions_from 0 indexing.entries) (λ n. and_then (holds indexing.condition) (λ _. Ok n))

-- ---- braces

abbrev pub is_indexed : List EntryParts → Bool
is_indexed [] = false
is_indexed (entry ∷ entries) = if has entry.index then true else is_indexed entries

abbrev pub all_gathered : Gathered → List EntryParts → Or_fault Gathered
all_gathered g [] = Ok g
all_gathered g (entry ∷ entries) = and_then (and_then entry.set (gathered g)) (λ g. all_gathered g entries)

abbrev pub plain_braces : List EntryParts → Judged
plain_braces entries = and_then (all_gathered Nothing entries) (λ g. Ok (gathered_shape g))

-- elements, or an indexing expression where an entry has an index or the first is a set
abbrev pub braces : IndexingParts → Judged
braces indexing = if has indexing.condition || is_indexed indexing.entries then set_of_dimension (indexing_dimension indexing) else plain_braces indexing.entries

-- ---- expressions

-- how many parts a tuple has behind n of them: each is a number or a symbol, and the first that is one too many has a fault
abbrev pub tuple_parts : ℕ → List Judged → Or_fault ℕ
tuple_parts n [] = Ok n
tuple_parts n (x ∷ xs) = and_then (and_then (and_then x as_scalar) (λ _. add_dimensions n 1)) (λ n. tuple_parts n xs)

abbrev pub group : List Judged → Judged
group [] = Ok Scalar
group (x ∷ []) = x
group xs = and_then (tuple_parts 0 xs) (λ n. Ok (Tuple n))

abbrev pub call : Function → List Judged → Judged
call f.Card arguments = all_sets arguments
call _ arguments = all_scalars arguments

abbrev pub other_branch : Shape → Option Judged → Judged
other_branch s None = Ok s
other_branch s (Some other) = and_then (and_then other as_branch) (same_branch s)

abbrev pub conditional : Judged → Judged → Option Judged → Judged
conditional condition first other = and_then (and_then condition as_logic) (λ _. and_then (and_then first as_branch) (λ s. other_branch s other))

abbrev pub both_scalars : Judged → Judged → Judged
both_scalars a b = and_then (and_then a as_scalar) (λ _. and_then b as_scalar)

abbrev pub optional_scalar : Option Judged → Judged
optional_scalar None = Ok Scalar
optional_scalar (Some x) = and_then x as_scalar

abbrev pub range : Judged → Judged → Option Judged → Judged
range first last step = and_then (both_scalars first last) (λ _. and_then (optional_scalar step) (λ _. Ok (SetOf (Some 1))))

abbrev pub compared : Relation → Judged → Judged → Judged
compared relation a b = and_then (and_then a (left_of relation)) (λ a. and_then (and_then b (right_of relation)) (λ b. related a b))

module _ (objects : List Object) (site : Site) where
  abbrev pub component_step : Component-F Part Judged EntryParts IndexingParts LinkPart → Part
  component_step Component-F.New = None
  component_step (Component-F.Value value) = Some value

  abbrev pub expr_step : Expr-F Part Judged EntryParts IndexingParts LinkPart → Judged
  expr_step (Expr-F.Number number) = Ok Scalar
  expr_step (Expr-F.Text text) = Ok Scalar
  expr_step (Expr-F.Named meaning subscripts suffix) = and_then (all_scalars subscripts) (λ _. named objects site meaning (length subscripts) (has suffix))
  expr_step (Expr-F.Call function arguments) = call function arguments
  expr_step (Expr-F.Group parts) = group parts
  expr_step (Expr-F.Braces indexing) = braces indexing
  expr_step (Expr-F.Iterated iteration indexing body) = and_then (indexing_dimension indexing) (λ _. and_then body (iterated_by iteration))
  expr_step (Expr-F.If condition first other) = conditional condition first other
  expr_step (Expr-F.Signed sign part) = and_then part as_scalar
  expr_step (Expr-F.Power base exponent) = both_scalars base exponent
  expr_step (Expr-F.Chain first links) = chain first links
  expr_step (Expr-F.Range first last step) = range first last step
  expr_step (Expr-F.Compared relation left right) = compared relation left right
  expr_step (Expr-F.Not part) = and_then part as_logic

  abbrev pub entry_step : Entry-F Part Judged EntryParts IndexingParts LinkPart → EntryParts
  entry_step entry = record { index = entry.index; set = entry.set }

  abbrev pub indexing_step : Indexing-F Part Judged EntryParts IndexingParts LinkPart → IndexingParts
  indexing_step indexing = record { entries = indexing.entries; condition = indexing.condition }

  abbrev pub link_step : Link-F Part Judged EntryParts IndexingParts LinkPart → LinkPart
  link_step link = record { operator = link.operator; operand = link.operand }

  -- what an expression is
  abbrev pub shape_of : Expr → Judged
  shape_of = fold-Expr Part Judged EntryParts IndexingParts LinkPart component_step expr_step entry_step indexing_step link_step

  abbrev pub shapes_of : List Expr → List Judged
  shapes_of = map shape_of

  abbrev pub component_part : Component → Part
  component_part = fold-Component Part Judged EntryParts IndexingParts LinkPart component_step expr_step entry_step indexing_step link_step

  abbrev pub component_parts : List Component → List Part
  component_parts = map component_part

  abbrev pub entry_parts : Entry → EntryParts
  entry_parts = fold-Entry Part Judged EntryParts IndexingParts LinkPart component_step expr_step entry_step indexing_step link_step

  abbrev pub all_entry_parts : List Entry → List EntryParts
  all_entry_parts = map entry_parts

  abbrev pub indexing_parts : Indexing → IndexingParts
  indexing_parts = fold-Indexing Part Judged EntryParts IndexingParts LinkPart component_step expr_step entry_step indexing_step link_step

  abbrev pub link_part : Link → LinkPart
  link_part = fold-Link Part Judged EntryParts IndexingParts LinkPart component_step expr_step entry_step indexing_step link_step

  abbrev pub all_link_parts : List Link → List LinkPart
  all_link_parts = map link_part
