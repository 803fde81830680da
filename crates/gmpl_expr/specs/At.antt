-- What the parts of a model mean with so many members left in a chain of demands.
use Rattle.std.specs.Prelude.{ℕ, Option, List}
use Rattle.gmpl_resolved.specs.declared.expression.Component.{Component}
use Rattle.gmpl_resolved.specs.declared.expression.Expr.{Expr}
use Rattle.gmpl_resolved.specs.declared.expression.Indexing.{Indexing}
use Rattle.gmpl_resolved.specs.declared.expression.Entry.{Entry}
use Rattle.gmpl_resolved.specs.declared.expression.Link.{Link}
use Rattle.gmpl_data.specs.declared.tables.LoadedModel.{LoadedModel}
use Rattle.gmpl_meaning.specs.Parts.{Meant, MeantComponent, MeantEntry, MeantIndexing, MeantLink}
use Rattle.gmpl_meaning.specs.Expressions.{meaning, meanings, optional_meaning, component_meaning, component_meanings, entry_meaning, entry_meanings, indexing_meaning, link_meaning, link_meanings}
use Rattle.gmpl_meaning.specs.Members.{member}

module _ (model : LoadedModel) (height : ℕ) where
  abbrev pub expr : Expr → Meant
  expr = meaning model.statements (member model height)

  abbrev pub exprs : List Expr → List Meant
  exprs = meanings model.statements (member model height)

  abbrev pub optional : Option Expr → Option Meant
  optional = optional_meaning model.statements (member model height)

  abbrev pub component : Component → MeantComponent
  component = component_meaning model.statements (member model height)

  abbrev pub components : List Component → List MeantComponent
  components = component_meanings model.statements (member model height)

  abbrev pub entry : Entry → MeantEntry
  entry = entry_meaning model.statements (member model height)

  abbrev pub entries : List Entry → List MeantEntry
  entries = entry_meanings model.statements (member model height)

  abbrev pub indexing : Indexing → MeantIndexing
  indexing = indexing_meaning model.statements (member model height)

  abbrev pub link : Link → MeantLink
  link = link_meaning model.statements (member model height)

  abbrev pub links : List Link → List MeantLink
  links = link_meanings model.statements (member model height)
