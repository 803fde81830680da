-- A name is none of those before it.
use Rattle.std.proofs.Common.{false, ◌≡◌, sym, subst}
use Rattle.std.specs.List.{list_any}
use Rattle.model_text.specs.Names.{is_name}
use Rattle.gmpl_reader.proofs.Given.{is_new_at}
use Rattle.gmpl_reader.proofs.data.names_of.Goals as goal

pub push-requires : goal.push-requires
push-requires c = record {
  new = subst (λ name. list_any (is_name name) c.loop-numbered.names ≡ false) (sym c.name_of.ensures)
      (is_new_at c.args.statements.now c.loop-numbered.names c.loop-numbered.numbered-index c.numbered-item.result c.requires c.loop-numbered.invariant c.loop-numbered-test.true c.numbered-item.is);
}
