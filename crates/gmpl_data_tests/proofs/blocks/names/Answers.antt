-- A name without a place is new.
use Rattle.std.proofs.Common.{sym, ◌∙◌}
use Rattle.model_text.specs.Names.{is_name}
use Rattle.model_text.proofs.Laws.{place-none, none-passes}
use Rattle.gmpl_data_tests.proofs.blocks.names.Goals as goal

pub push-requires : goal.push-requires
push-requires c =
    let is_this = is_name c.in-Some.name.now in
    record { new = none-passes is_this c.loop-name.names (place-none is_this c.loop-name.names (sym c.place.ensures ∙ c.in-None-place.is)) }
