use Rattle.std.proofs.Common.{◌∙◌, sym}
use Rattle.branch_search.proofs.SameSearch.{same_graft}
use Rattle.branch_search.proofs.Standing.{value_of_ok, may_graft}
use Rattle.branch_search.proofs.settling.graft.Goals as goal

pub graft-requires : goal.graft-requires
graft-requires c = may_graft c.args.board.now c.args.lease c.best_value.result c.args.tree c.requires.open c.requires.may c.requires.outcome c.best_value.ensures.value c.best_value.ensures.told

pub returns-in-Some-clause-put : goal.returns-in-Some-clause-put
returns-in-Some-clause-put c = record {
  tree = c.args.tree;
  outcome = c.requires.outcome;
  best = c.in-Some.field-0;
  graft = value_of_ok c.graft.result c.in-Some.field-0 _ (sym c.ok.ensures.value ∙ c.in-Some.is) c.graft.ensures.ok;
}

pub returns-in-Some-clause-same : goal.returns-in-Some-clause-same
returns-in-Some-clause-same c = same_graft c.args.board.now c.args.lease c.args.tree c.graft.result c.graft.new.self c.graft.ensures.ok c.graft.ensures.kept

pub returns-in-None-clause-same : goal.returns-in-None-clause-same
returns-in-None-clause-same c = same_graft c.args.board.now c.args.lease c.args.tree c.graft.result c.graft.new.self c.graft.ensures.ok c.graft.ensures.kept
