use Rattle.std.proofs.Common.{rules, ◌∙◌}
use Rattle.turn_pool.specs.Passes.{view_of}
use Rattle.turn_pool.proofs.Joined.{joined_key, joined_has}
use Rattle.shared_search.proofs.whole.take_in.Goals as goal

pub returns-then-is_none-clause-ready : goal.returns-then-is_none-clause-ready
returns-then-is_none-clause-ready c = record {
  pass = search rules;
  key = joined_key (view_of c.args.worker.now.pass) (view_of c.args.other.pass) (view_of c.join.new.pass) c.join.ensures.view ∙ c.requires.worker.key;
  fault = c.requires.other.fault;
}

pub returns-then-is_none-clause-numbers : goal.returns-then-is_none-clause-numbers
returns-then-is_none-clause-numbers c = λ k h. joined_has (view_of c.args.worker.now.pass) (view_of c.args.other.pass) (view_of c.join.new.pass) c.join.ensures.view k h

pub returns-else-is_none-clause-ready : goal.returns-else-is_none-clause-ready
returns-else-is_none-clause-ready c = record {
  pass = search rules;
  key = joined_key (view_of c.args.worker.now.pass) (view_of c.args.other.pass) (view_of c.join.new.pass) c.join.ensures.view ∙ c.requires.worker.key;
  fault = c.requires.worker.fault;
}

pub returns-else-is_none-clause-numbers : goal.returns-else-is_none-clause-numbers
returns-else-is_none-clause-numbers c = λ k h. joined_has (view_of c.args.worker.now.pass) (view_of c.args.other.pass) (view_of c.join.new.pass) c.join.ensures.view k h
