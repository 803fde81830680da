use Rattle.std.proofs.Common.{rules, ◌∷◌, []}
use Rattle.std.proofs.lemmas.List.Elements.{All-append}
use Rattle.shared_search.specs.Crews.{IsReady}
use Rattle.shared_search.proofs.Crews.{any_split, any_longer, all_one}
use Rattle.shared_search.proofs.whole.hired.Goals as goal

pub loop-preserved : goal.loop-preserved
loop-preserved c = record {
  ready = c.hired_one.ensures.first;
  crew = rw c.push_reserved.ensures.items (All-append (IsReady c.args.pool.now) c.loop.crew.items (c.hired_one.result ∷ []) c.loop.invariant.crew (all_one (IsReady c.args.pool.now) c.hired_one.result c.hired_one.ensures.ready));
  numbers = λ k h.
      any_split c.loop.crew.items c.push_reserved.new.self.items c.loop.first c.hired_one.new.first c.hired_one.result c.push_reserved.ensures.items c.hired_one.ensures.numbers k (c.loop.invariant.numbers k h);
  from = search rules;
  to = search rules;
  len = search rules;
  room = search rules;
}

pub returns-clause-numbers : goal.returns-clause-numbers
returns-clause-numbers c = λ k h. any_longer c.loop.crew.items c.loop.first c.push_reserved-2.new.self.items c.push_reserved-2.ensures.items k (c.loop.invariant.numbers k h)
