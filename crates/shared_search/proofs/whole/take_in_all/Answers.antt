use Rattle.std.proofs.Common.{rules, ◌≡◌, ◌++◌, ◌∷◌, []}
use Rattle.shared_search.proofs.Crews.{after_one, all_first}
use Rattle.shared_search.specs.Crews.{IsReady}
use Rattle.shared_search.proofs.whole.take_in_all.Goals as goal

pub loop-other-preserved : goal.loop-other-preserved
loop-other-preserved c =
    let is : c.loop-other.others.items ≡ c.pop.new.self.items ++ c.in-Some.other ∷ [] = search rules in
    record {
      ready = c.take_in.ensures.ready;
      others = all_first (IsReady c.args.pool.now) c.loop-other.others.items c.pop.new.self.items c.in-Some.other is c.loop-other.invariant.others;
      numbers = λ k h. after_one c.loop-other.others.items c.pop.new.self.items c.loop-other.worker c.take_in.new.worker c.in-Some.other is c.take_in.ensures.numbers k (c.loop-other.invariant.numbers k h);
    }
