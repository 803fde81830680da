use Rattle.std.proofs.Common.{rules, ◌≡◌, ◌++◌, ◌∷◌, []}
use Rattle.shared_search.proofs.Crews.{any_popped}
use Rattle.shared_search.proofs.whole.last_of.Goals as goal

pub returns-clause-numbers : goal.returns-clause-numbers
returns-clause-numbers c =
    let is : c.args.crew.items ≡ c.pop.new.self.items ++ c.in_ok-last.last ∷ [] = search rules in
    λ k h. c.take_in_all.ensures.numbers k (any_popped c.args.crew.items c.pop.new.self.items c.in_ok-last.last is k h)
