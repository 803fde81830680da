use Rattle.std.proofs.Common.{◌≡◌, ◌∙◌, ◌<◌, ◌++◌, ◌∷◌, [], length, sym, ap, subst}
use Rattle.tree_pool.specs.Paths.{Paths}
use Rattle.tree_pool.specs.Placed.{forked_at}
use Rattle.tree_pool.proofs.PathLemmas.{forked}
use Rattle.tree_pool.proofs.paths.Paths.fork.Goals as goal

pub invariant_of-self : goal.invariant_of-self
invariant_of-self c =
    let links = c.self.inside.links.items in
    let a = c.link_to.result in
    let b = c.link_to-2.result in
    let more : c.push_reserved-2.new.self.items ≡ (links ++ a ∷ []) ++ b ∷ [] = c.push_reserved-2.ensures.items ∙ ap (λ ks. ks ++ b ∷ []) c.push_reserved.ensures.items in
    let P : Paths → Type 0 = λ v. c.args.place < length v.all in
    (forked links c.push_reserved-2.new.self.items a b c.args.place c.args.split more c.link_to.ensures c.link_to-2.ensures (subst P (sym c.self.view_is) c.requires.place) c.self.invariant).0

pub returns-clause-all : goal.returns-clause-all
returns-clause-all c =
    let links = c.self.inside.links.items in
    let a = c.link_to.result in
    let b = c.link_to-2.result in
    let more : c.push_reserved-2.new.self.items ≡ (links ++ a ∷ []) ++ b ∷ [] = c.push_reserved-2.ensures.items ∙ ap (λ ks. ks ++ b ∷ []) c.push_reserved.ensures.items in
    let P : Paths → Type 0 = λ v. c.args.place < length v.all in
    (forked links c.push_reserved-2.new.self.items a b c.args.place c.args.split more c.link_to.ensures c.link_to-2.ensures (subst P (sym c.self.view_is) c.requires.place) c.self.invariant).1
    ∙ ap (λ v. forked_at c.args.place c.args.split v.all) c.self.view_is
