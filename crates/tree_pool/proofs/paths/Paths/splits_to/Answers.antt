use Rattle.std.proofs.Common.{◌<◌, ◌≤◌, [], ◌∷◌, List, length, sym, subst, arith}
use Rattle.tree_pool.specs.declared.paths.Link.{Link}
use Rattle.tree_pool.specs.Paths.{Paths}
use Rattle.tree_pool.proofs.PathLemmas.{many}
use Rattle.tree_pool.proofs.paths.Paths.splits_to.Goals as goal

pub splits_to-requires-clause-place : goal.splits_to-requires-clause-place
splits_to-requires-clause-place c =
    let links = c.self.inside.links.items in
    let P : Paths → Type 0 = λ v. c.args.place < length v.all in
    let Q : List Link → Type 0 = λ ks. c.args.place ≤ length ks in
    let less = subst P (sym c.self.view_is) c.requires in
    let n = many ([] ∷ []) links in
    subst Q (sym c.deref.ensures.value) (omega (arith, less, n))
