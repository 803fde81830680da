-- Leaves on which the work can go on.
use Rattle.search_tree.specs.declared.leaf.Leaf.{Leaf}
use Rattle.search_tree.specs.declared.leaf.Leaf.TheVariants.{Todo, Treated, Leased, Refuted, Bounded, NotFitting, AtLimit}
use Rattle.search_tree.specs.Tree.{Tree, Divided, AtLeaf}

-- the work on it did not end at an operation that does not fit, or at the limit of steps
abbrev pub IsNotStuck : Leaf → Type 0
IsNotStuck (Todo hint) = Unit {0}
IsNotStuck (Treated hint) = Unit {0}
IsNotStuck (Leased lease) = Unit {0}
IsNotStuck (Refuted w) = Unit {0}
IsNotStuck (Bounded w) = Unit {0}
IsNotStuck (NotFitting e) = ⊥
IsNotStuck (AtLimit bases) = ⊥

-- so it is at each leaf
abbrev pub NoneStuck : Tree → Type 0
NoneStuck (Divided s low high) = NoneStuck low × NoneStuck high
NoneStuck (AtLeaf leaf) = IsNotStuck leaf
