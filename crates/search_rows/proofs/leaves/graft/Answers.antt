use Rattle.search_rows.proofs.leaves.graft.Goals as goal

pub graft-requires : goal.graft-requires
graft-requires c = (c.requires.open.way, c.requires.may c.requires.open.way c.requires.open.there)
