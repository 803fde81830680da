use Rattle.search_tree.proofs.Honest.{leases_fit, way_is_honest}
use Rattle.search_tree.proofs.boards.ways_of_boards.Goals as goal

pub returns : goal.returns
returns c = record { honest = way_is_honest; leaves_room = leases_fit }
