use Rattle.board_pool.proofs.LeaseLaws.{given_is_open, open_where_log_goes_on, open_after_offer}
use Rattle.board_pool.proofs.laws.leases_stay_open.Goals as goal

pub returns-clause-given : goal.returns-clause-given
returns-clause-given c = given_is_open c.ways_of_boards.ensures.honest c.ways_of_boards.ensures.leaves_room

pub returns-clause-goes_on : goal.returns-clause-goes_on
returns-clause-goes_on c = open_where_log_goes_on

pub returns-clause-offered : goal.returns-clause-offered
returns-clause-offered c = open_after_offer
