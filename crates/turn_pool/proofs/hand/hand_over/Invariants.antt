use Rattle.turn_pool.proofs.hand.hand_over.Given as goal

abbrev pub ghosts-hand_over_by : goal.ghosts-hand_over_by
ghosts-hand_over_by g a = record { count = a.give }
