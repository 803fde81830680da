-- What of the grammar is read to its end.
use Rattle.std.specs.Prelude.{Bool, true, false}
use Rattle.cplex_lp_draft.specs.declared.expecting.Sign.TheVariants.{Unsigned}
use Rattle.cplex_lp_draft.specs.declared.expecting.TermPart.TheVariants.{Begun, Done}
use Rattle.cplex_lp_draft.specs.declared.expecting.Expecting.{Expecting}
use Rattle.cplex_lp_draft.specs.declared.expecting.Expecting.TheVariants as expecting

-- the objective is read to its end, if no more of it comes
abbrev pub ends_objective : Expecting → Bool
ends_objective expecting.ObjectiveStart = true
ends_objective (expecting.Objective (Begun Unsigned)) = true
ends_objective (expecting.Objective Done) = true
ends_objective other = false

-- a section after the objective is read to its end, if no more of it comes
abbrev pub ends_section : Expecting → Bool
ends_section expecting.RowStart = true
ends_section expecting.BoundStart = true
ends_section (expecting.BoundNamed column) = true
ends_section (expecting.BoundCompared column) = true
ends_section expecting.Generals = true
ends_section expecting.Binaries = true
ends_section other = false

abbrev pub is_start : Expecting → Bool
is_start expecting.Start = true
is_start other = false

abbrev pub is_ended : Expecting → Bool
is_ended expecting.Ended = true
is_ended other = false
