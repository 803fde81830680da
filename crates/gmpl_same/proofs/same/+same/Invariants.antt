-- How far the comparison may go on.
use Rattle.std.proofs.Common.{◌+◌, ◌*◌}
use Rattle.gmpl_same.proofs.same.+same.Given as goal

abbrev pub decreases-same_within : goal.decreases-same_within
decreases-same_within l = 8 * l.room + 0

abbrev pub decreases-is_named : goal.decreases-is_named
decreases-is_named l = 8 * l.room + 6

abbrev pub decreases-is_call : goal.decreases-is_call
decreases-is_call l = 8 * l.room + 6

abbrev pub decreases-is_group : goal.decreases-is_group
decreases-is_group l = 8 * l.room + 6

abbrev pub decreases-is_braces : goal.decreases-is_braces
decreases-is_braces l = 8 * l.room + 6

abbrev pub decreases-is_iterated : goal.decreases-is_iterated
decreases-is_iterated l = 8 * l.room + 6

abbrev pub decreases-is_if : goal.decreases-is_if
decreases-is_if l = 8 * l.room + 6

abbrev pub decreases-is_signed : goal.decreases-is_signed
decreases-is_signed l = 8 * l.room + 6

abbrev pub decreases-is_power : goal.decreases-is_power
decreases-is_power l = 8 * l.room + 6

abbrev pub decreases-is_chain : goal.decreases-is_chain
decreases-is_chain l = 8 * l.room + 6

abbrev pub decreases-is_range : goal.decreases-is_range
decreases-is_range l = 8 * l.room + 6

abbrev pub decreases-is_compared : goal.decreases-is_compared
decreases-is_compared l = 8 * l.room + 6

abbrev pub decreases-is_not : goal.decreases-is_not
decreases-is_not l = 8 * l.room + 6

abbrev pub decreases-same_optional : goal.decreases-same_optional
decreases-same_optional l = 8 * l.room + 1

abbrev pub decreases-same_all : goal.decreases-same_all
decreases-same_all l = 8 * l.room + 1

abbrev pub decreases-same_links : goal.decreases-same_links
decreases-same_links l = 8 * l.room + 1

abbrev pub decreases-same_link : goal.decreases-same_link
decreases-same_link l = 8 * l.room + 1

abbrev pub decreases-same_indexing : goal.decreases-same_indexing
decreases-same_indexing l = 8 * l.room + 5

abbrev pub decreases-same_list : goal.decreases-same_list
decreases-same_list l = 8 * l.room + 4

abbrev pub decreases-same_entries : goal.decreases-same_entries
decreases-same_entries l = 8 * l.room + 3

abbrev pub decreases-same_entry : goal.decreases-same_entry
decreases-same_entry l = 8 * l.room + 3

abbrev pub decreases-same_index : goal.decreases-same_index
decreases-same_index l = 8 * l.room + 2

abbrev pub decreases-same_components : goal.decreases-same_components
decreases-same_components l = 8 * l.room + 1

abbrev pub decreases-same_component : goal.decreases-same_component
decreases-same_component l = 8 * l.room + 1
