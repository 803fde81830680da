-- How far the evaluation may go on, and what loops keep: what is done, then the rest.
use Rattle.std.proofs.Common.{◌≡◌, ◌+◌, ◌*◌, [], drop}
use Rattle.gmpl_expr.specs.At as at
use Rattle.gmpl_expr.specs.OneByOne as one_by_one
use Rattle.gmpl_meaning.specs.Expressions as spec
use Rattle.gmpl_meaning.specs.Walks as walks
use Rattle.gmpl_meaning.specs.Domains as domains
use Rattle.gmpl_meaning.specs.Restrictions as restrictions
use Rattle.gmpl_meaning.specs.Members.{member}
use Rattle.gmpl_meaning.specs.Right.{AreRight}
use Rattle.gmpl_expr.proofs.+evaluation.Given as goal

abbrev pub decreases-variables::bounded : goal.decreases-variables::bounded
decreases-variables::bounded l = 32 * l.room + 3

abbrev pub decreases-variables::bounded_by : goal.decreases-variables::bounded_by
decreases-variables::bounded_by l = 32 * l.room + 2

abbrev pub decreases-values::braces : goal.decreases-values::braces
decreases-values::braces l = 32 * l.room + 9

abbrev pub decreases-members::by_default : goal.decreases-members::by_default
decreases-members::by_default l = 32 * l.room + 1

abbrev pub decreases-values::called : goal.decreases-values::called
decreases-values::called l = 32 * l.room + 6

abbrev pub decreases-evaluate::chain : goal.decreases-evaluate::chain
decreases-evaluate::chain l = 32 * l.room + 3

abbrev pub decreases-values::compared : goal.decreases-values::compared
decreases-values::compared l = 32 * l.room + 7

abbrev pub decreases-values::compared_values : goal.decreases-values::compared_values
decreases-values::compared_values l = 32 * l.room + 1

abbrev pub decreases-evaluate::with_sign : goal.decreases-evaluate::with_sign
decreases-evaluate::with_sign l = 32 * l.room + 1

abbrev pub decreases-values::within_set : goal.decreases-values::within_set
decreases-values::within_set l = 32 * l.room + 6

abbrev pub decreases-values::outside_set : goal.decreases-values::outside_set
decreases-values::outside_set l = 32 * l.room + 6

abbrev pub decreases-values::is_element : goal.decreases-values::is_element
decreases-values::is_element l = 32 * l.room + 5

abbrev pub decreases-indexing::component_value : goal.decreases-indexing::component_value
decreases-indexing::component_value l = 32 * l.room + 1

abbrev pub decreases-indexing::component_values : goal.decreases-indexing::component_values
decreases-indexing::component_values l = 32 * l.room + 2

abbrev pub decreases-evaluate::conditional : goal.decreases-evaluate::conditional
decreases-evaluate::conditional l = 32 * l.room + 2

abbrev pub decreases-members::declared : goal.decreases-members::declared
decreases-members::declared l = 32 * l.room + 13

abbrev pub decreases-members::demanded : goal.decreases-members::demanded
decreases-members::demanded l = 32 * l.room + 16

abbrev pub decreases-members::without_suffix : goal.decreases-members::without_suffix
decreases-members::without_suffix l = 32 * l.room + 15

abbrev pub decreases-members::anew : goal.decreases-members::anew
decreases-members::anew l = 32 * l.room + 14

abbrev pub decreases-sets::shared_set : goal.decreases-sets::shared_set
decreases-sets::shared_set l = 32 * l.room + 4

abbrev pub decreases-sets::own_set : goal.decreases-sets::own_set
decreases-sets::own_set l = 32 * l.room + 2

abbrev pub decreases-sets::shared_member : goal.decreases-sets::shared_member
decreases-sets::shared_member l = 32 * l.room + 2

abbrev pub decreases-sets::shared_range : goal.decreases-sets::shared_range
decreases-sets::shared_range l = 32 * l.room + 3

abbrev pub decreases-indexing::entry_value : goal.decreases-indexing::entry_value
decreases-indexing::entry_value l = 32 * l.room + 5

abbrev pub decreases-evaluate::eval : goal.decreases-evaluate::eval
decreases-evaluate::eval l = 32 * l.room + 0

abbrev pub decreases-indexing::extended : goal.decreases-indexing::extended
decreases-indexing::extended l = 32 * l.room + 6

abbrev pub decreases-indexing::filtered : goal.decreases-indexing::filtered
decreases-indexing::filtered l = 32 * l.room + 2

abbrev pub decreases-evaluate::group : goal.decreases-evaluate::group
decreases-evaluate::group l = 32 * l.room + 2

abbrev pub decreases-values::element : goal.decreases-values::element
decreases-values::element l = 32 * l.room + 1

abbrev pub decreases-values::holds : goal.decreases-values::holds
decreases-values::holds l = 32 * l.room + 1

abbrev pub decreases-restrictions::inclusion_holds : goal.decreases-restrictions::inclusion_holds
decreases-restrictions::inclusion_holds l = 32 * l.room + 5

abbrev pub decreases-restrictions::inclusions_hold : goal.decreases-restrictions::inclusions_hold
decreases-restrictions::inclusions_hold l = 32 * l.room + 6

abbrev pub decreases-evaluate::linked : goal.decreases-evaluate::linked
decreases-evaluate::linked l = 32 * l.room + 1

abbrev pub decreases-values::listed : goal.decreases-values::listed
decreases-values::listed l = 32 * l.room + 2

abbrev pub decreases-members::member_of : goal.decreases-members::member_of
decreases-members::member_of l = 32 * l.room + 12

abbrev pub decreases-restrictions::membership_holds : goal.decreases-restrictions::membership_holds
decreases-restrictions::membership_holds l = 32 * l.room + 5

abbrev pub decreases-restrictions::memberships_hold : goal.decreases-restrictions::memberships_hold
decreases-restrictions::memberships_hold l = 32 * l.room + 6

abbrev pub decreases-evaluate::named : goal.decreases-evaluate::named
decreases-evaluate::named l = 32 * l.room + 18

abbrev pub decreases-evaluate::object : goal.decreases-evaluate::object
decreases-evaluate::object l = 32 * l.room + 17

abbrev pub decreases-values::negation : goal.decreases-values::negation
decreases-values::negation l = 32 * l.room + 2

abbrev pub decreases-values::number : goal.decreases-values::number
decreases-values::number l = 32 * l.room + 1

abbrev pub decreases-values::numbers : goal.decreases-values::numbers
decreases-values::numbers l = 32 * l.room + 1

abbrev pub decreases-indexing::over_entries : goal.decreases-indexing::over_entries
decreases-indexing::over_entries l = 32 * l.room + 7

abbrev pub decreases-members::param_member : goal.decreases-members::param_member
decreases-members::param_member l = 32 * l.room + 9

abbrev pub decreases-values::power : goal.decreases-values::power
decreases-values::power l = 32 * l.room + 2

abbrev pub decreases-values::step_of : goal.decreases-values::step_of
decreases-values::step_of l = 32 * l.room + 2

abbrev pub decreases-values::range : goal.decreases-values::range
decreases-values::range l = 32 * l.room + 3

abbrev pub decreases-restrictions::relation_holds : goal.decreases-restrictions::relation_holds
decreases-restrictions::relation_holds l = 32 * l.room + 1

abbrev pub decreases-restrictions::relations_hold : goal.decreases-restrictions::relations_hold
decreases-restrictions::relations_hold l = 32 * l.room + 2

abbrev pub decreases-restrictions::all_hold : goal.decreases-restrictions::all_hold
decreases-restrictions::all_hold l = 32 * l.room + 7

abbrev pub decreases-restrictions::restricted : goal.decreases-restrictions::restricted
decreases-restrictions::restricted l = 32 * l.room + 8

abbrev pub decreases-members::set_member : goal.decreases-members::set_member
decreases-members::set_member l = 32 * l.room + 9

abbrev pub decreases-values::size : goal.decreases-values::size
decreases-values::size l = 32 * l.room + 5

abbrev pub decreases-members::symbol_held : goal.decreases-members::symbol_held
decreases-members::symbol_held l = 32 * l.room + 4

abbrev pub decreases-members::set_held : goal.decreases-members::set_held
decreases-members::set_held l = 32 * l.room + 4

abbrev pub decreases-members::source : goal.decreases-members::source
decreases-members::source l = 32 * l.room + 3

abbrev pub decreases-members::stated : goal.decreases-members::stated
decreases-members::stated l = 32 * l.room + 2

abbrev pub decreases-values::substring : goal.decreases-values::substring
decreases-values::substring l = 32 * l.room + 2

abbrev pub decreases-values::symbols : goal.decreases-values::symbols
decreases-values::symbols l = 32 * l.room + 1

abbrev pub decreases-values::text_length : goal.decreases-values::text_length
decreases-values::text_length l = 32 * l.room + 1

abbrev pub decreases-variables::variable_bounds : goal.decreases-variables::variable_bounds
decreases-variables::variable_bounds l = 32 * l.room + 9

abbrev pub decreases-variables::evaluated_variable : goal.decreases-variables::evaluated_variable
decreases-variables::evaluated_variable l = 32 * l.room + 10

abbrev pub decreases-variables::variable_member : goal.decreases-variables::variable_member
decreases-variables::variable_member l = 32 * l.room + 11

abbrev pub decreases-indexing::walked : goal.decreases-indexing::walked
decreases-indexing::walked l = 32 * l.room + 8

abbrev pub decreases-indexing::within_domain : goal.decreases-indexing::within_domain
decreases-indexing::within_domain l = 32 * l.room + 8

abbrev pub decreases-indexing::within_entries : goal.decreases-indexing::within_entries
decreases-indexing::within_entries l = 32 * l.room + 6

abbrev pub decreases-indexing::within_indexing : goal.decreases-indexing::within_indexing
decreases-indexing::within_indexing l = 32 * l.room + 7

abbrev pub decreases-iterations::iterated : goal.decreases-iterations::iterated
decreases-iterations::iterated l = 32 * l.room + 7

abbrev pub decreases-iterations::over_entries : goal.decreases-iterations::over_entries
decreases-iterations::over_entries l = 32 * l.room + 6

abbrev pub decreases-iterations::over_tuples : goal.decreases-iterations::over_tuples
decreases-iterations::over_tuples l = 32 * l.room + 5

abbrev pub decreases-iterations::at_tuple : goal.decreases-iterations::at_tuple
decreases-iterations::at_tuple l = 32 * l.room + 4

abbrev pub decreases-iterations::deeper : goal.decreases-iterations::deeper
decreases-iterations::deeper l = 32 * l.room + 3

abbrev pub decreases-iterations::at_element : goal.decreases-iterations::at_element
decreases-iterations::at_element l = 32 * l.room + 2

abbrev pub decreases-iterations::with_body : goal.decreases-iterations::with_body
decreases-iterations::with_body l = 32 * l.room + 1

abbrev pub invariant-values::symbols-loop-one : goal.invariant-values::symbols-loop-one
invariant-values::symbols-loop-one l =
    (spec.symbols [] (at.exprs l.model l.height l.all) l.bindings ≡ spec.symbols l.found (at.exprs l.model l.height (drop l.one-index l.all)) l.bindings) × AreRight l.model l.kept

abbrev pub invariant-values::numbers-loop-one : goal.invariant-values::numbers-loop-one
invariant-values::numbers-loop-one l =
    (spec.numbers [] (at.exprs l.model l.height l.all) l.bindings ≡ spec.numbers l.found (at.exprs l.model l.height (drop l.one-index l.all)) l.bindings) × AreRight l.model l.kept

abbrev pub invariant-values::listed-loop-entry : goal.invariant-values::listed-loop-entry
invariant-values::listed-loop-entry l =
    (spec.listed [] (at.entries l.model l.height l.entries) l.bindings ≡ spec.listed l.found (at.entries l.model l.height (drop l.entry-index l.entries)) l.bindings) × AreRight l.model l.kept

abbrev pub invariant-indexing::over_entries-loop-entry : goal.invariant-indexing::over_entries-loop-entry
invariant-indexing::over_entries-loop-entry l =
    (walks.over_entries (at.entries l.model l.height l.entries) l.bindings walks.start ≡ walks.over_entries (at.entries l.model l.height (drop l.entry-index l.entries)) l.bindings l.walk) × AreRight l.model l.kept

abbrev pub invariant-indexing::extended-loop-element : goal.invariant-indexing::extended-loop-element
invariant-indexing::extended-loop-element l =
    (walks.extended (at.entry l.model l.height l.entry) l.bindings [] l.walk.elements l.walk.fault ≡ walks.extended (at.entry l.model l.height l.entry) l.bindings l.found (drop l.element-index l.walk.elements) l.walk.fault) × AreRight l.model l.kept

abbrev pub invariant-indexing::filtered-loop-element : goal.invariant-indexing::filtered-loop-element
invariant-indexing::filtered-loop-element l =
    (walks.filtered (at.expr l.model l.height l.condition) l.bindings [] l.walk.elements l.walk.fault ≡ walks.filtered (at.expr l.model l.height l.condition) l.bindings l.found (drop l.element-index l.walk.elements) l.walk.fault) × AreRight l.model l.kept

abbrev pub invariant-indexing::component_values-loop-one : goal.invariant-indexing::component_values-loop-one
invariant-indexing::component_values-loop-one l =
    (walks.component_values [] (at.components l.model l.height l.all) l.bindings ≡ walks.component_values l.found (at.components l.model l.height (drop l.one-index l.all)) l.bindings) × AreRight l.model l.kept

abbrev pub invariant-evaluate::chain-loop-link : goal.invariant-evaluate::chain-loop-link
invariant-evaluate::chain-loop-link l =
    (spec.chain (at.expr l.model l.height l.first) (at.links l.model l.height l.links) l.bindings ≡ spec.links_from l.value (at.links l.model l.height (drop l.link-index l.links)) l.bindings) × AreRight l.model l.kept

abbrev pub invariant-indexing::within_entries-loop-entry : goal.invariant-indexing::within_entries-loop-entry
invariant-indexing::within_entries-loop-entry l =
    (domains.within_entries (at.entries l.model l.height l.entries) [] l.subscripts ≡ domains.within_entries (at.entries l.model l.height (drop l.entry-index l.entries)) l.bindings l.rest) × AreRight l.model l.kept

abbrev pub invariant-restrictions::relations_hold-loop-attribute : goal.invariant-restrictions::relations_hold-loop-attribute
invariant-restrictions::relations_hold-loop-attribute l =
    (restrictions.relations_hold l.model.statements (member l.model l.height) l.bindings l.symbolic l.attributes l.symbol ≡ restrictions.relations_hold l.model.statements (member l.model l.height) l.bindings l.symbolic (drop l.attribute-index l.attributes) l.symbol) × AreRight l.model l.kept

abbrev pub invariant-restrictions::memberships_hold-loop-attribute : goal.invariant-restrictions::memberships_hold-loop-attribute
invariant-restrictions::memberships_hold-loop-attribute l =
    (restrictions.memberships_hold l.model.statements (member l.model l.height) l.bindings l.attributes l.symbol ≡ restrictions.memberships_hold l.model.statements (member l.model l.height) l.bindings (drop l.attribute-index l.attributes) l.symbol) × AreRight l.model l.kept

abbrev pub invariant-restrictions::inclusions_hold-loop-attribute : goal.invariant-restrictions::inclusions_hold-loop-attribute
invariant-restrictions::inclusions_hold-loop-attribute l =
    (restrictions.inclusions_hold l.model.statements (member l.model l.height) l.bindings l.attributes l.set ≡ restrictions.inclusions_hold l.model.statements (member l.model l.height) l.bindings (drop l.attribute-index l.attributes) l.set) × AreRight l.model l.kept

abbrev pub invariant-iterations::over_tuples-loop-tuple : goal.invariant-iterations::over_tuples-loop-tuple
invariant-iterations::over_tuples-loop-tuple l =
    let go = one_by_one.over_entries l.each.iteration (at.optional l.model l.height l.each.condition.now) (at.expr l.model l.height l.each.body.now) (at.entries l.model l.height l.entries) in
    let over = one_by_one.over_tuples l.each.iteration (at.optional l.model l.height l.each.condition.now) (at.expr l.model l.height l.each.body.now) go l.bindings l.value.pattern in
    (over l.value.set.value l.initial.total ≡ over (drop l.tuple-index l.value.set.value) l.total) × AreRight l.model l.kept
