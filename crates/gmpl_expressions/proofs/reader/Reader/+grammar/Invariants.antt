-- What falls at each call: how many more tokens may be open, and then the level.
use Rattle.std.proofs.Common.{◌≡◌, ◌+◌, ◌-◌, ◌*◌, ℕ}
use Rattle.gmpl_words.specs.declared.operators.Level.{Level}
use Rattle.gmpl_words.specs.declared.operators.Level.TheVariants.{Or, And, Union, Inter, Cross, Join, Sum, Product}
use Rattle.gmpl_input.specs.Rules.{further, further_from}
use Rattle.gmpl_words.specs.Operators.{operator}
use Rattle.gmpl_expressions.specs.Grammar.{inside, union, part, entry, links, links_from}
use Rattle.gmpl_expressions.proofs.reader.Reader.+grammar.Given as goal

abbrev place : Level → ℕ
place Product = 0
place Sum = 1
place Join = 2
place Cross = 4
place Inter = 5
place Union = 6
place And = 9
place Or = 10

-- ---- the measure of each function

abbrev pub decreases-subscripts : goal.decreases-subscripts
decreases-subscripts l = l.self.depth * 64 + (0)

abbrev pub decreases-group : goal.decreases-group
decreases-group l = l.self.depth * 64 + (0)

abbrev pub decreases-arguments : goal.decreases-arguments
decreases-arguments l = l.self.depth * 64 + (0)

abbrev pub decreases-indexing : goal.decreases-indexing
decreases-indexing l = l.self.depth * 64 + (0)

abbrev pub decreases-braces : goal.decreases-braces
decreases-braces l = l.self.depth * 64 + (0)

abbrev pub decreases-iterated : goal.decreases-iterated
decreases-iterated l = l.self.depth * 64 + (0)

abbrev pub decreases-conditional : goal.decreases-conditional
decreases-conditional l = l.self.depth * 64 + (0)

abbrev pub decreases-with_sign : goal.decreases-with_sign
decreases-with_sign l = l.self.depth * 64 + (0)

abbrev pub decreases-negated : goal.decreases-negated
decreases-negated l = l.self.depth * 64 + (0)

abbrev pub decreases-exponent : goal.decreases-exponent
decreases-exponent l = l.self.depth * 64 + (0)

abbrev pub decreases-reference : goal.decreases-reference
decreases-reference l = l.self.depth * 64 + (1)

abbrev pub decreases-named : goal.decreases-named
decreases-named l = l.self.depth * 64 + (2)

abbrev pub decreases-primary : goal.decreases-primary
decreases-primary l = l.self.depth * 64 + (3)

abbrev pub decreases-power : goal.decreases-power
decreases-power l = l.self.depth * 64 + (4)

abbrev pub decreases-signed : goal.decreases-signed
decreases-signed l = l.self.depth * 64 + (5)

abbrev pub decreases-part : goal.decreases-part
decreases-part l = l.self.depth * 64 + (6 + 4 * place l.level)

abbrev pub decreases-links : goal.decreases-links
decreases-links l = l.self.depth * 64 + (7 + 4 * place l.level)

abbrev pub decreases-chain : goal.decreases-chain
decreases-chain l = l.self.depth * 64 + (8 + 4 * place l.level)

abbrev pub decreases-boxed_chain : goal.decreases-boxed_chain
decreases-boxed_chain l = l.self.depth * 64 + (9 + 4 * place l.level)

abbrev pub decreases-range : goal.decreases-range
decreases-range l = l.self.depth * 64 + (6 + 4 * 3)

abbrev pub decreases-compared : goal.decreases-compared
decreases-compared l = l.self.depth * 64 + (6 + 4 * 7)

abbrev pub decreases-not_related : goal.decreases-not_related
decreases-not_related l = l.self.depth * 64 + (7 + 4 * 7)

abbrev pub decreases-related : goal.decreases-related
decreases-related l = l.self.depth * 64 + (6 + 4 * 8)

abbrev pub decreases-negation : goal.decreases-negation
decreases-negation l = l.self.depth * 64 + (7 + 4 * 8)

abbrev pub decreases-further : goal.decreases-further
decreases-further l = l.self.depth * 64 + (6 + 4 * 7)

abbrev pub decreases-some_arguments : goal.decreases-some_arguments
decreases-some_arguments l = l.self.depth * 64 + (7 + 4 * 7)

abbrev pub decreases-entry_over : goal.decreases-entry_over
decreases-entry_over l = l.self.depth * 64 + (6 + 4 * 7)

abbrev pub decreases-entry : goal.decreases-entry
decreases-entry l = l.self.depth * 64 + (7 + 4 * 7)

abbrev pub decreases-entries : goal.decreases-entries
decreases-entries l = l.self.depth * 64 + (8 + 4 * 7)

abbrev pub decreases-condition : goal.decreases-condition
decreases-condition l = l.self.depth * 64 + (6 + 4 * 11)

abbrev pub decreases-entries_and_condition : goal.decreases-entries_and_condition
decreases-entries_and_condition l = l.self.depth * 64 + (7 + 4 * 11)

abbrev pub decreases-integrand : goal.decreases-integrand
decreases-integrand l = l.self.depth * 64 + (6 + 4 * 11)

-- ---- lists: what is read of the whole is what is read from here, behind what was found

abbrev pub invariant-links-loop-turn : goal.invariant-links-loop-turn
invariant-links-loop-turn l = links (operator l.level) (part (inside l.self.depth) l.level) l.fn.tokens ≡ links_from (operator l.level) (part (inside l.self.depth) l.level) (l._turn-end - l._turn) l.found l.tokens

abbrev pub invariant-further-loop-turn : goal.invariant-further-loop-turn
invariant-further-loop-turn l = further_from (union (inside l.self.depth)) l.most l.fn.found l.fn.tokens ≡ further_from (union (inside l.self.depth)) (l.most - l._turn) l.found l.tokens

abbrev pub invariant-entries-loop-turn : goal.invariant-entries-loop-turn
invariant-entries-loop-turn l = further (entry (inside l.self.depth)) l.fn.found l.fn.tokens ≡ further_from (entry (inside l.self.depth)) (l._turn-end - l._turn) l.found l.tokens
