-- The marks are made on the first tokens alone.
use Rattle.cplex_lp_tokens.proofs.Begun.{line-begun}
use Rattle.cplex_lp_tokens.proofs.tokens.begin.Goals as goal

pub returns-clause-tokens : goal.returns-clause-tokens
returns-clause-tokens c = (line-begun c.args.later c.args.line c.args.text.now c.without_comment.result.now c.in_ok-rest.rest.now c.scan.new.tokens.items c.mark_section.new.tokens.items c.mark_left_out.new.tokens.items c.without_comment.ensures c.in_ok-rest.ensures.tokens c.in_ok-rest.ensures.two c.mark_section.ensures c.mark_left_out.ensures).0

pub returns-clause-later : goal.returns-clause-later
returns-clause-later c = (line-begun c.args.later c.args.line c.args.text.now c.without_comment.result.now c.in_ok-rest.rest.now c.scan.new.tokens.items c.mark_section.new.tokens.items c.mark_left_out.new.tokens.items c.without_comment.ensures c.in_ok-rest.ensures.tokens c.in_ok-rest.ensures.two c.mark_section.ensures c.mark_left_out.ensures).1
