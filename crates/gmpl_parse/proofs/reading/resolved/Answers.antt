-- One statement after another.
use Rattle.std.proofs.Common.{sym, subst}
use Rattle.gmpl_statements.specs.Statements.{statements_of}
use Rattle.gmpl_parse.specs.Models.{IsResolved}
use Rattle.gmpl_parse.proofs.OneByOne.{ends_before, ends_here, ends_with_data, starts}
use Rattle.gmpl_parse.proofs.reading.resolved.Goals as goal

pub loop-turn-init : goal.loop-turn-init
loop-turn-init c = starts c.args.tokens c.left-turns.result c.new-reader.result c.new-resolver.result c.new-reader.ensures c.new-resolver.ensures c.left-turns.ensures.count

pub returns-in-Some : goal.returns-in-Some
returns-in-Some c =
    subst (λ found. IsResolved found.statements found.data_at (statements_of c.args.tokens)) (sym c.ended.ensures)
    (ends_before (statements_of c.args.tokens) c.left-turns.result c.loop-turn.turn c.loop-turn.reader c.next.new.self c.loop-turn.resolver c.in_ok-one.field-0 c.loop-turn-test.true c.in_ok-one.ensures c.loop-turn.invariant c.in-Statement.one c.in_ok-add-in-Statement.field-0 c.in-Some.own c.add.new.self c.in-Statement.is c.in-Some.is c.in_ok-add-in-Statement.ensures)

pub returns-in-Data : goal.returns-in-Data
returns-in-Data c =
    subst (λ found. IsResolved found.statements found.data_at (statements_of c.args.tokens)) (sym c.ended-in-Data.ensures)
    (ends_with_data (statements_of c.args.tokens) c.left-turns.result c.loop-turn.turn c.loop-turn.reader c.next.new.self c.loop-turn.resolver c.in_ok-one.field-0 c.loop-turn-test.true c.in_ok-one.ensures c.loop-turn.invariant c.in-Data.line c.in-Data.at c.in-Data.is)

pub returns-in-End : goal.returns-in-End
returns-in-End c =
    subst (λ found. IsResolved found.statements found.data_at (statements_of c.args.tokens)) (sym c.ended-in-End.ensures)
    (ends_here (statements_of c.args.tokens) c.left-turns.result c.loop-turn.turn c.loop-turn.reader c.next.new.self c.loop-turn.resolver c.in_ok-one.field-0 c.loop-turn-test.true c.in_ok-one.ensures c.loop-turn.invariant c.in-End.fault c.in-End.is)
