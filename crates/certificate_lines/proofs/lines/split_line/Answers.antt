use Rattle.std.proofs.Common.{below_more}
use Rattle.std.proofs.lemmas.Bool.{ne_eqb, eq-eqb}
use Rattle.certificate_lines.proofs.Pieces.{pieces_at, pieces_none}
use Rattle.certificate_lines.proofs.lines.split_line.Goals as goal

pub loop-i-preserved : goal.loop-i-preserved
loop-i-preserved c = below_more _ _ c.loop-i.invariant (ne_eqb _ _ c.if-c-eq10.false)

pub returns-then-c-eq10-clause-parts : goal.returns-then-c-eq10-clause-parts
returns-then-c-eq10-clause-parts c = rw (c.front.ensures, c.rest_after.ensures) (pieces_at c.args.bytes.now c.loop-i.i c.loop-i-test.true c.loop-i.invariant (eq-eqb _ _ c.if-c-eq10.true))

pub returns-clause-parts : goal.returns-clause-parts
returns-clause-parts c = pieces_none c.args.bytes.now c.loop-i.i c.loop-i-test.false c.loop-i.invariant
