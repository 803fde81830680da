use Rattle.std.proofs.Common.{◌∙◌, sym, arith}
use Rattle.glpsol_cli.proofs.Left.{next_of}
use Rattle.glpsol_cli.proofs.tables.with_tables.Goals as goal

pub returns-in-Err-clause-unwritten : goal.returns-in-Err-clause-unwritten
returns-in-Err-clause-unwritten g c = λ words told start run. c.in-Err.ensures.unwritten words told start (c.loop-alloc.invariant.goes_on words told start run)

pub loop-alloc-preserved : goal.loop-alloc-preserved
loop-alloc-preserved g c = record {
  goes_on = λ words told start run. c.in-Ok.ensures.run words told start (c.loop-alloc.invariant.goes_on words told start run);
  files_later = omega (arith, c.loop-alloc.invariant.files_later, c.behind_table.ensures.files_later);
  out_later = omega (arith, c.loop-alloc.invariant.out_later, c.behind_table.ensures.out_later);
  some = (next_of c.loop-alloc.latest.executed.halt c.in-Ok.made (sym c.is_waiting.ensures ∙ c.loop-alloc-test.true) c.in-Ok.ensures.next).some;
}

pub loop-alloc-smaller : goal.loop-alloc-smaller
loop-alloc-smaller g c = (next_of c.loop-alloc.latest.executed.halt c.in-Ok.made (sym c.is_waiting.ensures ∙ c.loop-alloc-test.true) c.in-Ok.ensures.next).less
