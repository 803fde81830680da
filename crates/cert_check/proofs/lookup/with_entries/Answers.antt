use Rattle.std.proofs.Common.{◌≡◌, Err, Result, rules}
use Rattle.rational.specs.Rational.{Rational}
use Rattle.fraction.specs.declared.frac.NoFit.{NoFit}
use Rattle.cert_check.specs.Sums.{with_products}
use Rattle.cert_check.specs.Lookup.{at_entries}
use Rattle.cert_check.proofs.Merge.{entry_ok, entry_fault}
use Rattle.cert_check.proofs.lookup.with_entries.Goals as goal

pub returns-in_err-total : goal.returns-in_err-total
returns-in_err-total c =
    let all : Result Rational NoFit = with_products c.args.start (at_entries c.args.entries.now c.args.items.now) in
    let fault : Err c.in_err-total.field-0.0 ≡ all = entry_fault c.args.entries.now c.loop-entry.entry-index c.entry-item.result c.args.items.now c.loop-entry.total _ _ c.loop-entry-test.true c.entry-item.is c.loop-entry.invariant c.in_err-total.ensures in
    search rules

pub loop-entry-preserved : goal.loop-entry-preserved
loop-entry-preserved c = entry_ok c.args.entries.now c.loop-entry.entry-index c.entry-item.result c.args.items.now c.loop-entry.total c.in_ok-total.total _ c.loop-entry-test.true c.entry-item.is c.loop-entry.invariant c.in_ok-total.ensures
