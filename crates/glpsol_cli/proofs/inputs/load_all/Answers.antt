use Rattle.std.proofs.Common.{◌∙◌, ◌+◌, take, drop, arith}
use Rattle.outside.specs.Causes.{Rose}
use Rattle.glpsol_cli.proofs.Follow.{rose_within}
use Rattle.glpsol_cli.proofs.FilesRead.{at_source, there, next_text, among}
use Rattle.glpsol_cli.proofs.inputs.load_all.Goals as goal

pub returns-in-Err-clause-stop : goal.returns-in-Err-clause-stop
returns-in-Err-clause-stop g c =
    let sources = c.args.sources.now in
    let i = c.loop-source.source-index in
    let source = c.source-item.result in
    let first = g.S.Store.faults c.args.files.now in
    let middle = g.S.Store.faults c.loop-source.files in
    let last = g.S.Store.faults c.load_from.new.files in
    among (g.S.Store.told c.args.files.now) (g.S.Store.told c.loop-source.files) (Rose middle last) (Rose first last) sources (take i sources) (drop (i + 1) sources) source c.in-Err.stop
    c.loop-source.invariant.told (rose_within first middle last last c.loop-source.invariant.later (omega arith)) (at_source sources i source c.loop-source-test.true c.source-item.is)
    (there (g.S.Store.told c.args.files.now) (take i sources) _ c.loop-source.invariant.texts) c.in-Err.ensures.stop

pub loop-source-preserved : goal.loop-source-preserved
loop-source-preserved g c = record {
  texts = next_text (λ text. text.items) (g.S.Store.told c.args.files.now) (g.S.Store.told c.loop-source.files) c.args.sources.now c.loop-source.source-index c.source-item.result c.loop-source.texts.items c.push.new.self.items c.in-Ok.text
      c.loop-source-test.true c.source-item.is c.loop-source.invariant.told c.in-Ok-push.ensures.items c.loop-source.invariant.texts c.in-Ok.ensures.text;
  told = λ other. c.load_from.ensures.told other ∙ c.loop-source.invariant.told other;
  later = omega (arith, c.load_from.ensures.later, c.loop-source.invariant.later);
}
