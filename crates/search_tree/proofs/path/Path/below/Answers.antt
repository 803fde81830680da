use Rattle.std.proofs.Common.{◌∙◌, ◌∷◌, List, ap, sym, arith}
use Rattle.verdicts.specs.Certificate.{Side as SideOf}
use Rattle.certificate.specs.Ways.{side_of}
use Rattle.search_tree.proofs.Paths.{next_side}
use Rattle.search_tree.proofs.path.Path.below.Goals as goal

pub loop-i-preserved : goal.loop-i-preserved
loop-i-preserved c =
    let taken = c.index-all-i.result in
    record {
      at_most = omega (arith, c.loop-i-test.true);
      sides = c.in_ok-longer.ensures ∙ ap (λ (sides : List SideOf). side_of taken.split taken.side ∷ sides) c.loop-i.invariant.sides ∙ sym (next_side c.as_slice-all.result.now c.loop-i.i taken c.loop-i-test.true c.index-all-i.is);
    }
