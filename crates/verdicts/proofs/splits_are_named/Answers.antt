use Rattle.verdicts.proofs.Migration.{weights_keep}
use Rattle.verdicts.proofs.Named.{kept_each, splits_weigh, splits_positive, splits_rising, all_other, kept_in_rank}
use Rattle.std.proofs.Common.{List, [], subst, sym}
use Rattle.std.specs.Prelude.{IsTrue}
use Rattle.verdicts.specs.Certificate.{Item}
use Rattle.verdicts.specs.Migrated.{Rising, with_splits}
use Rattle.verdicts.proofs.splits_are_named.Goals as goal

pub returns : goal.returns
returns c = record {
  sums = weights_keep;
  numbers = λ F p sides w n h k. (kept_each (λ i. IsTrue (F i.weight)) p sides w.columns h, splits_weigh (λ v. IsTrue (F v)) p sides w.columns w.splits n h k);
  positive = λ p sides w k. splits_positive p sides w.columns w.splits k;
  rising = λ p sides w e h. let P : List Item → Type 0 = λ s. Rising 0 (with_splits p sides w.columns s) in subst P (sym e) (splits_rising p sides w.columns [] (all_other 0 w.columns h) tt (λ i k e. tt));
  ranks = λ p sides w h. kept_in_rank p sides 0 w.columns h;
}
