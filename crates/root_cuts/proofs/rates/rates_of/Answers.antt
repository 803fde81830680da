use Rattle.gomory.proofs.CutLaws.{one_more_number}
use Rattle.dictionary.specs.Table.{dictionary_of}
use Rattle.root_cuts.specs.RootBasis.{rate_at}
use Rattle.root_cuts.proofs.rates.rates_of.Goals as goal

pub loop-v-preserved : goal.loop-v-preserved
loop-v-preserved c = one_more_number (rate_at c.args.dictionary.now.places (dictionary_of c.args.dictionary.now) c.args.r) c.loop-v.v c.loop-v.rates.items c.push.new.self.items c.rate_at.result
    c.rate_at.ensures c.loop-v.invariant c.in_ok-push.ensures.items
