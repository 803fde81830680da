use Rattle.root_cuts.proofs.SettledPlaces.{one_more_place, one_more}
use Rattle.root_cuts.proofs.places.settled_places.Goals as goal

pub loop-v-preserved : goal.loop-v-preserved
loop-v-preserved c = record {
  size = one_more c.loop-v.made.items c.push.new.self.items c.settled_place.result c.loop-v.v c.loop-v.invariant.size c.in_ok-push.ensures.items;
  places = one_more_place c.args.problem.now c.args.places.now c.loop-v.made.items c.push.new.self.items c.loop-v.v c.settled_place.result c.loop-v.invariant.size c.loop-v.invariant.places c.settled_place.ensures c.in_ok-push.ensures.items;
}
