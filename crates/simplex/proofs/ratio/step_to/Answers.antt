use Rattle.std.proofs.Common.{rules}
use Rattle.simplex.proofs.RatioLemmas.{sub_value, step_of_mover, step_of_basic}
use Rattle.simplex.proofs.ratio.step_to.Goals as goal

pub returns-then-v-q-clause-ok : goal.returns-then-v-q-clause-ok
returns-then-v-q-clause-ok c = step_of_mover c.args.dictionary.now c.args.q c.args.v c.args.x c.args.bound c.in_ok-way.way (search rules) (sub_value c.args.bound c.args.x c.in_ok-way.way c.sub.result c.sub.ensures c.in_ok-way.was)

pub returns-clause-ok : goal.returns-clause-ok
returns-clause-ok c = step_of_basic c.args.dictionary.now c.args.q c.args.v c.args.x c.args.bound c.in_ok-way.way c.rate.result c.div.result (search rules) (search rules) (sub_value c.args.bound c.args.x c.in_ok-way.way c.sub.result c.sub.ensures c.in_ok-way.was) c.rate.ensures c.requires.moves c.div.ensures
