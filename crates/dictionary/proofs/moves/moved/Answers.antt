use Rattle.std.proofs.Common.{rules}
use Rattle.dictionary.proofs.MoveLemmas.{moved_self, moved_resting, moved_still, moved_basic}
use Rattle.dictionary.proofs.moves.moved.Goals as goal

pub returns-then-v-q-clause-ok : goal.returns-then-v-q-clause-ok
returns-then-v-q-clause-ok c = moved_self c.args.dictionary.now c.args.q c.args.v c.args.by c.args.x c.add.result (search rules) c.add.ensures

pub returns-then-not-is_basic-clause-ok : goal.returns-then-not-is_basic-clause-ok
returns-then-not-is_basic-clause-ok c = moved_resting c.args.dictionary.now c.args.q c.args.v c.args.by c.args.x (search rules) (search rules)

pub returns-then-is_zero-clause-ok : goal.returns-then-is_zero-clause-ok
returns-then-is_zero-clause-ok c = moved_still c.args.dictionary.now c.args.q c.args.v c.args.by c.args.x c.rate-rate.result (search rules) (search rules) c.rate-rate.ensures (search rules)

pub returns-clause-ok : goal.returns-clause-ok
returns-clause-ok c = moved_basic c.args.dictionary.now c.args.q c.args.v c.args.by c.args.x c.rate-rate.result c.mul_add.result (search rules) (search rules) c.rate-rate.ensures c.mul_add.ensures.ok
