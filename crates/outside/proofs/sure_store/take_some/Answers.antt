use Rattle.std.proofs.Common.{drop, arith}
use Rattle.std.proofs.lemmas.Grind.{common_steps}
use Rattle.outside.proofs.Pieces.{copied}
use Rattle.outside.proofs.sure_store.take_some.Goals as goal

pub returns-clause-bytes : goal.returns-clause-bytes
returns-clause-bytes c =
    let n = c.min-count.result in
    copied c.args.hand.now.bytes.items (drop n c.args.into.now) c.args.hand.now.at n c.copy_from_slice.new.self (grind (arith, common_steps)) (grind (arith, common_steps))
