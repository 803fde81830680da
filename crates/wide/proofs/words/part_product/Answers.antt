use Rattle.std.proofs.Common.{arith}
use Rattle.wide.proofs.Products.{words_product}
use Rattle.wide.proofs.words.part_product.Goals as goal

pub returns : goal.returns
returns c = omega (arith, words_product _ _ _ _ _ _ c.split-a_low.ensures c.split-b_low.ensures)
