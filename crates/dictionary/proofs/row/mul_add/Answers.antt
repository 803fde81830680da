use Rattle.dictionary.proofs.RowNumbers.{mul_add_value, mul_add_fault}
use Rattle.dictionary.proofs.row.mul_add.Goals as goal

pub returns-clause-ok : goal.returns-clause-ok
returns-clause-ok c = mul_add_value c.args.factor c.args.a c.args.b c.mul_add.result c.mul_add.ensures.value

pub returns-clause-err : goal.returns-clause-err
returns-clause-err c = mul_add_fault c.args.factor c.args.a c.args.b c.mul_add.result c.mul_add.ensures.value c.mul_add.ensures.fault
