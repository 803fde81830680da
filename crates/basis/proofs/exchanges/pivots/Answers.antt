use Rattle.basis.proofs.Pivot.{pivot_keeps}
use Rattle.basis.proofs.PivotNumbers.{pivot_numbers}
use Rattle.basis.proofs.exchanges.pivots.Goals as goal

pub returns : goal.returns
returns c = record { keeps = λ s b d e q r place h k l m n o u. pivot_keeps s b d e q r place h k l m n o u; numbers = pivot_numbers }
