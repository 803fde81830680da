-- One step of a chain of demands.
use Rattle.std.proofs.Common.{◌≡◌, ◌<◌, ◌-◌, ℕ, List, Option, zero, suc, refl, Err, arith, ap}
use Rattle.gmpl_syntax.specs.declared.expression.Suffix.{Suffix}
use Rattle.gmpl_value.specs.declared.symbol.Symbol.{Symbol}
use Rattle.gmpl_data.specs.declared.tables.LoadedModel.{LoadedModel}
use Rattle.gmpl_data.specs.Given.{statement_at}
use Rattle.gmpl_value.specs.declared.eval_fault.EvalFault.TheVariants as fault
use Rattle.gmpl_meaning.specs.Members.{member, declared}

pub member_none : (model : LoadedModel) (height place : ℕ) (asked : Option Suffix) (subscripts : List Symbol) → height ≡ 0 → member model height place asked subscripts ≡ Err fault.Depth
unfolding member
member_none model zero place asked subscripts none = refl
member_none model (suc height) place asked subscripts none = absurd (omega arith)

pub member_some : (model : LoadedModel) (height place : ℕ) (asked : Option Suffix) (subscripts : List Symbol) → 0 < height → member model height place asked subscripts ≡ declared model (member model (height - 1)) place (statement_at model place) asked subscripts
unfolding member
member_some model zero place asked subscripts positive = absurd (omega arith)
member_some model (suc height) place asked subscripts positive = ap (λ h. declared model (member model h) place (statement_at model place) asked subscripts) (omega arith)
