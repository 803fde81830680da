use Rattle.std.proofs.Common.{◌≡◌, sym, length, arith, below_more}
use Rattle.std.proofs.lemmas.Bool.{ne_eqb, eq-eqb}
use Rattle.std.proofs.lemmas.List.Sums.{position_or_len_is}
use Rattle.certificate_lines.specs.Fields.{is_colon}
use Rattle.certificate_lines.proofs.fields.colon_place.Goals as goal

pub loop-i-preserved : goal.loop-i-preserved
loop-i-preserved c = below_more _ _ c.loop-i.invariant (ne_eqb _ _ c.if-c-eq58.false)

pub returns-then-c-eq58-clause-place : goal.returns-then-c-eq58-clause-place
returns-then-c-eq58-clause-place c = sym (position_or_len_is is_colon c.args.field.now c.loop-i.i 0 (omega arith) c.loop-i.invariant (λ lt. eq-eqb _ _ c.if-c-eq58.true))

pub returns-clause-place : goal.returns-clause-place
returns-clause-place c =
    let end : c.loop-i.i ≡ length c.args.field.now = omega arith in
    rw (← end) (sym (position_or_len_is is_colon c.args.field.now c.loop-i.i 0 (omega arith) c.loop-i.invariant (λ lt. absurd (omega arith))))
