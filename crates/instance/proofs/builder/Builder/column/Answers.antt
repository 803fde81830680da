use Rattle.std.proofs.Common.{◌≡◌, ◌∙◌, ◌++◌, ◌∷◌, [], ap, length, arith, false, List, rules}
use Rattle.milp.specs.Problem.{Column}
use Rattle.instance.specs.WellFormed.{has_column}
use Rattle.instance.proofs.Longer.{with_column, length-snoc}
use Rattle.instance.proofs.builder.Builder.column.Goals as goal

pub invariant_of-self-2 : goal.invariant_of-self-2
invariant_of-self-2 c =
    let columns = c.self.inside.columns.items in
    let rows = c.self.inside.rows.items in
    let new : has_column c.args.column.name columns ≡ false = search rules in
    let items : c.push_reserved.new.self.items ≡ columns ++ c.args.column ∷ [] = c.push_reserved.ensures.items ∙ ap (λ (cs : List Column). cs ++ c.args.column ∷ []) c.reserve.ensures.items in
    let size = ap (λ (cs : List Column). length cs) items ∙ length-snoc columns c.args.column in
    record {
      limits = record { columns = omega (arith, size, c.self.invariant.limits.columns); rows = c.self.invariant.limits.rows };
      well_formed = with_column columns _ rows c.self.inside.objective c.args.column c.self.invariant.well_formed new items;
      count = c.self.invariant.count;
    }
