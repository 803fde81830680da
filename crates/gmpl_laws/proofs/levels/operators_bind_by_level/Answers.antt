use Rattle.gmpl_laws.proofs.LevelExamples.{power_from_the_right, power_before_sign, sign_before_product, product_before_sum, sum_before_join, join_before_range, range_before_cross, cross_before_inter, inter_before_union, union_before_relation, relation_before_not, not_before_and, and_before_or, one_level_from_the_left}
use Rattle.gmpl_laws.proofs.levels.operators_bind_by_level.Goals as goal

pub returns : goal.returns
returns t = record {
  power_from_the_right = power_from_the_right;
  power_before_sign = power_before_sign.0;
  sign_of_an_exponent = power_before_sign.1;
  sign_before_product = sign_before_product.0;
  sign_in_a_product = sign_before_product.1;
  product_before_sum = product_before_sum;
  sum_before_join = sum_before_join;
  join_before_range = join_before_range.0;
  join_behind_a_range = join_before_range.1;
  range_before_cross = range_before_cross.0;
  range_behind_a_cross = range_before_cross.1;
  cross_before_inter = cross_before_inter;
  inter_before_union = inter_before_union;
  union_before_relation = union_before_relation.0;
  union_behind_a_relation = union_before_relation.1;
  relation_before_not = relation_before_not.0;
  not_in = relation_before_not.1;
  not_before_and = not_before_and.0;
  not_behind_and = not_before_and.1;
  and_before_or = and_before_or;
  one_level_from_the_left = one_level_from_the_left;
}
