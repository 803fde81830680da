use Rattle.basis.proofs.NumberFacts.{optimal_point_base, optimal_weights_base, infeasible_weights_base, unbounded_point_base, unbounded_ray_base}
use Rattle.basis.proofs.nodes.base_numbers.Goals as goal

pub returns : goal.returns
returns c = record {
  optimal_point = optimal_point_base;
  optimal_weights = optimal_weights_base;
  infeasible_weights = infeasible_weights_base;
  unbounded_point = unbounded_point_base;
  unbounded_ray = unbounded_ray_base;
}
