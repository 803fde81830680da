use Rattle.std.proofs.Common.{◌≡◌, None, rules}
use Rattle.verdicts.specs.Certificate.{Infeasible, Empty}
use Rattle.basis.specs.Relaxation.{leaf_certificate}
use Rattle.infeasible_subset.proofs.Accepted.{leaf_accepted, leaf_proves}
use Rattle.infeasible_subset.proofs.witness.Subset.certificate.Goals as goal

pub returns-clause-proves : goal.returns-clause-proves
returns-clause-proves c =
    let p = c.args.problem.now in
    let w = c.args.self.now.weights in
    let is : c.infeasible.result ≡ leaf_certificate p Infeasible None None (Empty w) = search rules in
    leaf_proves p w c.infeasible.result c.requires is

pub returns-clause-accepted : goal.returns-clause-accepted
returns-clause-accepted c =
    let p = c.args.problem.now in
    let w = c.args.self.now.weights in
    let is : c.infeasible.result ≡ leaf_certificate p Infeasible None None (Empty w) = search rules in
    leaf_accepted p w c.infeasible.result c.requires is
