use Rattle.std.proofs.Common.{subst}
use Rattle.infeasible_subset.specs.Members.{has}
use Rattle.infeasible_subset.specs.Subsets.{sub, AreAccepted}
use Rattle.infeasible_subset.specs.Trials.{IsTrial}
use Rattle.infeasible_subset.proofs.OneByOne.{others_among}
use Rattle.infeasible_subset.proofs.settling.settle.Goals as goal

pub refuted-requires-clause-refuted : goal.refuted-requires-clause-refuted
refuted-requires-clause-refuted c =
    let p = c.args.problem.now in
    subst (λ ms. AreAccepted (sub p (has ms)) c.in-Refuted.weights) c.requires.others (subst (IsTrial (sub p (has c.args.others)) c.args.pivot_limit) c.in-Refuted.is c.requires.trial)

pub returns-in-NotFitting-clause-fault : goal.returns-in-NotFitting-clause-fault
returns-in-NotFitting-clause-fault c =
    let p = c.args.problem.now in
    let u = c.args.underway.now in
    record {
      among = others_among p u.done c.args.member u.left c.args.others u.weights c.requires.underway c.requires.others;
      fault = subst (IsTrial (sub p (has c.args.others)) c.args.pivot_limit) c.in-NotFitting.is c.requires.trial;
    }

pub returns-in-AtLimit-clause-fault : goal.returns-in-AtLimit-clause-fault
returns-in-AtLimit-clause-fault c =
    let p = c.args.problem.now in
    let u = c.args.underway.now in
    record {
      among = others_among p u.done c.args.member u.left c.args.others u.weights c.requires.underway c.requires.others;
      limited = subst (IsTrial (sub p (has c.args.others)) c.args.pivot_limit) c.in-AtLimit.is c.requires.trial;
    }
