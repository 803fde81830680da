-- The column at its name's place, changed.
use Rattle.std.proofs.Common.{◌∙◌, sym}
use Rattle.mps_draft.proofs.Bounding.{bound-follows, bound-unknown}
use Rattle.mps_draft.proofs.bound.set_bound.Goals as goal

pub returns-in-Some-clause-follows : goal.returns-in-Some-clause-follows
returns-in-Some-clause-follows c = bound-follows c.args.kind c.args.name.now c.args.number c.args.columns.now c.in-Some.place (sym c.place.ensures.place ∙ c.in-Some.is) c.set_bound_at.result c.set_bound_at.new.columns c.set_bound_at.ensures.follows

pub returns-in-None-clause-follows : goal.returns-in-None-clause-follows
returns-in-None-clause-follows c = bound-unknown c.args.kind c.args.name.now c.args.number c.args.columns.now (sym c.place.ensures.place ∙ c.in-None.is)
