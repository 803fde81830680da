use Rattle.glpsol_cli.proofs.work_out.solved.Goals as goal

pub returns-in_ok-new-in-Ok-clause-plain : goal.returns-in_ok-new-in-Ok-clause-plain
returns-in_ok-new-in-Ok-clause-plain g c = λ none. rw c.in_ok-new-in-Ok.ensures (c.in-Ok.ensures.plain none)
