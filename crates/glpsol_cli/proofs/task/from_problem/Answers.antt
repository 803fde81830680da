use Rattle.glpsol_cli.specs.Stages.{texts_in}
use Rattle.glpsol_cli.proofs.Carried.{subject_asked, subject_enough}
use Rattle.glpsol_cli.proofs.task.from_problem.Goals as goal

pub finding-requires-clause-enough : goal.finding-requires-clause-enough
finding-requires-clause-enough g c κs lives = subject_enough c.args.inputs.now.settings (texts_in c.args.inputs.now) c.args.problem.now c.args.later c.requires

pub finding-requires-clause-asked : goal.finding-requires-clause-asked
finding-requires-clause-asked g c κs lives = subject_asked c.args.inputs.now.settings (texts_in c.args.inputs.now) c.args.problem.now c.args.later c.requires
