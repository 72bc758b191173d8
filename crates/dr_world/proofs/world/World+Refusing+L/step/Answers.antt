use Rattle.dr_world.specs.Runs.{step_of}
use Rattle.dr_world.proofs.Played.{stepped_through, steps_go_on}
use Rattle.dr_world.proofs.Running.{goes_on, holds_after}
use Rattle.dr_world.proofs.world.World+Refusing+L.step.Goals as goal

pub returns-in-Ok-clause-goes_on : goal.returns-in-Ok-clause-goes_on
returns-in-Ok-clause-goes_on g c = goes_on (step_of c.args.step.now) c.args.self.now c.ask.new.self c.in-Ok.note c.in-Ok.ensures.steps

pub returns-in-Ok-clause-headline : goal.returns-in-Ok-clause-headline
returns-in-Ok-clause-headline g c = holds_after (step_of c.args.step.now) c.args.self.now c.ask.new.self c.in-Ok.note c.in-Ok.ensures.steps

pub returns-in-Ok-clause-plays : goal.returns-in-Ok-clause-plays
returns-in-Ok-clause-plays g c = steps_go_on c.args.self.now c.ask.new.self c.args.step.now c.in-Ok.note c.in-Ok.ensures.steps c.in-Ok.ensures.answered

pub returns-in-Ok-clause-holds : goal.returns-in-Ok-clause-holds
returns-in-Ok-clause-holds g c = stepped_through c.args.self.now c.ask.new.self c.args.step.now c.in-Ok.note c.in-Ok.ensures.steps c.in-Ok.ensures.answered
