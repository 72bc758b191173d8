use Rattle.dr_world.specs.Answered.{armed_in}
use Rattle.dr_world.specs.Runs.{step_of}
use Rattle.dr_world.specs.Whole.{StepsTo}
use Rattle.dr_world.specs.declared.steps.StepNote.{StepNote as Note}
use Rattle.dr_world.proofs.Answered.{went_no_further, went_on, went_on_answered}
use Rattle.dr_world.proofs.world.World+Refusing+L.ask.Goals as goal

pub returns-in-Ok-clause-steps : goal.returns-in-Ok-clause-steps
returns-in-Ok-clause-steps g c =
    let P : Note → Type 0 = λ note. StepsTo (step_of c.args.step.now) c.args.self.now note c.perform.new.self in
    went_on P c.is_armed_for-is_armed.result c.in-Ok.note c.answered.result c.answered.ensures c.in-Ok.ensures

pub returns-in-Ok-clause-answered : goal.returns-in-Ok-clause-answered
returns-in-Ok-clause-answered g c =
    went_on_answered (armed_in c.args.self.now.nodes) (step_of c.args.step.now) c.is_armed_for-is_armed.result c.in-Ok.note c.answered.result c.is_armed_for-is_armed.ensures c.answered.ensures

pub returns-in-Ok-clause-early : goal.returns-in-Ok-clause-early
returns-in-Ok-clause-early g c =
    let P : Note → Type 0 = λ note. StepsTo (step_of c.args.step.now) c.args.self.now note c.perform.new.self in
    went_no_further P (armed_in c.args.self.now.nodes) (step_of c.args.step.now) c.is_armed_for-is_armed.result c.in-Ok.note c.answered.result c.is_armed_for-is_armed.ensures c.answered.ensures c.in-Ok.ensures
