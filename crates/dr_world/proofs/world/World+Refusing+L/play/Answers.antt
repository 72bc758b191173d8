use Rattle.std.proofs.Common.{map as mapped}
use Rattle.dr_world.specs.Runs.{step_of}
use Rattle.dr_world.proofs.Running.{leads_none, leads_more, leads_all, holds_after_all}
use Rattle.dr_world.proofs.world.World+Refusing+L.play.Goals as goal

pub loop-step-init : goal.loop-step-init
loop-step-init g c = leads_none c.args.self.now c.args.steps.now

pub loop-step-preserved : goal.loop-step-preserved
loop-step-preserved g c =
    leads_more c.args.self.now c.loop-step.self c.step.new.self c.args.steps.now c.loop-step.step-index c.step-item.result c.loop-step-test.true c.loop-step.invariant c.in_ok-step.ensures.goes_on c.step-item.is

pub returns-clause-leads : goal.returns-clause-leads
returns-clause-leads g c = leads_all c.args.self.now c.loop-step.self c.args.steps.now c.loop-step.step-index c.loop-step-test.false c.loop-step.invariant

pub returns-clause-headline : goal.returns-clause-headline
returns-clause-headline g c =
    holds_after_all c.args.self.now c.loop-step.self (mapped step_of c.args.steps.now) (leads_all c.args.self.now c.loop-step.self c.args.steps.now c.loop-step.step-index c.loop-step-test.false c.loop-step.invariant)
