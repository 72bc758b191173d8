use Rattle.std.proofs.Common.{take, map as mapped}
use Rattle.dr_world.specs.Runs.{Leads, step_of}
use Rattle.dr_world.proofs.world.World+Refusing+L.play.Given as goal

abbrev pub invariant-loop-step : goal.invariant-loop-step
invariant-loop-step g l = Leads (mapped step_of (take l.step-index l.steps)) l.fn.self l.self
