use Rattle.std.proofs.Common.{refl, ap, ℕ}
use Rattle.dr_world.specs.declared.steps.StepNote.TheVariants.{Done}
use Rattle.dr_world.specs.Laws.{with_time}
use Rattle.dr_world.specs.Whole.{contents}
use Rattle.dr_world.proofs.Stepping.{ticked}
use Rattle.dr_world.proofs.world.World.tick.Goals as goal

pub returns-clause-ticks : goal.returns-clause-ticks
returns-clause-ticks g c = (ap (λ (n : ℕ). with_time (contents c.args.self.now) n) c.pass.ensures, refl)

pub returns-clause-step : goal.returns-clause-step
returns-clause-step g c =
    ticked c.args.self.now (record { alloc = c.args.self.now.alloc; time = c.pass.new.self; opened = c.args.self.now.opened; nodes = c.args.self.now.nodes; wires = c.args.self.now.wires; lost = c.args.self.now.lost }) Done c.args.ms
    (ap (λ (n : ℕ). with_time (contents c.args.self.now) n) c.pass.ensures, refl)
