use Rattle.std.proofs.Common.{sym, ap, ◌∙◌}
use Rattle.dr_world_script.specs.declared.step.Step.{Step}
use Rattle.dr_world.specs.Answered.{armed_for, armed_in}
use Rattle.dr_world.specs.Runs.{step_of}
use Rattle.dr_world.proofs.answering.is_armed_for.Goals as goal

pub returns-in-Submit : goal.returns-in-Submit
returns-in-Submit g c = c.is_armed_at.ensures ∙ ap (λ (s : Step). armed_for (armed_in c.args.nodes.now) (step_of s)) (sym c.in-Submit.is)

pub returns-in-Away : goal.returns-in-Away
returns-in-Away g c = c.is_armed_at-in-Away.ensures ∙ ap (λ (s : Step). armed_for (armed_in c.args.nodes.now) (step_of s)) (sym c.in-Away.is)

pub returns-in-Requeue : goal.returns-in-Requeue
returns-in-Requeue g c = c.is_armed_at-in-Requeue.ensures ∙ ap (λ (s : Step). armed_for (armed_in c.args.nodes.now) (step_of s)) (sym c.in-Requeue.is)

pub returns-in-Drop : goal.returns-in-Drop
returns-in-Drop g c = c.is_armed_at-in-Drop.ensures ∙ ap (λ (s : Step). armed_for (armed_in c.args.nodes.now) (step_of s)) (sym c.in-Drop.is)

pub returns-in-Forget : goal.returns-in-Forget
returns-in-Forget g c = c.is_armed_at-in-Forget.ensures ∙ ap (λ (s : Step). armed_for (armed_in c.args.nodes.now) (step_of s)) (sym c.in-Forget.is)
