use Rattle.std.proofs.Common.{◌++◌, List, ℕ, rules, ap, ◌∙◌}
use Rattle.dr_nego.specs.Fragments.{spellings}
use Rattle.dr_world.specs.Orders.{answer_pdus}
use Rattle.dr_world.proofs.world.World.answer_of.Goals as goal

pub returns : goal.returns
returns g c = (
  c.in-Some.wires.now,
  c.in-Some-asked_at.asked.now,
  search rules,
  search rules,
  search rules,
  search rules,
  c.in_ok-bytes.ensures ∙ ap (λ (t : List ℕ). t ++ spellings (answer_pdus c.in-Some-asked_at.asked.now c.args.status)) c.wire-front.ensures,
)
