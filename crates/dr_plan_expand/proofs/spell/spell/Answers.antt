use Rattle.std.proofs.Common.{refl}
use Rattle.dr_plan_expand.proofs.spell.spell.Goals as goal

pub returns : goal.returns
returns c = rw (
  c.from_vec.ensures,
  c.in_ok-add_flows.ensures,
  c.as_slice-2.ensures,
  c.in_ok-add_nodes.ensures,
  c.as_slice.ensures,
  c.in_ok-out.ensures.items,
) refl
