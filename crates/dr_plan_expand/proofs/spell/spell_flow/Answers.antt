use Rattle.std.proofs.Common.{refl}
use Rattle.dr_plan_expand.proofs.spell.spell_flow.Goals as goal

pub returns : goal.returns
returns c = rw (
  c.in_ok-extend_from_slice-6.ensures.items,
  c.in_ok-add_values-2.ensures,
  c.in_ok-extend_from_slice-5.ensures.items,
  c.in_ok-add_values.ensures,
  c.in_ok-extend_from_slice-4.ensures.items,
  c.in_ok-add_list-2.ensures,
  c.as_slice-2.ensures,
  c.in_ok-extend_from_slice-3.ensures.items,
  c.in_ok-add_list.ensures,
  c.as_slice.ensures,
  c.in_ok-extend_from_slice-2.ensures.items,
  c.in_ok-put_in_quotes-2.ensures,
  c.in_ok-extend_from_slice.ensures.items,
  c.in_ok-put_in_quotes.ensures,
  c.in_ok-out.ensures.items,
) refl
