use Rattle.std.proofs.Common.{refl}
use Rattle.dr_plan_expand.proofs.spell.spell_rule.Goals as goal

pub returns : goal.returns
returns c = rw (
  c.in_ok-extend_from_slice-6.ensures.items,
  c.in_ok-add_flag.ensures,
  c.in_ok-extend_from_slice-5.ensures.items,
  c.in_ok-add_list.ensures,
  c.as_slice-2.ensures,
  c.in_ok-extend_from_slice-4.ensures.items,
  c.in_ok-add_exceptions.ensures,
  c.as_slice.ensures,
  c.in_ok-add_field-2.ensures,
  c.in_ok-extend_from_slice-3.ensures.items,
  c.in_ok-add_field.ensures,
  c.in_ok-extend_from_slice-2.ensures.items,
  c.in_ok-add_pattern-2.ensures,
  c.in_ok-extend_from_slice.ensures.items,
  c.in_ok-add_pattern.ensures,
  c.in_ok-out.ensures.items,
) refl
