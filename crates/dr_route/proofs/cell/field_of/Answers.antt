use Rattle.dr_route.proofs.cell.field_of.Goals as goal

pub returns-in-None : goal.returns-in-None
returns-in-None c = (
  rw (c.as_slice.ensures, c.as_bytes.ensures) at c.in_default.ensures,
  rw (c.as_slice-2.ensures, c.as_bytes-2.ensures) at c.in-None.ensures,
)
