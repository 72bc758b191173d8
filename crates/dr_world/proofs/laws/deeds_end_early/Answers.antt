use Rattle.dr_world.proofs.laws.deeds_end_early.Goals as goal

pub returns : goal.returns
returns c = record {
  memory = tt;
  changed = tt;
  unchanged = λ h. h;
  ledgers = λ h. h;
  store = λ h. h;
}
