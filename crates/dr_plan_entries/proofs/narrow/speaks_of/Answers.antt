use Rattle.std.proofs.Common.{sym, subst, List, Contains}
use Rattle.std.specs.Prelude.{◌↔◌}
use Rattle.dr_base.specs.Texts.{Text}
use Rattle.dr_plan_model.specs.Naming.{listed_literals}
use Rattle.dr_plan_entries.proofs.narrow.speaks_of.Goals as goal

pub admits-requires-clause-same : goal.admits-requires-clause-same
admits-requires-clause-same c = λ t.
    let P : List Text → Type 0 = λ ts. Contains ts t ↔ Contains (listed_literals c.args.flow.now.modalities) t in
    subst P (sym c.as_slice-in-Modality.ensures) (c.requires.modalities t)

pub admits-requires-in-Station-clause-same : goal.admits-requires-in-Station-clause-same
admits-requires-in-Station-clause-same c = λ t.
    let P : List Text → Type 0 = λ ts. Contains ts t ↔ Contains (listed_literals c.args.flow.now.stations) t in
    subst P (sym c.as_slice-in-Station.ensures) (c.requires.stations t)
