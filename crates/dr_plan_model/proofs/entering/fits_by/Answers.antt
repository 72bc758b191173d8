use Rattle.std.proofs.Common.{sym, subst, List, Contains}
use Rattle.std.specs.Prelude.{◌↔◌}
use Rattle.dr_base.specs.Texts.{Text}
use Rattle.dr_plan_model.specs.Naming.{listed_literals}
use Rattle.dr_plan_model.proofs.entering.fits_by.Goals as goal

pub is_listed_in-requires-clause-same : goal.is_listed_in-requires-clause-same
is_listed_in-requires-clause-same c = λ t.
    let P : List Text → Type 0 = λ ts. Contains ts t ↔ Contains (listed_literals c.args.flow.now.modalities) t in
    subst P (sym c.as_slice-then-contains-2.ensures) (c.requires.modalities t)

pub is_listed_in-requires-then-is_listed_in-clause-same : goal.is_listed_in-requires-then-is_listed_in-clause-same
is_listed_in-requires-then-is_listed_in-clause-same c = λ t.
    let P : List Text → Type 0 = λ ts. Contains ts t ↔ Contains (listed_literals c.args.flow.now.stations) t in
    subst P (sym c.as_slice-then-is_listed_in.ensures) (c.requires.stations t)
