use Rattle.std.proofs.Common.{refl, sym, subst, inl, inr, Err}
use Rattle.dr_base.specs.Texts.{Text}
use Rattle.dr_plan_core.specs.Reading.{ReadsCore}
use Rattle.dr_plan.proofs.OneReading.{fault_of_core}
use Rattle.dr_plan_places.proofs.explaining.explain_found.Goals as goal

pub explain_core-requires : goal.explain_core-requires
explain_core-requires c =
    let P : Text → Type 0 = λ t. ReadsCore t (Err c.args.fault) in
    subst P (sym c.as_bytes.ensures) (fault_of_core c.args.text.now c.in-Some.core c.args.fault c.requires.told (inr (rw c.in-Some.is at c.requires.found)) c.requires.fault)

pub explain_core-requires-in-None : goal.explain_core-requires-in-None
explain_core-requires-in-None c =
    fault_of_core c.args.text.now c.args.text.now c.args.fault c.requires.told (inl (rw c.in-None.is at c.requires.found, refl)) c.requires.fault
