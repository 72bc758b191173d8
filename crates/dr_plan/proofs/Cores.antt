-- What is read of the text that is read for a text.
use Rattle.std.proofs.Common.{◌≢◌, refl, sym, ◌∙◌, subst, inl, inr, Ok, Err, []}
use Rattle.std.specs.Prelude.{Result}
use Rattle.std.proofs.lemmas.Option.{same_Some}
use Rattle.toml.specs.Data.{Members, no_members}
use Rattle.dr_base.specs.Texts.{Text}
use Rattle.dr_plan_model.specs.Networks.{Network}
use Rattle.dr_plan_text.specs.Tables.{IsTree}
use Rattle.dr_plan_expand.specs.Tables.{IsThird}
use Rattle.dr_plan_expand.specs.Expanding.{Fails}
use Rattle.dr_plan_expand.specs.declared.fault.ExpandFault.{ExpandFault}
use Rattle.dr_plan_expand.specs.declared.fault.ExpandFault.TheVariants as expand
use Rattle.dr_plan_text.proofs.Refusals.{empty_tree}
use Rattle.dr_plan_core.specs.declared.fault.PlanFault.{PlanFault}
use Rattle.dr_plan.specs.Faults.{fault_of}
use Rattle.dr_plan_core.specs.Reading.{ReadsCore}
use Rattle.dr_plan.specs.Reading.{Reads, IsOfThird, IsReadFor, HasNoCore}

-- what is read of the text that is read for it is what is read of it
pub read_for : (text core : Text) (r : Result Network PlanFault) → IsReadFor text core → ReadsCore core r → Reads text r
read_for text core (Ok plan) for h = record { core = core; is_for = for; reads = h }
read_for text core (Err f) for h = record { why = inl (core, for, h) }

pub uncored : (text : Text) (none : ExpandFault) → HasNoCore text none → Reads text (Err (fault_of none))
uncored text none h = record { why = inr (none, h, refl) }

-- the tree of a text of another format isn't that of format 3
pub of_other : (text : Text) (root : Members) → IsTree text root → (IsThird root → ⊥) → IsOfThird text → ⊥
of_other text root tree other (found, its, third) = other (subst IsThird (same_Some found root (sym its.1 ∙ tree.1)) third)

-- the root table of a text of format 3 that expands to nothing
pub fails_for : (text : Text) (root : Members) (none : ExpandFault) → IsTree text root → IsThird root → text ≢ [] → Fails root none → HasNoCore text none
fails_for text root expand.Field tree third some fails = (root, tree, third, fails)
fails_for text root expand.Limit tree third some fails = (root, tree, third, fails)
fails_for text root expand.Unknown tree third some fails = (root, tree, third, fails)
fails_for text root expand.Memory tree third some fails = some

-- a text of format 3 isn't empty
pub third_is_some : (text : Text) (root : Members) → IsTree text root → IsThird root → text ≢ []
third_is_some text root tree third e = let none : IsThird no_members = subst IsThird (empty_tree text root tree e) third in cc
