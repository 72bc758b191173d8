-- A text that isn't of format 3 is read as it stands.
use Rattle.std.proofs.Common.{◌≡◌, ◌≢◌, refl, sym, ◌∙◌, subst, inl, Ok, Option, Some, None, codes, pos}
use Rattle.std.proofs.lemmas.Option.{same_Some}
use Rattle.toml.specs.Data.{Data, integer, get_member}
use Rattle.dr_base.specs.Texts.{Text}
use Rattle.dr_plan_model.specs.Networks.{Network}
use Rattle.dr_plan_model.specs.declared.plan.Format.{Format}
use Rattle.dr_plan_model.specs.declared.plan.Format.TheVariants.{One, Two, Three}
use Rattle.dr_plan_text.specs.Tables.{IsFormat}
use Rattle.dr_plan_expand.specs.Tables.{IsThird}
use Rattle.dr_plan_core.specs.Reading.{ReadsCore}
use Rattle.dr_plan.specs.Reading.{IsOfThird, Reads}
use Rattle.dr_plan.proofs.Cores.{read_for}

-- the format that a field says, where it says 3
third : (said : Option Data) (format : Format) → IsFormat said format → said ≡ Some (integer (pos 3)) → format ≡ Three
third None format says is = cc is
third (Some d) One says is = cc (says, is)
third (Some d) Two says is = cc (says, is)
third (Some d) Three says is = refl

pub as_it_stands : (text : Text) (plan : Network) → ReadsCore text (Ok plan) → plan.format ≢ Three → Reads text (Ok plan)
as_it_stands text plan reads other =
    let not_third : IsOfThird text → ⊥ = λ it. (
    let same : it.0 ≡ reads.0.0 = same_Some it.0 reads.0.0 (sym it.1.1 ∙ reads.0.1.1) in
    other (third (get_member (codes "format") reads.0.0) plan.format reads.0.2.format (subst IsThird same it.2))
    ) in
    read_for text text (Ok plan) (inl (not_third, refl)) reads
