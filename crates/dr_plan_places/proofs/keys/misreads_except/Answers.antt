use Rattle.std.proofs.Common.{◌≡◌, sym, ◌∙◌, ap, subst, List, Option, Some, codes}
use Rattle.std.specs.Prelude.{option_map}
use Rattle.toml.specs.Data.{Data, get_member}
use Rattle.toml.specs.View.{view, table_view}
use Rattle.dr_base.specs.Texts.{Text}
use Rattle.dr_plan_model.specs.Formed.{IsLiteral, ExceptionsFit}
use Rattle.dr_plan_text.specs.Fields.{SaysFormed, SaysExceptions, GivenOr}
use Rattle.dr_plan_text.proofs.OneAnswer.{SaysFormed-one, IsSomeOf-one}
use Rattle.dr_plan_places.proofs.FieldsFlawed.{not_both}
use Rattle.dr_plan_places.proofs.keys.misreads_except.Goals as goal

pub returns-in-Ok : goal.returns-in-Ok
returns-in-Ok c = λ unfit default x given fits.
    let here : get_member (codes "except") (table_view c.args.table.now) ≡ Some (view c.in-Some.value.now) = sym (sym (ap (option_map (λ v. view v.now)) c.in-Some.is) ∙ c.value_at.ensures) in
    let P : Option Data → Type 0 = λ d. GivenOr default SaysExceptions d x in
    let same : x ≡ c.in-Ok.stations = IsSomeOf-one (SaysFormed IsLiteral) (SaysFormed-one IsLiteral) (view c.in-Some.value.now) x c.in-Ok.stations (subst P here given) c.in-Ok.ensures.ok in
    not_both c.exceptions_fit.result unfit (c.exceptions_fit.ensures.1 (subst (λ (stations : List Text). ExceptionsFit c.args.format stations) same fits))

pub returns-in-Err-Field : goal.returns-in-Err-Field
returns-in-Err-Field c = λ unread default x given fits.
    let here : get_member (codes "except") (table_view c.args.table.now) ≡ Some (view c.in-Some.value.now) = sym (sym (ap (option_map (λ v. view v.now)) c.in-Some.is) ∙ c.value_at.ensures) in
    let P : Option Data → Type 0 = λ d. GivenOr default SaysExceptions d x in
    c.in-Err-Field.ensures.field c.in-Err-Field.field-0-is x (subst P here given)
