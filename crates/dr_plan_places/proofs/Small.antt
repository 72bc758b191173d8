-- Flaws of small tables.
use Rattle.std.proofs.Common.{◌≡◌, false, refl, sym, ap, ◌∙◌, subst, ℕ, pos, Option, Some, [], ◌∷◌, codes, get_or, Contains, arith, inl, inr, lit<}
use Rattle.std.specs.Prelude.{All}
use Rattle.std.proofs.lemmas.List.Elements.{All-nil}
use Rattle.dr_route.specs.declared.rule.FieldPattern.{FieldPattern}
use Rattle.dr_route.specs.declared.rule.FieldPattern.TheVariants as field
use Rattle.dr_plan_model.specs.declared.plan.Format.TheVariants.{One, Three}
use Rattle.dr_plan_model.specs.declared.listens.Listens.{Listens}
use Rattle.dr_plan_model.specs.declared.listens.Listens.TheVariants.{Nowhere, At}
use Rattle.dr_plan_text.specs.Listening.{IsListens}
use Rattle.dr_plan_model.specs.Naming.{prefix_of}
use Rattle.dr_plan_text.specs.declared.words.NodeText.{NodeText}
use Rattle.dr_plan_text.specs.declared.words.FlowText.{FlowText}
use Rattle.dr_plan_model.specs.Formed.{RuleFits, ValuesFit}
use Rattle.dr_plan_model.specs.Listening.{ListensFits}
use Rattle.dr_plan_text.specs.Fields.{Given, GivenOr, SaysText, SaysField, SaysExceptions}
use Rattle.dr_plan_text.specs.Laws.{written_rule, written_except_rule}
use Rattle.dr_plan_text.proofs.OfValues.{no_format, SaysField-one}
use Rattle.dr_plan_text.proofs.PrefixTexts.{ct_is}
use Rattle.dr_plan_text.proofs.ExceptTexts.{ct9_is}
use Rattle.std.proofs.lemmas.Bool.{false≢true}
use Rattle.std.proofs.lemmas.Option.{none-some}
use Rattle.toml.specs.Data.{Data, integer, string, boolean, no_items, item, Members, no_members, get_member}
use Rattle.dr_base.specs.Texts.{Text}
use Rattle.dr_plan_model.proofs.Gathered.{Contains-cons_cases, only_one}
use Rattle.dr_plan_text.specs.Tables.{IsRoot, IsRuleTable, IsFormat, root_keys}
use Rattle.dr_plan_places.proofs.FieldsFlawed.{unknown}
use Rattle.dr_plan_places.specs.Laws.{ColourIsUnknown, FormatIsNotMissing, FourthFormatIsIllFormed, PrefixIsIllFormedInFormatOne, PrefixIsOfFormatTwo, ExceptionIsIllFormedInFormatTwo, ExceptionIsFineInFormatThree, FourthFormatIsNotMissing, FourthFormatIsAFlaw, AtIsMissing, AtIsNotIllFormed, NoColourIsUnknown, AddressOfACallerIsIllFormed, SecondNodeHasNoName, calling, coloured, prefixed, excepting}

first_byte : (x y : Text) (a b : ℕ) → get_or x 0 0 ≡ a → get_or y 0 0 ≡ b → (a ≡ b → ⊥) → x ≡ y → ⊥
first_byte x y a b at bt apart same = apart (sym at ∙ (ap (λ (t : Text). get_or t 0 0) same ∙ bt))

no_colour : Contains root_keys (codes "colour") → ⊥
no_colour among = elim (Contains-cons_cases (codes "format") (codes "node" ∷ codes "flow" ∷ []) (codes "colour") among) [
  | inl same ↦ first_byte (codes "format") (codes "colour") 102 99 refl refl (λ e. omega arith) same
  | inr later ↦ elim (Contains-cons_cases (codes "node") (codes "flow" ∷ []) (codes "colour") later) [
    | inl same ↦ first_byte (codes "node") (codes "colour") 110 99 refl refl (λ e. omega arith) same
    | inr last ↦ first_byte (codes "flow") (codes "colour") 102 99 refl refl (λ e. omega arith) (only_one (codes "flow") (codes "colour") last)
  ]
]

pub colour_is_unknown : ColourIsUnknown
colour_is_unknown = unknown IsRoot coloured root_keys (codes "colour") (λ other x is. is.only) refl no_colour

pub format_is_not_missing : FormatIsNotMissing
format_is_not_missing = λ h. h.0 no_members (record { format = One; nodes = []; flows = [] }) refl refl (record {
  only = tt;
  format = refl;
  node = refl;
  flow = refl;
  fits = record { rules = All-nil (λ (node : NodeText). All (RuleFits One) node.rules); flows = All-nil (λ (flow : FlowText). ValuesFit One flow.modalities flow.stations); listen = All-nil (λ (node : NodeText). ListensFits One node.listens) };
})

apart_numbers : (x y : ℕ) → (x ≡ y → ⊥) → integer (pos x) ≡ integer (pos y) → ⊥
apart_numbers x y apart e = let same : pos x ≡ pos y = cc in let numbers : x ≡ y = cc in apart numbers

pub fourth_format_is_ill_formed : FourthFormatIsIllFormed
fourth_format_is_ill_formed = (
  λ other plan same beside is.
      let P : Option Data → Type 0 = λ value. IsFormat value plan.format in
      no_format (integer (pos 4)) (apart_numbers 4 1 (λ e. omega arith)) (apart_numbers 4 2 (λ e. omega arith)) (apart_numbers 4 3 (λ e. omega arith)) plan.format (subst P same is.format),
  refl,
)

pub prefix_is_ill_formed_in_format_1 : PrefixIsIllFormedInFormatOne
prefix_is_ill_formed_in_format_1 = (
  λ other rule same beside is.
      let P : Option Data → Type 0 = λ value. GivenOr field.Any SaysField value rule.station in
      let one : rule.station ≡ field.Prefix (codes "CT") =
      SaysField-one (string (codes "CT*")) rule.station (field.Prefix (codes "CT")) (subst P same is.0.station) (refl, ct_is) in
      let Q : FieldPattern → Type 0 = λ pattern. prefix_of pattern ≡ [] in
      let none : codes "CT" ∷ [] ≡ [] = subst Q one is.1.1 in
      cc,
  refl,
)

prefixed_rule : IsRuleTable prefixed written_rule
prefixed_rule = record {
  only = ((3, lit< tt, refl), tt);
  from = refl;
  class = refl;
  modality = refl;
  station = (refl, ct_is);
  except = refl;
  to = refl;
  keep = refl;
}

pub prefix_is_of_format_2 : PrefixIsOfFormatTwo
prefix_is_of_format_2 = λ h. h.0 prefixed written_rule refl refl (prefixed_rule, (refl, tt, refl))

pub exception_is_ill_formed_in_format_2 : ExceptionIsIllFormedInFormatTwo
exception_is_ill_formed_in_format_2 = (
  λ other rule same beside is.
      let P : Option Data → Type 0 = λ value. GivenOr [] SaysExceptions value rule.except in
      let said = subst P same is.0.except in
      said.1 is.1.2,
  refl,
)

excepting_rule : IsRuleTable excepting written_except_rule
excepting_rule = record {
  only = ((6, lit< tt, refl), ((3, lit< tt, refl), tt));
  from = refl;
  class = refl;
  modality = refl;
  station = (refl, ct_is);
  except = ((item (string (codes "CT9")) no_items, refl, ((refl, ct9_is), tt)), λ e. cc);
  to = refl;
  keep = refl;
}

pub exception_is_of_format_3 : ExceptionIsFineInFormatThree
exception_is_of_format_3 = λ h. h.0 excepting written_except_rule refl refl (excepting_rule, (tt, tt, tt))

pub fourth_is_given : FourthFormatIsNotMissing
fourth_is_given h = none-some (integer (pos 4)) (sym h.1)

pub fourth_is_a_flaw : FourthFormatIsAFlaw
fourth_is_a_flaw = (Three, (apart_numbers 4 1 (λ e. omega arith), apart_numbers 4 2 (λ e. omega arith)), fourth_format_is_ill_formed)

pub at_is_missing : AtIsMissing
at_is_missing = (
  λ other flow same beside is.
      let P : Option Data → Type 0 = λ value. Given SaysText value flow.at in
      subst P same is.0.at,
  refl,
)

pub at_is_not_ill_formed : AtIsNotIllFormed
at_is_not_ill_formed h = false≢true h.1

pub no_colour_is_unknown : NoColourIsUnknown
no_colour_is_unknown h = false≢true h.0

-- where only a call is said, no address is
no_address : (other : Members) (place : Listens) (address : Data) → get_member (codes "address") other ≡ Some address → get_member (codes "listens") other ≡ Some (boolean false) → IsListens false other place → ⊥
no_address other Nowhere address given calls is = none-some address (sym is.1 ∙ given)
no_address other (At a b) address given calls is = none-some (boolean false) (sym is.0 ∙ calls)

pub address_of_a_caller : AddressOfACallerIsIllFormed
address_of_a_caller = (λ other node same beside is. no_address other node.listens (string (codes "h:1")) same beside is.0.listens, refl)

pub second_node : SecondNodeHasNoName
second_node = (
  One,
  refl,
  (
    no_members,
    refl,
    (
      λ other node same beside is.
          let P : Option Data → Type 0 = λ value. Given SaysText value node.name in
          subst P same is.0.name,
      refl,
    ),
  ),
)
