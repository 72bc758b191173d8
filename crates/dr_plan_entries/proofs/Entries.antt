-- A flow that takes in a cell brings in its keys.
use Rattle.std.proofs.Common.{◌≡◌, ℕ, ◌<◌, ◌⊎◌, inl, inr, refl, sym, ◌∙◌, ap, subst, List, [], ◌∷◌, ◌++◌, length, get_or, Contains, Some, arith}
use Rattle.std.specs.Prelude.{slice_get, ◌==◌, ◌↔◌, false}
use Rattle.std.proofs.lemmas.Option.{slice_get-get_or}
use Rattle.std.proofs.lemmas.List.Elements.{Contains-get_or}
use Rattle.dr_base.specs.Texts.{Text}
use Rattle.dr_base.specs.declared.syntax.Syntax.{Syntax}
use Rattle.dr_base.specs.declared.syntax.Syntax.TheVariants.{Implicit, Explicit}
use Rattle.dr_route.specs.Cells.{InField, SameValues}
use Rattle.dr_route.specs.Laws.{key_of, value_of, IsPart}
use Rattle.dr_route.specs.declared.key.Key.{Key}
use Rattle.dr_route.specs.declared.cell.FieldValues.{FieldValues}
use Rattle.dr_route.specs.declared.cell.OwnedField.{OwnedField}
use Rattle.dr_route.specs.declared.cell.OwnedField.TheVariants.{Literal, Prefix, Rest}
use Rattle.dr_route.specs.declared.cell.OwnedCell.{OwnedCell}
use Rattle.dr_route.proofs.Agreement.{begins_shorter, begins_through}
use Rattle.dr_plan_model.specs.declared.plan.Flow.{Flow}
use Rattle.dr_plan_model.specs.declared.plan.Values.{Values}
use Rattle.dr_plan_model.specs.declared.plan.Values.TheVariants as values
use Rattle.dr_plan_model.specs.Networks.{Network}
use Rattle.dr_plan_model.specs.Walks.{IsListed, BeginsOne, FlowBrings, IsEntry}
use Rattle.dr_plan_model.specs.declared.literals.Attribute.TheVariants.{Modality, ModalityPrefix, Station, StationPrefix}
use Rattle.dr_plan_model.specs.Laws.{IsCellOf}
use Rattle.dr_plan_model.specs.Naming.{listed_literals, listed_prefixes}
use Rattle.dr_plan_model.specs.Plans.{IsWellFormed, LiesIn, literals_of}
use Rattle.dr_plan_model.proofs.WalksAlike.{flow_names, cell_has_a_key}
use Rattle.dr_plan_entries.specs.Entering.{AdmitsField, FitsAll, TakesIn, WantsAny, ArePartsOf}
use Rattle.dr_plan_entries.specs.Visiting.{IsEntryCell}

-- a value of the part that the flow takes in is one that it speaks of
listed_value : (list : Values) (part : OwnedField) → AdmitsField list part → IsListed list (value_of part)
listed_value values.Any part h = tt
listed_value (values.Listed own) (Literal literal) h = h
listed_value (values.Listed own) (Prefix prefix) h = inr (h.0, h.1, begins_through h.0 prefix (prefix ++ 128 ∷ []) h.2 (128 ∷ [], refl))
listed_value (values.Listed own) Rest h = absurd h

pub first_place : (among : List ℕ) → (length among == 0) ≡ false → (k : ℕ) × Contains among k
first_place [] e = cc e
first_place (k ∷ among) e = (k, Contains-get_or (k ∷ among) 0 k (omega arith))

place_is : (flows : List Flow) (k : ℕ) → k < length flows → (flow : Flow) × (slice_get flows k ≡ Some flow) × Contains flows flow
place_is [] k h = absurd (omega arith)
place_is (f ∷ flows) k h = (get_or (f ∷ flows) k f, slice_get-get_or (f ∷ flows) k f h, Contains-get_or (f ∷ flows) k f h)

pub enters : (plan : Network) (site class : Text) (syntax : Syntax) (modality : OwnedField) (station : OwnedField) (cell : OwnedCell) (k : ℕ) → k < length plan.flows →
    cell ≡ record { class = class; syntax = syntax; modality = modality; station = station } →
    ((flow : Flow) → slice_get plan.flows k ≡ Some flow → FitsAll flow site class syntax modality station) → IsEntry plan site (key_of cell)
enters plan site class syntax modality station cell k h same fit =
    let found = place_is plan.flows k h in
    let flow : Flow = found.0 in
    let f = fit flow found.1 in
    let P : OwnedCell → Type 0 = λ c. IsEntry plan site (key_of c) in
    let m = f.1 in
    let x = m.1 in
    let y = x.1 in
    subst P (sym same) (
      flow.to,
      (
        flow,
        found.2,
        y.1,
        refl,
        record {
          class = y.0;
          syntax = x.0;
          modality = listed_value flow.modalities modality m.0;
          station = listed_value flow.stations station f.0;
        },
      ),
    )

-- each transfer syntax is one of the two
pub two_syntaxes : (syntax : Syntax) → (syntax ≡ Implicit) ⊎ (syntax ≡ Explicit)
two_syntaxes Implicit = inl refl
two_syntaxes Explicit = inr refl

-- ---- the cells of entries are taken in by flows
part_of_value : (values : FieldValues) (part : OwnedField) (value : Text) → InField values part value → IsPart values part
part_of_value values (Literal literal) value h = h.0
part_of_value values (Prefix prefix) value h = h.1.among
part_of_value values Rest value h = tt

pub cell_that_lies : (plan : Network) (cell : OwnedCell) (key : Key) → LiesIn plan cell key → IsCellOf plan cell
cell_that_lies plan cell key lies = (
  part_of_value (literals_of plan).modalities cell.modality key.modality lies.modality,
  part_of_value (literals_of plan).stations cell.station key.station lies.station,
)

admits_from : (all : FieldValues) (part : OwnedField) (list : Values) (value : Text) → ((t : Text) → Contains (listed_literals list) t → Contains all.literals t) →
    ((t : Text) → Contains (listed_prefixes list) t → Contains all.prefixes t) → InField all part value → IsListed list value → AdmitsField list part
admits_from all part values.Any value known each is h = tt
admits_from all (Literal literal) (values.Listed own) value known each is h = let P : Text → Type 0 = λ t. Contains own.literals t ⊎ BeginsOne own.prefixes t in subst P (sym is.1) h
admits_from all (Prefix prefix) (values.Listed own) value known each is (inl one) = absurd (is.0 (known value one))
admits_from all (Prefix prefix) (values.Listed own) value known each is (inr begun) =
    (begun.0, begun.1, begins_shorter begun.0 prefix value begun.2 is.1.begins (is.1.longest begun.0 (each begun.0 begun.1) begun.2))
admits_from all Rest (values.Listed own) value known each is (inl one) = absurd (is.0 (known value one))
admits_from all Rest (values.Listed own) value known each is (inr begun) = absurd (is.1 begun.0 (each begun.0 begun.1) begun.2)

pub takes_in : (plan : Network) (flow : Flow) (cell : OwnedCell) (key : Key) → Contains plan.flows flow → LiesIn plan cell key → FlowBrings flow key → TakesIn flow cell
takes_in plan flow cell key has lies fit = record {
  class = let P : Text → Type 0 = λ t. Contains flow.classes t in subst P (sym lies.class) fit.class;
  syntax = let P : Syntax → Type 0 = λ s. Contains flow.syntaxes s in subst P (sym lies.syntax) fit.syntax;
  modality = admits_from (literals_of plan).modalities cell.modality flow.modalities key.modality (λ t. flow_names plan Modality flow t has) (λ t. flow_names plan ModalityPrefix flow t has)
      lies.modality fit.modality;
  station = admits_from (literals_of plan).stations cell.station flow.stations key.station (λ t. flow_names plan Station flow t has) (λ t. flow_names plan StationPrefix flow t has)
      lies.station fit.station;
}

-- where the entries' cells are wanted, some flow takes them in
pub wanted_entry : (plan : Network) (site : Text) (cell : OwnedCell) → IsEntryCell plan site cell → WantsAny plan site cell
wanted_entry plan site cell entry =
    let key : Key = entry.0 in
    let flows = entry.2.1 in
    (cell_that_lies plan cell key entry.1, (flows.0, flows.1, flows.2, takes_in plan flows.0 cell key flows.1 entry.1 flows.4))

-- where some flow takes the cell in, its keys enter
pub entry_wanted : (plan : Network) → IsWellFormed plan → (site : Text) (cell : OwnedCell) → WantsAny plan site cell → IsEntryCell plan site cell
entry_wanted plan formed site cell wanted =
    let flow : Flow = wanted.1.0 in
    let takes = wanted.1.3 in (
      key_of cell,
      cell_has_a_key plan formed cell wanted.0,
      (
        flow.to,
        (
          flow,
          wanted.1.1,
          wanted.1.2,
          refl,
          record {
            class = takes.class;
            syntax = takes.syntax;
            modality = listed_value flow.modalities cell.modality takes.modality;
            station = listed_value flow.stations cell.station takes.station;
          },
        ),
      ),
    )

-- ---- values that name the same have the same parts
pub parts_alike : (a b : FieldValues) (parts : List OwnedField) → SameValues a b → ArePartsOf a parts → ArePartsOf b parts
parts_alike a b parts same are (Literal literal) =
    (λ h. (same.literals literal).0 ((are (Literal literal)).0 h), λ h. (are (Literal literal)).1 ((same.literals literal).1 h))
parts_alike a b parts same are (Prefix prefix) =
    (λ h. (same.prefixes prefix).0 ((are (Prefix prefix)).0 h), λ h. (are (Prefix prefix)).1 ((same.prefixes prefix).1 h))
parts_alike a b parts same are Rest = (λ h. tt, λ h. (are Rest).1 tt)

-- ---- a flow stands at some place
pub place_of : (flows : List Flow) (flow : Flow) → Contains flows flow → (k : ℕ) × (k < length flows) × (slice_get flows k ≡ Some flow)
place_of flows flow has = (has.0, has.1, slice_get-get_or flows has.0 flow has.1 ∙ ap (λ (f : Flow). Some f) has.2)
