-- Each key for which something changes enters somewhere, and its cell is looked at.
use Rattle.std.proofs.Common.{◌≡◌, ◌≢◌, ◌<◌, ◌⊎◌, ◌↔◌, ◌∙◌, inl, inr, refl, sym, subst, List, [], ◌∷◌, ◌++◌, Contains}
use Rattle.std.specs.Prelude.{All}
use Rattle.std.proofs.lemmas.List.Elements.{All-append}
use Rattle.dr_base.specs.Texts.{Text}
use Rattle.dr_base.specs.declared.syntax.Syntax.{Syntax}
use Rattle.dr_base.specs.declared.syntax.Syntax.TheVariants.{Implicit, Explicit}
use Rattle.dr_route.specs.Cells.{InField}
use Rattle.dr_route.specs.Laws.{ArePlainValues, IsPart, key_of}
use Rattle.dr_route.specs.Routes.{local}
use Rattle.dr_route.specs.declared.key.Key.{Key}
use Rattle.dr_route.specs.declared.cell.FieldValues.{FieldValues}
use Rattle.dr_route.specs.declared.cell.OwnedField.{OwnedField}
use Rattle.dr_route.specs.declared.cell.OwnedField.TheVariants as part
use Rattle.dr_route.proofs.Agreement.{part_has_value, some_part}
use Rattle.dr_plan_model.specs.Networks.{Network}
use Rattle.dr_plan_model.specs.Plans.{IsWellFormed, literals_of}
use Rattle.dr_plan_model.specs.Walks.{IsDestination, IsEntry, IsWalk, Keeps, last_place}
use Rattle.dr_plan_model.proofs.WalksAlike.{modalities_are_plain, no_rule_keeps, no_rule_sends, stations_are_plain}
use Rattle.dr_cert_diff.specs.declared.parts.FieldParts.{FieldParts}
use Rattle.dr_cert_diff.specs.Differing.{IsLost, LiesInBoth, literals_of_both, values_of_both}
use Rattle.dr_cert_diff.specs.Entering.{HasClasses, HasSites}
use Rattle.dr_cert_diff.specs.Going.{ArePartsOf, AtClass, AtPair, AtSite, Over, cell_at}

-- ---- what is kept has entered
kept_enters : (plan : Network) (site : Text) (key : Key) (over : List Text) (dest : Text) → IsWalk plan key local site over → Keeps plan dest (last_place local site over).0 key → IsEntry plan site key
kept_enters plan site key [] dest walk keeps = absurd (no_rule_keeps keeps.0.rules key keeps.2)
kept_enters plan site key (next ∷ rest) dest walk keeps = elim walk.0 [
  | inl flows ↦ (next, flows.1)
  | inr node ↦ absurd (no_rule_sends node.0.rules key next node.2)
]

pub destination_enters : (plan : Network) (site : Text) (key : Key) (dest : Text) → IsDestination plan local site key dest → IsEntry plan site key
destination_enters plan site key dest d = kept_enters plan site key d.0 dest d.1 d.3

-- ---- parts of both plans
both_are_plain : (old new : FieldValues) → ArePlainValues old → ArePlainValues new → ArePlainValues (values_of_both old new)
both_are_plain old new of_old of_new = record {
  literals = All-append (λ (t : Text). All (λ byte. byte < 127) t) old.literals new.literals of_old.literals of_new.literals;
  prefixes = All-append (λ (t : Text). All (λ byte. byte < 127) t) old.prefixes new.prefixes of_old.prefixes of_new.prefixes;
  some = All-append (λ (t : Text). t ≢ []) old.prefixes new.prefixes of_old.some of_new.some;
}

pub both_have_keys : (old new : Network) → IsWellFormed old → IsWellFormed new → (class : Text) (syntax : Syntax) (modality station : OwnedField) →
    IsPart (literals_of_both old new).modalities modality → IsPart (literals_of_both old new).stations station →
    LiesInBoth old new (cell_at class syntax modality station) (key_of (cell_at class syntax modality station))
both_have_keys old new formed_old formed_new class syntax modality station is_modality is_station =
    let modalities = both_are_plain (literals_of old).modalities (literals_of new).modalities (modalities_are_plain old formed_old) (modalities_are_plain new formed_new) in
    let stations = both_are_plain (literals_of old).stations (literals_of new).stations (stations_are_plain old formed_old) (stations_are_plain new formed_new) in
    record {
      class = refl;
      syntax = refl;
      modality = part_has_value (literals_of_both old new).modalities modality modalities is_modality;
      station = part_has_value (literals_of_both old new).stations station stations is_station;
    }

lies_in_part : (values : FieldValues) (field : OwnedField) (v : Text) → InField values field v → IsPart values field
lies_in_part values (part.Literal literal) v lies = lies.0
lies_in_part values (part.Prefix prefix) v lies = lies.1.among
lies_in_part values part.Rest v lies = tt

module _ (old new : Network) (parts : FieldParts) (are : ArePartsOf old new parts) where
  -- each key of a class and a transfer syntax is in a cell of these parts
  in_pair : (at site : Text) (key : Key) → site ≡ at → AtPair old new at key.class key.syntax parts site key
  in_pair at site key is =
      let modality = some_part (literals_of_both old new).modalities key.modality in
      let station = some_part (literals_of_both old new).stations key.station in (
        modality.0,
        (are.modalities modality.0).1 (lies_in_part (literals_of_both old new).modalities modality.0 key.modality modality.1),
        (
          station.0,
          (are.stations station.0).1 (lies_in_part (literals_of_both old new).stations station.0 key.station station.1),
          (is, record { class = refl; syntax = refl; modality = modality.1; station = station.1 }),
        ),
      )

  by_syntax : (syntax : Syntax) (at site : Text) (key : Key) (class : Text) → AtPair old new at class syntax parts site key → AtClass old new at parts class site key
  by_syntax Implicit at site key class pair = inl pair
  by_syntax Explicit at site key class pair = inr pair

  class_of : (plan : Network) (at site : Text) (key : Key) (classes : List Text) → HasClasses plan at classes → site ≡ at → IsEntry plan site key → Contains classes key.class
  class_of plan at site key classes has is entry = has entry.1.0 entry.1.1 (entry.1.2 ∙ is) key.class entry.1.4.class

  -- what enters at a site is of one of its classes
  pub enters_by_class : (at : Text) (classes : List Text) → HasClasses old at classes → HasClasses new at classes → (site : Text) (key : Key) → AtSite old new at site key →
      Over classes (AtClass old new at parts) site key
  enters_by_class at classes of_old of_new site key here = (
    key.class,
    elim here.1 [
      | inl entry ↦ class_of old at site key classes of_old here.0 entry
      | inr entry ↦ class_of new at site key classes of_new here.0 entry
    ],
    by_syntax key.syntax at site key key.class (in_pair at site key here.0),
  )

-- what changes for a key changes where it enters
pub enters_somewhere : (old new : Network) (sites : List Text) → HasSites old sites → HasSites new sites → (site : Text) (key : Key) (dest : Text) → IsLost old new site key dest ⊎ IsLost new old site key dest →
    Over sites (AtSite old new) site key
enters_somewhere old new sites of_old of_new site key dest (inl lost) =
    let entry = destination_enters old site key dest lost.0 in
    (site, subst (Contains sites) entry.1.2 (of_old entry.1.0 entry.1.1), (refl, inl entry))
enters_somewhere old new sites of_old of_new site key dest (inr gained) =
    let entry = destination_enters new site key dest gained.0 in
    (site, subst (Contains sites) entry.1.2 (of_new entry.1.0 entry.1.1), (refl, inr entry))
