-- Keys of one cell of both plans are of one cell of each.
use Rattle.std.proofs.Common.{◌≡◌, ◌∙◌, refl, sym, subst, List, ◌++◌, Contains}
use Rattle.std.proofs.lemmas.List.Elements.{Contains-append_left, Contains-append_right}
use Rattle.dr_base.specs.Texts.{Text}
use Rattle.dr_route.specs.Cells.{InCell, InField}
use Rattle.dr_route.specs.Routes.{local}
use Rattle.dr_route.specs.declared.key.Key.{Key}
use Rattle.dr_route.specs.declared.cell.FieldValues.{FieldValues}
use Rattle.dr_route.specs.declared.cell.Literals.{Literals}
use Rattle.dr_route.specs.declared.cell.OwnedField.{OwnedField}
use Rattle.dr_route.specs.declared.cell.OwnedField.TheVariants as part
use Rattle.dr_route.specs.declared.cell.OwnedCell.{OwnedCell}
use Rattle.dr_route.proofs.Agreement.{literal_agrees, prefix_agrees}
use Rattle.dr_plan_model.specs.Networks.{Network}
use Rattle.dr_plan_model.specs.Plans.{LiesIn, literals_of}
use Rattle.dr_plan_model.specs.Walks.{IsDestination, last_place}
use Rattle.dr_plan_model.proofs.WalksAlike.{keep_alike, walk_alike}
use Rattle.dr_plan_sound.proofs.RankedLines.{some_cell}
use Rattle.dr_cert_diff.specs.Differing.{IsLost, LiesInBoth, literals_of_both, values_of_both}

abbrev Within : List Text → List Text → Type 0
Within small big = (t : Text) → Contains small t → Contains big t

-- the values of a field name all that others name
record Names (big small : FieldValues) : Type 0 where
  literals : Within small.literals big.literals
  prefixes : Within small.prefixes big.prefixes

field_refines : (small big : FieldValues) → Names big small → (both own : OwnedField) (k l : Text) → InField big both k → InField big both l → InField small own k → InField small own l
field_refines small big names both (part.Literal t) k l of_k of_l is = (is.0, literal_agrees big both t k l (names.literals t is.0) of_k of_l is.1)
field_refines small big names both (part.Prefix p) k l of_k of_l is = (
  λ among. is.0 (subst (Contains small.literals) (literal_agrees big both l l k (names.literals l among) of_l of_k refl) among),
  record {
    among = is.1.among;
    begins = prefix_agrees big both p k l (names.prefixes p is.1.among) of_k of_l is.1.begins;
    longest = λ other there begins. is.1.longest other there (prefix_agrees big both other l k (names.prefixes other there) of_l of_k begins);
  },
)
field_refines small big names both part.Rest k l of_k of_l is = (
  λ among. is.0 (subst (Contains small.literals) (literal_agrees big both l l k (names.literals l among) of_l of_k refl) among),
  λ other there begins. is.1 other there (prefix_agrees big both other l k (names.prefixes other there) of_l of_k begins),
)

cell_refines : (small big : Literals) → Names big.modalities small.modalities → Names big.stations small.stations → (both own : OwnedCell) (k l : Key) → InCell big both k → InCell big both l → InCell small own k →
    InCell small own l
cell_refines small big modalities stations both own k l of_k of_l is = record {
  class = is.class ∙ (sym of_k.class ∙ of_l.class);
  syntax = is.syntax ∙ (sym of_k.syntax ∙ of_l.syntax);
  modality = field_refines small.modalities big.modalities modalities both.modality own.modality k.modality l.modality of_k.modality of_l.modality is.modality;
  station = field_refines small.stations big.stations stations both.station own.station k.station l.station of_k.station of_l.station is.station;
}

-- so keys of one cell of both plans are kept alike by each of them
kept_alike : (plan : Network) (big : Literals) → Names big.modalities (literals_of plan).modalities → Names big.stations (literals_of plan).stations → (both : OwnedCell) (k l : Key) →
    InCell big both k → InCell big both l → (site dest : Text) → IsDestination plan local site k dest → IsDestination plan local site l dest
kept_alike plan big modalities stations both k l of_k of_l site dest d =
    let own = some_cell plan k in
    let there : LiesIn plan own.0 l = cell_refines (literals_of plan) big modalities stations both own.0 k l of_k of_l own.1 in
    (d.0, walk_alike plan own.0 k l own.1 there local site d.0 d.1, d.2, keep_alike plan own.0 k l own.1 there dest (last_place local site d.0).0 d.3)

names_first : (old new : FieldValues) → Names (values_of_both old new) old
names_first old new = record {
  literals = λ t h. Contains-append_left old.literals new.literals t h;
  prefixes = λ t h. Contains-append_left old.prefixes new.prefixes t h;
}

names_second : (old new : FieldValues) → Names (values_of_both old new) new
names_second old new = record {
  literals = λ t h. Contains-append_right old.literals new.literals t h;
  prefixes = λ t h. Contains-append_right old.prefixes new.prefixes t h;
}

module _ (old new : Network) (both : OwnedCell) (k l : Key) (of_k : LiesInBoth old new both k) (of_l : LiesInBoth old new both l) (site dest : Text) where
  pub kept_by_old : IsDestination old local site k dest → IsDestination old local site l dest
  kept_by_old =
      kept_alike old (literals_of_both old new) (names_first (literals_of old).modalities (literals_of new).modalities) (names_first (literals_of old).stations (literals_of new).stations)
      both k l of_k of_l site dest

  pub kept_by_new : IsDestination new local site k dest → IsDestination new local site l dest
  kept_by_new =
      kept_alike new (literals_of_both old new) (names_second (literals_of old).modalities (literals_of new).modalities) (names_second (literals_of old).stations (literals_of new).stations)
      both k l of_k of_l site dest

-- what is lost for one of them is lost for all
pub lost_alike : (old new : Network) (both : OwnedCell) (k l : Key) → LiesInBoth old new both k → LiesInBoth old new both l → (site dest : Text) → IsLost old new site k dest → IsLost old new site l dest
lost_alike old new both k l of_k of_l site dest h = (kept_by_old old new both k l of_k of_l site dest h.0, λ kept. h.1 (kept_by_new old new both l k of_l of_k site dest kept))

pub gained_alike : (old new : Network) (both : OwnedCell) (k l : Key) → LiesInBoth old new both k → LiesInBoth old new both l → (site dest : Text) → IsLost new old site k dest → IsLost new old site l dest
gained_alike old new both k l of_k of_l site dest h = (kept_by_new old new both k l of_k of_l site dest h.0, λ kept. h.1 (kept_by_old old new both l k of_l of_k site dest kept))
