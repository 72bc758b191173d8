-- Laws of flaws and of places, and small tables.
use Rattle.std.specs.Prelude.{◌≡◌, ℕ, [], ◌∷◌, pos, false, codes, replicate, Ok}
use Rattle.toml.specs.Data.{integer, string, boolean, array, table, no_items, item, Members}
use Rattle.toml.specs.Data.{no_members, member}
use Rattle.dr_base.specs.Texts.{Text}
use Rattle.dr_plan_core.specs.Reading.{Passes}
use Rattle.dr_plan_text.specs.Tables.{IsRoot}
use Rattle.dr_plan_text.specs.declared.words.PlanText.{PlanText}
use Rattle.dr_plan_model.specs.Formed.{IsName}
use Rattle.dr_plan_model.specs.declared.plan.Format.TheVariants.{One, Two, Three}
use Rattle.dr_plan_expand.specs.Amounts.{IsWithin}
use Rattle.dr_plan_expand.specs.Meanings.{Means, lookups_of}
use Rattle.dr_plan_expand.specs.Tables.{IsShortPlan}
use Rattle.dr_plan_expand.specs.declared.short.ShortPlan.{ShortPlan}
use Rattle.dr_plan_places.specs.Excess.{IsExcessAt, IsOverAt}
use Rattle.dr_plan_places.specs.FieldFlaws.{HasFlaw, IsIn, IsRuleText, IsNodeOf, IsFlowOf}
use Rattle.dr_plan_places.specs.Firsts.{IsFirstBad}
use Rattle.dr_plan_places.specs.Flaws.{HasNameFlaw}
use Rattle.dr_plan_places.specs.Placed.{IsPlaceIn}
use Rattle.dr_plan_places.specs.ShortFlaws.{IsInShort}
use Rattle.dr_plan_places.specs.Strangers.{IsStranger}
use Rattle.dr_plan_places.specs.declared.flaws.NameFlaw.{NameFlaw}
use Rattle.dr_plan_places.specs.declared.flaws.NameFlaw.TheVariants.{Unprintable}
use Rattle.dr_plan_places.specs.declared.place.Place.{Place}
use Rattle.dr_plan_places.specs.declared.strangers.WordKey.{WordKey}
use Rattle.dr_plan_places.specs.declared.flaw.Flaw.{Flaw}
use Rattle.dr_plan_places.specs.declared.flaw.Wrong.TheVariants.{Missing, Unknown, IllFormed}
use Rattle.dr_plan_places.specs.declared.field_place.FieldPlace.{FieldPlace}
use Rattle.dr_plan_places.specs.declared.field_place.FieldPlace.TheVariants.{Root, OfNode}
use Rattle.dr_plan_places.specs.declared.field_place.NodePart.TheVariants.{Own}

-- tables with a flaw at any place write no plan
abbrev pub PlacesRefute : Type 0
PlacesRefute =
    (root : Members) (place : FieldPlace) (flaw : Flaw) (plan : PlanText)
    → IsIn root place flaw → IsRoot root plan → ⊥

-- tables of format 3 with a flaw at any place say no plan
abbrev pub ShortPlacesRefute : Type 0
ShortPlacesRefute =
    (root : Members) (place : FieldPlace) (flaw : Flaw) (short : ShortPlan)
    → IsInShort root place flaw → IsShortPlan root short → ⊥

-- the text's table `colour = 1`
abbrev pub coloured : Members
coloured = member (codes "colour") (integer (pos 1)) no_members

-- its key isn't known
abbrev pub ColourIsUnknown : Type 0
ColourIsUnknown = HasFlaw IsRoot coloured (record { key = codes "colour"; wrong = Unknown })

-- nothing is wrong with its format, which it doesn't give
abbrev pub FormatIsNotMissing : Type 0
FormatIsNotMissing = HasFlaw IsRoot coloured (record { key = codes "format"; wrong = Missing }) → ⊥

-- the text's table `format = 4`
abbrev pub fourth_format : Members
fourth_format = member (codes "format") (integer (pos 4)) no_members

-- its format is ill-formed
abbrev pub FourthFormatIsIllFormed : Type 0
FourthFormatIsIllFormed =
    HasFlaw IsRoot fourth_format (record { key = codes "format"; wrong = IllFormed })

-- a rule's table `station = "CT*"`
abbrev pub prefixed : Members
prefixed = member (codes "station") (string (codes "CT*")) no_members

-- its station, and what would be wrong with it
abbrev pub prefix_flaw : Flaw
prefix_flaw = record { key = codes "station"; wrong = IllFormed }

-- in a text of format 1 it is ill-formed
abbrev pub PrefixIsIllFormedInFormatOne : Type 0
PrefixIsIllFormedInFormatOne = HasFlaw (IsRuleText One) prefixed prefix_flaw

-- in a text of format 2 it isn't
abbrev pub PrefixIsOfFormatTwo : Type 0
PrefixIsOfFormatTwo = HasFlaw (IsRuleText Two) prefixed prefix_flaw → ⊥

-- a rule's table `except = ["CT9"]` and `station = "CT*"`
abbrev pub excepting : Members
excepting = member (codes "except") (array (item (string (codes "CT9")) no_items)) prefixed

-- what it excepts, and what would be wrong with that
abbrev pub except_flaw : Flaw
except_flaw = record { key = codes "except"; wrong = IllFormed }

-- in a text of format 2 it is ill-formed
abbrev pub ExceptionIsIllFormedInFormatTwo : Type 0
ExceptionIsIllFormedInFormatTwo = HasFlaw (IsRuleText Two) excepting except_flaw

-- in a text of format 3 it isn't
abbrev pub ExceptionIsFineInFormatThree : Type 0
ExceptionIsFineInFormatThree = HasFlaw (IsRuleText Three) excepting except_flaw → ⊥

-- a plan with a place of a fault doesn't pass
abbrev pub PlansWithPlacesFail : Type 0
PlansWithPlacesFail =
    (plan : PlanText) (place : Place) → IsPlaceIn plan place → Passes plan (Ok tt) → ⊥

-- a plan of format 3 with a word that stands for nothing means nothing
abbrev pub StrangersRefute : Type 0
StrangersRefute =
    (short : ShortPlan) (place : FieldPlace) (key : WordKey) (word : Text) (plan : PlanText)
    → IsStranger short place key word → Means short plan → ⊥

-- one with a table that is too much is beyond the bound
abbrev pub ExcessRefutes : Type 0
ExcessRefutes =
    (short : ShortPlan) (place : FieldPlace)
    → IsExcessAt (lookups_of short) short place → IsWithin short → ⊥

-- a text with a flaw of a name is no name
abbrev pub NameFlawsRefute : Type 0
NameFlawsRefute = (text : Text) (flaw : NameFlaw) → HasNameFlaw text flaw → IsName text → ⊥

-- a text that is too long has no other flaw, and of two tabs the first is told
abbrev pub LongNameIsLongFirst : Type 0
LongNameIsLongFirst = HasNameFlaw (replicate 17 9) (Unprintable 0) → ⊥

abbrev pub SecondTabIsNotTold : Type 0
SecondTabIsNotTold = HasNameFlaw (9 ∷ 9 ∷ []) (Unprintable 1) → ⊥

-- of three texts the second is the first that isn't "a", and the third isn't
abbrev pub LaterTextIsNotFirst : Type 0
LaterTextIsNotFirst =
    IsFirstBad (λ text. text ≡ codes "a") (codes "a" ∷ codes "b" ∷ codes "c" ∷ []) 2 → ⊥

-- of three twos the second is too much where there is room for three, and the third isn't it
abbrev pub SecondIsOver : Type 0
SecondIsOver = IsOverAt (λ (n : ℕ). n) (2 ∷ 2 ∷ 2 ∷ []) 3 1

abbrev pub ThirdIsNotFirstOver : Type 0
ThirdIsNotFirstOver = IsOverAt (λ (n : ℕ). n) (2 ∷ 2 ∷ 2 ∷ []) 3 2 → ⊥

-- a format of 4 is there; and it is a flaw of the text
abbrev pub FourthFormatIsNotMissing : Type 0
FourthFormatIsNotMissing =
    HasFlaw IsRoot fourth_format (record { key = codes "format"; wrong = Missing }) → ⊥

abbrev pub FourthFormatIsAFlaw : Type 0
FourthFormatIsAFlaw =
    IsIn fourth_format Root (record { key = codes "format"; wrong = IllFormed })

-- a flow that says nothing of where it is lacks that, and has nothing there that is ill-formed
abbrev pub AtIsMissing : Type 0
AtIsMissing = HasFlaw (IsFlowOf One) no_members (record { key = codes "at"; wrong = Missing })

abbrev pub AtIsNotIllFormed : Type 0
AtIsNotIllFormed =
    HasFlaw (IsFlowOf One) no_members (record { key = codes "at"; wrong = IllFormed }) → ⊥

-- a key that isn't there isn't unknown
abbrev pub NoColourIsUnknown : Type 0
NoColourIsUnknown =
    HasFlaw IsRoot no_members (record { key = codes "colour"; wrong = Unknown }) → ⊥

-- the table of a node that only calls, with an address
abbrev pub calling : Members
calling = member (codes "address") (string (codes "h:1"))
    (member (codes "listens") (boolean false) no_members)

-- its address is ill-formed, whatever that is
abbrev pub AddressOfACallerIsIllFormed : Type 0
AddressOfACallerIsIllFormed =
    HasFlaw (IsNodeOf Three) calling (record { key = codes "address"; wrong = IllFormed })

-- a text of two nodes, of which the second says nothing
abbrev pub named : Members
named = member (codes "name") (string (codes "A")) no_members

abbrev pub two_nodes : Members
two_nodes = member (codes "node")
    (array (item (table named) (item (table no_members) no_items))) no_members

-- it has no name
abbrev pub SecondNodeHasNoName : Type 0
SecondNodeHasNoName =
    IsIn two_nodes (OfNode 1 Own) (record { key = codes "name"; wrong = Missing })
