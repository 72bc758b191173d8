-- What the values of fields say that format 3 has and format 2 hasn't.
use Rattle.std.specs.Prelude.{◌≡◌, ◌≢◌, ◌⊎◌, ◌↔◌, List, [], ◌∷◌, Contains}
use Rattle.toml.specs.Data.{Data, string, Members, no_members, member}
use Rattle.dr_base.specs.Texts.{Text, IsInByteOrder}
use Rattle.dr_plan_model.specs.Formed.{IsLiteral}
use Rattle.dr_plan_text.specs.Fields.{SaysText, SaysFormed, IsListOf, IsSomeOf, star}
use Rattle.dr_plan_expand.specs.declared.short.AnyWords.{AnyWords}
use Rattle.dr_plan_expand.specs.declared.short.AnyWords.TheVariants as any
use Rattle.dr_plan_expand.specs.declared.short.Definition.{Definition}

-- one word, or a list of one word or more
abbrev pub SaysWords : Data → List Text → Type 0
SaysWords d words =
    ((word : Text) × (d ≡ string word) × (words ≡ word ∷ [])) ⊎ IsSomeOf SaysText d words

-- `*`, or words
abbrev pub SaysAnyWords : Data → AnyWords → Type 0
SaysAnyWords d any.Any = d ≡ star
SaysAnyWords d (any.Listed words) = (d ≢ star) × SaysWords d words

-- just these texts, as a set: in byte order and each once
pub record IsSetOf (texts set : List Text) : Type 0 where
  pub same : (t : Text) → Contains set t ↔ Contains texts t
  pub ordered : IsInByteOrder set

-- the stations that a rule excepts: those of an array of literals, as a set; it may be empty here
abbrev pub SaysStations : Data → List Text → Type 0
SaysStations d stations =
    (listed : List Text) × IsListOf (SaysFormed IsLiteral) d listed × IsSetOf listed stations

-- the key defines its name by its value, a list of one word or more
pub record IsDefinition (key : Text) (value : Data) (definition : Definition) : Type 0 where
  pub name : definition.name ≡ key
  pub words : IsSomeOf SaysText value definition.words

-- each key of the table defines a name, in order
abbrev pub AreDefinitions : Members → List Definition → Type 0
AreDefinitions no_members [] = Unit {0}
AreDefinitions no_members (definition ∷ more) = ⊥
AreDefinitions (member key value rest) [] = ⊥
AreDefinitions (member key value rest) (definition ∷ more) =
    IsDefinition key value definition × AreDefinitions rest more
