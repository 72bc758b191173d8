-- What the values of a plan's text say.
use Rattle.std.specs.Prelude.{◌≡◌, ◌≢◌, ℤ, pos, Bool, List, [], ◌∷◌, ◌++◌, Option, Some, None}
use Rattle.std.specs.Prelude.{codes, Contains, AllPairs, flat_map}
use Rattle.toml.specs.Data.{Data, string, integer, boolean, array, table, Items, no_items, item}
use Rattle.toml.specs.Data.{Members, no_members, member}
use Rattle.dr_base.specs.Texts.{Text}
use Rattle.dr_route.specs.declared.rule.Pattern.{Pattern}
use Rattle.dr_route.specs.declared.rule.Pattern.TheVariants as pattern
use Rattle.dr_route.specs.declared.rule.FieldPattern.{FieldPattern}
use Rattle.dr_route.specs.declared.rule.FieldPattern.TheVariants as field
use Rattle.dr_route.specs.declared.accept.Callers.{Callers}
use Rattle.dr_route.specs.declared.accept.Callers.TheVariants as callers
use Rattle.dr_plan_model.specs.declared.plan.Values.{Values}
use Rattle.dr_plan_model.specs.declared.plan.Values.TheVariants as values
use Rattle.dr_plan_model.specs.declared.plan.Format.{Format}
use Rattle.dr_plan_model.specs.declared.plan.Format.TheVariants.{One, Two, Three}
use Rattle.dr_plan_model.specs.Naming.{literal_of, prefix_of}
use Rattle.dr_plan_model.specs.Formed.{IsLiteral, IsPrefix}

-- a string says its text
abbrev pub SaysText : Data → Text → Type 0
SaysText d text = d ≡ string text

-- a string says its text, which has to be of that form
abbrev pub SaysFormed : (Text → Type 0) → Data → Text → Type 0
SaysFormed IsFormed d text = (d ≡ string text) × IsFormed text

-- what a value says, where one may be left out
abbrev pub SaysSome : {X : Type 0} → (Data → X → Type 0) → Data → Option X → Type 0
SaysSome Says d None = ⊥
SaysSome Says d (Some x) = Says d x

-- an integer says its number
abbrev pub SaysNumber : Data → ℤ → Type 0
SaysNumber d number = d ≡ integer number

-- a boolean says its flag
abbrev pub SaysFlag : Data → Bool → Type 0
SaysFlag d flag = d ≡ boolean flag

-- the number of a format: 1, 2 or 3
abbrev pub SaysFormat : Data → Format → Type 0
SaysFormat d One = d ≡ integer (pos 1)
SaysFormat d Two = d ≡ integer (pos 2)
SaysFormat d Three = d ≡ integer (pos 3)

-- the items say these values, one each
abbrev pub ListsValues : {X : Type 0} → (Data → X → Type 0) → Items → List X → Type 0
ListsValues Says no_items [] = Unit {0}
ListsValues Says no_items (x ∷ xs) = ⊥
ListsValues Says (item d items) [] = ⊥
ListsValues Says (item d items) (x ∷ xs) = Says d x × ListsValues Says items xs

-- an array says what its items say
abbrev pub IsListOf : {X : Type 0} → (Data → X → Type 0) → Data → List X → Type 0
IsListOf Says d xs = (items : Items) × (d ≡ array items) × ListsValues Says items xs

-- an array of one item or more
abbrev pub IsSomeOf : {X : Type 0} → (Data → X → Type 0) → Data → List X → Type 0
IsSomeOf Says d xs = IsListOf Says d xs × (xs ≢ [])

-- an array of one text or more, none of them twice
abbrev pub SaysTextsOnce : Data → List Text → Type 0
SaysTextsOnce d texts = IsSomeOf SaysText d texts × AllPairs (λ s t. s ≢ t) texts

-- a table says what its members do
abbrev pub SaysTable : {X : Type 0} → (Members → X → Type 0) → Data → X → Type 0
SaysTable IsTable d x = (members : Members) × (d ≡ table members) × IsTable members x

-- the string `*`, which is written for any value
abbrev pub star : Data
star = string (codes "*")

-- `*` says any value; another value says a literal
abbrev pub SaysPattern : (Data → Text → Type 0) → Data → Pattern → Type 0
SaysPattern Says d pattern.Any = d ≡ star
SaysPattern Says d (pattern.Literal literal) = (d ≢ star) × Says d literal

-- a value that is named: a literal, or a prefix with `*` behind it
abbrev pub SaysNamed : Data → FieldPattern → Type 0
SaysNamed d field.Any = ⊥
SaysNamed d (field.Literal literal) = (d ≡ string literal) × IsLiteral literal
SaysNamed d (field.Prefix prefix) = (d ≡ string (prefix ++ 42 ∷ [])) × IsPrefix prefix

-- the modality or the station of a rule: `*`, or one that is named
abbrev pub SaysField : Data → FieldPattern → Type 0
SaysField d field.Any = d ≡ star
SaysField d (field.Literal literal) = SaysNamed d (field.Literal literal)
SaysField d (field.Prefix prefix) = SaysNamed d (field.Prefix prefix)

-- the stations that a rule excepts: an array of one literal or more
abbrev pub SaysExceptions : Data → List Text → Type 0
SaysExceptions d stations = IsSomeOf (SaysFormed IsLiteral) d stations

-- the modalities or the stations of a flow: `*`, or a list of named ones, of which the literals and
-- the prefixes are kept apart, each in the list's order
abbrev pub SaysValues : Data → Values → Type 0
SaysValues d values.Any = d ≡ star
SaysValues d (values.Listed own) =
    (patterns : List FieldPattern)
    × IsListOf SaysNamed d patterns
    × (own.literals ≡ flat_map literal_of patterns)
    × (own.prefixes ≡ flat_map prefix_of patterns)

-- the callers of an accept row: `*`, or a list of names
abbrev pub SaysCallers : Data → Callers → Type 0
SaysCallers d callers.Any = d ≡ star
SaysCallers d (callers.Listed names) = IsListOf SaysText d names

-- a field that has to stand in its table
abbrev pub Given : {X : Type 0} → (Data → X → Type 0) → Option Data → X → Type 0
Given Says None x = ⊥
Given Says (Some d) x = Says d x

-- a field that may be left out, and what it is then
abbrev pub GivenOr : {X : Type 0} → X → (Data → X → Type 0) → Option Data → X → Type 0
GivenOr default Says None x = x ≡ default
GivenOr default Says (Some d) x = Says d x

-- no other key stands in the table
abbrev pub HasOnly : List Text → Members → Type 0
HasOnly keys no_members = Unit {0}
HasOnly keys (member key value rest) = Contains keys key × HasOnly keys rest
