-- What the tables of a text of expectations say.
use Rattle.std.specs.Prelude.{◌≡◌, List, [], ◌∷◌, codes}
use Rattle.toml.specs.Data.{Members, get_member}
use Rattle.dr_base.specs.Texts.{Text}
use Rattle.dr_base.specs.Syntaxes.{IsSyntax}
use Rattle.dr_route.specs.declared.rule.Pattern.TheVariants.{Any}
use Rattle.dr_route.specs.declared.rule.FieldPattern.TheVariants as field
use Rattle.dr_plan_model.specs.Formed.{IsClass}
use Rattle.dr_plan_text.specs.Fields.{SaysText, SaysFormed, SaysPattern, SaysField, SaysTable}
use Rattle.dr_plan_text.specs.Fields.{IsListOf, IsSomeOf, Given, GivenOr, HasOnly}
use Rattle.dr_plan_expect.specs.declared.words.Expectation.{Expectation}

-- the keys of a row, `[[expect]]`
abbrev pub expect_keys : List Text
expect_keys =
    codes "at" ∷ codes "class" ∷ codes "syntax" ∷ codes "modality" ∷ codes "station" ∷ codes "keep"
    ∷ codes "never" ∷ []

-- the table says the row: what isn't given is any value, and no name
pub record IsExpectTable (fields : Members) (row : Expectation) : Type 0 where
  pub only : HasOnly expect_keys fields
  pub at : GivenOr Any (SaysPattern SaysText) (get_member (codes "at") fields) row.at
  pub class :
      GivenOr Any (SaysPattern (SaysFormed IsClass)) (get_member (codes "class") fields) row.class
  pub syntax : GivenOr Any (SaysPattern (SaysFormed IsSyntax)) (get_member (codes "syntax") fields)
      row.syntax
  pub modality : GivenOr field.Any SaysField (get_member (codes "modality") fields) row.modality
  pub station : GivenOr field.Any SaysField (get_member (codes "station") fields) row.station
  pub keep : GivenOr [] (IsListOf SaysText) (get_member (codes "keep") fields) row.keep
  pub never : GivenOr [] (IsListOf SaysText) (get_member (codes "never") fields) row.never

-- the text's root table says the rows: one or more, and nothing else
pub record IsExpectRoot (fields : Members) (rows : List Expectation) : Type 0 where
  pub only : HasOnly (codes "expect" ∷ []) fields
  pub expect : Given (IsSomeOf (SaysTable IsExpectTable)) (get_member (codes "expect") fields) rows
