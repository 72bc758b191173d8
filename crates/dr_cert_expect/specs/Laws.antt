-- Laws of expectations.
use Rattle.std.specs.Prelude.{◌≡◌, List, [], ◌∷◌}
use Rattle.dr_base.specs.Texts.{Text}
use Rattle.dr_route.specs.declared.rule.Pattern.TheVariants.{Any}
use Rattle.dr_route.specs.declared.rule.FieldPattern.TheVariants as field
use Rattle.dr_plan_model.specs.Networks.{Network}
use Rattle.dr_plan_sound.specs.Samples.{archive, keep_all, two_nodes}
use Rattle.dr_plan_expect.specs.declared.words.Expectation.{Expectation}
use Rattle.dr_cert_expect.specs.declared.answer.Lack.{Lack}
use Rattle.dr_cert_expect.specs.declared.answer.Miss.{Miss}
use Rattle.dr_cert_expect.specs.Expected.{Holds, IsFirstMiss, ShowsLack}

-- a row that lacks something doesn't hold
abbrev pub WhatIsLackingRefutes : Type 0
WhatIsLackingRefutes =
    (plan : Network) (row : Expectation) (lack : Lack)
    → ShowsLack plan row lack → Holds plan row → ⊥

-- of rows that don't all hold, one row is the first that doesn't
abbrev pub OneFirstMiss : Type 0
OneFirstMiss =
    (plan : Network) (rows : List Expectation) (a b : Miss)
    → IsFirstMiss plan rows a
    → IsFirstMiss plan rows b
    → a.row ≡ b.row

-- what is expected of all keys: which nodes keep them, and to which they never come
abbrev pub of_all_keys : List Text → List Text → Expectation
of_all_keys keep never = record {
  at = Any;
  class = Any;
  syntax = Any;
  modality = field.Any;
  station = field.Any;
  keep = keep;
  never = never;
}

-- in the plan of two nodes the archive keeps whatever enters, and something comes there
abbrev pub TwoNodesKeep : Type 0
TwoNodesKeep =
    Holds (two_nodes (keep_all ∷ [])) (of_all_keys (archive ∷ []) [])
    × (Holds (two_nodes (keep_all ∷ [])) (of_all_keys [] (archive ∷ [])) → ⊥)
