-- What is found at one line of a certificate, and over all of them.
use Rattle.std.specs.Prelude.{◌≡◌, ◌⊎◌, Bool, IsTrue, Option, Some, None}
use Rattle.dr_base.specs.Texts.{Text}
use Rattle.dr_route.specs.Routes.{local}
use Rattle.dr_route.specs.declared.key.Key.{Key}
use Rattle.dr_plan_model.specs.Networks.{Network}
use Rattle.dr_plan_model.specs.Plans.{LiesIn}
use Rattle.dr_plan_model.specs.Walks.{IsEntry}
use Rattle.dr_plan_sound.specs.declared.certificate.Line.{Line}
use Rattle.dr_plan_expect.specs.declared.words.Expectation.{Expectation}
use Rattle.dr_cert_expect.specs.declared.answer.Lack.{Lack}
use Rattle.dr_cert_expect.specs.declared.row.Finding.{Finding}
use Rattle.dr_cert_expect.specs.declared.row.Finding.TheVariants.{Other, Met, Lacks}
use Rattle.dr_cert_expect.specs.Expected.{HasCase, Holds, IsCase, IsMet, ShowsLack}

-- what comes of a key of which the row speaks: it doesn't enter there, it meets the row, or what is
-- lacking shows that the row doesn't hold
abbrev pub FindsAt : Network → Expectation → Text → Key → Finding → Type 0
FindsAt plan row site key Other = IsEntry plan site key → ⊥
FindsAt plan row site key Met = IsEntry plan site key × IsMet plan row site key
FindsAt plan row site key (Lacks lack) = ShowsLack plan row lack

-- a case of the row enters by the line: its key is of the line's cell, and enters at its node
pub record EntersBy (plan : Network) (row : Expectation) (line : Line) (key : Key) : Type 0 where
  pub enters : line.stop.caller ≡ local
  pub lies : LiesIn plan line.stop.cell key
  pub case : IsCase plan row line.stop.node key

-- what is found at one line, and whether a case was found so far: each case that enters by it meets
-- the row, or what is lacking shows that the row doesn't hold
abbrev pub LooksAt : Network → Expectation → Line → Bool → Bool → Option Lack → Type 0
LooksAt plan row line old new None =
    (IsTrue old → IsTrue new)
    × (IsTrue new → IsTrue old ⊎ HasCase plan row)
    × ((key : Key) → EntersBy plan row line key → IsTrue new × IsMet plan row line.stop.node key)
LooksAt plan row line old new (Some lack) = ShowsLack plan row lack

-- what is found over all lines
abbrev pub LooksOver : Network → Expectation → Option Lack → Type 0
LooksOver plan row None = Holds plan row
LooksOver plan row (Some lack) = ShowsLack plan row lack
