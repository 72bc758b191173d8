-- What is expected of a plan, over all keys and all walks.
use Rattle.std.specs.Prelude.{◌≡◌, ℕ, ◌+◌, List, All, Contains, Option, Some, None, take, slice_get}
use Rattle.dr_base.specs.Texts.{Text}
use Rattle.dr_base.specs.Syntaxes.{syntax_uid}
use Rattle.dr_route.specs.Routes.{local, Matches, MatchesField}
use Rattle.dr_route.specs.declared.key.Key.{Key}
use Rattle.dr_plan_model.specs.Networks.{Network}
use Rattle.dr_plan_model.specs.Walks.{IsEntry, IsDestination}
use Rattle.dr_cert_trace.specs.Reaches.{ComesToNode}
use Rattle.dr_plan_expect.specs.declared.words.Expectation.{Expectation}
use Rattle.dr_cert_expect.specs.declared.answer.Lack.{Lack}
use Rattle.dr_cert_expect.specs.declared.answer.Lack.TheVariants.{Nothing, Keep, Never}
use Rattle.dr_cert_expect.specs.declared.answer.Miss.{Miss}

-- the row speaks of the key where it enters at the site
pub record SpeaksOf (row : Expectation) (site : Text) (key : Key) : Type 0 where
  pub at : Matches row.at site
  pub class : Matches row.class key.class
  pub syntax : Matches row.syntax (syntax_uid key.syntax)
  pub modality : MatchesField row.modality key.modality
  pub station : MatchesField row.station key.station

-- a case of the row: a key of which it speaks enters at the site
abbrev pub IsCase : Network → Expectation → Text → Key → Type 0
IsCase plan row site key = SpeaksOf row site key × IsEntry plan site key

-- the row is met by the key that enters at the site: each node that has to keep it is a destination
-- of it, and to none of the others any walk of it comes
pub record IsMet (plan : Network) (row : Expectation) (site : Text) (key : Key) : Type 0 where
  pub keep : (name : Text) → Contains row.keep name → IsDestination plan local site key name
  pub never : (name : Text) → Contains row.never name → ComesToNode plan site key name → ⊥

-- the row has a case
abbrev pub HasCase : Network → Expectation → Type 0
HasCase plan row = (site : Text) × (key : Key) × IsCase plan row site key

-- the row holds: it has a case, and is met by each
pub record Holds (plan : Network) (row : Expectation) : Type 0 where
  pub some : HasCase plan row
  pub each : (site : Text) (key : Key) → IsCase plan row site key → IsMet plan row site key

-- what is lacking shows that the row doesn't hold: it has no case; or a case isn't kept where it
-- has to be, or comes where it must not
abbrev pub ShowsLack : Network → Expectation → Lack → Type 0
ShowsLack plan row Nothing = HasCase plan row → ⊥
ShowsLack plan row (Keep name case) =
    IsCase plan row case.site case.key
    × Contains row.keep name
    × (IsDestination plan local case.site case.key name → ⊥)
ShowsLack plan row (Never name case) =
    IsCase plan row case.site case.key
    × Contains row.never name
    × ComesToNode plan case.site case.key name

-- the miss is of the first row that doesn't hold; rows count from 1
pub record IsFirstMiss (plan : Network) (rows : List Expectation) (miss : Miss) : Type 0 where
  pub row : Expectation
  pub index : ℕ
  pub is : slice_get rows index ≡ Some row
  pub number : miss.row ≡ index + 1
  pub before : All (Holds plan) (take index rows)
  pub shows : ShowsLack plan row miss.lack

-- what comes of the rows: all hold, or the first miss
abbrev pub Decides : Network → List Expectation → Option Miss → Type 0
Decides plan rows None = All (Holds plan) rows
Decides plan rows (Some miss) = IsFirstMiss plan rows miss
