-- Data sets that can be read, and have other UIDs than the command that brings them.
use Rattle.std.specs.Prelude.{◌≡◌, ◌≤◌, ℕ, List, length, Some, Ok}
use Rattle.dr_base.specs.Texts.{Text}
use Rattle.dr_base.specs.Uids.{IsUid}
use Rattle.dr_base.specs.declared.syntax.Syntax.{Syntax}
use Rattle.dr_dataset.specs.declared.values.Attributes.{Attributes}
use Rattle.dr_dataset.specs.DataSet.{Scans}
use Rattle.dr_dimse.specs.declared.message.Body.TheVariants as body
use Rattle.dr_ledger.specs.Items.{LacksUid, largest_body}
use Rattle.dr_session.specs.declared.ends.Core.{Core}
use Rattle.dr_session.specs.declared.ends.Found.{Found}
use Rattle.dr_session.specs.Reactions.{arrives, stored}
use Rattle.dr_session.specs.Telling.{FindsAs}
use Rattle.dr_session.specs.Turns.{Ends}

-- the class or the instance isn't the one that the command names
abbrev pub DiffersFrom : Attributes → Text → Text → Type 0
DiffersFrom values class instance = values.class ≡ class → values.instance ≡ instance → ⊥

-- It is answered A900H, and nothing is brought: whether it names another instance, or none.
abbrev pub DifferingIsRefused : Type 0
DifferingIsRefused =
    (syntax : Syntax) (text : List ℕ) (values : Attributes) (found : Found)
    (c : Core) (context id : ℕ) (class instance : Text)
    → length text ≤ largest_body
    → Scans syntax text (Ok values)
    → DiffersFrom values class instance
    → FindsAs (Some syntax) (body.Whole text) found
    → arrives c context id class instance found ≡ Ends (stored c context id class instance 0xA900)

-- what lacks a UID differs from each command, which has both
abbrev pub LackingDiffers : Type 0
LackingDiffers =
    (syntax : Syntax) (text : List ℕ) (class instance : Text)
    → IsUid class → IsUid instance
    → LacksUid syntax text
    → (values : Attributes) × Scans syntax text (Ok values) × DiffersFrom values class instance
