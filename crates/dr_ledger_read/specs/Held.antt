-- Lines as the program holds them.
use Rattle.std.specs.Prelude.{◌≡◌, ℕ, ◌<◌, ◌^◌, List, length, All}
use Rattle.hex.specs.Hex.{IsBytes}
use Rattle.dr_route.specs.declared.key.Key.{Key}
use Rattle.dr_ledger.specs.declared.item.Instance.{Instance}
use Rattle.dr_ledger_history.specs.declared.line.JournalLine.{JournalLine}
use Rattle.dr_ledger_history.specs.declared.line.JournalLine.TheVariants as told
use Rattle.dr_ledger_text.specs.Laws.{FitsOutcome}
use Rattle.dr_ledger_read.specs.Pieces.{AreBytes}

-- its texts are bytes
pub record IsHeldKey (key : Key) : Type 0 where
  pub class : AreBytes key.class
  pub modality : AreBytes key.modality
  pub station : AreBytes key.station

-- 32 bytes
pub record IsHeldDigest (digest : List ℕ) : Type 0 where
  pub bytes : IsBytes digest
  pub long : length digest ≡ 32

-- its texts and its digest are bytes, and its length has 64 bits
pub record IsHeldItem (item : Instance) : Type 0 where
  pub uid : AreBytes item.uid
  pub key : IsHeldKey item.key
  pub size : item.size < 2 ^ 64
  pub digest : IsHeldDigest item.digest

-- its texts are bytes, and its numbers fit
abbrev pub IsHeldLine : JournalLine → Type 0
IsHeldLine (told.Arrival caller item to keep) =
    AreBytes caller × IsHeldItem item × All AreBytes to
IsHeldLine (told.Repeat caller item) = AreBytes caller × IsHeldItem item
IsHeldLine (told.Settling uid dest outcome now) =
    AreBytes uid × AreBytes dest × FitsOutcome outcome × (now < 2 ^ 64)
IsHeldLine (told.Requeuing uid dest) = AreBytes uid × AreBytes dest
IsHeldLine (told.Dropping uid dest now) = AreBytes uid × AreBytes dest × (now < 2 ^ 64)
IsHeldLine (told.Forgetting uid) = AreBytes uid
IsHeldLine told.Adoption = Unit {0}
