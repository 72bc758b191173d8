-- What a scan knows of the data set that is under way.
use Rattle.std.specs.Prelude.{ℕ, ◌≤◌, Bool, false, length, take, Option, Some, None}
use Rattle.dr_dimse.specs.declared.message.Body.{Body}
use Rattle.dr_dimse.specs.declared.message.Body.TheVariants.{Whole, TooLarge}
use Rattle.dr_dimse.specs.Taking.{MessageStage, InData}
use Rattle.dr_dataset.specs.Hearing.{Hears}
use Rattle.dr_dimse_scan.specs.Stores.{is_store, store_in}
use Rattle.dr_dimse_scan.specs.declared.hearing.Reading.{Reading}

-- the command whose data set is under way is a C-STORE-RQ
abbrev pub is_storing : MessageStage → Bool
is_storing (InData id c body) = is_store c
is_storing s = false

-- the data set of a C-STORE-RQ that is under way
abbrev pub store_of : MessageStage → Option Body
store_of (InData id c body) = store_in c (Some body)
store_of s = None

-- the scan has heard the data set so far; of one that is too large nothing is said
abbrev pub HearsAll : Reading → Option Body → Type 0
HearsAll r (Some (Whole text)) = Hears r.syntax text r.scan.value
HearsAll r (Some TooLarge) = Unit {0}
HearsAll r None = ⊥

-- the scan has heard this many bytes of the data set
abbrev pub HearsFirst : ℕ → Reading → Option Body → Type 0
HearsFirst n r (Some (Whole text)) = (n ≤ length text) × Hears r.syntax (take n text) r.scan.value
HearsFirst n r (Some TooLarge) = Unit {0}
HearsFirst n r None = ⊥

-- a scan, if there is one, has heard what has come of the data set of a C-STORE-RQ; there is none
-- between messages, within commands, and for the data set of another command
abbrev pub HasHeard : Option Reading → MessageStage → Type 0
HasHeard None s = Unit {0}
HasHeard (Some r) s = HearsAll r (store_of s)

-- a scan, if there is one, has heard this many bytes
abbrev pub HasHeardFirst : ℕ → Option Reading → Option Body → Type 0
HasHeardFirst n None body = Unit {0}
HasHeardFirst n (Some r) body = HearsFirst n r body
