-- A stream of PDUs that comes in pieces.
use Rattle.std.specs.Prelude.{◌≡◌, ◌≢◌, ◌⊎◌, ℕ, Bool, true, false, List, [], ◌∷◌, ◌++◌, Result, Ok}
use Rattle.std.specs.Prelude.{Err, ◌≤◌, length, drop}
use Rattle.std.specs.List.{flat_map}
use Rattle.dr_base.specs.Calls.{Calls}
use Rattle.dr_base.specs.Runs.{Run}
use Rattle.dr_pdu.specs.declared.pdu.Pdu.{Pdu}
use Rattle.dr_pdu.specs.declared.fault.PduFault.{PduFault}
use Rattle.dr_pdu.specs.declared.fault.PduFault.TheVariants.{More, Memory, Failed}
use Rattle.dr_pdu.specs.Grammar.{Spells, Shows}

-- the text begins with a spelling of the PDU, and then the rest follows
abbrev pub StartsPdu : ℕ → List ℕ → Pdu → List ℕ → Type 0
StartsPdu limit text p rest =
    (spelling : List ℕ) × (text ≡ spelling ++ rest) × Spells limit spelling p

-- the longest list of PDUs whose spellings, joined, begin the text, with the rest
abbrev pub Units : ℕ → List ℕ → List Pdu → List ℕ → Type 0
Units limit text pdus rest =
    Run (StartsPdu limit) pdus text rest
    × ((p : Pdu) (after : List ℕ) → StartsPdu limit rest p after → ⊥)

-- a feeder: its limit, whether it has failed, and the bytes that it keeps
pub record Feeding : Type 0 where
  pub limit : ℕ
  pub failed : Bool
  pub kept : List ℕ

-- a feeder to which nothing was fed yet
abbrev pub fresh : ℕ → Feeding
fresh limit = record { limit = limit; failed = false; kept = [] }

-- What a piece does. All whole PDUs come out. A fault in front is answered at once and fails the
-- feeder; one behind whole PDUs stays in front of what is kept, so the next call answers it,
-- whatever its piece.
abbrev pub Feeds : Feeding → List ℕ → Result (List Pdu) PduFault → Feeding → Type 0
Feeds old piece (Ok pdus) new =
    (old.failed ≡ false)
    × Units old.limit (old.kept ++ piece) pdus new.kept
    × (pdus ≡ [] → Shows old.limit new.kept More)
    × (new.failed ≡ false) × (new.limit ≡ old.limit)
Feeds old piece (Err Memory) new = (old.failed ≡ false) × (new ≡ old)
Feeds old piece (Err Failed) new = (old.failed ≡ true) × (new ≡ old)
Feeds old piece (Err More) new = ⊥
Feeds old piece (Err fault) new =
    (old.failed ≡ false)
    × Shows old.limit (old.kept ++ piece) fault
    × (new ≡ record { limit = old.limit; failed = true; kept = [] })

-- the PDUs in front of a text, and how many bytes they take; none only where more is to come
abbrev pub Gathers : ℕ → List ℕ → Result (List Pdu × ℕ) PduFault → Type 0
Gathers limit text (Ok x) =
    (x.1 ≤ length text)
    × Units limit text x.0 (drop x.1 text)
    × (x.0 ≡ [] → Shows limit (drop x.1 text) More)
Gathers limit text (Err Memory) = Unit {0}
Gathers limit text (Err More) = ⊥
Gathers limit text (Err Failed) = ⊥
Gathers limit text (Err fault) = Shows limit text fault

-- ---- many pieces

-- one call of a feeder: its piece of the stream and its answer
abbrev pub FeedCall : Type 0
FeedCall = List ℕ × Result (List Pdu) PduFault

-- what calls make of a feeder, one after the other
abbrev pub Fed : Feeding → List FeedCall → Feeding → Type 0
Fed old calls new = Calls (λ before call after. Feeds before call.0 call.1 after) old calls new

-- the bytes of the stream that a call took: none where memory ran out
abbrev pub taken_by : List ℕ → Result (List Pdu) PduFault → List ℕ
taken_by piece (Err Memory) = []
taken_by piece r = piece

-- the PDUs that came out of a call
abbrev pub given_by : Result (List Pdu) PduFault → List Pdu
given_by (Ok pdus) = pdus
given_by (Err fault) = []

-- the fault of the stream that a call answered: neither want of memory nor that the feeder had
-- failed before
abbrev pub shown_by : Result (List Pdu) PduFault → List PduFault
shown_by (Ok pdus) = []
shown_by (Err Memory) = []
shown_by (Err Failed) = []
shown_by (Err fault) = fault ∷ []

-- the bytes of the stream that these calls took, one after the other
abbrev pub taken : List FeedCall → List ℕ
taken calls = flat_map (λ (x : FeedCall). taken_by x.0 x.1) calls

-- the PDUs that came out of these calls, in order
abbrev pub given : List FeedCall → List Pdu
given calls = flat_map (λ (x : FeedCall). given_by x.1) calls

-- the faults of the stream that these calls answered, in order
abbrev pub shown : List FeedCall → List PduFault
shown calls = flat_map (λ (x : FeedCall). shown_by x.1) calls

-- no PDU starts what the feeder keeps, as it is of a fresh one and behind every call
abbrev pub KeepsNoPdu : Feeding → Type 0
KeepsNoPdu old = (p : Pdu) (after : List ℕ) → StartsPdu old.limit old.kept p after → ⊥

-- Where calls that answered these faults left the stream. Without one, the rest behind the last
-- whole PDU is kept; else there was one, which the rest shows, and the feeder has failed.
abbrev pub LeavesStream : ℕ → List PduFault → Feeding → List ℕ → Type 0
LeavesStream limit faults new rest =
    (faults ≡ []) × (new.failed ≡ false) × (rest ≡ new.kept)
    ⊎ ((fault : PduFault) × (faults ≡ fault ∷ []) × (new.failed ≡ true) × (fault ≢ More)
    × (fault ≢ Memory) × Shows limit rest fault)
