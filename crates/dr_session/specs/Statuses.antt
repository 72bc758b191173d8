-- Worked figures of the statuses that a C-STORE-RQ is answered, in a context for CT images: of two
-- causes the first counts.
use Rattle.std.specs.Prelude.{◌≡◌, ℕ, List, [], ◌∷◌, codes, Ok, Err}
use Rattle.dr_base.specs.Texts.{Text}
use Rattle.dr_base.specs.declared.syntax.Syntax.TheVariants.{Explicit}
use Rattle.dr_dimse.specs.declared.message.Body.TheVariants as body
use Rattle.dr_ledger.specs.declared.content.Job.{Job}
use Rattle.dr_ledger.specs.declared.content.ItemFault.TheVariants as items
use Rattle.dr_ledger.specs.declared.item.Arrived.TheVariants.{New, Again}
use Rattle.dr_ledger.specs.declared.fault.LedgerFault.TheVariants as fault
use Rattle.dr_base.specs.Standard.{image}
use Rattle.dr_session.specs.declared.ends.Core.{Core}
use Rattle.dr_session.specs.declared.ends.Effect.{Effect}
use Rattle.dr_session.specs.declared.ends.Found.{Found}
use Rattle.dr_session.specs.declared.ends.Found.TheVariants.{Read, Nameless, Unreadable, TooLarge}
use Rattle.dr_session.specs.Desks.{DeskCall, DeskAnswer, Arrive, Arrival}
use Rattle.dr_session.specs.Reactions.{Reaction, stored, stores}
use Rattle.dr_session.specs.Telling.{Finds, FindsIn}
use Rattle.dr_session.specs.Turns.{Ends, Makes}
use Rattle.dr_nego.specs.Figures.{other}

abbrev pub uid : Text
uid = codes "1.2.3.4"

-- an image of that class and instance
abbrev pub an_image : Text → Text → Job
an_image class instance = record {
  uid = instance;
  key = record { class = class; syntax = Explicit; modality = codes "CT"; station = [] };
  body = [];
}

abbrev pub answered : Core → Text → Text → Found → Reaction
answered c class instance found = stores c 1 image 7 class instance found

-- a class that isn't the context's, with each of the other causes that a data set has
abbrev pub ClassIsFirst : Type 0
ClassIsFirst = (c : Core)
    → (answered c other uid TooLarge ≡ Ends (stored c 1 7 other uid 0x0122))
    × (answered c other uid Unreadable ≡ Ends (stored c 1 7 other uid 0x0122))
    × (answered c other uid Nameless ≡ Ends (stored c 1 7 other uid 0x0122))
    × (answered c other uid (Read (an_image image other)) ≡ Ends (stored c 1 7 other uid 0x0122))
    × (answered c other uid (Read (an_image other uid)) ≡ Ends (stored c 1 7 other uid 0x0122))

-- a data set that is too large isn't read, whatever the transfer syntax: here it is no known one
abbrev pub SizeIsBeforeReading : Type 0
SizeIsBeforeReading =
    FindsIn other body.TooLarge TooLarge
    × ((found : Found) → FindsIn other body.TooLarge found → found ≡ TooLarge)
    × ((c : Core) → answered c image uid TooLarge ≡ Ends (stored c 1 7 image uid 0xA700))

-- a data set that can't be read has no UIDs that could differ
abbrev pub ReadingIsBeforeUids : Type 0
ReadingIsBeforeUids = Finds (Err items.Data) Unreadable
    × ((c : Core) → answered c image uid Unreadable ≡ Ends (stored c 1 7 image uid 0xC000))

-- one that can be read, and lacks its class or its UID, has other UIDs than the command
abbrev pub LackingIsDiffering : Type 0
LackingIsDiffering = Finds (Err items.NoUid) Nameless
    × ((c : Core) → answered c image uid Nameless ≡ Ends (stored c 1 7 image uid 0xA900))

-- another instance or another class than the command's isn't brought: so it doesn't matter that the
-- desk has no line for it
abbrev pub UidsAreBeforeArrival : Type 0
UidsAreBeforeArrival = (c : Core)
    → (answered c image uid (Read (an_image image other)) ≡ Ends (stored c 1 7 image uid 0xA900))
    × (answered c image uid (Read (an_image other uid)) ≡ Ends (stored c 1 7 image uid 0xA900))

-- the instance that the command names is brought, and that one call's reply decides
abbrev pub brought_with : Core → DeskAnswer → List (DeskCall × DeskAnswer)
brought_with c answer = (Arrive c.peer (an_image image uid), answer) ∷ []

abbrev pub by_reply : Core → DeskAnswer → ℕ → Type 0
by_reply c answer status = Makes (answered c image uid (Read (an_image image uid)))
    (brought_with c answer) (stored c 1 7 image uid status)

abbrev pub RepliesDecide : Type 0
RepliesDecide =
    (c : Core)
    → by_reply c (Arrival (Ok New)) 0x0000
    × by_reply c (Arrival (Ok Again)) 0x0000
    × by_reply c (Arrival (Err fault.NoLine)) 0xC0F0
    × by_reply c (Arrival (Err fault.Conflict)) 0xC0F1
    × by_reply c (Arrival (Err fault.Store)) 0xA700
    × by_reply c (Arrival (Err fault.Memory)) 0xA700
