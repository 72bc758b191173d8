-- Where want of memory may leave a turn on the way: only where something is made in memory.
use Rattle.std.specs.Prelude.{◌≡◌, ◌⊎◌, ℕ, List, [], ◌∷◌, Some, Ok, Err}
use Rattle.dr_base.specs.Texts.{Text}
use Rattle.dr_ledger.specs.declared.content.NextRow.{NextRow}
use Rattle.dr_ledger.specs.declared.content.NextRow.TheVariants.{Whole}
use Rattle.dr_ledger.specs.declared.fault.LedgerFault.TheVariants as fault
use Rattle.dr_ledger.specs.declared.item.Outcome.{Outcome}
use Rattle.dr_ledger.specs.declared.item.Outcome.TheVariants.{Broken}
use Rattle.dr_session.specs.declared.ends.Core.{Core}
use Rattle.dr_session.specs.declared.ends.Effect.{Effect}
use Rattle.dr_session.specs.declared.ends.Input.TheVariants.{Request}
use Rattle.dr_session.specs.declared.ends.LinkAction.{LinkAction}
use Rattle.dr_session.specs.declared.ends.Moment.{Moment}
use Rattle.dr_session.specs.declared.ends.Told.{Told}
use Rattle.dr_session.specs.declared.ends.Told.TheVariants.{Plain}
use Rattle.dr_session.specs.Desks.{DeskCall, DeskAnswer, Settle, Next as NextFor, Arrival}
use Rattle.dr_session.specs.Desks.{Upcoming, Settling, Due as DueFor, First}
use Rattle.dr_session.specs.Reactions.{Reaction, pushes, quiet, refuses, settling, turn}
use Rattle.dr_session.specs.Turns.{Ends, Asks, Fails}

-- something is done on the link
abbrev pub HasActs : List LinkAction → Type 0
HasActs [] = ⊥
HasActs (act ∷ more) = Unit {0}

-- something may come to be written, by some answers of the desk
abbrev pub MayWrite : Reaction → Type 0
MayWrite (Ends x) = HasActs x.acts
MayWrite (Asks call follow) = (answer : DeskAnswer) × MayWrite (follow answer)
MayWrite Fails = ⊥

-- What is written behind this answer is made of it: the response to a store, or the C-STORE-RQ of
-- what was handed out.
abbrev pub IsWritten : DeskAnswer → Type 0
IsWritten (Arrival reply) = Unit {0}
IsWritten (Upcoming (Ok (Some (Whole item)))) = Unit {0}
IsWritten answer = ⊥

-- Memory ended behind that answer: the desk wanted it, or what is made of the answer. Whatever else
-- is written was made before the call, so that no other answer is hidden.
abbrev pub BrokeBehind : {S : Type 0} → (S → DeskCall → DeskAnswer → S → Type 0) → DeskAnswer
    → Reaction → S → S → Type 0
BrokeBehind step told (Ends x) s t = IsWritten told × HasActs x.acts × (t ≡ s)
BrokeBehind step told (Asks call follow) s t =
    (answer : DeskAnswer) × (m : _) × step s call answer m
    × BrokeBehind step answer (follow answer) m t
BrokeBehind step told Fails s t = t ≡ s

-- Memory ended: before the first call, where something may come to be written and is made there, or
-- behind an answer.
abbrev pub Broke : {S : Type 0} → (S → DeskCall → DeskAnswer → S → Type 0) → Reaction → S → S
    → Type 0
Broke step (Ends x) s t = HasActs x.acts × (t ≡ s)
Broke step (Asks call follow) s t =
    (MayWrite (Asks call follow) × (t ≡ s))
    ⊎ ((answer : DeskAnswer) × (m : _) × step s call answer m
    × BrokeBehind step answer (follow answer) m t)
Broke step Fails s t = t ≡ s

-- it is a request for an association
abbrev pub IsRequest : Told → Type 0
IsRequest (Plain (Request rq)) = Unit {0}
IsRequest told = ⊥

-- Memory ended in what an end does with what it was told: a request is looked into first.
abbrev pub LeavesOff : {S : Type 0} → (S → DeskCall → DeskAnswer → S → Type 0) → Moment → Core
    → Told → S → S → Type 0
LeavesOff step at c told s t = (IsRequest told × (t ≡ s)) ⊎ Broke step (turn at c told) s t

-- ---- laws

-- a turn that does nothing isn't left on the way
abbrev pub QuietTurnsEnd : {S : Type 0} → (S → DeskCall → DeskAnswer → S → Type 0) → Type 0
QuietTurnsEnd {S} step = (c : Core) (s t : S) → Broke step (quiet c) s t → ⊥

-- the desk's own want of memory, or an answer of another kind, which can't come
abbrev pub IsWanting : DeskAnswer → Type 0
IsWanting (Settling (Ok done)) = ⊥
IsWanting (Settling (Err fault.Memory)) = Unit {0}
IsWanting (Settling (Err why)) = ⊥
IsWanting answer = Unit {0}

-- Whatever is done with its answers: where a settling is left on the way, it wasn't asked for, or
-- the desk itself wanted memory. So neither that the row no longer waits nor that a store failed is
-- hidden.
abbrev pub SettlingsAreTold : {S : Type 0} → (S → DeskCall → DeskAnswer → S → Type 0) → Type 0
SettlingsAreTold {S} step =
    (uid dest : Text) (outcome : Outcome) (now : ℕ) (done lost : Effect) (s t : S)
    → Broke step (Asks (Settle uid dest outcome now) (settling (Ends done) (Ends lost))) s t
    → (t ≡ s)
    ⊎ ((answer : DeskAnswer) × IsWanting answer
    × step s (Settle uid dest outcome now) answer t)

-- the same of the next row
abbrev pub IsUnread : DeskAnswer → Type 0
IsUnread (Upcoming (Ok row)) = ⊥
IsUnread (Upcoming (Err fault.Memory)) = Unit {0}
IsUnread (Upcoming (Err why)) = ⊥
IsUnread answer = Unit {0}

-- Where a push is left on the way, nothing was asked, an instance was handed out, or the desk
-- itself wanted memory. So neither that nothing is due nor that a store failed is hidden.
abbrev pub PushesAreTold : {S : Type 0} → (S → DeskCall → DeskAnswer → S → Type 0) → Type 0
PushesAreTold {S} step =
    (at : Moment) (c : Core) (s t : S)
    → Broke step (pushes at c) s t
    → (t ≡ s)
    ⊎ (((row : NextRow) × (m : S) × step s (NextFor c.peer at.now) (Upcoming (Ok (Some row))) m)
    ⊎ ((answer : DeskAnswer) × IsUnread answer × step s (NextFor c.peer at.now) answer t))

-- the same of the first row behind a rejection
abbrev pub IsUnfound : DeskAnswer → Type 0
IsUnfound (First (Ok row)) = ⊥
IsUnfound (First (Err fault.Memory)) = Unit {0}
IsUnfound (First (Err why)) = ⊥
IsUnfound answer = Unit {0}

-- Where a rejection is left on the way, nothing was asked, or the desk itself wanted memory: as it
-- was asked for the first row, or as it was to settle that row. So neither that nothing is due, nor
-- that the row no longer waits, nor that a store failed is hidden.
abbrev pub RefusalsAreTold : {S : Type 0} → (S → DeskCall → DeskAnswer → S → Type 0) → Type 0
RefusalsAreTold {S} step =
    (at : Moment) (c : Core) (s t : S)
    → Broke step (refuses at c) s t
    → (t ≡ s)
    ⊎ (((answer : DeskAnswer) × IsUnfound answer × step s (DueFor c.peer at.now) answer t)
    ⊎ ((uid : Text) × (m : S) × step s (DueFor c.peer at.now) (First (Ok (Some uid))) m
    × ((answer : DeskAnswer) × IsWanting answer
    × step m (Settle uid c.peer Broken at.now) answer t)))
