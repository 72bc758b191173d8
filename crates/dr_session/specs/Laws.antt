-- The laws of an end.
use Rattle.std.specs.Prelude.{◌≡◌, ℕ, false, List, [], ◌∷◌, ◌++◌, map, ◌↔◌, Some, Result, Ok, ◌⊎◌}
use Rattle.std.specs.Prelude.{◌<◌, ◌^◌, Option, None, length}
use Rattle.std.specs.Option.{option_map_or}
use Rattle.dr_base.specs.Texts.{Text}
use Rattle.dr_pdu.specs.Feeding.{Feeding}
use Rattle.dr_ulstate.specs.declared.table.AbortReason.{AbortReason}
use Rattle.dr_ulstate.specs.declared.table.AbortReason.TheVariants.{UnrecognizedPdu}
use Rattle.dr_ulstate.specs.declared.table.AbortReason.TheVariants.{InvalidParameter}
use Rattle.dr_ulstate.specs.declared.table.Action.{Action}
use Rattle.dr_ulstate.specs.declared.table.Action.TheVariants.{Aa1, Aa7, Aa8}
use Rattle.dr_ulstate.specs.declared.table.Event.{Event}
use Rattle.dr_ulstate.specs.Table.{abort_source, abort_reason, source_number, reason_number}
use Rattle.dr_dimse.specs.Taking.{MessageStage}
use Rattle.dr_dimse.specs.declared.command.Command.{Command}
use Rattle.dr_dimse.specs.declared.command.Command.TheVariants.{StoreRsp}
use Rattle.dr_nego.specs.declared.agreed.Agreed.{Agreed}
use Rattle.dr_ledger.specs.declared.content.Job.{Job}
use Rattle.dr_ledger.specs.declared.content.NextRow.TheVariants.{Whole, Unreadable}
use Rattle.dr_ledger.specs.declared.item.Arrived.{Arrived}
use Rattle.dr_session.specs.declared.ends.Found.{Found}
use Rattle.dr_session.specs.declared.ends.Found.TheVariants.{Read}
use Rattle.dr_session.specs.declared.ends.Core.{Core}
use Rattle.dr_session.specs.declared.ends.Effect.{Effect}
use Rattle.dr_session.specs.declared.ends.Pending.{Pending}
use Rattle.dr_session.specs.Desks.{DeskCall, DeskAnswer, Arrive, Next, Settle, Arrival, Upcoming}
use Rattle.dr_session.specs.Desks.{Due, First}
use Rattle.dr_session.specs.declared.ends.Moment.{Moment}
use Rattle.std.specs.List.{AllByRecursion, flat_map}
use Rattle.dr_pdu.specs.declared.pdu.Pdu.{Pdu}
use Rattle.dr_pdu.specs.declared.pdu.Pdu.TheVariants as pdu
use Rattle.dr_pdu.specs.declared.pdu.Pdv.{Pdv}
use Rattle.dr_nego.specs.Fragments.{spellings}
use Rattle.dr_session.specs.declared.ends.LinkAction.{LinkAction}
use Rattle.dr_session.specs.declared.ends.LinkAction.TheVariants.{Write, Close}
use Rattle.dr_session.specs.declared.ends.Heard.{Heard}
use Rattle.dr_session.specs.declared.ends.Input.{Input}
use Rattle.dr_session.specs.declared.ends.Input.TheVariants.{Unknown, Value}
use Rattle.dr_session.specs.declared.ends.Told.{Told}
use Rattle.dr_session.specs.declared.ends.Told.TheVariants.{Plain, Store}
use Rattle.std.specs.declared.alloc.AllocError.{AllocError}
use Rattle.dr_pdu.specs.Written.{Fits}
use Rattle.dr_site.specs.Parts.{Part}
use Rattle.dr_site.specs.Sites.{IsSite}
use Rattle.dr_nego.specs.Agreeing.{AssociateRq}
use Rattle.dr_session.specs.Fits.{InputFits}
use Rattle.dr_session.specs.Terms.{Serves, CoreServes, ToldServes}
use Rattle.dr_session.specs.Ends.{Terminal, IsEndOver, Meets, HearsOf, accepting, requesting}
use Rattle.dr_session.specs.Messages.{command_pdus}
use Rattle.dr_session.specs.Reactions.{Reaction, turn, quiet, effect, says, stores, leaves}
use Rattle.dr_session.specs.Reactions.{aborted, abort_pdu, event_of, store_pdus, write}
use Rattle.dr_session.specs.Reactions.{acts as acted}
use Rattle.dr_session.specs.Telling.{TakesData, Tells, state_at}
use Rattle.dr_session.specs.Turns.{Ends, Asks, Fails, Turns, Run, Makes}
use Rattle.dr_session.specs.Breaks.{IsRequest}
use Rattle.dr_session.specs.Plays.{At, BreaksOff, PlaysBytes, Stops, with_stage}

abbrev pub answers : List (DeskCall × DeskAnswer) → List DeskAnswer
answers made = map (λ x. x.1) made

-- a piece, then another at the same moment, do what the joined bytes do
abbrev pub Joins : {S : Type 0} → (S → DeskCall → DeskAnswer → S → Type 0) → Type 0
Joins {S} step =
    (moment : Moment) (old mid new : Feeding) (c : Core) (x y : Effect) (a b : List ℕ) (s m t : S)
    → PlaysBytes step moment old c a s mid x m
    → PlaysBytes step moment mid x.core b m new y t
    → PlaysBytes step moment old c (a ++ b) s new
    (record { acts = x.acts ++ y.acts; core = y.core }) t

-- pieces at one moment, each heard by what the one before left, and all that is written
abbrev pub PlaysPieces : {S : Type 0}
    → (S → DeskCall → DeskAnswer → S → Type 0)
    → Moment → Feeding → Core → List (List ℕ) → S → Feeding → Effect → S → Type 0
PlaysPieces step moment ear c [] s new x t = (new ≡ ear) × (x ≡ effect [] c) × (t ≡ s)
PlaysPieces step moment ear c (piece ∷ pieces) s new x t =
    (mid : Feeding) × (first : Effect) × (later : Effect) × (m : _)
    × PlaysBytes step moment ear c piece s mid first m
    × PlaysPieces step moment mid first.core pieces m new later t
    × (x ≡ record { acts = first.acts ++ later.acts; core = later.core })

-- pieces, however many, do what the joined bytes do
abbrev pub JoinsAll : {S : Type 0} → (S → DeskCall → DeskAnswer → S → Type 0) → Type 0
JoinsAll {S} step =
    (moment : Moment) (old new : Feeding) (c : Core) (x : Effect) (first : List ℕ)
    (others : List (List ℕ)) (s t : S)
    → PlaysPieces step moment old c (first ∷ others) s new x t
    → PlaysBytes step moment old c (flat_map (λ (piece : List ℕ). piece) (first ∷ others)) s new x t

-- at a port: some calls with their answers lead from s to t, and the turn makes just these
abbrev pub TellsAll : {S : Type 0} → (S → DeskCall → DeskAnswer → S → Type 0) → Type 0
TellsAll {S} step =
    (turn : Reaction) (s t : S) (x : Effect)
    → Turns step turn s x t
    ↔ ((made : List (DeskCall × DeskAnswer)) × Run step s made t × Makes turn made x)

-- two ways that a turn may go have the same calls and effect where the answers are the same
abbrev pub IsByReplies : Type 0
IsByReplies =
    (turn : Reaction) (made made' : List (DeskCall × DeskAnswer)) (x x' : Effect)
    → Makes turn made x → Makes turn made' x'
    → answers made ≡ answers made'
    → (made ≡ made') × (x ≡ x')

-- What is written for a C-STORE-RQ: one response, and it is a success only where its instance was
-- brought to the port, which answered New or Again. The status is a number of two bytes, so that
-- none but 0 is spelled 0000H.
pub record AnswersStore {S : Type 0} (step : S → DeskCall → DeskAnswer → S → Type 0) (c : Core)
    (context id : ℕ) (class instance : Text) (found : Found) (s : S) (x : Effect)
    (t : S) : Type 0 where
  pub status : ℕ
  pub small : status < 2 ^ 16
  pub written : x.acts ≡ says c context (StoreRsp id status class instance false) ∷ []
  pub brought : status ≡ 0
      → (item : Job) × (value : Arrived) × (found ≡ Read item)
      × step s (Arrive c.peer item) (Arrival (Ok value)) t

-- a C-STORE-RQ is answered so
abbrev pub SuccessIsOfArrivals : {S : Type 0} → (S → DeskCall → DeskAnswer → S → Type 0) → Type 0
SuccessIsOfArrivals {S} step =
    (c : Core) (context : ℕ) (class_of : Text) (id : ℕ) (class instance : Text) (found : Found)
    (s t : S) (x : Effect)
    → Turns step (stores c context class_of id class instance found) s x t
    → AnswersStore step c context id class instance found s x t

abbrev pub HasNoData : Pdu → Type 0
HasNoData (pdu.Transfer values) = ⊥
HasNoData p = Unit {0}

-- the bytes are one PDU, which carries no data
abbrev pub IsAlone : List ℕ → Type 0
IsAlone bytes = (p : Pdu) × HasNoData p × (bytes ≡ spellings (p ∷ []))

-- nothing of a message is written
abbrev pub IsNoMessage : LinkAction → Type 0
IsNoMessage (Write bytes) = IsAlone bytes
IsNoMessage Close = Unit {0}

-- In its turn a C-STORE-RQ is answered so where the table takes data (Sta6, Sta7); elsewhere
-- nothing of a message is written.
abbrev pub StoresAreAnswered : {S : Type 0} → (S → DeskCall → DeskAnswer → S → Type 0) → Type 0
StoresAreAnswered {S} step =
    (at : Moment) (c : Core) (context : ℕ) (class_of : Text) (id : ℕ) (class instance : Text)
    (found : Found) (s t : S) (x : Effect)
    → Turns step (turn at c (Store context class_of id class instance found)) s x t
    → (TakesData (state_at c) → AnswersStore step c context id class instance found s x t)
    × ((TakesData (state_at c) → ⊥) → AllByRecursion IsNoMessage x.acts)

abbrev pub IsStore : Told → Type 0
IsStore (Store context of id class instance found) = Unit {0}
IsStore told = ⊥

-- the command answers no C-STORE-RQ
abbrev pub IsOther : Command → Type 0
IsOther (StoreRsp to status class instance has_data) = ⊥
IsOther command = Unit {0}

-- the bytes are a C-STORE-RQ with its data set
abbrev pub AsksToStore : List ℕ → Type 0
AsksToStore bytes =
    (agreed : Agreed) × (context id : ℕ) × (item : Job)
    × (bytes ≡ spellings (store_pdus agreed context id item))

-- the bytes are another command than the answer to a C-STORE-RQ
abbrev pub SaysOther : List ℕ → Type 0
SaysOther bytes =
    (limit context : ℕ) × (command : Command) × IsOther command
    × (bytes ≡ spellings (command_pdus limit context command))

abbrev pub AnswersNoStore : LinkAction → Type 0
AnswersNoStore (Write bytes) = IsAlone bytes ⊎ (AsksToStore bytes ⊎ SaysOther bytes)
AnswersNoStore Close = Unit {0}

-- a turn of anything else answers no C-STORE-RQ
abbrev pub OthersAnswerNoStore : {S : Type 0} → (S → DeskCall → DeskAnswer → S → Type 0) → Type 0
OthersAnswerNoStore {S} step =
    (at : Moment) (c : Core) (told : Told) (s t : S) (x : Effect)
    → (IsStore told → ⊥)
    → Turns step (turn at c told) s x t
    → AllByRecursion AnswersNoStore x.acts

-- what is written is the spellings of PDUs, joined: of such as can be written, so that each is read
-- again, whatever follows
abbrev pub IsSpelled : LinkAction → Type 0
IsSpelled (Write bytes) = (pdus : List Pdu) × AllByRecursion Fits pdus × (bytes ≡ spellings pdus)
IsSpelled Close = Unit {0}

-- Each turn of an end that serves writes such PDUs, whatever the port answers, and the end serves
-- after it.
abbrev pub WritesPdus : {S : Type 0} → (S → DeskCall → DeskAnswer → S → Type 0) → Type 0
WritesPdus {S} step =
    (at : Moment) (c : Core) (told : Told) (s t : S) (x : Effect)
    → Serves c.site c.agreed
    → ToldServes told
    → Turns step (turn at c told) s x t
    → AllByRecursion IsSpelled x.acts × Serves x.core.site x.core.agreed

-- so does each call of an end: what comes over the link, and what is asked
abbrev pub GivesPdus : {S : Type 0} → (S → DeskCall → DeskAnswer → S → Type 0) → Type 0
GivesPdus {S} step =
    (came : Heard) (at : Moment) (old new : Terminal) (s t : S) (acts : List LinkAction)
    → CoreServes old.core
    → HearsOf step came at old s (Ok acts) new t
    → AllByRecursion IsSpelled acts × CoreServes new.core

abbrev pub AsksPdus : {S : Type 0} → (S → DeskCall → DeskAnswer → S → Type 0) → Type 0
AsksPdus {S} step =
    (input : Input) (at : Moment) (old new : Terminal) (s t : S) (acts : List LinkAction)
    → CoreServes old.core
    → InputFits input
    → Meets step at input old s (Ok acts) new t
    → AllByRecursion IsSpelled acts × CoreServes new.core

-- an end serves as it begins
abbrev pub BeginsServing : Type 0
BeginsServing =
    (site : Part) (dest : Text) (rq : AssociateRq) (now : ℕ)
    → IsSite site
    → CoreServes (Some (accepting site now))
    × CoreServes (Some (requesting (Some site) dest rq now))
    × CoreServes (Some (requesting None dest rq now))

-- an end that is over writes nothing and calls nothing, whatever it is told
abbrev pub RestsWhenOver : Type 0
RestsWhenOver =
    (at : Moment) (c : Core) (told : Told) → IsEndOver (Some c) → turn at c told ≡ quiet c

-- a call of it answers an empty list; the end and the port stay as they were
abbrev pub IsStill : {S : Type 0} → Terminal → S
    → Result (List LinkAction) AllocError
    → Terminal → S → Type 0
IsStill old s result new t = (result ≡ Ok []) × (new ≡ old) × (t ≡ s)

abbrev pub StaysOver : {S : Type 0} → (S → DeskCall → DeskAnswer → S → Type 0) → Type 0
StaysOver {S} step =
    (input : Input) (at : Moment) (old new : Terminal) (s t : S)
    (result : Result (List LinkAction) AllocError)
    → IsEndOver old.core
    → Meets step at input old s result new t
    → IsStill old s result new t

abbrev pub HearsNothing : {S : Type 0} → (S → DeskCall → DeskAnswer → S → Type 0) → Type 0
HearsNothing {S} step =
    (came : Heard) (at : Moment) (old new : Terminal) (s t : S)
    (result : Result (List LinkAction) AllocError)
    → IsEndOver old.core
    → HearsOf step came at old s result new t
    → IsStill old s result new t

-- ---- what is settled

-- the answer hands out that instance, or tells its uid
abbrev pub Given : DeskAnswer → Text → Type 0
Given (Upcoming (Ok (Some (Whole item)))) uid = uid ≡ item.uid
Given (Upcoming (Ok (Some (Unreadable found)))) uid = uid ≡ found
Given (First (Ok (Some found))) uid = uid ≡ found
Given reply uid = ⊥

abbrev pub Pends : Option Pending → Text → Type 0
Pends None uid = ⊥
Pends (Some p) uid = uid ≡ p.uid

-- Whatever the desk answers, each settling is of such an instance or of one that the desk has just
-- handed out or told, for that peer and at that moment.
abbrev pub SettlesOwn : Reaction → Text → ℕ → (Text → Type 0) → Type 0
SettlesOwn (Ends x) peer now Own = Unit {0}
SettlesOwn (Asks (Settle uid dest outcome moment) follow) peer now Own =
    Own uid × (dest ≡ peer) × (moment ≡ now)
    × ((reply : DeskAnswer) → SettlesOwn (follow reply) peer now Own)
SettlesOwn (Asks (Next dest moment) follow) peer now Own =
    (reply : DeskAnswer) → SettlesOwn (follow reply) peer now (λ uid. Own uid ⊎ Given reply uid)
SettlesOwn (Asks (Due dest moment) follow) peer now Own =
    (reply : DeskAnswer) → SettlesOwn (follow reply) peer now (λ uid. Own uid ⊎ Given reply uid)
SettlesOwn (Asks (Arrive caller item) follow) peer now Own =
    (reply : DeskAnswer) → SettlesOwn (follow reply) peer now (λ uid. Own uid ⊎ Given reply uid)
SettlesOwn Fails peer now Own = Unit {0}

-- a turn settles what pends, or what it was handed out or told
abbrev pub SettlesOwnAlone : Type 0
SettlesOwnAlone =
    (at : Moment) (c : Core) (told : Told)
    → SettlesOwn (turn at c told) c.peer at.now (λ uid. Pends c.pending uid)

-- ---- aborts

-- what an invalid PDU shows of why it is none: its type isn't known, or a value of it isn't valid
abbrev pub shown_of : Told → AbortReason
shown_of (Plain Unknown) = UnrecognizedPdu
shown_of told = InvalidParameter

-- the A-ABORT that the table gives an action at an event (PS3.8 section 9.3.8)
abbrev pub abort_by : Action → Event → Told → Pdu
abort_by a e told = abort_pdu (option_map_or source_number (abort_source a) 0)
    (reason_number (abort_reason a e (shown_of told)))

-- each action that aborts writes the table's A-ABORT for the event of what was told
abbrev pub AbortsAreTheTables : Type 0
AbortsAreTheTables =
    (at : Moment) (c : Core) (told : Told) (e : Event)
    → event_of told at c ≡ Some e
    → (acted Aa1 at told c ≡ leaves at (write (abort_by Aa1 e told ∷ []) ∷ []) (aborted c))
    × (acted Aa7 at told c ≡ Ends (effect (write (abort_by Aa7 e told ∷ []) ∷ []) (aborted c)))
    × (acted Aa8 at told c ≡ leaves at (write (abort_by Aa8 e told ∷ []) ∷ []) (aborted c))

-- ---- want of memory

-- whatever the input comes to, its turn does nothing, and it is no request for an association
abbrev pub IsQuietInput : Core → At → Type 0
IsQuietInput c i =
    (told : Told) (stage : MessageStage)
    → Tells c i.input told stage
    → (IsRequest told → ⊥) × (turn i.moment (with_stage stage c) told ≡ quiet (with_stage stage c))

-- it is no value that comes where the table takes data
abbrev pub IsNoData : Core → Input → Type 0
IsNoData c i = (p : Pdv) → i ≡ Value p → TakesData (state_at c) → ⊥

-- what does nothing, and is no data, isn't left on the way
abbrev pub QuietInputsEnd : {S : Type 0} → (S → DeskCall → DeskAnswer → S → Type 0) → Type 0
QuietInputsEnd {S} step =
    (c : Core) (i : At) (s t : S)
    → IsQuietInput c i
    → IsNoData c i.input
    → Stops step c i s t
    → ⊥

-- nor is it alone, behind nothing or one thing that was written; and no input at all is
abbrev pub QuietPiecesEnd : {S : Type 0} → (S → DeskCall → DeskAnswer → S → Type 0) → Type 0
QuietPiecesEnd {S} step =
    (written : List LinkAction) (c : Core) (i : At) (s t : S)
    → length written < 2
    → (BreaksOff step written c [] s t → ⊥)
    × (IsQuietInput c i
    → IsNoData c i.input
    → BreaksOff step written c (i ∷ []) s t
    → ⊥)
