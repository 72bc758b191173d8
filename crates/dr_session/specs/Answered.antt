-- Worked figures of what follows an answer of the desk, and what a requestor's end keeps then,
-- whatever it is like; of the echo that goes out; and of the inputs that faults make.
use Rattle.std.specs.Prelude.{◌≡◌, ℕ, Bool, true, List, [], ◌∷◌, Option, Some, None, Ok, Err, false}
use Rattle.dr_base.specs.Standard.{image, verification}
use Rattle.dr_base.specs.Syntaxes.{syntax_uid}
use Rattle.dr_base.specs.declared.syntax.Syntax.TheVariants.{Explicit, Implicit}
use Rattle.dr_base.specs.Texts.{Text}
use Rattle.dr_ulstate.specs.declared.table.State.TheVariants.{Sta5, Sta6}
use Rattle.dr_pdu.specs.declared.fault.PduFault.TheVariants as pdu_fault
use Rattle.dr_pdu.specs.declared.pdu.AssociateRj.{AssociateRj}
use Rattle.dr_dimse.specs.declared.command.Command.TheVariants.{EchoRq, StoreRsp}
use Rattle.dr_dimse.specs.declared.message.Awaited.{Awaited}
use Rattle.dr_dimse.specs.declared.message.Awaited.TheVariants.{AnswerTo, Nothing}
use Rattle.dr_ledger.specs.declared.content.NextRow.TheVariants.{Whole}
use Rattle.dr_ledger.specs.declared.fault.LedgerFault.TheVariants as ledger
use Rattle.dr_ledger.specs.declared.item.Outcome.TheVariants.{Broken, NoContext}
use Rattle.dr_nego.specs.declared.agreed.Agreed.{Agreed}
use Rattle.dr_nego.specs.declared.agreed.Pair.{Pair}
use Rattle.dr_session.specs.declared.ends.Core.{Core}
use Rattle.dr_session.specs.declared.ends.Ended.TheVariants.{Closed, Rejected}
use Rattle.dr_session.specs.declared.ends.Input.TheVariants as input
use Rattle.dr_session.specs.declared.ends.Moment.{Moment}
use Rattle.dr_session.specs.declared.ends.Over.TheVariants as ends_as
use Rattle.dr_session.specs.declared.ends.Pending.{Pending}
use Rattle.dr_session.specs.declared.ends.Requested.TheVariants.{Store}
use Rattle.dr_session.specs.declared.ends.Told.TheVariants as told
use Rattle.dr_session.specs.Desks.{DeskAnswer, Settle, Settling, Upcoming, First}
use Rattle.dr_session.specs.Ends.{echoes_by, echoing}
use Rattle.dr_session.specs.Figures.{abort, asked_for, awaited, calls, closes, on_answer, placed}
use Rattle.dr_session.specs.Figures.{requestor, shown, shows}
use Rattle.dr_session.specs.Messages.{command_pdus}
use Rattle.dr_session.specs.Plays.{input_of}
use Rattle.dr_session.specs.Reactions.{Reaction, assembling, awaiting, due, effect, store_pdus}
use Rattle.dr_session.specs.Reactions.{turn, write}
use Rattle.dr_session.specs.Statuses.{an_image, uid}
use Rattle.dr_session.specs.Turns.{Ends, Asks, Fails}

-- what an end keeps of its sending: what is pending, which messages it awaits, whether a push found
-- no row due, and the id of its last message
pub record Kept : Type 0 where
  pub pending : Option Pending
  pub listens : Awaited
  pub dry : Bool
  pub last : ℕ

abbrev pub keeps : Reaction → Option Kept
keeps (Ends x) = Some
    (record {
      pending = x.core.pending;
      listens = x.core.assembly.awaited;
      dry = x.core.dry;
      last = x.core.last;
    })
keeps (Asks call follow) = None
keeps Fails = None

abbrev pub kept : Option Pending → Awaited → Bool → ℕ → Option Kept
kept pending listens dry last =
    Some (record { pending = pending; listens = listens; dry = dry; last = last })

-- ---- an acceptance ends the wait for it

pub record Agreements (c : Core) (at : Moment) (agreed : Agreed) : Type 0 where
  pub taken : shows (turn at (awaited (requestor Sta5) c) (told.Agreement (Ok agreed)))
      ≡ shown 6 [] (ends_as.Ended Closed) None

-- ---- a response settles its row

-- the end that awaits the response to its store, message 7, since moment 0, and hears it
abbrev pub responded : Core → Moment → Text → Reaction
responded c at class = turn at
    (record (placed (requestor Sta6) c) {
      pending = Some (asked_for Store uid);
      awaits = Some 0;
      assembly = assembling (AnswerTo 7) c.assembly.stage;
    })
    (told.Whole 3 [] (StoreRsp 7 0 class uid false))

pub record Settlings (c : Core) (at : Moment) (class : Text) : Type 0 where
  pub shows_on : shows (on_answer (responded c at class) (Settling (Ok tt)))
      ≡ shown 6 [] (ends_as.Ended Closed) None
  pub goes_on : keeps (on_answer (responded c at class) (Settling (Ok tt)))
      ≡ kept None Nothing c.dry c.last
  pub settled_before : keeps (on_answer (responded c at class) (Settling (Err ledger.NotWaiting)))
      ≡ kept None Nothing c.dry c.last
  pub store_fails : shows (on_answer (responded c at class) (Settling (Err ledger.Store)))
      ≡ shown 13 (abort 0 0) ends_as.Desk None
  pub memory : on_answer (responded c at class) (Settling (Err ledger.Memory)) ≡ Fails

-- ---- a push finds nothing due

abbrev pub pushed : Core → Moment → Reaction
pushed c at = turn at (placed (requestor Sta6) c) (told.Plain input.PushAsked)

pub record Findings (c : Core) (at : Moment) : Type 0 where
  pub stays : shows (on_answer (pushed c at) (Upcoming (Ok None)))
      ≡ shown 6 [] (ends_as.Ended Closed) None
  pub dried : keeps (on_answer (pushed c at) (Upcoming (Ok None)))
      ≡ kept None c.assembly.awaited true c.last
  pub store_fails : shows (on_answer (pushed c at) (Upcoming (Err ledger.Store)))
      ≡ shown 13 (abort 0 0) ends_as.Desk None
  pub memory : on_answer (pushed c at) (Upcoming (Err ledger.Memory)) ≡ Fails

-- ---- a row goes over, or has no context

abbrev pub in_pairs : List Pair → Agreed
in_pairs pairs = record { pairs = pairs; limit = 16384 }

-- images in Explicit VR Little Endian, in the context 3
abbrev pub of_images : List Pair
of_images = record { id = 3; class = image; syntax = syntax_uid Explicit } ∷ []

-- the end agreed on these, its last message was message 6, and an image of that class and instance
-- is handed out
abbrev pub handed : List Pair → Core → Moment → Text → Text → Reaction
handed pairs c at class instance = due at
    (record (placed (requestor Sta6) c) { agreed = Some (in_pairs pairs); last = 6 })
    (Ok (Some (Whole (an_image class instance))))

pub record Handings (c : Core) (at : Moment) : Type 0 where
  pub goes : shows (handed of_images c at image uid)
      ≡ shown 6 (write (store_pdus (in_pairs of_images) 3 7 (an_image image uid)) ∷ [])
      (ends_as.Ended Closed) (Some at.now)
  pub awaits : keeps (handed of_images c at image uid)
      ≡ kept (Some (asked_for Store uid)) (AnswerTo 7) c.dry 7
  -- a desk that hands out what can't be named has failed
  pub nameless : shows (handed of_images c at image [])
      ≡ shown 13 (abort 0 0) ends_as.Desk None
  pub classless : shows (handed of_images c at [] uid)
      ≡ shown 13 (abort 0 0) ends_as.Desk None

-- nothing of a row without a context is written, and the end goes on
pub record WithoutContexts (c : Core) (at : Moment) : Type 0 where
  pub settles : calls (handed [] c at image uid) ≡ Some (Settle uid c.peer NoContext at.now)
  pub goes_on : shows (on_answer (handed [] c at image uid) (Settling (Ok tt)))
      ≡ shown 6 [] (ends_as.Ended Closed) None
  pub same : keeps (on_answer (handed [] c at image uid) (Settling (Ok tt)))
      ≡ kept None c.assembly.awaited c.dry 6
  pub settled_before : shows
      (on_answer (handed [] c at image uid) (Settling (Err ledger.NotWaiting)))
      ≡ shown 6 [] (ends_as.Ended Closed) None
  pub store_fails : shows (on_answer (handed [] c at image uid) (Settling (Err ledger.Store)))
      ≡ shown 13 (abort 0 0) ends_as.Desk None
  pub memory : on_answer (handed [] c at image uid) (Settling (Err ledger.Memory)) ≡ Fails

-- ---- the first row behind a rejection

abbrev pub refused_at : Core → Moment → AssociateRj → DeskAnswer → Reaction
refused_at c at rj answer =
    on_answer (turn at (awaited (requestor Sta5) c) (told.Plain (input.Rejection rj))) answer

-- It is settled as broken. The end closes, and is rejected, but where a store failed.
pub record RejectedRows (c : Core) (at : Moment) (rj : AssociateRj) (first : Text) : Type 0 where
  pub none : shows (refused_at c at rj (First (Ok None)))
      ≡ shown 1 closes (ends_as.Ended (Rejected rj)) None
  pub settles : calls (refused_at c at rj (First (Ok (Some first))))
      ≡ Some (Settle first c.peer Broken at.now)
  pub settled : shows (on_answer (refused_at c at rj (First (Ok (Some first)))) (Settling (Ok tt)))
      ≡ shown 1 closes (ends_as.Ended (Rejected rj)) None
  pub settled_before : shows
      (on_answer (refused_at c at rj (First (Ok (Some first)))) (Settling (Err ledger.NotWaiting)))
      ≡ shown 1 closes (ends_as.Ended (Rejected rj)) None
  pub store_fails : shows (refused_at c at rj (First (Err ledger.Store)))
      ≡ shown 1 closes ends_as.Desk None
  pub settling_fails : shows
      (on_answer (refused_at c at rj (First (Ok (Some first)))) (Settling (Err ledger.Store)))
      ≡ shown 1 closes ends_as.Desk None
  pub memory : refused_at c at rj (First (Err ledger.Memory)) ≡ Fails

-- ---- an echo

-- Verification in that syntax, in the context 1
abbrev pub of_verification : Text → List Pair
of_verification syntax = record { id = 1; class = verification; syntax = syntax } ∷ []

pub record EchoRequests (c : Core) (now : ℕ) : Type 0 where
  pub goes : echoes_by (Some (in_pairs (of_verification (syntax_uid Implicit)))) now
      (record c { last = 6 })
      ≡ effect (write (command_pdus 16384 1 (EchoRq 7 verification false)) ∷ [])
      (awaiting (echoing 7 1) now (record c { last = 6 }))
  -- in Implicit VR Little Endian alone, and in no context of another class
  pub another_syntax : echoes_by (Some (in_pairs (of_verification (syntax_uid Explicit)))) now c
      ≡ effect [] c
  pub another_class : echoes_by (Some (in_pairs of_images)) now c ≡ effect [] c
  pub unagreed : echoes_by None now c ≡ effect [] c

-- ---- what is no PDU

pub record FaultInputs : Type 0 where
  pub unknown : input_of pdu_fault.UnknownType ≡ input.Unknown
  pub long : input_of pdu_fault.TooLong ≡ input.Invalid
  pub item : input_of pdu_fault.BadItem ≡ input.Invalid
  pub context : input_of pdu_fault.BadContextId ≡ input.Invalid
