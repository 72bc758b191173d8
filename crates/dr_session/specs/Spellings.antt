-- Worked figures of what an end writes, byte by byte: responses to ids of two different bytes in
-- contexts other than 1, within a short limit too; the message id behind 65,535; the reserved bytes
-- of an association.
use Rattle.std.specs.Prelude.{◌≡◌, ℕ, List, [], ◌∷◌, ◌++◌, take, drop, codes, replicate, false}
use Rattle.std.specs.Prelude.{None, Some}
use Rattle.dr_base.specs.Texts.{Text}
use Rattle.dr_ulstate.specs.declared.table.State.TheVariants.{Sta6}
use Rattle.dr_pdu.specs.declared.pdu.Pdu.TheVariants as pdu
use Rattle.dr_dimse.specs.declared.command.Command.TheVariants.{EchoRq}
use Rattle.dr_nego.specs.declared.agreed.Agreed.{Agreed}
use Rattle.dr_nego.specs.Agreeing.{AssociateRq}
use Rattle.dr_nego.specs.Answering.{acceptance_of}
use Rattle.dr_base.specs.Standard.{verification, image}
use Rattle.dr_nego.specs.Figures.{archive_site, gate, proposal, other}
use Rattle.dr_plan_sound.specs.Samples.{archive}
use Rattle.dr_nego.specs.Fragments.{spellings}
use Rattle.dr_nego.specs.Proposing.{echo_proposal}
use Rattle.dr_session.specs.declared.ends.Core.{Core}
use Rattle.dr_session.specs.declared.ends.Ended.TheVariants.{Closed}
use Rattle.dr_session.specs.declared.ends.Found.TheVariants.{Read, Nameless, Unreadable, TooLarge}
use Rattle.dr_session.specs.declared.ends.Moment.{Moment}
use Rattle.dr_session.specs.declared.ends.Over.TheVariants as ends_as
use Rattle.dr_session.specs.declared.ends.Told.{Told}
use Rattle.dr_session.specs.declared.ends.Told.TheVariants.{Store, Whole}
use Rattle.dr_session.specs.Figures.{acceptor, placed, sends, shown, shows}
use Rattle.dr_session.specs.Messages.{data_pdus}
use Rattle.dr_session.specs.Reactions.{awaiting, effect, gives_in, id_after, storing, turn}
use Rattle.dr_session.specs.Statuses.{an_image, uid}
use Rattle.dr_session.specs.Turns.{Ends}

-- the other side takes PDUs of at most that length
abbrev pub within : ℕ → Agreed
within limit = record { pairs = []; limit = limit }

-- an established acceptor writes just this
abbrev pub AcceptorWrites : ℕ → Core → Moment → Told → List ℕ → Type 0
AcceptorWrites limit c at told bytes =
    shows (turn at (record (placed (acceptor Sta6) c) { agreed = Some (within limit) }) told)
    ≡ shown 6 (sends bytes) (ends_as.Ended Closed) None

-- a P-DATA-TF of at most 255 bytes: its length, that of its one value, the context and the header
abbrev pub transfer : ℕ → ℕ → ℕ → ℕ → List ℕ → List ℕ
transfer len value context header fragment =
    4 ∷ 0 ∷ 0 ∷ 0 ∷ 0 ∷ len ∷ 0 ∷ 0 ∷ 0 ∷ value ∷ context ∷ header ∷ fragment

-- ---- the response to a C-ECHO-RQ (PS3.7 9.3.5.2)

-- Its 78 bytes, to the message 0203H and by the two bytes of its status: the group length, 66; the
-- class; the field 8030H; the message that it answers (0000,0120); no data set; the status
-- (0000,0900).
abbrev pub echo_answer : ℕ → ℕ → List ℕ
echo_answer low high =
    0 ∷ 0 ∷ 0 ∷ 0 ∷ 4 ∷ 0 ∷ 0 ∷ 0 ∷ 66 ∷ 0 ∷ 0 ∷ 0 ∷ 0 ∷ 0 ∷ 2 ∷ 0 ∷ 18 ∷ 0 ∷ 0 ∷ 0
    ∷ (verification
    ++ 0 ∷ 0 ∷ 0 ∷ 0 ∷ 1 ∷ 2 ∷ 0 ∷ 0 ∷ 0 ∷ 0x30 ∷ 0x80 ∷ 0 ∷ 0 ∷ 0x20 ∷ 1 ∷ 2 ∷ 0 ∷ 0 ∷ 0 ∷ 3 ∷ 2
    ∷ 0 ∷ 0 ∷ 0 ∷ 8 ∷ 2 ∷ 0 ∷ 0 ∷ 0 ∷ 1 ∷ 1 ∷ 0 ∷ 0 ∷ 0 ∷ 9 ∷ 2 ∷ 0 ∷ 0 ∷ 0 ∷ low ∷ high ∷ [])

-- the request, in a context of that class
abbrev pub echo_in : ℕ → Text → Told
echo_in context of = Whole context of (EchoRq 0x0203 verification false)

pub record EchoAnswers (c : Core) (at : Moment) : Type 0 where
  pub success :
      AcceptorWrites 16384 c at (echo_in 5 verification) (transfer 84 80 5 3 (echo_answer 0 0))
  -- another class than the context's: 0122H
  pub misplaced :
      AcceptorWrites 16384 c at (echo_in 255 image) (transfer 84 80 255 3 (echo_answer 0x22 1))
  -- no limit
  pub unlimited :
      AcceptorWrites 0 c at (echo_in 5 verification) (transfer 84 80 5 3 (echo_answer 0 0))
  -- an end that agreed on nothing knows no limit
  pub unagreed : shows
      (turn at (record (placed (acceptor Sta6) c) { agreed = None }) (echo_in 5 verification))
      ≡ shown 6 (sends (transfer 84 80 5 3 (echo_answer 0 0))) (ends_as.Ended Closed) None
  -- PDUs of at most 32 bytes: three, each with 26 bytes of the response, and the last one marked
  pub short : AcceptorWrites 32 c at (echo_in 5 verification)
      (transfer 32 28 5 1 (take 26 (echo_answer 0 0))
      ++ (transfer 32 28 5 1 (take 26 (drop 26 (echo_answer 0 0)))
      ++ transfer 32 28 5 3 (drop 52 (echo_answer 0 0))))

-- ---- the response to a C-STORE-RQ (PS3.7 9.3.1.2)

-- Its 102 bytes, as above: the group length, 90; the class; the field 8001H; the message that it
-- answers; no data set; the status; the instance.
abbrev pub store_answer : ℕ → ℕ → List ℕ
store_answer low high =
    0 ∷ 0 ∷ 0 ∷ 0 ∷ 4 ∷ 0 ∷ 0 ∷ 0 ∷ 90 ∷ 0 ∷ 0 ∷ 0 ∷ 0 ∷ 0 ∷ 2 ∷ 0 ∷ 26 ∷ 0 ∷ 0 ∷ 0
    ∷ (image
    ++ 0 ∷ 0 ∷ 0 ∷ 0 ∷ 1 ∷ 2 ∷ 0 ∷ 0 ∷ 0 ∷ 1 ∷ 0x80 ∷ 0 ∷ 0 ∷ 0x20 ∷ 1 ∷ 2 ∷ 0 ∷ 0 ∷ 0 ∷ 3 ∷ 2 ∷ 0
    ∷ 0 ∷ 0 ∷ 8 ∷ 2 ∷ 0 ∷ 0 ∷ 0 ∷ 1 ∷ 1 ∷ 0 ∷ 0 ∷ 0 ∷ 9 ∷ 2 ∷ 0 ∷ 0 ∷ 0 ∷ low ∷ high ∷ 0 ∷ 0 ∷ 0
    ∷ 0x10 ∷ 8 ∷ 0 ∷ 0 ∷ 0 ∷ (uid ++ 0 ∷ []))

pub record StoreAnswers (c : Core) (at : Moment) : Type 0 where
  -- too large: A700H
  pub large : AcceptorWrites 16384 c at (Store 7 image 0x0203 image uid TooLarge)
      (transfer 108 104 7 3 (store_answer 0 0xA7))
  -- it can't be read: C000H
  pub unreadable : AcceptorWrites 16384 c at (Store 7 image 0x0203 image uid Unreadable)
      (transfer 108 104 7 3 (store_answer 0 0xC0))
  -- it can be read, and lacks its class or its UID: A900H
  pub nameless : AcceptorWrites 16384 c at (Store 7 image 0x0203 image uid Nameless)
      (transfer 108 104 7 3 (store_answer 0 0xA9))
  -- another class than the context's: 0122H
  pub misplaced : AcceptorWrites 16384 c at (Store 3 other 0x0203 image uid Unreadable)
      (transfer 108 104 3 3 (store_answer 0x22 1))
  -- another instance than the command names: A900H
  pub another : AcceptorWrites 16384 c at
      (Store 7 image 0x0203 image uid (Read (an_image image other)))
      (transfer 108 104 7 3 (store_answer 0 0xA9))

-- ---- message ids (PS3.7 9.1.1.1.1: a number of two bytes)

-- The C-STORE-RQ of an instance without a data set, by the two bytes of its id: the group length,
-- 90; the class; the field 0001H; the message id (0000,0110); the priority; a data set; the
-- instance.
abbrev pub store_request : ℕ → ℕ → List ℕ
store_request low high =
    0 ∷ 0 ∷ 0 ∷ 0 ∷ 4 ∷ 0 ∷ 0 ∷ 0 ∷ 90 ∷ 0 ∷ 0 ∷ 0 ∷ 0 ∷ 0 ∷ 2 ∷ 0 ∷ 26 ∷ 0 ∷ 0 ∷ 0
    ∷ (image
    ++ 0 ∷ 0 ∷ 0 ∷ 0 ∷ 1 ∷ 2 ∷ 0 ∷ 0 ∷ 0 ∷ 1 ∷ 0 ∷ 0 ∷ 0 ∷ 0x10 ∷ 1 ∷ 2 ∷ 0 ∷ 0 ∷ 0 ∷ low ∷ high ∷ 0
    ∷ 0 ∷ 0 ∷ 7 ∷ 2 ∷ 0 ∷ 0 ∷ 0 ∷ 0 ∷ 0 ∷ 0 ∷ 0 ∷ 0 ∷ 8 ∷ 2 ∷ 0 ∷ 0 ∷ 0 ∷ 1 ∷ 0 ∷ 0 ∷ 0 ∷ 0 ∷ 0x10
    ∷ 8 ∷ 0 ∷ 0 ∷ 0 ∷ (uid ++ 0 ∷ []))

-- an end whose last message had that id
abbrev pub at_last : ℕ → Core → Core
at_last id c = record c { last = id }

pub record MessageIds (c : Core) (at : Moment) : Type 0 where
  pub first : id_after 0 ≡ 1
  pub next : id_after 258 ≡ 259
  pub greatest : id_after 65534 ≡ 65535
  pub again : id_after 65535 ≡ 1
  -- what goes over behind 65,534 is message 65,535, and behind that message 1, each in the context
  -- 3; it awaits its response
  pub goes_last : gives_in (Some 3) (within 16384) at (an_image image uid) (at_last 65534 c)
      ≡ Ends
      (effect (sends (transfer 108 104 3 3 (store_request 255 255) ++ transfer 6 2 3 2 []))
      (awaiting (storing 65535 3 uid) at.now (at_last 65534 c)))
  pub goes_over : gives_in (Some 3) (within 16384) at (an_image image uid) (at_last 65535 c)
      ≡ Ends
      (effect (sends (transfer 108 104 3 3 (store_request 1 0) ++ transfer 6 2 3 2 []))
      (awaiting (storing 1 3 uid) at.now (at_last 65535 c)))

-- ---- a data set

-- with no limit it is in one P-DATA-TF, and within 8 bytes in as many as it takes
pub record DataSets : Type 0 where
  pub unlimited : spellings (data_pdus 0 5 (1 ∷ 2 ∷ 3 ∷ [])) ≡ transfer 9 5 5 2 (1 ∷ 2 ∷ 3 ∷ [])
  pub short : spellings (data_pdus 8 5 (1 ∷ 2 ∷ 3 ∷ []))
      ≡ transfer 8 4 5 0 (1 ∷ 2 ∷ []) ++ transfer 7 3 5 2 (3 ∷ [])

-- ---- the 32 reserved bytes of an association (PS3.8 9.3.2, 9.3.3)

-- they stand behind the header, the version and the titles
abbrev pub reserved_in : List ℕ → List ℕ
reserved_in bytes = take 32 (drop 42 bytes)

-- as another product may send them
abbrev pub counted : List ℕ
counted =
    1 ∷ 2 ∷ 3 ∷ 4 ∷ 5 ∷ 6 ∷ 7 ∷ 8 ∷ 9 ∷ 10 ∷ 11 ∷ 12 ∷ 13 ∷ 14 ∷ 15 ∷ 16 ∷ 17 ∷ 18 ∷ 19 ∷ 20 ∷ 21
    ∷ 22 ∷ 23 ∷ 24 ∷ 25 ∷ 26 ∷ 27 ∷ 28 ∷ 29 ∷ 30 ∷ 31 ∷ 32 ∷ []

abbrev pub strange_proposal : AssociateRq
strange_proposal = record proposal {
  front = record { version = 1; called = archive; calling = gate; reserved = counted };
}

-- 0 in a request, and in an acceptance what the request had
pub record ReservedBytes : Type 0 where
  pub asked :
      reserved_in (spellings (pdu.AssociateRq (echo_proposal gate archive) ∷ [])) ≡ replicate 32 0
  pub answered :
      reserved_in (spellings (pdu.AssociateAc (acceptance_of strange_proposal archive_site) ∷ []))
      ≡ counted
