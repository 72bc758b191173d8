-- Sessions over a link: what is heard or asked, what it does, and all that is written, sent.
use Rattle.std.specs.Prelude.{◌≡◌, ◌⊎◌, ◌≤◌, ◌^◌, ◌+◌, ◌||◌, not, nat_le, ℕ, Bool, true, false}
use Rattle.std.specs.Prelude.{List, [], ◌∷◌, if◌then◌else◌, Some, None, Result, Ok, Err}
use Rattle.std.specs.declared.alloc.AllocError.{AllocError}
use Rattle.dr_base.specs.Texts.{Text}
use Rattle.dr_plan_sound.specs.declared.certificate.Hop.{Hop}
use Rattle.dr_site.specs.Parts.{Part}
use Rattle.dr_pdu.specs.declared.pdu.Pdu.TheVariants as pdu
use Rattle.dr_nego.specs.Agreeing.{AssociateRq}
use Rattle.dr_nego.specs.Fragments.{spellings}
use Rattle.dr_nego.specs.Proposing.{IsProposal, IsHopTo, echo_proposal}
use Rattle.dr_session.specs.declared.ends.Ended.{Ended}
use Rattle.dr_session.specs.declared.ends.Heard.{Heard}
use Rattle.dr_session.specs.declared.ends.Heard.TheVariants as heard
use Rattle.dr_session.specs.declared.ends.Input.{Input}
use Rattle.dr_session.specs.declared.ends.Input.TheVariants.{PushAsked, ReleaseAsked}
use Rattle.dr_session.specs.declared.ends.LinkAction.{LinkAction}
use Rattle.dr_session.specs.declared.ends.LinkAction.TheVariants.{Write, Close}
use Rattle.dr_session.specs.declared.ends.Moment.{Moment}
use Rattle.dr_session.specs.declared.ends.Over.{Over}
use Rattle.dr_session.specs.declared.ends.Over.TheVariants as over
use Rattle.dr_session.specs.declared.wishes.Kind.{Kind}
use Rattle.dr_session.specs.declared.wishes.Kind.TheVariants.{Receive, Deliver, EchoOnce}
use Rattle.dr_session.specs.declared.wishes.Wish.{Wish}
use Rattle.dr_session.specs.declared.wishes.Wish.TheVariants.{Listen, Push, Release, Echo}
use Rattle.dr_session.specs.declared.sessions.SessionFault.{SessionFault}
use Rattle.dr_session.specs.declared.sessions.SessionFault.TheVariants as fault
use Rattle.dr_session.specs.Desks.{DeskCall, DeskAnswer, Arrive, Next, Settle, Arrival, Upcoming}
use Rattle.dr_session.specs.Desks.{Settling, Due, First}
use Rattle.dr_nego.specs.declared.fault.NegoFault.{NegoFault}
use Rattle.dr_nego.specs.declared.fault.NegoFault.TheVariants as negofault
use Rattle.dr_ledger.specs.declared.item.Outcome.TheVariants.{Status}
use Rattle.dr_ledger.specs.declared.fault.LedgerFault.TheVariants as ledger
use Rattle.dr_ledger.specs.Replies.{HasRisen}
use Rattle.dr_session.specs.declared.echo_desk.EchoDesk.{EchoDesk}
use Rattle.dr_session.specs.declared.echo_desk.Echoed.{Echoed}
use Rattle.dr_session.specs.Ends.{Terminal, HearsOf, Meets, EchoesIn, over_of, is_free_in}
use Rattle.dr_session.specs.Ends.{is_dry_in, begins, requesting, requesting_echo}

-- ---- the count of failures

-- it never falls, and where the call failed it has risen
abbrev pub Counts : Type 0 → ℕ → ℕ → Type 0
Counts Failed before now = (before ≤ now) × (Failed → HasRisen before now)

abbrev pub IsLinkFault : Heard → Type 0
IsLinkFault heard.Fault = Unit {0}
IsLinkFault h = ⊥

-- ---- what is done on the link

-- the actions were done, in order, each write with success
abbrev pub Performs : {L : Type 0}
    → (L → List ℕ → Bool → L → Type 0)
    → (L → L → Type 0) → L → List LinkAction → L → Type 0
Performs sends closes k [] l = l ≡ k
Performs sends closes k (Write bytes ∷ acts) l =
    (m : _) × sends k bytes true m × Performs sends closes m acts l
Performs sends closes k (Close ∷ acts) l = (m : _) × closes k m × Performs sends closes m acts l

-- some of the first actions were done, and then a write failed
abbrev pub FailsToPerform : {L : Type 0}
    → (L → List ℕ → Bool → L → Type 0)
    → (L → L → Type 0) → L → List LinkAction → L → Type 0
FailsToPerform sends closes k [] l = ⊥
FailsToPerform sends closes k (Write bytes ∷ acts) l =
    sends k bytes false l ⊎ ((m : _) × sends k bytes true m × FailsToPerform sends closes m acts l)
FailsToPerform sends closes k (Close ∷ acts) l =
    (m : _) × closes k m × FailsToPerform sends closes m acts l

abbrev pub PerformsOr : {L : Type 0}
    → (L → List ℕ → Bool → L → Type 0)
    → (L → L → Type 0) → Bool → L → List LinkAction → L → Type 0
PerformsOr sends closes true k acts l = Performs sends closes k acts l
PerformsOr sends closes false k acts l = FailsToPerform sends closes k acts l

abbrev pub PerformsOne : {L : Type 0}
    → (L → List ℕ → Bool → L → Type 0)
    → (L → L → Type 0) → Bool → L → LinkAction → L → Type 0
PerformsOne sends closes ok k (Write bytes) l = sends k bytes ok l
PerformsOne sends closes ok k Close l = (ok ≡ true) × closes k l

-- ---- what a session wants of its end

-- what is done at the end, at a moment: something came over the link, or something was asked of it
pub data EndDoing : Type 0 where
  Hears : (moment : Moment) → (came : Heard) → EndDoing
  Asks : (moment : Moment) → (input : Input) → EndDoing
  Echoes : (moment : Moment) → EndDoing

-- An acceptor listens.
abbrev pub receives : ℕ → Terminal → Wish
receives asked terminal = Listen

-- A requestor that may send pushes rows until none is due, at most 65,535 of them, and then asks
-- for the release.
abbrev pub delivers : ℕ → Terminal → Wish
delivers asked terminal =
    if not (is_free_in terminal.core) || nat_le 65536 asked
    then Listen
    else if is_dry_in terminal.core || nat_le 65535 asked then Release else Push

-- One asks for an echo, and then for the release.
abbrev pub echoes : ℕ → Terminal → Wish
echoes asked terminal =
    if not (is_free_in terminal.core) || nat_le 2 asked
    then Listen
    else if nat_le 1 asked then Release else Echo

abbrev pub wants : Kind → ℕ → Terminal → Wish
wants Receive asked terminal = receives asked terminal
wants Deliver asked terminal = delivers asked terminal
wants EchoOnce asked terminal = echoes asked terminal

abbrev pub IsWished : Wish → EndDoing → Type 0
IsWished Listen (Hears at came) = Unit {0}
IsWished Push (Asks at input) = input ≡ PushAsked
IsWished Release (Asks at input) = input ≡ ReleaseAsked
IsWished Echo (Echoes at) = Unit {0}
IsWished wish x = ⊥

-- how often something was asked
abbrev pub asked_after : EndDoing → ℕ → ℕ
asked_after (Hears at came) asked = asked
asked_after x asked = asked + 1

-- how many reads of the link are among them
abbrev pub reads : List EndDoing → ℕ
reads [] = 0
reads (Hears moment came ∷ xs) = reads xs + 1
reads (x ∷ xs) = reads xs

-- ---- sessions

-- what a session answers whose end is over
abbrev pub Finishes : Over → Result Ended SessionFault → Type 0
Finishes (over.Ended ended) result = result ≡ Ok ended
Finishes over.Desk result = result ≡ Err fault.Desk
Finishes over.Memory result = result ≡ Err fault.Memory

-- a link, a port and an end
pub record Place (L S : Type 0) : Type 0 where
  pub link : L
  pub port : S
  pub terminal : Terminal

abbrev pub place : {L S : Type 0} → L → S → Terminal → Place L S
place link port terminal = record { link = link; port = port; terminal = terminal }

-- a moment that the clock may tell, and the number of the node's other associations
abbrev pub IsMoment : (ℕ → Type 0) → ℕ → Moment → Type 0
IsMoment tells others at = tells at.now × (at.others ≡ others)

-- The end's actions are performed. Where a write fails the end is told that the link is gone, and
-- what it then wants to be written is dropped.
abbrev pub CarriesOut : {L S : Type 0}
    → (L → List ℕ → Bool → L → Type 0)
    → (L → L → Type 0)
    → (S → DeskCall → DeskAnswer → S → Type 0)
    → Moment → List LinkAction → Place L S
    → Result (Unit {0}) SessionFault
    → Place L S → Type 0
CarriesOut sends closes step at acts mid (Ok done) new =
    Performs sends closes mid.link acts new.link
    × (new.port ≡ mid.port)
    × (new.terminal ≡ mid.terminal)
CarriesOut sends closes step at acts mid (Err fault.Write) new =
    FailsToPerform sends closes mid.link acts new.link
    × ((dropped : List LinkAction)
    × HearsOf step heard.Fault at mid.terminal mid.port (Ok dropped) new.terminal new.port)
CarriesOut sends closes step at acts mid (Err fault.Memory) new =
    FailsToPerform sends closes mid.link acts new.link
    × ((e : AllocError)
    × HearsOf step heard.Fault at mid.terminal mid.port (Err e) new.terminal new.port)
CarriesOut sends closes step at acts mid (Err why) new = ⊥

module _ {L S : Type 0} (hears : L → Heard → L → Type 0) (sends : L → List ℕ → Bool → L → Type 0)
    (closes : L → L → Type 0) (step : S → DeskCall → DeskAnswer → S → Type 0) (tells : ℕ → Type 0)
    (others : ℕ) where
  -- the doing, before the end's actions are performed
  abbrev pub Does : EndDoing → Place L S → Result (List LinkAction) AllocError → Place L S → Type 0
  Does (Hears at came) old result new =
      IsMoment tells others at
      × hears old.link came new.link
      × HearsOf step came at old.terminal old.port result new.terminal new.port
  Does (Asks at input) old result new =
      IsMoment tells others at × (new.link ≡ old.link)
      × Meets step at input old.terminal old.port result new.terminal new.port
  Does (Echoes at) old result new =
      IsMoment tells others at × (new.link ≡ old.link) × (new.port ≡ old.port)
      × EchoesIn old.terminal.core at.now old.terminal result new.terminal

  -- the end's actions, in order; a fault of the link is none of them
  abbrev pub Performed : EndDoing → Place L S → List LinkAction → Place L S → Type 0
  Performed (Hears at heard.Fault) mid acts new = ⊥
  Performed x mid acts new =
      Performs sends closes mid.link acts new.link
      × (new.port ≡ mid.port)
      × (new.terminal ≡ mid.terminal)

  -- the doing, with all of its actions
  abbrev pub Did : Place L S → EndDoing → Place L S → Type 0
  Did old x new =
      (acts : List LinkAction) × (mid : Place L S) × Does x old (Ok acts) mid
      × Performed x mid acts new

  -- A write failed. The end is told that the link is gone, so that what is pending is settled; what
  -- it then wants to be written is dropped.
  abbrev pub Leaves : Terminal → S → Result (List LinkAction) AllocError → S → Type 0
  Leaves old s result t =
      (at : Moment) × (new : Terminal) × IsMoment tells others at
      × HearsOf step heard.Fault at old s result new t

  -- Why a session stops in the midst of such a doing. A fault of the link is heard as its end, so
  -- that what is pending is settled. Memory ends in the doing, or while leaving.
  abbrev pub Stops : (EndDoing → Type 0) → SessionFault → Place L S → L → S → Type 0
  Stops Is fault.Read old l t =
      (at : Moment) × (acts : List LinkAction) × (new : Terminal)
      × Is (Hears at heard.Fault)
      × Does (Hears at heard.Fault) old (Ok acts) (place l t new)
  Stops Is fault.Write old l t =
      (x : EndDoing)
      × (acts dropped : List LinkAction)
      × (mid : Place L S) × Is x × Does x old (Ok acts) mid
      × FailsToPerform sends closes mid.link acts l
      × Leaves mid.terminal mid.port (Ok dropped) t
  Stops Is fault.Memory old l t =
      ((x : EndDoing) × (e : AllocError) × (new : Terminal) × Is x
      × Does x old (Err e) (place l t new))
      ⊎ ((x : EndDoing) × (acts : List LinkAction) × (e : AllocError) × (mid : Place L S) × Is x
      × Does x old (Ok acts) mid
      × FailsToPerform sends closes mid.link acts l
      × Leaves mid.terminal mid.port (Err e) t)
  Stops Is why old l t = ⊥

  -- one such doing, or why the session stops
  abbrev pub GoesOn : (EndDoing → Type 0)
      → Result (Unit {0}) SessionFault
      → Place L S → Place L S → Type 0
  GoesOn Is (Ok done) old new = (x : EndDoing) × Is x × Did old x new
  GoesOn Is (Err why) old new = Stops Is why old new.link new.port

  -- What was done, one after the other, each as it was wished of an end that wasn't over. The
  -- number says how often something had been asked before.
  abbrev pub Served : Kind → ℕ → Place L S → List EndDoing → ℕ → Place L S → Type 0
  Served kind asked old [] told new = (told ≡ asked) × (new ≡ old)
  Served kind asked old (x ∷ xs) told new =
      (over_of old.terminal.core ≡ None)
      × IsWished (wants kind asked old.terminal) x
      × ((mid : Place L S) × Did old x mid × Served kind (asked_after x asked) mid xs told new)

  -- it stops in the midst of a doing, or its end is gone for want of memory
  abbrev pub StopsAt : Kind → SessionFault → ℕ → Place L S → L → S → Type 0
  StopsAt kind fault.Memory asked old l t =
      ((over_of old.terminal.core ≡ Some over.Memory) × (l ≡ old.link) × (t ≡ old.port))
      ⊎ Stops (IsWished (wants kind asked old.terminal)) fault.Memory old l t
  StopsAt kind why asked old l t = Stops (IsWished (wants kind asked old.terminal)) why old l t

  -- A session from there on: how it ended. Memory may end before the first doing, or in the midst
  -- of one, and not between them.
  abbrev pub EndsAs : Kind → Result Ended SessionFault → Place L S → L → S → Type 0
  EndsAs kind (Ok ended) old l t =
      (xs : List EndDoing) × (asked : ℕ) × (new : Terminal)
      × Served kind 0 old xs asked (place l t new)
      × (over_of new.core ≡ Some (over.Ended ended))
  EndsAs kind (Err fault.Desk) old l t =
      (xs : List EndDoing) × (asked : ℕ) × (new : Terminal)
      × Served kind 0 old xs asked (place l t new)
      × (over_of new.core ≡ Some over.Desk)
  EndsAs kind (Err fault.TooManyReads) old l t =
      (xs : List EndDoing) × (asked : ℕ) × (new : Terminal)
      × Served kind 0 old xs asked (place l t new)
      × (reads xs ≡ 2 ^ 40)
  EndsAs kind (Err fault.Memory) old l t =
      ((l ≡ old.link) × (t ≡ old.port))
      ⊎ ((xs : List EndDoing) × (asked : ℕ) × (mid : Place L S)
      × Served kind 0 old xs asked mid
      × StopsAt kind fault.Memory asked mid l t)
  EndsAs kind (Err why) old l t =
      (xs : List EndDoing) × (asked : ℕ) × (mid : Place L S)
      × Served kind 0 old xs asked mid
      × StopsAt kind why asked mid l t

  -- a requestor's session: its request goes out, and then the session; or the write failed
  abbrev pub Begins : Kind → Bool
      → Result Ended SessionFault
      → L → List ℕ → S → Terminal → L → S → Type 0
  Begins kind true result k bytes s terminal l t =
      (m : L) × sends k bytes true m × EndsAs kind result (place m s terminal) l t
  Begins kind false (Err fault.Write) k bytes s terminal l t =
      sends k bytes false l × ((dropped : List LinkAction) × Leaves terminal s (Ok dropped) t)
  Begins kind false (Err fault.Memory) k bytes s terminal l t =
      sends k bytes false l × ((e : AllocError) × Leaves terminal s (Err e) t)
  Begins kind false result k bytes s terminal l t = ⊥

  -- the same, of the one action of an end that asks for an association
  abbrev pub StartsAs : Kind
      → Result Ended SessionFault
      → L → List LinkAction → S → Terminal → L → S → Type 0
  StartsAs kind result k acts s terminal l t =
      (bytes : List ℕ) → acts ≡ Write bytes ∷ []
      → (sent : Bool) × Begins kind sent result k bytes s terminal l t

  -- A session for a hop of the site. Its request is the site's proposal, at a moment that the clock
  -- told.
  abbrev pub SessionTo : Part → Text → Result Ended SessionFault → L → S → L → S → Type 0
  SessionTo site dest result k s l t =
      ((hop : Hop) × IsHopTo site dest hop)
      × (rq : AssociateRq) × (now : ℕ) × (sent : Bool) × IsProposal site dest rq × tells now
      × Begins Deliver sent result k (spellings (pdu.AssociateRq rq ∷ [])) s
      (begins site.max_pdu (requesting (Some site) dest rq now)) l t

  -- There is no hop (and nothing was called), memory ended before the request went out over one, or
  -- it is a session.
  abbrev pub DeliversAs : Part → Text → Result Ended SessionFault → L → S → L → S → Type 0
  DeliversAs site dest (Ok ended) k s l t = SessionTo site dest (Ok ended) k s l t
  DeliversAs site dest (Err fault.NoHop) k s l t =
      ((hop : Hop) → IsHopTo site dest hop → ⊥) × (l ≡ k) × (t ≡ s)
  DeliversAs site dest (Err fault.Memory) k s l t =
      (((hop : Hop) × IsHopTo site dest hop) × (l ≡ k) × (t ≡ s))
      ⊎ SessionTo site dest (Err fault.Memory) k s l t
  DeliversAs site dest (Err why) k s l t = SessionTo site dest (Err why) k s l t

-- why a requestor has no session
abbrev pub refusal_of : NegoFault → SessionFault
refusal_of negofault.NoHop = fault.NoHop
refusal_of why = fault.Memory

-- ---- echoes

-- The desk of an echo keeps the status of the response that settles it. Nothing is due there, and
-- nothing arrives.
abbrev pub EchoStep : EchoDesk → DeskCall → DeskAnswer → EchoDesk → Type 0
EchoStep old (Arrive caller item) (Arrival reply) new = (reply ≡ Err ledger.NoLine) × (new ≡ old)
EchoStep old (Next dest now) (Upcoming due) new = (due ≡ Ok None) × (new ≡ old)
EchoStep old (Due dest now) (First found) new = (found ≡ Ok None) × (new ≡ old)
EchoStep old (Settle uid dest (Status status) now) (Settling answer) new =
    (answer ≡ Ok tt) × (new ≡ record { status = Some status })
EchoStep old (Settle uid dest outcome now) (Settling answer) new = (answer ≡ Ok tt) × (new ≡ old)
EchoStep old call answer new = ⊥

module _ {L : Type 0} (hears : L → Heard → L → Type 0) (sends : L → List ℕ → Bool → L → Type 0)
    (closes : L → L → Type 0) (tells : ℕ → Type 0) where
  abbrev pub EchoSession : Text → Text → Result Ended SessionFault → L → L → EchoDesk → Type 0
  EchoSession caller called result k l t =
      (now : ℕ) × (sent : Bool) × tells now
      × Begins hears sends closes EchoStep tells 0 EchoOnce sent result k
      (spellings (pdu.AssociateRq (echo_proposal caller called) ∷ [])) (record { status = None })
      (requesting_echo caller called now) l t

  -- How an echo ends: as its association does, with the status of the response, if one came. Memory
  -- may end before the request went out.
  abbrev pub EchoesAs : Text → Text → Result Echoed SessionFault → L → L → Type 0
  EchoesAs caller called (Ok x) k l =
      EchoSession caller called (Ok x.ended) k l (record { status = x.status })
  EchoesAs caller called (Err fault.Memory) k l =
      (l ≡ k) ⊎ ((t : EchoDesk) × EchoSession caller called (Err fault.Memory) k l t)
  EchoesAs caller called (Err why) k l = (t : EchoDesk) × EchoSession caller called (Err why) k l t

-- the counts of reads and of what was asked, behind a wish
abbrev pub reads_by : Wish → ℕ → ℕ
reads_by Listen reads = reads + 1
reads_by wish reads = reads

abbrev pub asked_by : Wish → ℕ → ℕ
asked_by Listen asked = asked
asked_by wish asked = asked + 1

-- Read and Write say that a call of the link failed.
abbrev pub IsLinkFailure : {X : Type 0} → Result X SessionFault → Type 0
IsLinkFailure (Err fault.Read) = Unit {0}
IsLinkFailure (Err fault.Write) = Unit {0}
IsLinkFailure result = ⊥
