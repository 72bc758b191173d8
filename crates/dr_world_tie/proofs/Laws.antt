-- Laws of the definitions by which steps are told.
use Rattle.std.proofs.Common.{◌≡◌, ℕ, ◌≤◌, true, false, refl, sym, ap, subst, ◌∙◌, inl, inr, ◌⊎◌, length, arith}
use Rattle.std.specs.Prelude.{min, List, Option, Result, Ok, Err}
use Rattle.std.proofs.Math.Nat.{min-eq_left, min-eq_right}
use Rattle.std.proofs.lemmas.Bool.{false≢true}
use Rattle.std.proofs.lemmas.Option.{same_Some}
use Rattle.dr_base.specs.Texts.{Text}
use Rattle.dr_ulstate.specs.declared.table.State.TheVariants.{Sta1, Sta2, Sta3, Sta4, Sta5, Sta6, Sta7, Sta8, Sta9, Sta10, Sta11, Sta12, Sta13}
use Rattle.dr_ledger.specs.Items.{instance_of}
use Rattle.dr_ledger.specs.Replies.{IsNext, Reply}
use Rattle.dr_ledger.specs.declared.content.Job.{Job}
use Rattle.dr_ledger.specs.declared.fault.LedgerFault.{LedgerFault}
use Rattle.dr_ledger.specs.declared.item.Instance.{Instance}
use Rattle.dr_session.specs.declared.ends.Core.{Core}
use Rattle.dr_session.specs.declared.ends.Input.TheVariants as input
use Rattle.dr_session.specs.Ends.{HearsOf}
use Rattle.dr_world_model.specs.Calls.{Answer}
use Rattle.dr_world_model.specs.Events as event
use Rattle.dr_world_model.specs.Events.{Event}
use Rattle.dr_world_model.specs.Steps.{IsLink}
use Rattle.dr_world_model.specs.Worlds.{Contexts, Link, World}
use Rattle.dr_world_tie.specs.ByteWorlds.{Submit, Open, Away, Push, Abort, Release, Close, Late}
use Rattle.dr_world_tie.specs.ByteWorlds.{Restart, Requeue, Drop, Forget, Tick, Refuse}
use Rattle.dr_world_tie.specs.ByteWorlds.{Side, Requestor, Acceptor, Done, Skipped, Refused}
use Rattle.dr_world_tie.specs.ByteWorlds.{UnderWay, note_of}
use Rattle.dr_world_tie.specs.Desks.{LedgerStep}
use Rattle.dr_world_tie.specs.ForeignLinks.{end_of}
use Rattle.dr_world_tie.specs.ForeignWorlds.{OwnEnd}
use Rattle.dr_world_tie.specs.MixedWorlds.{MayAsk}
use Rattle.dr_world_tie.specs.Laws.{EndsMayBeAsked, EndsMayMeet, IsBreak, MovesAreOfTheirEnds}
use Rattle.dr_world_tie.specs.Laws.{MovesAreWhole, NoRequestIsWritten, OpenFromSixToTwelve}
use Rattle.dr_world_tie.specs.Laws.{StepsAreOfTheirKind, TakesOverNothingOn, WhatComesComesNow}
use Rattle.dr_world_tie.specs.Laws.{WhatIsNoBytesMayCome, WhatIsToldIsSeen, WhatMayBeIsDone}
use Rattle.dr_world_tie.specs.Laws.{WhatNodesAreToldIsDone}
use Rattle.dr_world_tie.specs.Moves.{IsOfCaller, IsOfReceiver}
use Rattle.dr_world_tie.specs.Shown.{IsNamed, IsOffAt, is_on}

-- ---- which events a step may be

receives : (number : ℕ) (e : Event)
    → IsOfReceiver number e
    → ((answer : Option Contexts) × (e ≡ event.AgreeReceiver number answer))
    ⊎ (((reply : Reply) × (e ≡ event.Receive number reply)) ⊎ (e ≡ event.BreakReceiver number))
receives number (event.AgreeReceiver link answer) h =
    inl (answer, ap (λ (n : ℕ). event.AgreeReceiver n answer) h)
receives number (event.Receive link reply) h =
    inr (inl (reply, ap (λ (n : ℕ). event.Receive n reply) h))
receives number (event.BreakReceiver link) h = inr (inr (ap event.BreakReceiver h))
receives number e h = absurd h

reads : (number : ℕ) (e : Event)
    → IsOfCaller number e
    → ((answer : Option Answer) × (e ≡ event.AgreeCaller number answer))
    ⊎ (((answer : Answer) × (e ≡ event.Answered number answer))
    ⊎ ((answer : Option Answer) × (e ≡ event.BreakCaller number answer)))
reads number (event.AgreeCaller link answer) h =
    inl (answer, ap (λ (n : ℕ). event.AgreeCaller n answer) h)
reads number (event.Answered link answer) h =
    inr (inl (answer, ap (λ (n : ℕ). event.Answered n answer) h))
reads number (event.BreakCaller link answer) h =
    inr (inr (answer, ap (λ (n : ℕ). event.BreakCaller n answer) h))
reads number e h = absurd h

pub moves_are_of_their_ends : MovesAreOfTheirEnds
moves_are_of_their_ends = record { receiver = receives; caller = reads }

submitted : (node : Text) (item : Job) (e : Event)
    → IsNamed (Submit node item) e
    → (reply : Reply) × (e ≡ event.Take node (instance_of item) reply)
submitted node item (event.Take name instance reply) h = (
  reply,
  ap (λ (n : Text). event.Take n instance reply) h.0
      ∙ ap (λ (i : Instance). event.Take node i reply) h.1,
)
submitted node item e h = absurd h

opened : (from to : Text) (e : Event) → IsNamed (Open from to) e → e ≡ event.Ask from to
opened from to (event.Ask caller receiver) h =
    ap (λ (n : Text). event.Ask n receiver) h.0 ∙ ap (event.Ask from) h.1
opened from to e h = absurd h

stayed : (from to : Text) (e : Event)
    → IsNamed (Away from to) e
    → (uid : Text) × (answer : Answer) × (e ≡ event.StayAway from uid to answer)
stayed from to (event.StayAway node uid dest answer) h = (
  uid,
  answer,
  ap (λ (n : Text). event.StayAway n uid dest answer) h.0
      ∙ ap (λ (d : Text). event.StayAway from uid d answer) h.1,
)
stayed from to e h = absurd h

left : (number link : ℕ) (answer : Option Answer) → link ≡ number
    → IsBreak number Requestor (event.BreakCaller link answer)
left number link answer h = (answer, ap (λ (n : ℕ). event.BreakCaller n answer) h)

pushed : (number : ℕ) (e : Event)
    → IsNamed (Push number) e
    → ((answer : Option Answer) × (e ≡ event.Give number answer))
    ⊎ (((answer : Answer) × (e ≡ event.PassOver number answer)) ⊎ IsBreak number Requestor e)
pushed number (event.Give link answer) h = inl (answer, ap (λ (n : ℕ). event.Give n answer) h)
pushed number (event.PassOver link answer) h =
    inr (inl (answer, ap (λ (n : ℕ). event.PassOver n answer) h))
pushed number (event.BreakCaller link answer) h = inr (inr (left number link answer h))
pushed number e h = absurd h

aborted : (number : ℕ) (side : Side) (e : Event)
    → IsNamed (Abort number side) e → IsBreak number side e
aborted number Requestor (event.BreakCaller link answer) h = left number link answer h
aborted number Acceptor (event.BreakReceiver link) h = ap event.BreakReceiver h
aborted number side e h = absurd h

released : (number : ℕ) (e : Event) → IsNamed (Release number) e → IsBreak number Requestor e
released number (event.BreakCaller link answer) h = left number link answer h
released number e h = absurd h

closed : (number : ℕ) (e : Event)
    → IsNamed (Close number) e → (answer : Option Answer) × (e ≡ event.Close number answer)
closed number (event.Close link answer) h = (answer, ap (λ (n : ℕ). event.Close n answer) h)
closed number e h = absurd h

came_late : (number : ℕ) (side : Side) (e : Event)
    → IsNamed (Late number side) e → IsBreak number side e
came_late number Requestor (event.BreakCaller link answer) h = left number link answer h
came_late number Acceptor (event.BreakReceiver link) h = ap event.BreakReceiver h
came_late number side e h = absurd h

restarted : (node : Text) (e : Event)
    → IsNamed (Restart node) e
    → (answers : List (Option Answer)) × (e ≡ event.Restart node answers)
restarted node (event.Restart name answers) h =
    (answers, ap (λ (n : Text). event.Restart n answers) h)
restarted node e h = absurd h

requeued : (node uid dest : Text) (e : Event)
    → IsNamed (Requeue node uid dest) e
    → (answer : Answer) × (e ≡ event.Requeue node uid dest answer)
requeued node uid dest (event.Requeue name row to answer) h = (
  answer,
  ap (λ (n : Text). event.Requeue n row to answer) h.0
      ∙ ap (λ (u : Text). event.Requeue node u to answer) h.1
      ∙ ap (λ (d : Text). event.Requeue node uid d answer) h.2,
)
requeued node uid dest e h = absurd h

dropped : (node uid dest : Text) (e : Event)
    → IsNamed (Drop node uid dest) e
    → (answer : Answer) × (e ≡ event.Drop node uid dest answer)
dropped node uid dest (event.Drop name row to answer) h = (
  answer,
  ap (λ (n : Text). event.Drop n row to answer) h.0
      ∙ ap (λ (u : Text). event.Drop node u to answer) h.1
      ∙ ap (λ (d : Text). event.Drop node uid d answer) h.2,
)
dropped node uid dest e h = absurd h

forgotten : (node uid : Text) (e : Event)
    → IsNamed (Forget node uid) e
    → (answer : Answer) × (e ≡ event.Forget node uid answer)
forgotten node uid (event.Forget name item answer) h = (
  answer,
  ap (λ (n : Text). event.Forget n item answer) h.0
      ∙ ap (λ (u : Text). event.Forget node u answer) h.1,
)
forgotten node uid e h = absurd h

ticked : (ms : ℕ) (e : Event) → IsNamed (Tick ms) e → e ≡ event.Tick ms
ticked ms (event.Tick some) h = ap event.Tick h
ticked ms e h = absurd h

refused : (node : Text) (e : Event) → IsNamed (Refuse node) e → e ≡ event.Refuse node
refused node (event.Refuse name) h = ap event.Refuse h
refused node e h = absurd h

pub steps_are_of_their_kind : StepsAreOfTheirKind
steps_are_of_their_kind = record {
  submit = submitted;
  opening = opened;
  away = stayed;
  push = pushed;
  abort = aborted;
  release = released;
  close = closed;
  late = came_late;
  restart = restarted;
  requeue = requeued;
  drop = dropped;
  forget = forgotten;
  tick = ticked;
  refuse = refused;
}

-- ---- which steps may be no event

-- a number has one link
one_link : (w : World) (number : ℕ) (a b : Link) → IsLink w number a → IsLink w number b → a ≡ b
one_link w number a b one other = same_Some a b (sym one ∙ other)

-- an end that is on isn't off
is_on_there : (w : World) (number : ℕ) (link : Link) (side : Side)
    → IsLink w number link → is_on side link ≡ true → IsOffAt w number side → ⊥
is_on_there w number link side there on (other, here, off) =
    (let same : other ≡ link = one_link w number other link here there in
    false≢true (sym off ∙ (ap (is_on side) same ∙ on)))

pub what_is_told_is_seen : WhatIsToldIsSeen
what_is_told_is_seen = record {
  push = λ b w number link item there on next h. elim h [
    | inl off ↦ is_on_there w number link Requestor there on off
    | inr (other, here, none) ↦ (
        let same : link ≡ other = one_link w number link other there here in
        none item (subst (λ (l : Link). IsNext (w.books l.caller) l.receiver w.time item) same next))
  ];
  abort = λ b w number link side there on h. is_on_there w number link side there on h;
  late = λ b w number link side there on h. is_on_there w number link side there on h;
  submit = λ b w node item h. h;
  opening = λ b w from to h. h;
  away = λ b w from to h. h;
  release = λ b w number h. h;
  close = λ b w number h. h;
  restart = λ b w node h. h;
  requeue = λ b w node uid dest h. h;
  drop = λ b w node uid dest h. h;
  tick = λ b w ms h. h;
  refuse = λ b w node h. h;
}

-- ---- what is done

the_lesser : (n m most : ℕ) → m ≤ n → m ≤ most → (m ≡ n) ⊎ (m ≡ most) → m ≡ min n most
the_lesser n m most within inside (inl e) =
    (let less : n ≤ most = omega (arith, inside, e) in e ∙ sym (min-eq_left less))
the_lesser n m most within inside (inr e) =
    (let less : most ≤ n = omega (arith, within, e) in e ∙ sym (min-eq_right less))

pub moves_are_whole : MovesAreWhole
moves_are_whole t wire n m h = (
  h.0,
  λ front rest is. (
      let at = h.1 front rest is in
      the_lesser n m (length rest) h.0 at.0 at.1),
)

pub what_may_be_is_done : WhatMayBeIsDone
what_may_be_is_done = record {
  opening = λ plan certificate b new caller to hop note part over h. elim h [
    | inl done ↦ done.0
    | inr none ↦ absurd (none.0 caller part refl hop over)
  ];
  push = λ x h. elim h [
    | inl done ↦ (let f : Skipped ≡ Done = done.0 in absurd (cc f))
    | inr none ↦ none.1
  ];
}

-- an answer is noted as done or as refused
never_skipped : {A : Type 0} → (answer : Result A LedgerFault) → Skipped ≡ note_of answer → ⊥
never_skipped (Ok value) h = (let f : Skipped ≡ Done = h in cc f)
never_skipped (Err fault) h = (let f : Skipped ≡ Refused fault = h in cc f)

pub what_nodes_are_told_is_done : WhatNodesAreToldIsDone
what_nodes_are_told_is_done = record {
  submit = λ plan certificate b new node item has h. elim h [
    | inl (known, (reply, t, steps, noted, is)) ↦ never_skipped reply noted
    | inr away ↦ away.0 has
  ];
  restart = λ plan certificate b new node has h. elim h [
    | inl (known, (noted, does)) ↦ (let f : Skipped ≡ Done = noted in cc f)
    | inr away ↦ away.0 has
  ];
  requeue = λ plan certificate b new node uid dest has h. elim h [
    | inl (known, (reply, t, steps, noted, is)) ↦ never_skipped reply noted
    | inr away ↦ away.0 has
  ];
  drop = λ plan certificate b new node uid dest has h. elim h [
    | inl (known, (reply, t, steps, noted, is)) ↦ never_skipped reply noted
    | inr away ↦ away.0 has
  ];
  forget = λ plan certificate b new node uid has h. elim h [
    | inl (known, inl (pends, noted, is)) ↦ (let f : Skipped ≡ UnderWay = noted in cc f)
    | inl (known, inr (free, (answer, t, forgets, noted, is))) ↦ never_skipped answer noted
    | inr away ↦ away.0 has
  ];
  refuse = λ plan certificate b new node has h. elim h [
    | inl (known, (noted, does)) ↦ (let f : Skipped ≡ Done = noted in cc f)
    | inr away ↦ away.0 has
  ];
}

pub open_from_six_to_twelve : OpenFromSixToTwelve
open_from_six_to_twelve Sta1 = refl
open_from_six_to_twelve Sta2 = refl
open_from_six_to_twelve Sta3 = refl
open_from_six_to_twelve Sta4 = refl
open_from_six_to_twelve Sta5 = refl
open_from_six_to_twelve Sta6 = refl
open_from_six_to_twelve Sta7 = refl
open_from_six_to_twelve Sta8 = refl
open_from_six_to_twelve Sta9 = refl
open_from_six_to_twelve Sta10 = refl
open_from_six_to_twelve Sta11 = refl
open_from_six_to_twelve Sta12 = refl
open_from_six_to_twelve Sta13 = refl

pub takes_over_nothing_on : TakesOverNothingOn
takes_over_nothing_on ours plan next b number k may there = may.over number k there

-- ---- what may come

pub what_is_no_bytes_may_come : WhatIsNoBytesMayCome
what_is_no_bytes_may_come = record {
  end = λ ours ear new. tt;
  fault = λ ours ear new. tt;
  late = λ ours ear new. tt;
  idle = λ ours ear new. tt;
  crowded = λ ours ear new. tt;
  memory = λ ours ear new. tt;
}

pub ends_may_meet : EndsMayMeet
ends_may_meet = record {
  aborts = λ side. tt;
  late = λ side. tt;
  ended = λ side. tt;
  sends = λ side. (λ h. h, λ h. h);
  releases = λ side. (λ h. h, λ h. h);
}

late_there : (side : Side) (c : Core) → MayAsk side c input.Late
late_there Requestor c = tt
late_there Acceptor c = tt

ended_there : (side : Side) (c : Core) → MayAsk side c input.Ended
ended_there Requestor c = tt
ended_there Acceptor c = tt

pub ends_may_be_asked : EndsMayBeAsked
ends_may_be_asked = record {
  late = late_there;
  ended = ended_there;
  aborts = λ c. tt;
  acceptor_aborts = λ c. (λ h. h, λ h. h);
  sends = λ c h. h;
  releases = λ c h. h;
}

pub what_comes_comes_now : WhatComesComesNow
what_comes_comes_now ours plan certificate b new number came e there h =
    (let same : h.end ≡ e = same_Some h.end e (sym h.there ∙ there) in (
      h.moment,
      h.acts,
      h.left,
      h.after,
      h.now,
      subst (λ (z : OwnEnd). HearsOf (LedgerStep plan z.node) came h.moment (end_of z.terminal)
          (b.desks z.node) (Ok h.acts) h.left h.after) same h.hears,
    ))

pub no_request_is_written : NoRequestIsWritten
no_request_is_written = record {
  store = λ id class instance h. h;
  echo = λ id class has_data h. h;
  success = λ id class instance has_data h. h refl;
}
