-- Whatever comes over a link to another maker's product.
use Rattle.std.proofs.Common.{◌≡◌, ◌≢◌, ℕ, Bool, true, false, List, [], ◌∷◌, ◌++◌, Option, Some}
use Rattle.std.proofs.Common.{None, Result, Ok, refl, sym, ap, subst, ◌∙◌}
use Rattle.std.proofs.lemmas.List.{append-nil}
use Rattle.std.specs.declared.alloc.AllocError.{AllocError}
use Rattle.dr_base.specs.Texts.{Text}
use Rattle.dr_plan_model.specs.Networks.{Network}
use Rattle.dr_plan_sound.specs.declared.certificate.Certificate.{Certificate}
use Rattle.dr_site.specs.Sites.{IsCertified}
use Rattle.dr_ulstate.specs.declared.table.State.{State}
use Rattle.dr_ulstate.specs.declared.table.State.TheVariants.{Sta1, Sta2, Sta3, Sta4, Sta5, Sta6}
use Rattle.dr_ulstate.specs.declared.table.State.TheVariants.{Sta7, Sta8, Sta9, Sta10, Sta11, Sta12}
use Rattle.dr_ulstate.specs.declared.table.State.TheVariants.{Sta13}
use Rattle.dr_ulstate.specs.Phases.{state_of}
use Rattle.dr_session.specs.declared.ends.Core.{Core}
use Rattle.dr_session.specs.declared.ends.Heard.{Heard}
use Rattle.dr_session.specs.declared.ends.Heard.TheVariants as heard
use Rattle.dr_session.specs.declared.ends.Input.{Input}
use Rattle.dr_session.specs.declared.ends.Input.TheVariants as input
use Rattle.dr_session.specs.declared.ends.LinkAction.{LinkAction}
use Rattle.dr_session.specs.declared.ends.Moment.{Moment}
use Rattle.dr_session.specs.Ends.{Terminal as End, HearsOf, HearsPiece, MeetsBy, CrowdsBy, LosesBy}
use Rattle.dr_session.specs.Ends.{idle_in, is_gone}
use Rattle.dr_session.specs.Plays.{without_data}
use Rattle.dr_world_model.specs.Worlds.{World}
use Rattle.dr_world_model.specs.Among.{Ours, Act}
use Rattle.dr_world_tie.specs.Desks.{Desk, LedgerStep}
use Rattle.dr_world_tie.specs.Channels.{LiveTerminal, bytes_of}
use Rattle.dr_world_tie.specs.Foreign.{Came, ComeAll, CallsAsNoneOfOurs, NoneCallsAsOurs, StandsIn}
use Rattle.dr_world_tie.specs.Foreign.{WritesControls}
use Rattle.dr_world_tie.specs.ForeignCalls.{CallsIn, LeadsTo, acts_of_all}
use Rattle.dr_world_tie.specs.ForeignCalls as calls
use Rattle.dr_world_tie.specs.ForeignLinks.{NoneComesAsOurs, WhatAcceptorsHear, WhatRequestorsHear}
use Rattle.dr_world_tie.specs.ForeignLinks.{end_of}
use Rattle.dr_world_tie.proofs.Foreigners.{any_bytes_come, one_input_comes, only_none}
use Rattle.dr_world_tie.proofs.ForeignPushes.{foreign_still, letting_go_is_nothing}
use Rattle.dr_world_tie.proofs.ForeignReplies.{any_answers_come, one_answer_comes}

idle_calls_none : (ours : Ours) (state : State) → CallsAsNoneOfOurs ours (idle_in state)
idle_calls_none ours Sta1 = tt
idle_calls_none ours Sta2 = tt
idle_calls_none ours Sta3 = tt
idle_calls_none ours Sta4 = tt
idle_calls_none ours Sta5 = tt
idle_calls_none ours Sta6 = tt
idle_calls_none ours Sta7 = tt
idle_calls_none ours Sta8 = tt
idle_calls_none ours Sta9 = tt
idle_calls_none ours Sta10 = tt
idle_calls_none ours Sta11 = tt
idle_calls_none ours Sta12 = tt
idle_calls_none ours Sta13 = tt

idle_not_pushed : (state : State) → idle_in state ≢ input.PushAsked
idle_not_pushed Sta1 e = cc e
idle_not_pushed Sta2 e = cc e
idle_not_pushed Sta3 e = cc e
idle_not_pushed Sta4 e = cc e
idle_not_pushed Sta5 e = cc e
idle_not_pushed Sta6 e = cc e
idle_not_pushed Sta7 e = cc e
idle_not_pushed Sta8 e = cc e
idle_not_pushed Sta9 e = cc e
idle_not_pushed Sta10 e = cc e
idle_not_pushed Sta11 e = cc e
idle_not_pushed Sta12 e = cc e
idle_not_pushed Sta13 e = cc e

abbrev written : List LinkAction → Result (List LinkAction) AllocError
written acts = Ok acts

no_acts : (acts : List LinkAction) → written acts ≡ written [] → acts ≡ []
no_acts acts e = cc

-- ---- an acceptor

module _ (ours : Ours) (plan : Network) (certificate : Certificate)
    (certified : IsCertified plan certificate) (name : Text) (w : World) (number : Option ℕ)
    (k : LiveTerminal) (s : Desk) (stands : StandsIn ours plan certificate name w number k s)
    (moment : Moment) (acts : List LinkAction) (new : End) (t : Desk) where
  abbrev Comes_as : Type 0
  Comes_as =
      (core : Core) × (new.core ≡ Some core)
      × ((cames : List Came) × (does : List Act) × (v : World) × (next : Option ℕ)
      × ComeAll ours plan name w number cames does acts v next
      × StandsIn ours plan certificate name v next (record { core = core; ear = new.ear }) t)

  -- nothing came of it
  nothing : (core : Core)
      → StandsIn ours plan certificate name w number (record { core = core; ear = k.ear }) s
      → acts ≡ []
      → new ≡ record { ear = k.ear; core = Some core }
      → t ≡ s → Comes_as
  nothing core there none is same = (
    core,
    ap (λ (e : End). e.core) is,
    (
      [],
      [],
      w,
      number,
      (refl, none, refl, refl),
      subst
          (λ (e : End).
          StandsIn ours plan certificate name w number (record { core = core; ear = e.ear }) t)
          (sym is)
          (subst
          (λ (d : Desk).
          StandsIn ours plan certificate name w number (record { core = core; ear = k.ear }) d)
          (sym same) there),
    ),
  )

  hears_piece : (over : Bool) (piece : List ℕ)
      → NoneCallsAsOurs ours k.ear piece new.ear
      → HearsPiece (LedgerStep plan name) over moment piece k.core (end_of k) s (Ok acts) new t
      → Comes_as
  hears_piece true piece none h = nothing k.core stands (no_acts acts h.0) h.1 h.2
  hears_piece false piece none (x, plays, same, core) =
      let all = any_bytes_come ours plan certificate certified name w number k s stands moment piece
      new.ear x t none plays in (
        x.core,
        core,
        (
          all.0,
          all.1,
          all.2,
          all.3,
          subst
              (λ (l : List LinkAction). ComeAll ours plan name w number all.0 all.1 l all.2 all.3)
              (sym same) all.4,
          all.7,
        ),
      )

  meets : (over : Bool) (i : Input)
      → CallsAsNoneOfOurs ours i
      → MeetsBy (LedgerStep plan name) over moment i k.core (end_of k) s (Ok acts) new t
      → Comes_as
  meets true i none h = nothing k.core stands (no_acts acts h.0) h.1 h.2
  meets false i none (x, turns, same, is) =
      let one = one_input_comes ours plan certificate certified name w number k s stands moment i
      none x t turns in (
        x.core,
        ap (λ (e : End). e.core) is,
        (
          one.0 ∷ [],
          one.1 ++ [],
          one.2,
          one.3,
          (
            one.1,
            [],
            x.acts,
            [],
            one.2,
            one.3,
            one.4,
            one.5,
            (refl, refl, refl, refl),
            refl,
            same ∙ sym (append-nil x.acts),
          ),
          subst
              (λ (e : End). StandsIn ours plan certificate name one.2 one.3
              (record { core = x.core; ear = e.ear }) t) (sym is) one.6,
        ),
      )

  crowds : (over : Bool) → t ≡ s → CrowdsBy over k.core (end_of k) (Ok acts) new → Comes_as
  crowds true same h = nothing k.core stands (no_acts acts h.0) h.1 same
  crowds false same h = nothing (without_data k.core) record {
    own = stands.own;
    others = stands.others;
    desk = stands.desk;
    shows = foreign_still ours plan certificate name w number k.core k.ear stands.shows;
  } (no_acts acts h.0) h.1 same

  loses : (over : Bool) → t ≡ s → LosesBy over (end_of k) (Ok acts) new → Comes_as
  loses true same h = nothing k.core stands (no_acts acts h.0) h.1 same
  loses false same h = absurd h.0

  pub acceptor_hears : (came : Heard)
      → NoneComesAsOurs ours k.ear came new.ear
      → HearsOf (LedgerStep plan name) came moment (end_of k) s (Ok acts) new t
      → Comes_as
  acceptor_hears (heard.Bytes piece) none h =
      hears_piece (is_gone (state_of k.core.phase)) piece none h
  acceptor_hears heard.End none h = meets (is_gone (state_of k.core.phase)) input.Ended tt h
  acceptor_hears heard.Fault none h = meets (is_gone (state_of k.core.phase)) input.Ended tt h
  acceptor_hears heard.Late none h = meets (is_gone (state_of k.core.phase)) input.Late tt h
  acceptor_hears heard.Idle none h = meets (is_gone (state_of k.core.phase))
      (idle_in (state_of k.core.phase)) (idle_calls_none ours (state_of k.core.phase)) h
  acceptor_hears heard.Crowded none h = crowds (is_gone (state_of k.core.phase)) h.0 h.1
  acceptor_hears heard.Memory none h = loses (is_gone (state_of k.core.phase)) h.0 h.1

pub what_acceptors_hear : WhatAcceptorsHear
what_acceptors_hear ours plan certificate certified name w number k s stands moment came acts new t
    none h = acceptor_hears ours plan certificate certified name w number k s stands moment acts new
    t came none h

-- ---- a requestor

module _ (ours : Ours) (plan : Network) (certificate : Certificate)
    (certified : IsCertified plan certificate) (name : Text) (w : World) (number : ℕ) (k : LiveTerminal)
    (s : Desk) (stands : CallsIn ours plan certificate name w number k s) (moment : Moment)
    (time : moment.now ≡ w.time) (acts : List LinkAction) (new : End) (t : Desk) where
  abbrev Heard_as : Type 0
  Heard_as =
      (core : Core) × (new.core ≡ Some core)
      × ((all : List calls.Heard) × (v : World)
      × LeadsTo ours plan name w number (acts_of_all number all) v
      × WritesControls acts
      × CallsIn ours plan certificate name v number (record { core = core; ear = new.ear }) t)

  none_heard : (core : Core)
      → CallsIn ours plan certificate name w number (record { core = core; ear = k.ear }) s
      → acts ≡ []
      → new ≡ record { ear = k.ear; core = Some core }
      → t ≡ s → Heard_as
  none_heard core there none is same = (
    core,
    ap (λ (e : End). e.core) is,
    (
      [],
      w,
      record { runs = (refl, refl); only = only_none w (Some number) name },
      ([], ap bytes_of none, tt),
      subst
          (λ (e : End).
          CallsIn ours plan certificate name w number (record { core = core; ear = e.ear }) t)
          (sym is)
          (subst
          (λ (d : Desk).
          CallsIn ours plan certificate name w number (record { core = core; ear = k.ear }) d)
          (sym same) there),
    ),
  )

  piece_heard : (over : Bool) (piece : List ℕ)
      → HearsPiece (LedgerStep plan name) over moment piece k.core (end_of k) s (Ok acts) new t
      → Heard_as
  piece_heard true piece h = none_heard k.core stands (no_acts acts h.0) h.1 h.2
  piece_heard false piece (x, plays, same, core) =
      let all = any_answers_come ours plan certificate certified name w number k s stands moment
      time piece new.ear x t plays in (
        x.core,
        core,
        (
          all.0,
          all.1,
          all.2,
          subst (λ (l : List LinkAction). WritesControls l) (sym same) all.3,
          all.4,
        ),
      )

  met : (over : Bool) (i : Input)
      → i ≢ input.PushAsked
      → MeetsBy (LedgerStep plan name) over moment i k.core (end_of k) s (Ok acts) new t
      → Heard_as
  met true i other h = none_heard k.core stands (no_acts acts h.0) h.1 h.2
  met false i other (x, turns, same, is) =
      let one = one_answer_comes ours plan certificate certified name w number k s stands moment
      time i other x t turns in (
        x.core,
        ap (λ (e : End). e.core) is,
        (
          one.0 ∷ [],
          one.1,
          subst
              (λ (l : List Act). LeadsTo ours plan name w number l one.1)
              (sym (append-nil (calls.acts_of number one.0))) one.2,
          subst (λ (l : List LinkAction). WritesControls l) (sym same) one.3,
          subst
              (λ (e : End). CallsIn ours plan certificate name one.1 number
              (record { core = x.core; ear = e.ear }) t) (sym is) one.4,
        ),
      )

  crowded : (over : Bool) → t ≡ s → CrowdsBy over k.core (end_of k) (Ok acts) new → Heard_as
  crowded true same h = none_heard k.core stands (no_acts acts h.0) h.1 same
  crowded false same h = none_heard (without_data k.core) record {
    own = stands.own;
    desk = stands.desk;
    shows = (letting_go_is_nothing ours plan certificate name w number None k.core k.ear).1
        stands.shows;
  } (no_acts acts h.0) h.1 same

  lost : (over : Bool) → t ≡ s → LosesBy over (end_of k) (Ok acts) new → Heard_as
  lost true same h = none_heard k.core stands (no_acts acts h.0) h.1 same
  lost false same h = absurd h.0

  pub requestor_hears : (came : Heard)
      → HearsOf (LedgerStep plan name) came moment (end_of k) s (Ok acts) new t
      → Heard_as
  requestor_hears (heard.Bytes piece) h = piece_heard (is_gone (state_of k.core.phase)) piece h
  requestor_hears heard.End h = met (is_gone (state_of k.core.phase)) input.Ended (λ e. cc e) h
  requestor_hears heard.Fault h = met (is_gone (state_of k.core.phase)) input.Ended (λ e. cc e) h
  requestor_hears heard.Late h = met (is_gone (state_of k.core.phase)) input.Late (λ e. cc e) h
  requestor_hears heard.Idle h = met (is_gone (state_of k.core.phase))
      (idle_in (state_of k.core.phase)) (idle_not_pushed (state_of k.core.phase)) h
  requestor_hears heard.Crowded h = crowded (is_gone (state_of k.core.phase)) h.0 h.1
  requestor_hears heard.Memory h = lost (is_gone (state_of k.core.phase)) h.0 h.1

pub what_requestors_hear : WhatRequestorsHear
what_requestors_hear ours plan certificate certified name w number k s stands moment time came acts
    new t h = requestor_hears ours plan certificate certified name w number k s stands moment time
    acts new t came h
