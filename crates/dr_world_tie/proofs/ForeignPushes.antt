-- A push of a requestor of ours that called another product, and how its end begins.
use Rattle.std.proofs.Common.{arith, ◌≡◌, ℕ, Bool, true, false, [], ◌∷◌, Option, Some, None, Ok}
use Rattle.std.proofs.Common.{Err, refl}
use Rattle.std.proofs.Common.{sym, ap, subst, ◌∙◌, inl, inr}
use Rattle.std.specs.Prelude.{◌+◌, ◌&&◌, if◌then◌else◌, not, is_some}
use Rattle.std.specs.FinMap as map_of
use Rattle.std.specs.FinSet as set
use Rattle.std.specs.Str.{bytes_eq}
use Rattle.std.proofs.Math.Logic.{∥∥₁_elim}
use Rattle.std.proofs.lemmas.Bool.{cases_Bool, false≢true}
use Rattle.std.proofs.lemmas.List.{append-nil}
use Rattle.std.proofs.lemmas.Slice.Eq.{bytes_eq-Decides}
use Rattle.dr_base.specs.Texts.{Text}
use Rattle.dr_base.specs.Syntaxes.{syntax_uid}
use Rattle.dr_base.specs.declared.syntax.Syntax.{Syntax}
use Rattle.dr_plan_model.specs.Networks.{Network}
use Rattle.dr_plan_sound.specs.declared.certificate.Certificate.{Certificate}
use Rattle.dr_ulstate.specs.declared.table.Action.TheVariants.{Dt1}
use Rattle.dr_ulstate.specs.declared.table.Event.TheVariants.{AbortRequest, DataRequest}
use Rattle.dr_ulstate.specs.declared.table.State.TheVariants.{Sta5, Sta6, Sta13}
use Rattle.dr_ulstate.specs.Phases.{in_its_phase, may_send}
use Rattle.dr_ulstate.specs.Standing.{moved, standing}
use Rattle.dr_pdu.specs.Feeding.{Feeding}
use Rattle.dr_dimse.specs.declared.message.Awaited.{Awaited}
use Rattle.dr_dimse.specs.declared.message.Awaited.TheVariants.{AnswerTo, Nothing as NothingAwaited}
use Rattle.dr_dimse.specs.Taking.{MessageStage as Taken, Idle, InCommand, InData, data_of, let_go}
use Rattle.dr_ledger.specs.declared.content.Job.{Job}
use Rattle.dr_ledger.specs.declared.content.NextRow.TheVariants as nextrow
use Rattle.dr_ledger.specs.declared.fault.LedgerFault.TheVariants as fault
use Rattle.dr_ledger.specs.declared.item.Instance.{Instance}
use Rattle.dr_ledger.specs.declared.item.Outcome.TheVariants.{NoContext, Unreadable}
use Rattle.dr_ledger.specs.Books.{Book}
use Rattle.dr_ledger.specs.Items.{instance_of}
use Rattle.dr_ledger.specs.Replies.{IsNext}
use Rattle.dr_ledger.proofs.Maps.{get_new}
use Rattle.dr_nego.specs.Fragments.{spellings}
use Rattle.dr_nego.specs.declared.agreed.Agreed.{Agreed}
use Rattle.dr_nego.specs.Agreeing.{context_for}
use Rattle.dr_session.specs.declared.ends.Core.{Core}
use Rattle.dr_session.specs.declared.ends.Effect.{Effect}
use Rattle.dr_session.specs.declared.ends.Input.TheVariants.{PushAsked}
use Rattle.dr_session.specs.declared.ends.Moment.{Moment}
use Rattle.dr_session.specs.declared.ends.Pending.{Pending}
use Rattle.dr_session.specs.declared.ends.Told.TheVariants.{Plain}
use Rattle.dr_session.specs.Desks.{DeskCall, DeskAnswer, Next, Settle, Arrival, Upcoming, First}
use Rattle.dr_session.specs.Desks.{Settling}
use Rattle.dr_session.specs.Ledgers.{Hands}
use Rattle.dr_session.specs.Plays.{Reacts, at_moment, without_data}
use Rattle.dr_session.specs.Reactions.{can_be_named, aborted, aborts_desk, aborts_idle}
use Rattle.dr_session.specs.Reactions.{abort_pdu, awaiting, passes_over}
use Rattle.dr_session.specs.Reactions.{desk_failed, dried, due, gives, gives_in, id_after, is_free}
use Rattle.dr_session.specs.Reactions.{is_idle, is_requestor, job, left, quiet, settling}
use Rattle.dr_session.specs.Reactions.{stepped_by, store_pdus, storing, effect, write}
use Rattle.dr_session.specs.Turns.{Turns}
use Rattle.dr_session.proofs.Named.{items_are_named}
use Rattle.dr_world_model.specs.Worlds.{World, Link, Contexts, Stage, Asking, Answering, Rejecting}
use Rattle.dr_world_model.specs.Worlds.{Open, Storing, Replying, Gone, with_link, at_stage}
use Rattle.dr_world_model.specs.Worlds.{without_caller}
use Rattle.dr_world_model.specs.Calls.{Answer}
use Rattle.dr_world_model.specs.Steps.{IsLink, new_link, after_settling, stays_connected}
use Rattle.dr_world_model.specs.Steps.{pending as pending_of, SettlesPending}
use Rattle.dr_world_model.specs.Among.{Ours}
use Rattle.dr_world_model.proofs.Lookups.{numbers}
use Rattle.dr_world_tie.specs.Desks.{Desk, LedgerStep}
use Rattle.dr_world_tie.specs.Channels.{LiveTerminal, IsAt, IsOff, IsSideOf, bytes_of}
use Rattle.dr_world_tie.specs.Ties.{IsDeskOf}
use Rattle.dr_world_tie.specs.Foreign.{StandsAt, ShowsForeign, WritesControls}
use Rattle.dr_world_tie.specs.ForeignCalls.{GoesOnAwaited, CallsAt, IsCallOf, CallsIn, LeadsTo}
use Rattle.dr_world_tie.specs.ForeignCalls.{Pushed, Kept, Gave, Passed, Broke, acts_of_push}
use Rattle.dr_world_tie.specs.ForeignCalls.{Sends}
use Rattle.dr_world_tie.specs.ForeignCalls.{OnePushComes, RequestorsBegin, LettingGoIsNothing}
use Rattle.dr_world_tie.proofs.Acceptors.{side_is, no_event, acts_as, as_plain}
use Rattle.dr_world_tie.proofs.ContextSets.{has_context, from_context}
use Rattle.dr_world_tie.proofs.Foreigners.{desk_still, only_none, only_of, side_still}
use Rattle.dr_world_tie.proofs.Giving.{in_pairs, both}
use Rattle.dr_world_tie.proofs.Leaving.{only_link}
use Rattle.dr_world_tie.proofs.Off.{off_stays_off}
use Rattle.dr_world_tie.proofs.Pushing.{none_of}
use Rattle.dr_world_tie.proofs.Responses.{Settled, settled}

and_false : (b : Bool) → (b && false) ≡ false
and_false true = refl
and_false false = refl

-- nothing behind a command is under way where nothing is awaited, so nothing is out of place later
goes_on_as : (awaited : Awaited) (stage : Taken)
    → GoesOnAwaited NothingAwaited stage
    → GoesOnAwaited awaited stage
goes_on_as awaited Idle h = tt
goes_on_as awaited (InCommand id text) h = tt
goes_on_as awaited (InData id command body) h = absurd h

module _ (ours : Ours) (plan : Network) (certificate : Certificate) (w : World) (number : ℕ)
    (link : Link) (k : LiveTerminal) (s : Desk) (here : IsLink w number link)
    (away : ours link.receiver ≡ false) (peer : k.core.peer ≡ link.receiver)
    (own : ours link.caller ≡ true) (desk : IsDeskOf w link.caller s)
    (side : IsSideOf plan certificate link.caller k.core k.ear) (moment : Moment)
    (time : moment.now ≡ w.time) (x : Effect) (t : Desk)
    (there : link.caller_connected ≡ true → link.receiver_connected ≡ true) where
  abbrev node : Text
  node = link.caller

  abbrev pstep : Desk → DeskCall → DeskAnswer → Desk → Type 0
  pstep = LedgerStep plan node

  abbrev ends_as : LiveTerminal
  ends_as = record { core = x.core; ear = k.ear }

  abbrev PushedSome : Type 0
  PushedSome =
      (pushed : Pushed) × (v : World)
      × LeadsTo ours plan node w number (acts_of_push number pushed) v
      × Sends v number pushed x.acts
      × CallsIn ours plan certificate node v number ends_as t

  calls_in : (v : World) (after : Link)
      → IsLink v number after → IsDeskOf v node t → after.caller ≡ node
      → after.receiver ≡ link.receiver
      → (after.caller_connected ≡ true → after.receiver_connected ≡ true)
      → x.core.site ≡ k.core.site
      → x.core.peer ≡ k.core.peer
      → CallsAt after.caller_connected after.stage after.receiver x.core
      → CallsIn ours plan certificate node v number ends_as t
  calls_in v after at_number at_desk caller receiver on site peers stands = record {
    own = own;
    desk = at_desk;
    shows = (
      side_still plan certificate node k.core x.core k.ear k.ear site refl side,
      (
        after,
        at_number,
        record {
          receiver = ap ours receiver ∙ away;
          caller = caller;
          peer = peers ∙ (peer ∙ sym receiver);
          on = on;
          stands = stands;
        },
      ),
    );
  }

  -- nothing was sent
  kept : x.core.site ≡ k.core.site
      → x.core.peer ≡ k.core.peer
      → t ≡ s → WritesControls x.acts
      → CallsAt link.caller_connected link.stage link.receiver x.core
      → PushedSome
  kept site peers same none stands = (
    Kept,
    w,
    record { runs = (refl, refl); only = only_none w (Some number) node },
    none,
    calls_in w link here (desk_still w node s t same desk) refl refl there site peers stands,
  )

  kept_as : (x ≡ effect [] k.core) × (t ≡ s)
      → CallsAt link.caller_connected link.stage link.receiver k.core
      → PushedSome
  kept_as h stands = kept (ap (λ (y : Effect). y.core.site) h.0)
      (ap (λ (y : Effect). y.core.peer) h.0) h.1 ([], ap (λ (y : Effect). bytes_of y.acts) h.0, tt)
      (subst
      (λ (y : Effect). CallsAt link.caller_connected link.stage link.receiver y.core) (sym h.0)
      stands)

  -- an end that may not send
  not_free : is_free k.core ≡ false
      → CallsAt link.caller_connected link.stage link.receiver k.core
      → Reacts pstep k.core (at_moment moment PushAsked) s x t
      → PushedSome
  not_free free stands r = kept_as
      (no_event pstep moment k.core s t x (Plain PushAsked)
      (ap (λ (b : Bool). if b then Some DataRequest else None) free)
      (as_plain pstep moment k.core s t x PushAsked r r.tells)) stands

  module _ (on : link.caller_connected ≡ true) (accepted : Contexts)
      (is_open : link.stage ≡ Open accepted) (h : CallsAt true (Open accepted) link.receiver k.core)
    where
      abbrev at : IsAt k.core true Sta6
      at = h.0.0

      abbrev core : Core
      core = record k.core { phase = in_its_phase (moved at.0 Sta6 moment.now) }

      abbrev agreed : Agreed
      agreed = h.0.1.0

      abbrev failed_core : Core
      failed_core = desk_failed (aborted (left (stepped_by AbortRequest moment.now core)))

      abbrev idle_core : Core
      idle_core = aborted (left (stepped_by AbortRequest moment.now core))

      off_idle : IsOff idle_core true
      off_idle =
          (refl, inr (inr (moved (moved at.0 Sta6 moment.now) Sta13 moment.now, refl, at.2, refl)))

      off_failed : IsOff failed_core true
      off_failed =
          (refl, inr (inr (moved (moved at.0 Sta6 moment.now) Sta13 moment.now, refl, at.2, refl)))

      still_open : (dry : Bool)
          → CallsAt true (Open accepted) link.receiver (record core { dry = dry })
      still_open dry =
          (((moved at.0 Sta6 moment.now, refl, at.2, refl), h.0.1), h.1, h.2, h.3, refl)

      stands_by : (d : Core)
          → CallsAt true (Open accepted) link.receiver d
          → CallsAt link.caller_connected link.stage link.receiver d
      stands_by d q = subst
          (λ (b : Bool). CallsAt b link.stage link.receiver d) (sym on)
          (subst (λ (st : Stage). CallsAt true st link.receiver d) (sym is_open) q)

      -- its store failed: it leaves
      breaks : x ≡ effect (write (abort_pdu 0 0 ∷ []) ∷ []) failed_core → t ≡ s → PushedSome
      breaks e same =
          let v : World = with_link w number (without_caller link) in (
            Broke,
            v,
            record {
              runs = (
                tt,
                (
                  v,
                  record {
                    link = link;
                    at = here;
                    on = on;
                    mid = w;
                    broken = subst
                        (λ (st : Stage). SettlesPending w link (pending_of st) None w) (sym is_open)
                        refl;
                    is = refl;
                  },
                  (refl, refl),
                ),
              );
              only = only_of w v number node (only_link w number (without_caller link) node);
            },
            (
              abort_pdu 0 0 ∷ [],
              ap (λ (y : Effect). bytes_of y.acts) e ∙ append-nil (spellings (abort_pdu 0 0 ∷ [])),
              (tt, tt),
            ),
            calls_in v (without_caller link) (get_new numbers w.links number (without_caller link))
                (desk_still w node s t same desk) refl refl (λ q. absurd (false≢true q))
                (ap (λ (y : Effect). y.core.site) e) (ap (λ (y : Effect). y.core.peer) e)
                (subst (λ (y : Effect). IsOff y.core true) (sym e) off_failed),
          )

      -- ---- no context

      abbrev Goes : Answer → Effect → Type 0
      Goes (Ok r) y = y ≡ effect [] core
      Goes (Err fault.NotWaiting) y = y ≡ effect [] core
      Goes (Err fault.Store) y = y ≡ effect (write (abort_pdu 0 0 ∷ []) ∷ []) failed_core
      Goes (Err why) y = ⊥

      by_answer : (uid : Text) (m : Desk) (a : DeskAnswer)
          → pstep s (Settle uid core.peer NoContext moment.now) a m
          → Turns pstep (settling (quiet core) (aborts_desk moment core) a) m x t
          → (answer : Answer)
          × pstep s (Settle uid core.peer NoContext moment.now) (Settling answer) t
          × Goes answer x
      by_answer uid m (Settling (Ok r)) one (e, same) = (
        Ok r,
        subst
            (λ (d : Desk). pstep s (Settle uid core.peer NoContext moment.now) (Settling (Ok r)) d)
            (sym same) one,
        e,
      )
      by_answer uid m (Settling (Err fault.NotWaiting)) one (e, same) = (
        Err fault.NotWaiting,
        subst
            (λ (d : Desk).
            pstep s (Settle uid core.peer NoContext moment.now) (Settling (Err fault.NotWaiting)) d)
            (sym same) one,
        e,
      )
      by_answer uid m (Settling (Err fault.Store)) one (e, same) = (
        Err fault.Store,
        subst
            (λ (d : Desk).
            pstep s (Settle uid core.peer NoContext moment.now) (Settling (Err fault.Store)) d)
            (sym same) one,
        e,
      )
      by_answer uid m (Settling (Err fault.Memory)) one q = absurd q
      by_answer uid m (Settling (Err fault.NoLine)) one q = absurd one.0
      by_answer uid m (Settling (Err fault.Conflict)) one q = absurd one.0
      by_answer uid m (Settling (Err fault.NotHeld)) one q = absurd one.0
      by_answer uid m (Settling (Err fault.NotOver)) one q = absurd one.0
      by_answer uid m (Arrival r) one q = absurd one
      by_answer uid m (Upcoming d) one q = absurd one
      by_answer uid m (First d) one q = absurd one

      abbrev Shown : Answer → Type 0
      Shown a =
          CallsAt (stays_connected a) (Open accepted) link.receiver x.core
          × WritesControls x.acts
          × (x.core.site ≡ k.core.site)
          × (x.core.peer ≡ k.core.peer)

      shown : (a : Answer) → Goes a x → Shown a
      shown (Ok r) e = (
        subst
            (λ (y : Effect). CallsAt true (Open accepted) link.receiver y.core) (sym e)
            (still_open k.core.dry),
        ([], ap (λ (y : Effect). bytes_of y.acts) e, tt),
        ap (λ (y : Effect). y.core.site) e,
        ap (λ (y : Effect). y.core.peer) e,
      )
      shown (Err fault.NotWaiting) e = (
        subst
            (λ (y : Effect). CallsAt true (Open accepted) link.receiver y.core) (sym e)
            (still_open k.core.dry),
        ([], ap (λ (y : Effect). bytes_of y.acts) e, tt),
        ap (λ (y : Effect). y.core.site) e,
        ap (λ (y : Effect). y.core.peer) e,
      )
      shown (Err fault.Store) e = (
        subst (λ (y : Effect). IsOff y.core true) (sym e) off_failed,
        (
          abort_pdu 0 0 ∷ [],
          ap (λ (y : Effect). bytes_of y.acts) e ∙ append-nil (spellings (abort_pdu 0 0 ∷ [])),
          (tt, tt),
        ),
        ap (λ (y : Effect). y.core.site) e,
        ap (λ (y : Effect). y.core.peer) e,
      )
      shown (Err fault.Memory) e = absurd e
      shown (Err fault.NoLine) e = absurd e
      shown (Err fault.Conflict) e = absurd e
      shown (Err fault.NotHeld) e = absurd e
      shown (Err fault.NotOver) e = absurd e

      next_is : (i : Instance)
          → IsNext s.book k.core.peer moment.now i
          → IsNext (w.books node) link.receiver w.time i
      next_is i q = subst
          (λ (p : Text). IsNext (w.books node) p w.time i) peer
          (subst
          (λ (m : ℕ). IsNext (w.books node) k.core.peer m i) time
          (subst (λ (b : Book). IsNext b k.core.peer moment.now i) desk.0 q))

      settles : (item : Instance)
          → IsNext (w.books node) link.receiver w.time item
          → set.contains accepted (item.key.class, item.key.syntax) ≡ false
          → (answer : Answer)
          → pstep s (Settle item.uid k.core.peer NoContext moment.now) (Settling answer) t
          → Goes answer x → PushedSome
      settles item first lacks answer call goes =
          let st : Settled w link item.uid NoContext answer t = settled plan w link k.core.peer
          item.uid NoContext moment.now answer s t desk peer time call in
          let after : Link = after_settling link answer accepted in
          let v : World = with_link st.mid number after in
          let b : Shown answer = shown answer goes in (
            Gave (Some answer),
            v,
            record {
              runs = (
                tt,
                (
                  v,
                  record {
                    link = link;
                    accepted = accepted;
                    item = item;
                    at = here;
                    on = on;
                    stage = is_open;
                    first = first;
                    then = (lacks, (st.mid, st.settles, refl));
                  },
                  (refl, refl),
                ),
              );
              only = record {
                books = st.books;
                links = λ other apart. (only_link st.mid number after node).links other (λ q.
                    apart (ap (λ (n : ℕ). Some n) (sym q)))
                    ∙ ap (λ (l : _). map_of.get l other) st.links;
                armed = st.armed;
                rest = (st.rest.0, st.rest.1);
                opened = (let e : v.opened ≡ w.opened = st.rest.2 in omega (arith, e));
              };
            },
            b.1,
            calls_in v after (get_new numbers st.mid.links number after) st.desk_is refl refl
                (λ q. there on) b.2 b.3 b.0,
          )

      lacking : (class : Text) (syntax : Syntax)
          → context_for agreed class (syntax_uid syntax) ≡ None
          → set.contains accepted (class, syntax) ≡ false
      lacking class syntax none = elim (cases_Bool (set.contains accepted (class, syntax))) [
        | inl is_so ↦ let p = from_context agreed.pairs class syntax
            (subst (λ (z : Contexts). set.contains z (class, syntax) ≡ true) h.0.1.2 is_so) in
            absurd (none_of class (syntax_uid syntax) agreed.pairs none p.0 p.1 p.2 p.3)
        | inr is_not ↦ is_not
      ]

      -- ---- a data set that can't be read

      abbrev Passes : Answer → Effect → Type 0
      Passes (Ok r) y = y ≡ effect (write (abort_pdu 0 0 ∷ []) ∷ []) idle_core
      Passes (Err fault.NotWaiting) y = y ≡ effect (write (abort_pdu 0 0 ∷ []) ∷ []) idle_core
      Passes (Err fault.Store) y = y ≡ effect (write (abort_pdu 0 0 ∷ []) ∷ []) failed_core
      Passes (Err why) y = ⊥

      by_passing : (uid : Text) (m : Desk) (a : DeskAnswer)
          → pstep s (Settle uid core.peer Unreadable moment.now) a m
          → Turns pstep (settling (aborts_idle moment core) (aborts_desk moment core) a) m x t
          → (answer : Answer)
          × pstep s (Settle uid core.peer Unreadable moment.now) (Settling answer) t
          × Passes answer x
      by_passing uid m (Settling (Ok r)) one (e, same) = (
        Ok r,
        subst
            (λ (d : Desk). pstep s (Settle uid core.peer Unreadable moment.now) (Settling (Ok r)) d)
            (sym same) one,
        e,
      )
      by_passing uid m (Settling (Err fault.NotWaiting)) one (e, same) = (
        Err fault.NotWaiting,
        subst
            (λ (d : Desk).
            pstep s (Settle uid core.peer Unreadable moment.now) (Settling (Err fault.NotWaiting)) d)
            (sym same) one,
        e,
      )
      by_passing uid m (Settling (Err fault.Store)) one (e, same) = (
        Err fault.Store,
        subst
            (λ (d : Desk).
            pstep s (Settle uid core.peer Unreadable moment.now) (Settling (Err fault.Store)) d)
            (sym same) one,
        e,
      )
      by_passing uid m (Settling (Err fault.Memory)) one q = absurd q
      by_passing uid m (Settling (Err fault.NoLine)) one q = absurd one.0
      by_passing uid m (Settling (Err fault.Conflict)) one q = absurd one.0
      by_passing uid m (Settling (Err fault.NotHeld)) one q = absurd one.0
      by_passing uid m (Settling (Err fault.NotOver)) one q = absurd one.0
      by_passing uid m (Arrival r) one q = absurd one
      by_passing uid m (Upcoming d) one q = absurd one
      by_passing uid m (First d) one q = absurd one

      -- it was settled so, and the end left
      passed_by : (item : Instance)
          → IsNext (w.books node) link.receiver w.time item
          → (answer : Answer)
          → pstep s (Settle item.uid k.core.peer Unreadable moment.now) (Settling answer) t
          → (c : Core)
          → x ≡ effect (write (abort_pdu 0 0 ∷ []) ∷ []) c
          → c.site ≡ k.core.site
          → c.peer ≡ k.core.peer
          → IsOff c true → PushedSome
      passed_by item first answer call c e site peers off =
          let st : Settled w link item.uid Unreadable answer t = settled plan w link k.core.peer
          item.uid Unreadable moment.now answer s t desk peer time call in
          let after : Link = without_caller link in
          let v : World = with_link st.mid number after in (
            Passed answer,
            v,
            record {
              runs = (
                tt,
                (
                  v,
                  record {
                    link = link;
                    accepted = accepted;
                    item = item;
                    at = here;
                    on = on;
                    stage = is_open;
                    first = first;
                    mid = st.mid;
                    call = st.settles;
                    is = refl;
                  },
                  (refl, refl),
                ),
              );
              only = record {
                books = st.books;
                links = λ other apart. (only_link st.mid number after node).links other (λ q.
                    apart (ap (λ (n : ℕ). Some n) (sym q)))
                    ∙ ap (λ (l : _). map_of.get l other) st.links;
                armed = st.armed;
                rest = (st.rest.0, st.rest.1);
                opened = (let e : v.opened ≡ w.opened = st.rest.2 in omega (arith, e));
              };
            },
            (
              abort_pdu 0 0 ∷ [],
              ap (λ (y : Effect). bytes_of y.acts) e ∙ append-nil (spellings (abort_pdu 0 0 ∷ [])),
              (tt, tt),
            ),
            calls_in v after (get_new numbers st.mid.links number after) st.desk_is refl refl
                (λ q. absurd (false≢true q)) (ap (λ (y : Effect). y.core.site) e ∙ site)
                (ap (λ (y : Effect). y.core.peer) e ∙ peers)
                (subst (λ (y : Effect). IsOff y.core true) (sym e) off),
          )

      passed_as : (item : Instance)
          → IsNext (w.books node) link.receiver w.time item
          → (answer : Answer)
          → pstep s (Settle item.uid k.core.peer Unreadable moment.now) (Settling answer) t
          → Passes answer x → PushedSome
      passed_as item first (Ok r) call e =
          passed_by item first (Ok r) call idle_core e refl refl off_idle
      passed_as item first (Err fault.NotWaiting) call e =
          passed_by item first (Err fault.NotWaiting) call idle_core e refl refl off_idle
      passed_as item first (Err fault.Store) call e =
          passed_by item first (Err fault.Store) call failed_core e refl refl off_failed
      passed_as item first (Err fault.Memory) call e = absurd e
      passed_as item first (Err fault.NoLine) call e = absurd e
      passed_as item first (Err fault.Conflict) call e = absurd e
      passed_as item first (Err fault.NotHeld) call e = absurd e
      passed_as item first (Err fault.NotOver) call e = absurd e

      -- ---- a store

      has_it : (class : Text) (syntax : Syntax) (context : ℕ)
          → context_for agreed class (syntax_uid syntax) ≡ Some context
          → set.contains accepted (class, syntax) ≡ true
      has_it class syntax context found =
          let p = in_pairs class (syntax_uid syntax) agreed.pairs context found in
          let b = both (bytes_eq p.0.class class) (bytes_eq p.0.syntax (syntax_uid syntax)) p.2 in
          subst
          (λ (z : Contexts). set.contains z (class, syntax) ≡ true) (sym h.0.1.2)
          (has_context agreed.pairs p.0 class syntax p.1 ((bytes_eq-Decides p.0.class class).0 b.0)
          ((bytes_eq-Decides p.0.syntax (syntax_uid syntax)).0 b.1))

      gives_it : (one : Job)
          → IsNext (w.books node) link.receiver w.time (instance_of one)
          → (context : ℕ)
          → context_for agreed one.key.class (syntax_uid one.key.syntax) ≡ Some context
          → x
          ≡ effect (write (store_pdus agreed context (id_after k.core.last) one) ∷ [])
          (awaiting (storing (id_after k.core.last) context one.uid) moment.now core)
          → t ≡ s → PushedSome
      gives_it one first context found e same =
          let after : Link = at_stage link (Storing accepted (instance_of one)) in
          let v : World = with_link w number after in
          let given : Core =
          awaiting (storing (id_after k.core.last) context one.uid) moment.now core in
          let stands : CallsAt true (Storing accepted (instance_of one)) link.receiver given = (
            ((moved at.0 Sta6 moment.now, refl, at.2, refl), h.0.1),
            (id_after k.core.last, context, refl, refl),
            goes_on_as (AnswerTo (id_after k.core.last)) k.core.assembly.stage
                (subst (λ (a : Awaited). GoesOnAwaited a k.core.assembly.stage) h.2 h.3),
            refl,
          ) in (
            Gave None,
            v,
            record {
              runs = (
                tt,
                (
                  v,
                  record {
                    link = link;
                    accepted = accepted;
                    item = instance_of one;
                    at = here;
                    on = on;
                    stage = is_open;
                    first = first;
                    then = (has_it one.key.class one.key.syntax context found, refl);
                  },
                  (refl, refl),
                ),
              );
              only = only_of w v number node (only_link w number after node);
            },
            (
              one,
              after,
              accepted,
              agreed,
              context,
              id_after k.core.last,
              get_new numbers w.links number after,
              refl,
              ap (λ (y : Effect). y.acts) e,
            ),
            calls_in v after (get_new numbers w.links number after)
                (desk_still w node s t same desk) refl refl there
                (ap (λ (y : Effect). y.core.site) e) (ap (λ (y : Effect). y.core.peer) e)
                (subst
                (λ (b : Bool). CallsAt b (Storing accepted (instance_of one)) link.receiver x.core)
                (sym on)
                (subst
                (λ (y : Effect).
                CallsAt true (Storing accepted (instance_of one)) link.receiver y.core) (sym e)
                stands)),
          )

      by_context : (one : Job)
          → Hands s.book k.core.peer moment.now (Some (nextrow.Whole one))
          → (o : Option ℕ)
          → context_for agreed one.key.class (syntax_uid one.key.syntax) ≡ o
          → Turns pstep (gives_in o agreed moment one core) s x t
          → PushedSome
      by_context one hands (Some context) found q =
          gives_it one (next_is (instance_of one) hands.0) context found q.0 q.1
      by_context one hands None found q =
          let a = by_answer one.uid q.1 q.0 q.2 q.3 in
          settles (instance_of one) (next_is (instance_of one) hands.0)
          (lacking one.key.class one.key.syntax found) a.0 a.1 a.2

      by_next : (d : DeskAnswer) (m : Desk)
          → pstep s (Next core.peer moment.now) d m
          → Turns pstep (job (due moment core) d) m x t
          → PushedSome
      by_next (Arrival r) m one q = absurd one
      by_next (First d) m one q = absurd one
      by_next (Settling r) m one q = absurd one
      by_next (Upcoming (Ok None)) m one q = kept (ap (λ (y : Effect). y.core.site) q.0)
          (ap (λ (y : Effect). y.core.peer) q.0) (q.1 ∙ one.1)
          ([], ap (λ (y : Effect). bytes_of y.acts) q.0, tt)
          (subst
          (λ (y : Effect). CallsAt link.caller_connected link.stage link.receiver y.core) (sym q.0)
          (stands_by (dried core) (still_open true)))
      by_next (Upcoming (Ok (Some (nextrow.Unreadable uid)))) m one q =
          let g : Turns pstep (passes_over moment uid core) s x t = subst
          (λ (d : Desk). Turns pstep (passes_over moment uid core) d x t) one.1 q in
          let own : Turns pstep (passes_over moment one.0.0.uid core) s x t = subst
          (λ (u : Text). Turns pstep (passes_over moment u core) s x t) one.0.2 g in
          let a = by_passing one.0.0.uid own.1 own.0 own.2 own.3 in
          passed_as one.0.0 (next_is one.0.0 one.0.1) a.0 a.1 a.2
      by_next (Upcoming (Ok (Some (nextrow.Whole it)))) m one q =
          let named : can_be_named it ≡ true = elim (cases_Bool (can_be_named it)) [
            | inl it_can ↦ it_can
            | inr it_cannot ↦ absurd
                (∥∥₁_elim one.0.1
                (λ a b. absurd a)
                (λ is. false≢true (sym it_cannot ∙ items_are_named it is)))
          ] in
          let q1 : Turns pstep (gives core.agreed moment it core) m x t = subst
          (λ (b : Bool). Turns pstep
          (if b then gives core.agreed moment it core else aborts_desk moment core) m x t) named
          q in
          let g : Turns pstep (gives (Some agreed) moment it core) s x t = subst
          (λ (d : Desk). Turns pstep (gives (Some agreed) moment it core) d x t) one.1
          (subst
          (λ (o : Option Agreed). Turns pstep (gives o moment it core) m x t) h.0.1.1 q1) in
          by_context it one.0 (context_for agreed it.key.class (syntax_uid it.key.syntax)) refl g
      by_next (Upcoming (Err fault.Store)) m one q = breaks q.0 (q.1 ∙ one.1)
      by_next (Upcoming (Err fault.Memory)) m one q = absurd q
      by_next (Upcoming (Err fault.NoLine)) m one q = absurd one.0
      by_next (Upcoming (Err fault.Conflict)) m one q = absurd one.0
      by_next (Upcoming (Err fault.NotWaiting)) m one q = absurd one.0
      by_next (Upcoming (Err fault.NotHeld)) m one q = absurd one.0
      by_next (Upcoming (Err fault.NotOver)) m one q = absurd one.0

      open_pushes : Reacts pstep k.core (at_moment moment PushAsked) s x t → PushedSome
      open_pushes r =
          let idle : is_idle k.core ≡ true =
          ap (λ (o : Option Pending). is_requestor k.core && not (is_some o)) h.1
          ∙ ap (λ (b : Bool). b && true) (side_is k.core true Sta6 at) in
          let ready : is_free k.core ≡ true =
          ap (λ (b : Bool). b && may_send k.core.phase) idle ∙ h.4 in
          let a = acts_as pstep moment k.core s t x (Plain PushAsked) DataRequest true Sta6 Dt1 Sta6
          at (ap (λ (b : Bool). if b then Some DataRequest else None) ready) refl
          (as_plain pstep moment k.core s t x PushAsked r r.tells) in
          by_next a.0 a.1 a.2 a.3

  by_stage : link.caller_connected ≡ true
      → (stage : Stage) → link.stage ≡ stage
      → CallsAt true stage link.receiver k.core
      → Reacts pstep k.core (at_moment moment PushAsked) s x t
      → PushedSome
  by_stage on Asking e h r = not_free
      (ap (λ (b : Bool). is_idle k.core && b) h.6 ∙ and_false (is_idle k.core))
      (subst
      (λ (b : Bool). CallsAt b link.stage link.receiver k.core) (sym on)
      (subst (λ (st : Stage). CallsAt true st link.receiver k.core) (sym e) h)) r
  by_stage on (Open accepted) e h r = open_pushes on accepted e h r
  by_stage on (Storing accepted item) e h r =
      let idle : is_idle k.core ≡ false =
      ap (λ (o : Option Pending). is_requestor k.core && not (is_some o)) h.1.2
      ∙ and_false (is_requestor k.core) in
      not_free (ap (λ (b : Bool). b && may_send k.core.phase) idle)
      (subst
      (λ (b : Bool). CallsAt b link.stage link.receiver k.core) (sym on)
      (subst (λ (st : Stage). CallsAt true st link.receiver k.core) (sym e) h)) r
  by_stage on (Answering accepted) e h r = absurd h
  by_stage on Rejecting e h r = absurd h
  by_stage on (Replying accepted item status) e h r = absurd h
  by_stage on Gone e h r = absurd h

  off_pushes : link.caller_connected ≡ false
      → IsOff k.core true
      → Reacts pstep k.core (at_moment moment PushAsked) s x t
      → PushedSome
  off_pushes is_off off r =
      let h = off_stays_off pstep k.core true off (at_moment moment PushAsked) s t x r in
      kept h.1.1 h.1.2 h.0 (h.1.4.0, h.1.4.1, h.1.4.2)
      (subst (λ (b : Bool). CallsAt b link.stage link.receiver x.core) (sym is_off) h.1.0)

  pub caller_pushes : CallsAt link.caller_connected link.stage link.receiver k.core
      → Reacts pstep k.core (at_moment moment PushAsked) s x t
      → PushedSome
  caller_pushes stands r = elim (cases_Bool link.caller_connected) [
    | inl on ↦ by_stage on link.stage refl
        (subst (λ (b : Bool). CallsAt b link.stage link.receiver k.core) on stands) r
    | inr is_off ↦ off_pushes is_off
        (subst (λ (b : Bool). CallsAt b link.stage link.receiver k.core) is_off stands) r
  ]

pub one_push_comes : OnePushComes
one_push_comes ours plan certificate name w number k s calls moment time x t r =
    let link : Link = calls.shows.1.0 in
    let call : IsCallOf ours name link k.core = calls.shows.1.2 in
    let P : Text → Type 0 = λ n. ours n ≡ true → IsDeskOf w n s
    → IsSideOf plan certificate n k.core k.ear
    → Reacts (LedgerStep plan n) k.core (at_moment moment PushAsked) s x t
    → (pushed : Pushed) × (v : World)
    × LeadsTo ours plan n w number (acts_of_push number pushed) v
    × Sends v number pushed x.acts
    × CallsIn ours plan certificate n v number (record { core = x.core; ear = k.ear }) t in
    subst P call.caller
    (λ own desk side turns. caller_pushes ours plan certificate w number link k s calls.shows.1.1
    call.receiver call.peer own desk side moment time x t call.on call.stands turns)
    calls.own calls.desk calls.shows.0 r

-- ---- how it begins

pub requestors_begin : RequestorsBegin
requestors_begin ours plan certificate site dest rq now w s is own away hop proposal desk = (
  (tt, (Rattle.dr_world_model.specs.Steps.asked w site.name dest, (hop, refl), (refl, refl))),
  record {
    own = own;
    desk = desk;
    shows = (
      (is, refl, refl, refl),
      (
        new_link site.name dest,
        get_new numbers w.links (w.opened + 1) (new_link site.name dest),
        record {
          receiver = away;
          caller = refl;
          peer = refl;
          on = λ e. refl;
          stands = (
            (standing Sta5 true now, refl, refl, refl),
            refl,
            refl,
            refl,
            refl,
            (rq, refl, proposal),
            refl,
          );
        },
      ),
    );
  },
)

-- ---- a data set that is let go

idle_still : (stage : Taken) → stage ≡ Idle → let_go stage ≡ Idle
idle_still stage e = ap let_go e

no_data_still : (stage : Taken) → data_of stage ≡ None → data_of (let_go stage) ≡ None
no_data_still Idle e = refl
no_data_still (InCommand id text) e = refl
no_data_still (InData id command body) e = absurd (cc e)

awaited_still : (awaited : Awaited) (stage : Taken)
    → GoesOnAwaited awaited stage
    → GoesOnAwaited awaited (let_go stage)
awaited_still awaited Idle h = tt
awaited_still awaited (InCommand id text) h = tt
awaited_still awaited (InData id command body) h = h

off_still : (c : Core) (requestor : Bool) → IsOff c requestor → IsOff (without_data c) requestor
off_still c requestor (free, inl gone) = (free, inl gone)
off_still c requestor (free, inr (inl (side, at, awaits, none))) =
    (free, inr (inl (side, at, awaits, no_data_still c.assembly.stage none)))
off_still c requestor (free, inr (inr at)) = (free, inr (inr at))

stands_still : (plan : Network) (name : Text) (b : Bool) (stage : Stage) (caller : Text) (c : Core)
    → StandsAt plan name b stage caller c
    → StandsAt plan name b stage caller (without_data c)
stands_still plan name false stage caller c h = off_still c false h
stands_still plan name true (Answering accepted) caller c h = h
stands_still plan name true (Open accepted) caller c h = h
stands_still plan name true (Replying accepted item status) caller c h = h
stands_still plan name true Asking caller c h = absurd h
stands_still plan name true (Storing accepted item) caller c h = absurd h
stands_still plan name true Rejecting caller c h = absurd h
stands_still plan name true Gone caller c h = absurd h

calls_still : (b : Bool) (stage : Stage) (receiver : Text) (c : Core)
    → CallsAt b stage receiver c
    → CallsAt b stage receiver (without_data c)
calls_still false stage receiver c h = off_still c true h
calls_still true Asking receiver c h =
    (h.0, h.1, h.2, idle_still c.assembly.stage h.3, h.4, h.5, h.6)
calls_still true (Open accepted) receiver c h =
    (h.0, h.1, h.2, awaited_still c.assembly.awaited c.assembly.stage h.3, h.4)
calls_still true (Storing accepted item) receiver c h =
    (h.0, h.1, awaited_still c.assembly.awaited c.assembly.stage h.2, h.3)
calls_still true (Answering accepted) receiver c h = absurd h
calls_still true Rejecting receiver c h = absurd h
calls_still true (Replying accepted item status) receiver c h = absurd h
calls_still true Gone receiver c h = absurd h

pub foreign_still : (ours : Ours) (plan : Network) (certificate : Certificate) (name : Text)
    (w : World) (opened : Option ℕ) (c : Core) (ear : Feeding)
    → ShowsForeign ours plan certificate name w opened (record { core = c; ear = ear })
    → ShowsForeign ours plan certificate name w opened (record { core = without_data c; ear = ear })
foreign_still ours plan certificate name w None c ear (side, inl asking) =
    (side, inl (asking.0, asking.1, asking.2, asking.3, idle_still c.assembly.stage asking.4))
foreign_still ours plan certificate name w None c ear (side, inr off) =
    (side, inr (off_still c false off))
foreign_still ours plan certificate name w (Some number) c ear (side, (link, here, called)) = (
  side,
  (
    link,
    here,
    record {
      caller = called.caller;
      receiver = called.receiver;
      on = called.on;
      stands =
          stands_still plan name link.receiver_connected link.stage link.caller c called.stands;
    },
  ),
)

pub letting_go_is_nothing : LettingGoIsNothing
letting_go_is_nothing ours plan certificate name w number opened c ear = (
  λ h. foreign_still ours plan certificate name w opened c ear h,
  λ (side, (link, here, call)). (
    side,
    (
      link,
      here,
      record {
        receiver = call.receiver;
        caller = call.caller;
        peer = call.peer;
        on = call.on;
        stands = calls_still link.caller_connected link.stage link.receiver c call.stands;
      },
    ),
  ),
)
