-- A push.
use Rattle.std.proofs.Common.{◌≡◌, ℕ, Bool, true, false, List, [], ◌∷◌, ◌++◌, Contains, Option, Some, None, Ok, Err, refl, sym, ap, subst, ◌∙◌, inl, inr, ◌⊎◌}
use Rattle.std.proofs.Math.Logic.{∥∥₁_map}
use Rattle.std.specs.Prelude.{◌&&◌, if◌then◌else◌, find, option_map}
use Rattle.std.specs.FinSet as set
use Rattle.std.specs.Str.{bytes_eq}
use Rattle.std.proofs.lemmas.Bool.{cases_Bool, false≢true}
use Rattle.dr_site.specs.Sites.{IsCertified}
use Rattle.dr_base.specs.Texts.{Text}
use Rattle.dr_base.specs.Syntaxes.{syntax_uid}
use Rattle.dr_plan_model.specs.Networks.{Network}
use Rattle.dr_plan_sound.specs.declared.certificate.Certificate.{Certificate}
use Rattle.dr_ulstate.specs.declared.table.State.TheVariants.{Sta6}
use Rattle.dr_ulstate.specs.Standing.{moved}
use Rattle.dr_ulstate.specs.Phases.{in_its_phase}
use Rattle.dr_ledger.specs.declared.content.Job.{Job}
use Rattle.dr_ledger.specs.declared.content.NextRow.TheVariants as nextrow
use Rattle.dr_ledger.specs.Books.{Book}
use Rattle.dr_ledger.specs.Items.{instance_of}
use Rattle.dr_ledger.specs.Replies.{IsNext}
use Rattle.dr_ledger.proofs.Maps.{get_new}
use Rattle.dr_world_model.proofs.Lookups.{numbers}
use Rattle.dr_world_model.specs.Worlds.{World, Link, Stage, Contexts, Open, with_link, without_caller}
use Rattle.dr_world_model.specs.Steps.{IsLink, after_settling, stays_connected, pending as pending_of}
use Rattle.dr_world_model.specs.Events.{Give, PassOver, BreakCaller}
use Rattle.dr_nego.specs.declared.agreed.Agreed.{Agreed}
use Rattle.dr_nego.specs.declared.agreed.Pair.{Pair}
use Rattle.dr_session.specs.declared.ends.Core.{Core}
use Rattle.dr_session.specs.declared.ends.Effect.{Effect}
use Rattle.dr_session.specs.Ledgers.{Hands}
use Rattle.dr_nego.specs.Fragments.{spellings}
use Rattle.dr_session.specs.declared.ends.Moment.{Moment}
use Rattle.dr_nego.specs.Agreeing.{context_for, is_for}
use Rattle.dr_session.specs.Reactions.{can_be_named, aborted, aborts_desk, aborts_idle, passes_over, abort_pdu, desk_failed, due, event_of, gives, is_idle, is_free, is_requestor, job, left, quiet, settling, stepped_by, effect, gives_in, write}
use Rattle.dr_session.specs.Turns.{Turns}
use Rattle.dr_world_tie.specs.Desks.{Desk, LedgerStep}
use Rattle.dr_world_tie.specs.Channels.{IsOff, bytes_of, Channel, Carries, ShowsLink, ToCaller, ToReceiver, IsAt, IsCaller, IsReceiver, site_of}
use Rattle.dr_world_tie.specs.Ties.{IsDeskOf, OnlyHere, Happens, caller_did, PushGives}
use Rattle.dr_world_tie.proofs.ContextSets.{from_context}
use Rattle.dr_world_tie.proofs.Leaving.{only_link, acts_by, plain_turn, carries_more, abort_fits}
use Rattle.std.specs.Prelude.{not, is_some}
use Rattle.std.specs.Option.{option_map_or}
use Rattle.std.specs.FinMap as map_of
use Rattle.std.proofs.lemmas.List.{append-nil}
use Rattle.dr_plan_model.proofs.Gathered.{nothing_in_nil, Contains-cons_cases}
use Rattle.dr_nego.proofs.OneContext.{same_texts}
use Rattle.dr_ulstate.specs.declared.table.Action.TheVariants.{Dt1}
use Rattle.dr_ulstate.specs.declared.table.Event.TheVariants.{AbortRequest, DataRequest}
use Rattle.dr_ulstate.specs.declared.table.State.TheVariants.{Sta13}
use Rattle.dr_ulstate.specs.Standing.{Standing}
use Rattle.dr_ulstate.specs.Phases.{may_send}
use Rattle.dr_ledger.specs.declared.item.Instance.{Instance}
use Rattle.dr_ledger.specs.declared.item.Outcome.TheVariants.{NoContext, Unreadable}
use Rattle.dr_ledger.specs.declared.fault.LedgerFault.TheVariants as fault
use Rattle.dr_world_model.specs.Calls.{Answer}
use Rattle.dr_session.specs.declared.ends.Input.TheVariants.{PushAsked}
use Rattle.dr_session.specs.declared.ends.Pending.{Pending}
use Rattle.dr_session.specs.declared.ends.Told.TheVariants.{Plain}
use Rattle.dr_session.specs.Desks.{DeskCall, DeskAnswer, Next, Settle, Arrival, Upcoming, First, Settling}
use Rattle.dr_session.specs.Plays.{Reacts, at_moment}
use Rattle.dr_session.proofs.Named.{items_are_named}
use Rattle.std.proofs.Math.Logic.{∥∥₁_elim}
use Rattle.dr_world_tie.proofs.CallerLeaving.{Does, caller_gone, off_shown}
use Rattle.dr_world_tie.proofs.Giving.{happens}
use Rattle.dr_world_tie.proofs.Responses.{Settled, settled}

-- where no context is found, none is of that class and transfer syntax
pub none_of : (class syntax : Text) (xs : List Pair) → option_map (λ (x : Pair). x.id) (find (is_for class syntax) xs) ≡ None → (x : Pair) → Contains xs x → x.class ≡ class → x.syntax ≡ syntax → ⊥
none_of class syntax [] e x h c t = nothing_in_nil x h
none_of class syntax (y ∷ ys) e x h c t = elim (cases_Bool (is_for class syntax y)) [
  | inl is_so ↦ (let f : Some y.id ≡ None = subst (λ (b : Bool). option_map (λ (z : Pair). z.id) (if b then Some y else find (is_for class syntax) ys) ≡ None) is_so e in cc)
  | inr is_not ↦ elim (Contains-cons_cases y ys x h) [
    | inl same ↦
        let named : is_for class syntax x ≡ true = ap (λ (b : Bool). b && bytes_eq x.syntax syntax) (same_texts x.class class c) ∙ same_texts x.syntax syntax t in
        false≢true (sym is_not ∙ (ap (λ (z : Pair). is_for class syntax z) same ∙ named))
    | inr later ↦ none_of class syntax ys (subst (λ (b : Bool). option_map (λ (z : Pair). z.id) (if b then Some y else find (is_for class syntax) ys) ≡ None) is_not e) x later c t
  ]
]

module _ (plan : Network) (certificate : Certificate) (w : World) (number : ℕ) (link : Link) (k : Channel) (s : Desk) (here : IsLink w number link) (desk : IsDeskOf w link.caller s) (shows : ShowsLink plan certificate k link)
    (on : link.caller_connected ≡ true) (accepted : Contexts) (is_open : link.stage ≡ Open accepted)
    (certified : IsCertified plan certificate)
    (moment : Moment) (time : moment.now ≡ w.time) (x : Effect) (t : Desk) where
  abbrev cstep : Desk → DeskCall → DeskAnswer → Desk → Type 0
  cstep = LedgerStep plan link.caller

  at_open : IsCaller true (Open accepted) link.receiver k.caller.core
  at_open = subst (λ (st : Stage). IsCaller true st link.receiver k.caller.core) is_open (subst (λ (b : Bool). IsCaller b link.stage link.receiver k.caller.core) on shows.caller)

  abbrev at : IsAt k.caller.core true Sta6
  at = at_open.0.0

  abbrev core : Core
  core = record k.caller.core { phase = in_its_phase (moved at.0 Sta6 moment.now) }

  abbrev failed_core : Core
  failed_core = desk_failed (aborted (left (stepped_by AbortRequest moment.now core)))

  abbrev idle_core : Core
  idle_core = aborted (left (stepped_by AbortRequest moment.now core))

  abbrev Result_is : Type 0
  Result_is = ∥ ((answer : Option Answer) × Happens plan certificate w number (Give number answer) link.caller t (caller_did k x)) ∥₁
      ⊎ (Happens plan certificate w number (BreakCaller number None) link.caller t (caller_did k x)
      ⊎ (((answer : Answer) × Happens plan certificate w number (PassOver number answer) link.caller t (caller_did k x))
      ⊎ ((t ≡ s) × ShowsLink plan certificate (caller_did k x) link × ((item : Instance) → IsNext (w.books link.caller) link.receiver w.time item → ⊥))))

  -- nothing is under way to the receiver
  to_receiver_at : (o : link.receiver_connected ≡ true) → Carries k.receiver k.to_receiver (λ pdus. pdus ≡ []) link.caller_connected
  to_receiver_at o = subst (λ (st : Stage). Carries k.receiver k.to_receiver (ToReceiver st link.receiver k.caller.core k.receiver.core) link.caller_connected) is_open (shows.to_receiver o)

  to_caller_at : (o : link.caller_connected ≡ true) → Carries k.caller k.to_caller (λ pdus. pdus ≡ []) link.receiver_connected
  to_caller_at o = subst (λ (st : Stage). Carries k.caller k.to_caller (ToCaller st (site_of k.receiver.core) k.caller.core) link.receiver_connected) is_open (shows.to_caller o)

  receiver_at : IsReceiver link.receiver_connected (Open accepted) link.caller k.receiver.core
  receiver_at = subst (λ (st : Stage). IsReceiver link.receiver_connected st link.caller k.receiver.core) is_open shows.receiver

  with_core : (c : Core) → Carries k.caller k.to_caller (λ pdus. pdus ≡ []) link.receiver_connected → Carries (record { core = c; ear = k.caller.ear }) k.to_caller (λ pdus. pdus ≡ []) link.receiver_connected
  with_core c old = record { coming = old.coming; is = old.is; controls = old.controls; joined = old.joined; works = old.works; waits = old.waits; fits = old.fits; control = old.control; none = old.none }

  -- the end goes on, and the link is as it was
  goes_on_as : (dry : Bool) (after : Link) → after ≡ record { caller = link.caller; receiver = link.receiver; caller_connected = true; receiver_connected = link.receiver_connected; stage = Open accepted } → ShowsLink plan certificate (caller_did k (effect [] (record core { dry = dry }))) after
  goes_on_as dry after e = subst (λ (l : Link). ShowsLink plan certificate (caller_did k (effect [] (record core { dry = dry }))) l) (sym e) record {
    hop = shows.hop;
    from = shows.from;
    to = shows.to;
    peer = shows.peer;
    caller_agrees = λ o. shows.caller_agrees on;
    receiver_agrees = shows.receiver_agrees;
    caller = (((moved at.0 Sta6 moment.now, refl, at.2, refl), at_open.0.1), at_open.1, at_open.2, at_open.3, refl);
    receiver = receiver_at;
    to_receiver = λ o. subst (λ (b : Bool). Carries k.receiver (k.to_receiver ++ []) (λ pdus. pdus ≡ []) b) on
        (subst (λ (l : List ℕ). Carries k.receiver l (λ pdus. pdus ≡ []) link.caller_connected) (sym (append-nil k.to_receiver)) (to_receiver_at o));
    to_caller = λ o. with_core (record core { dry = dry }) (to_caller_at on);
  }

  goes_on : (after : Link) → after ≡ record { caller = link.caller; receiver = link.receiver; caller_connected = true; receiver_connected = link.receiver_connected; stage = Open accepted } → ShowsLink plan certificate (caller_did k (effect [] core)) after
  goes_on after e = goes_on_as core.dry after e

  is_link : link ≡ record { caller = link.caller; receiver = link.receiver; caller_connected = true; receiver_connected = link.receiver_connected; stage = Open accepted }
  is_link = ap (λ (b : Bool). let l : Link = record { caller = link.caller; receiver = link.receiver; caller_connected = b; receiver_connected = link.receiver_connected; stage = link.stage } in l) on
      ∙ ap (λ (st : Stage). let l : Link = record { caller = link.caller; receiver = link.receiver; caller_connected = true; receiver_connected = link.receiver_connected; stage = st } in l) is_open

  -- its store failed: it leaves
  breaks : x ≡ effect (write (abort_pdu 0 0 ∷ []) ∷ []) failed_core → t ≡ s → Result_is
  breaks e same = inr (inl (caller_gone plan certificate w number link k s here desk shows on k.caller.ear k.to_caller refl x t None (abort_pdu 0 0 ∷ [])
      (subst (λ (st : Stage). Does plan link.caller k.caller.core w.time (pending_of st) None s t) (sym is_open) same)
      (ap (λ (y : Effect). y.core.site) e) (ap (λ (y : Effect). y.core.peer) e) (ap (λ (y : Effect). y.core.proposed) e)
      (subst (λ (y : Effect). IsOff y.core true) (sym e) (refl, inr (inr (moved (moved at.0 Sta6 moment.now) Sta13 moment.now, refl, at.2, refl))))
      (ap (λ (y : Effect). bytes_of y.acts) e ∙ append-nil (spellings (abort_pdu 0 0 ∷ []))) (tt, tt) (abort_fits k.receiver.ear.limit 0 0)))

  -- ---- no context

  abbrev Goes : Answer → Effect → Type 0
  Goes (Ok r) y = y ≡ effect [] core
  Goes (Err fault.NotWaiting) y = y ≡ effect [] core
  Goes (Err fault.Store) y = y ≡ effect (write (abort_pdu 0 0 ∷ []) ∷ []) failed_core
  Goes (Err why) y = ⊥

  by_answer : (uid : Text) (m : Desk) (a : DeskAnswer) → cstep s (Settle uid core.peer NoContext moment.now) a m → Turns cstep (settling (quiet core) (aborts_desk moment core) a) m x t
      → (answer : Answer) × cstep s (Settle uid core.peer NoContext moment.now) (Settling answer) t × Goes answer x
  by_answer uid m (Settling (Ok r)) h (e, same) = (Ok r, subst (λ (d : Desk). cstep s (Settle uid core.peer NoContext moment.now) (Settling (Ok r)) d) (sym same) h, e)
  by_answer uid m (Settling (Err fault.NotWaiting)) h (e, same) = (Err fault.NotWaiting, subst (λ (d : Desk). cstep s (Settle uid core.peer NoContext moment.now) (Settling (Err fault.NotWaiting)) d) (sym same) h, e)
  by_answer uid m (Settling (Err fault.Store)) h (e, same) = (Err fault.Store, subst (λ (d : Desk). cstep s (Settle uid core.peer NoContext moment.now) (Settling (Err fault.Store)) d) (sym same) h, e)
  by_answer uid m (Settling (Err fault.Memory)) h q = absurd q
  by_answer uid m (Settling (Err fault.NoLine)) h q = absurd h.0
  by_answer uid m (Settling (Err fault.Conflict)) h q = absurd h.0
  by_answer uid m (Settling (Err fault.NotHeld)) h q = absurd h.0
  by_answer uid m (Settling (Err fault.NotOver)) h q = absurd h.0
  by_answer uid m (Arrival r) h q = absurd h
  by_answer uid m (Upcoming d) h q = absurd h
  by_answer uid m (First d) h q = absurd h

  module _ (item : Instance) (first : IsNext (w.books link.caller) link.receiver w.time item) (lacks : set.contains accepted (item.key.class, item.key.syntax) ≡ false) (answer : Answer)
      (h : cstep s (Settle item.uid k.caller.core.peer NoContext moment.now) (Settling answer) t) where
    st : Settled w link item.uid NoContext answer t
    st = settled plan w link k.caller.core.peer item.uid NoContext moment.now answer s t desk shows.peer time h

    abbrev after_link : Link
    after_link = after_settling link answer accepted

    only_here : OnlyHere w (with_link st.mid number after_link) number link.caller
    only_here = record {
      books = st.books;
      links = λ other apart. (only_link st.mid number after_link link.caller).links other apart ∙ ap (λ (l : _). map_of.get l other) st.links;
      armed = st.armed;
      rest = st.rest;
    }

    abbrev Given_as : Effect → Type 0
    Given_as y = Happens plan certificate w number (Give number (Some answer)) link.caller t (caller_did k y)

    given_by : (y : Effect) → ShowsLink plan certificate (caller_did k y) after_link → Given_as y
    given_by y shown = record {
      after = with_link st.mid number after_link;
      link = after_link;
      step = record { link = link; accepted = accepted; item = item; at = here; on = on; stage = is_open; first = first; then = (lacks, (st.mid, st.settles, refl)) };
      here = get_new numbers st.mid.links number after_link;
      desk = st.desk_is;
      only = only_here;
      shows = shown;
    }

    left_shown : stays_connected answer ≡ false → ShowsLink plan certificate (caller_did k (effect (write (abort_pdu 0 0 ∷ []) ∷ []) failed_core)) after_link
    left_shown off = record {
      hop = shows.hop;
      from = shows.from;
      to = shows.to;
      peer = shows.peer;
      caller_agrees = λ o. shows.caller_agrees on;
      receiver_agrees = shows.receiver_agrees;
      caller = subst (λ (b : Bool). IsCaller b (Open accepted) link.receiver failed_core) (sym off) (refl, inr (inr (moved (moved at.0 Sta6 moment.now) Sta13 moment.now, refl, at.2, refl)));
      receiver = receiver_at;
      to_receiver = λ o. subst (λ (b : Bool). Carries k.receiver (k.to_receiver ++ (spellings (abort_pdu 0 0 ∷ []) ++ [])) (λ pdus. pdus ≡ []) b) (sym off)
          (subst (λ (l : List ℕ). Carries k.receiver (k.to_receiver ++ l) (λ pdus. pdus ≡ []) false) (sym (append-nil (spellings (abort_pdu 0 0 ∷ []))))
          (carries_more k.receiver k.to_receiver (λ pdus. pdus ≡ []) link.caller_connected (to_receiver_at o) (abort_pdu 0 0 ∷ []) (tt, tt) (abort_fits k.receiver.ear.limit 0 0)));
      to_caller = λ o. absurd (false≢true (sym off ∙ o));
    }

  settles : (item : Instance) → IsNext (w.books link.caller) link.receiver w.time item → set.contains accepted (item.key.class, item.key.syntax) ≡ false → (answer : Answer)
      → cstep s (Settle item.uid k.caller.core.peer NoContext moment.now) (Settling answer) t → Goes answer x → (a : Option Answer) × Happens plan certificate w number (Give number a) link.caller t (caller_did k x)
  settles item first lacks (Ok r) h g = (Some (Ok r), subst (λ (y : Effect). Given_as item first lacks (Ok r) h y) (sym g) (given_by item first lacks (Ok r) h (effect [] core) (goes_on (after_settling link (Ok r) accepted) refl)))
  settles item first lacks (Err fault.NotWaiting) h g = (Some (Err fault.NotWaiting), subst (λ (y : Effect). Given_as item first lacks (Err fault.NotWaiting) h y) (sym g) (given_by item first lacks (Err fault.NotWaiting) h (effect [] core) (goes_on (after_settling link (Err fault.NotWaiting) accepted) refl)))
  settles item first lacks (Err fault.Store) h g = (Some (Err fault.Store), subst (λ (y : Effect). Given_as item first lacks (Err fault.Store) h y) (sym g) (given_by item first lacks (Err fault.Store) h (effect (write (abort_pdu 0 0 ∷ []) ∷ []) failed_core) (left_shown item first lacks (Err fault.Store) h refl)))
  settles item first lacks (Err fault.Memory) h g = absurd g
  settles item first lacks (Err fault.NoLine) h g = absurd g
  settles item first lacks (Err fault.Conflict) h g = absurd g
  settles item first lacks (Err fault.NotHeld) h g = absurd g
  settles item first lacks (Err fault.NotOver) h g = absurd g

  -- ---- a data set that can't be read

  abbrev Passes : Answer → Effect → Type 0
  Passes (Ok r) y = y ≡ effect (write (abort_pdu 0 0 ∷ []) ∷ []) idle_core
  Passes (Err fault.NotWaiting) y = y ≡ effect (write (abort_pdu 0 0 ∷ []) ∷ []) idle_core
  Passes (Err fault.Store) y = y ≡ effect (write (abort_pdu 0 0 ∷ []) ∷ []) failed_core
  Passes (Err why) y = ⊥

  by_passing : (uid : Text) (m : Desk) (a : DeskAnswer) → cstep s (Settle uid core.peer Unreadable moment.now) a m → Turns cstep (settling (aborts_idle moment core) (aborts_desk moment core) a) m x t
      → (answer : Answer) × cstep s (Settle uid core.peer Unreadable moment.now) (Settling answer) t × Passes answer x
  by_passing uid m (Settling (Ok r)) h (e, same) = (Ok r, subst (λ (d : Desk). cstep s (Settle uid core.peer Unreadable moment.now) (Settling (Ok r)) d) (sym same) h, e)
  by_passing uid m (Settling (Err fault.NotWaiting)) h (e, same) = (Err fault.NotWaiting, subst (λ (d : Desk). cstep s (Settle uid core.peer Unreadable moment.now) (Settling (Err fault.NotWaiting)) d) (sym same) h, e)
  by_passing uid m (Settling (Err fault.Store)) h (e, same) = (Err fault.Store, subst (λ (d : Desk). cstep s (Settle uid core.peer Unreadable moment.now) (Settling (Err fault.Store)) d) (sym same) h, e)
  by_passing uid m (Settling (Err fault.Memory)) h q = absurd q
  by_passing uid m (Settling (Err fault.NoLine)) h q = absurd h.0
  by_passing uid m (Settling (Err fault.Conflict)) h q = absurd h.0
  by_passing uid m (Settling (Err fault.NotHeld)) h q = absurd h.0
  by_passing uid m (Settling (Err fault.NotOver)) h q = absurd h.0
  by_passing uid m (Arrival r) h q = absurd h
  by_passing uid m (Upcoming d) h q = absurd h
  by_passing uid m (First d) h q = absurd h

  -- it was settled so, and the end left
  passed_by : (item : Instance) → IsNext (w.books link.caller) link.receiver w.time item → (answer : Answer) → cstep s (Settle item.uid k.caller.core.peer Unreadable moment.now) (Settling answer) t
      → (c : Core) → x ≡ effect (write (abort_pdu 0 0 ∷ []) ∷ []) c → c.site ≡ k.caller.core.site → c.peer ≡ k.caller.core.peer → c.proposed ≡ k.caller.core.proposed → IsOff c true
      → Happens plan certificate w number (PassOver number answer) link.caller t (caller_did k x)
  passed_by item first answer h c e site peer proposed off =
      let st = settled plan w link k.caller.core.peer item.uid Unreadable moment.now answer s t desk shows.peer time h in
      record {
        after = with_link st.mid number (without_caller link);
        link = without_caller link;
        step = record { link = link; accepted = accepted; item = item; at = here; on = on; stage = is_open; first = first; mid = st.mid; call = st.settles; is = refl };
        here = get_new numbers st.mid.links number (without_caller link);
        desk = st.desk_is;
        only = record {
          books = st.books;
          links = λ other apart. (only_link st.mid number (without_caller link) link.caller).links other apart ∙ ap (λ (l : _). map_of.get l other) st.links;
          armed = st.armed;
          rest = st.rest;
        };
        shows = off_shown plan certificate w number link k s here desk shows on k.caller.ear k.to_caller refl x t (abort_pdu 0 0 ∷ [])
            (ap (λ (y : Effect). y.core.site) e ∙ site) (ap (λ (y : Effect). y.core.peer) e ∙ peer) (ap (λ (y : Effect). y.core.proposed) e ∙ proposed)
            (subst (λ (y : Effect). IsOff y.core true) (sym e) off) (ap (λ (y : Effect). bytes_of y.acts) e ∙ append-nil (spellings (abort_pdu 0 0 ∷ []))) (tt, tt) (abort_fits k.receiver.ear.limit 0 0);
      }

  passed_as : (item : Instance) → IsNext (w.books link.caller) link.receiver w.time item → (answer : Answer) → cstep s (Settle item.uid k.caller.core.peer Unreadable moment.now) (Settling answer) t
      → Passes answer x → Happens plan certificate w number (PassOver number answer) link.caller t (caller_did k x)
  passed_as item first (Ok r) h g = passed_by item first (Ok r) h idle_core g refl refl refl (refl, inr (inr (moved (moved at.0 Sta6 moment.now) Sta13 moment.now, refl, at.2, refl)))
  passed_as item first (Err fault.NotWaiting) h g = passed_by item first (Err fault.NotWaiting) h idle_core g refl refl refl (refl, inr (inr (moved (moved at.0 Sta6 moment.now) Sta13 moment.now, refl, at.2, refl)))
  passed_as item first (Err fault.Store) h g = passed_by item first (Err fault.Store) h failed_core g refl refl refl (refl, inr (inr (moved (moved at.0 Sta6 moment.now) Sta13 moment.now, refl, at.2, refl)))
  passed_as item first (Err fault.Memory) h g = absurd g
  passed_as item first (Err fault.NoLine) h g = absurd g
  passed_as item first (Err fault.Conflict) h g = absurd g
  passed_as item first (Err fault.NotHeld) h g = absurd g
  passed_as item first (Err fault.NotOver) h g = absurd g

  -- ---- what the desk answers

  abbrev agreed : Agreed
  agreed = at_open.0.1.0

  lacking : (class : Text) (syntax : _) → context_for agreed class (syntax_uid syntax) ≡ None → set.contains accepted (class, syntax) ≡ false
  lacking class syntax none = elim (cases_Bool (set.contains accepted (class, syntax))) [
    | inl is_so ↦
        let p = from_context agreed.pairs class syntax (subst (λ (z : Contexts). set.contains z (class, syntax) ≡ true) at_open.0.1.2 is_so) in
        absurd (none_of class (syntax_uid syntax) agreed.pairs none p.0 p.1 p.2 p.3)
    | inr is_not ↦ is_not
  ]

  next_is : (i : Instance) → IsNext s.book k.caller.core.peer moment.now i → IsNext (w.books link.caller) link.receiver w.time i
  next_is i n = subst (λ (p : Text). IsNext (w.books link.caller) p w.time i) shows.peer (subst (λ (m : ℕ). IsNext (w.books link.caller) k.caller.core.peer m i) time (subst (λ (b : Book). IsNext b k.caller.core.peer moment.now i) desk.0 n))

  next_was : (i : Instance) → IsNext (w.books link.caller) link.receiver w.time i → IsNext s.book k.caller.core.peer moment.now i
  next_was i n = subst (λ (b : Book). IsNext b k.caller.core.peer moment.now i) (sym desk.0) (subst (λ (m : ℕ). IsNext (w.books link.caller) k.caller.core.peer m i) (sym time) (subst (λ (p : Text). IsNext (w.books link.caller) p w.time i) (sym shows.peer) n))

  by_context : (job : Job) → Hands s.book k.caller.core.peer moment.now (Some (nextrow.Whole job)) → (o : Option ℕ) → context_for agreed job.key.class (syntax_uid job.key.syntax) ≡ o → Turns cstep (gives_in o agreed moment job core) s x t → Result_is
  by_context job hands (Some context) found h =
      let it = happens plan certificate w number link k s here desk shows on accepted is_open moment time job (subst (λ (p : Text). Hands s.book p moment.now (Some (nextrow.Whole job))) shows.peer hands) agreed at_open.0.1.1 context found certified at x t h in
      inl (∥∥₁_map it (λ one. (None, one)))
  by_context job hands None found h =
      let a = by_answer job.uid h.1 h.0 h.2 h.3 in
      inl ∣ settles (instance_of job) (next_is (instance_of job) hands.0) (lacking job.key.class job.key.syntax found) a.0 a.1 a.2 ∣₁

  by_next : (d : DeskAnswer) (m : Desk) → cstep s (Next core.peer moment.now) d m → Turns cstep (job (due moment core) d) m x t → Result_is
  by_next (Arrival r) m one h = absurd one
  by_next (First d) m one h = absurd one
  by_next (Settling r) m one h = absurd one
  by_next (Upcoming (Ok None)) m one h = inr (inr (inr (h.1 ∙ one.1, subst (λ (y : Effect). ShowsLink plan certificate (caller_did k y) link) (sym h.0) (goes_on_as true link is_link), λ item next. (let n = next_was item next in one.0 item.uid n.due n.row))))
  by_next (Upcoming (Ok (Some (nextrow.Unreadable uid)))) m one h =
      let g : Turns cstep (passes_over moment uid core) s x t = subst (λ (d : Desk). Turns cstep (passes_over moment uid core) d x t) one.1 h in
      let own : Turns cstep (passes_over moment one.0.0.uid core) s x t = subst (λ (u : Text). Turns cstep (passes_over moment u core) s x t) one.0.2 g in
      let a = by_passing one.0.0.uid own.1 own.0 own.2 own.3 in
      inr (inr (inl (a.0, passed_as one.0.0 (next_is one.0.0 one.0.1) a.0 a.1 a.2)))
  by_next (Upcoming (Ok (Some (nextrow.Whole one_job)))) m one h =
      let named : can_be_named one_job ≡ true = elim (cases_Bool (can_be_named one_job)) [
        | inl yes_it_can ↦ yes_it_can
        | inr it_cannot ↦ absurd (∥∥₁_elim one.0.1 (λ a b. absurd a) (λ is. false≢true (sym it_cannot ∙ items_are_named one_job is)))
      ] in
      let h1 : Turns cstep (gives core.agreed moment one_job core) m x t = subst (λ (b : Bool). Turns cstep (if b then gives core.agreed moment one_job core else aborts_desk moment core) m x t) named h in
      let g : Turns cstep (gives (Some agreed) moment one_job core) s x t = subst (λ (d : Desk). Turns cstep (gives (Some agreed) moment one_job core) d x t) one.1
      (subst (λ (o : Option Agreed). Turns cstep (gives o moment one_job core) m x t) at_open.0.1.1 h1) in
      by_context one_job one.0 (context_for agreed one_job.key.class (syntax_uid one_job.key.syntax)) refl g
  by_next (Upcoming (Err fault.Store)) m one h = breaks h.0 (h.1 ∙ one.1)
  by_next (Upcoming (Err fault.Memory)) m one h = absurd h
  by_next (Upcoming (Err fault.NoLine)) m one h = absurd one.0
  by_next (Upcoming (Err fault.Conflict)) m one h = absurd one.0
  by_next (Upcoming (Err fault.NotWaiting)) m one h = absurd one.0
  by_next (Upcoming (Err fault.NotHeld)) m one h = absurd one.0
  by_next (Upcoming (Err fault.NotOver)) m one h = absurd one.0

  pub pushed : Reacts cstep k.caller.core (at_moment moment PushAsked) s x t → Result_is
  pushed r =
      let side : is_requestor k.caller.core ≡ true = ap (λ (o : Option Standing). option_map_or (λ (b : Standing). b.requestor) o false) at.1 ∙ at.2 in
      let idle : is_idle k.caller.core ≡ true = ap (λ (o : Option Pending). is_requestor k.caller.core && not (is_some o)) at_open.1 ∙ ap (λ (b : Bool). b && true) side in
      let ready : is_free k.caller.core ≡ true = ap (λ (b : Bool). b && may_send k.caller.core.phase) idle ∙ at_open.4 in
      let event : event_of (Plain PushAsked) moment k.caller.core ≡ Some DataRequest = ap (λ (b : Bool). if b then Some DataRequest else None) ready in
      let a = acts_by cstep moment k.caller.core (Plain PushAsked) DataRequest true Sta6 Dt1 Sta6 s t x at event refl refl (plain_turn cstep moment k.caller.core PushAsked s t x refl r) in
      by_next a.0 a.1 a.2 a.3

pub push_gives : PushGives
push_gives plan certificate certified w number link k s here desk shows on accepted is_open moment time x t r =
    pushed plan certificate w number link k s here desk shows on accepted is_open certified moment time x t r
