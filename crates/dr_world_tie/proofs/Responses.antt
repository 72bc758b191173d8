-- A Move that ends a PDU of a response.
use Rattle.std.proofs.Common.{◌≡◌, ℕ, Bool, true, false, List, [], ◌∷◌, ◌++◌, map, take, drop, Option, Some, None, Ok, Err, refl, sym, ap, subst, ◌∙◌, inl, inr, ◌⊎◌}
use Rattle.std.specs.List.{AllByRecursion}
use Rattle.std.specs.FinMap as map_of
use Rattle.std.proofs.lemmas.List.{append-nil}
use Rattle.std.proofs.lemmas.Bool.{eq-eqb, false≢true}
use Rattle.dr_base.specs.Texts.{Text}
use Rattle.dr_plan_model.specs.Networks.{Network}
use Rattle.dr_plan_sound.specs.declared.certificate.Certificate.{Certificate}
use Rattle.std.specs.Prelude.{if◌then◌else◌}
use Rattle.dr_ulstate.specs.declared.table.Event.TheVariants.{AbortRequest}
use Rattle.dr_ulstate.specs.declared.table.State.TheVariants.{Sta6, Sta13}
use Rattle.dr_ulstate.specs.Standing.{moved}
use Rattle.dr_ulstate.specs.Phases.{in_its_phase}
use Rattle.dr_pdu.specs.declared.pdu.Pdu.{Pdu}
use Rattle.dr_pdu.specs.declared.pdu.Pdv.{Pdv}
use Rattle.dr_pdu.specs.Written.{written}
use Rattle.dr_dimse.specs.declared.command.Command.{Command}
use Rattle.dr_dimse.specs.declared.command.Command.TheVariants.{StoreRsp}
use Rattle.dr_dimse.specs.Taking.{MessageStage as Taken, Idle as NothingTaken, TakesValue}
use Rattle.dr_nego.specs.Agreeing.{pair_at}
use Rattle.dr_pdu.specs.Feeding.{Feeding}
use Rattle.dr_ledger.specs.declared.item.Instance.{Instance}
use Rattle.dr_ledger.specs.declared.fault.LedgerFault.TheVariants as fault
use Rattle.dr_ledger.specs.Books.{Book}
use Rattle.dr_ledger.specs.Replies.{Settles, IsWaiting}
use Rattle.dr_ledger.proofs.Maps.{get_new}
use Rattle.dr_world_model.proofs.Lookups.{numbers}
use Rattle.dr_world_model.proofs.Safety.{book_here, book_there}
use Rattle.dr_world_model.specs.Worlds.{World, Link, Stage, Contexts, Open, Replying, with_link}
use Rattle.dr_world_model.specs.Calls.{Answer, Settlement, store_outcome_of}
use Rattle.dr_world_model.specs.Steps.{IsLink}
use Rattle.dr_world_model.specs.Steps.{after_settling, stays_connected}
use Rattle.dr_world_model.specs.Events.{Answered}
use Rattle.dr_session.specs.declared.ends.Core.{Core}
use Rattle.dr_session.specs.declared.ends.Effect.{Effect}
use Rattle.dr_session.specs.declared.ends.Input.TheVariants.{Value}
use Rattle.dr_session.specs.declared.ends.Pending.{Pending}
use Rattle.dr_session.specs.Desks.{DeskCall, DeskAnswer, Settle, Arrival, Upcoming, First, Settling}
use Rattle.dr_nego.specs.Fragments.{spellings}
use Rattle.dr_session.specs.declared.ends.Moment.{Moment}
use Rattle.dr_session.specs.Reactions.{Reaction, turn, occurs, event_of, has_waited, is_requestor, replied, settled_with, aborts_desk, stepped_by, leaves_by, left, aborted, desk_failed, settling, effect, write, abort_pdu, settles_by, storing}
use Rattle.dr_session.specs.Turns.{Ends, Turns}
use Rattle.dr_session.specs.Plays.{PlaysBytes, Reacts, at_moment, with_stage}
use Rattle.dr_session.specs.declared.ends.Told.{Told}
use Rattle.dr_session.specs.declared.ends.Told.TheVariants.{Whole}
use Rattle.dr_ulstate.specs.declared.table.Action.TheVariants.{Dt2}
use Rattle.dr_ulstate.specs.declared.table.Event.TheVariants.{DataPdu}
use Rattle.dr_ledger.specs.declared.item.Outcome.{Outcome}
use Rattle.dr_ledger.specs.declared.item.Outcome.TheVariants.{Status}
use Rattle.std.specs.FinSet as set
use Rattle.dr_world_model.specs.Worlds.{with_book, with_armed, same_text}
use Rattle.dr_world_tie.specs.Desks.{Desk, ArmedBy, LedgerStep}
use Rattle.dr_world_tie.specs.Channels.{alone, message, Gets, IsMessageFor, IsReceiver, Channel, Carries, ShowsLink, ToCaller, ToReceiver, IsCaller, IsAt, site_of}
use Rattle.dr_world_tie.specs.Ties.{IsData, IsFirstPdu, caller_read, HearsReply, IsDeskOf, OnlyHere, Happens}
use Rattle.dr_world_tie.proofs.Leaving.{AreFit, only_link, carries_more, acts_by, abort_fits}
use Rattle.dr_world_tie.proofs.CallerLeaving.{armed_after}
use Rattle.dr_world_tie.proofs.Agreeing.{front_is, plays_alone}
use Rattle.dr_world_tie.proofs.Fronts.{hears_one, nothing_yet}
use Rattle.dr_world_tie.proofs.Values.{quiet_by, told_by}

open_again : (b : Bool) (accepted : Contexts) (item : Instance) (status : ℕ) (caller : Text) (c : Core) → IsReceiver b (Replying accepted item status) caller c → IsReceiver b (Open accepted) caller c
open_again true accepted item status caller c h = h
open_again false accepted item status caller c h = h

-- ---- the settling in the message world

pub record Settled (w : World) (link : Link) (uid : Text) (outcome : Outcome) (answer : Answer) (t : Desk) : Type 0 where
  pub mid : World
  pub settles : Settlement w link.caller uid link.receiver outcome answer mid
  pub desk_is : IsDeskOf mid link.caller t
  pub books : (other : Text) → same_text other link.caller ≡ false → mid.books other ≡ w.books other
  pub armed : (other : Text) → same_text other link.caller ≡ false → set.contains mid.armed other ≡ set.contains w.armed other
  pub links : mid.links ≡ w.links
  pub rest : (mid.time ≡ w.time) × (mid.stood ≡ w.stood) × (mid.opened ≡ w.opened)

pub settled : (plan : Network) (w : World) (link : Link) (peer uid : Text) (outcome : Outcome) (now : ℕ) (answer : Answer) (s t : Desk) → IsDeskOf w link.caller s → peer ≡ link.receiver → now ≡ w.time
    → LedgerStep plan link.caller s (Settle uid peer outcome now) (Settling answer) t → Settled w link uid outcome answer t
settled plan w link peer uid outcome now answer s t desk peer_is time h =
    let would : ArmedBy (IsWaiting (w.books link.caller) uid link.receiver) s.armed (store_outcome_of answer) t.armed =
    subst (λ (p : Text). ArmedBy (IsWaiting (w.books link.caller) uid p) s.armed (store_outcome_of answer) t.armed) peer_is (subst (λ (b : Book). ArmedBy (IsWaiting b uid peer) s.armed (store_outcome_of answer) t.armed) desk.0 h.1) in
    let a = armed_after (IsWaiting (w.books link.caller) uid link.receiver) w.armed link.caller (store_outcome_of answer) s.armed t.armed desk.1 would in
    record {
      mid = with_armed (with_book w link.caller t.book) a.0;
      settles = record {
        book = t.book;
        call = subst (λ (m : ℕ). Settles uid link.receiver outcome m (w.books link.caller) answer t.book) time
            (subst (λ (p : Text). Settles uid p outcome now (w.books link.caller) answer t.book) peer_is (subst (λ (b : Book). Settles uid peer outcome now b answer t.book) desk.0 h.0));
        called = record { armed = a.0; store = a.1; is = refl };
      };
      desk_is = (sym (book_here w.books link.caller t.book), a.2);
      books = λ other apart. book_there w.books link.caller t.book other apart;
      armed = a.3;
      links = refl;
      rest = (refl, refl, refl);
    }

-- what the end does with the desk's answer: it goes on, or aborts
abbrev pub GoesOn : Answer → Core → Moment → Effect → Type 0
GoesOn (Ok r) core moment x = x ≡ effect [] (settled_with core)
GoesOn (Err fault.NotWaiting) core moment x = x ≡ effect [] (settled_with core)
GoesOn (Err fault.Store) core moment x = x ≡ effect (write (abort_pdu 0 0 ∷ []) ∷ []) (desk_failed (aborted (left (stepped_by AbortRequest moment.now core))))
GoesOn (Err why) core moment x = ⊥

pub by_answer : (plan : Network) (name : Text) (p : Pending) (outcome : Outcome) (moment : Moment) (core : Core) (s m t : Desk) (x : Effect) (a : DeskAnswer) → LedgerStep plan name s (Settle p.uid core.peer outcome moment.now) a m
    → Turns (LedgerStep plan name) (settling (Ends (effect [] (settled_with core))) (aborts_desk moment core) a) m x t
    → (answer : Answer) × LedgerStep plan name s (Settle p.uid core.peer outcome moment.now) (Settling answer) t × GoesOn answer core moment x
by_answer plan name p outcome moment core s m t x (Settling (Ok r)) h (e, same) = (Ok r, subst (λ (d : Desk). LedgerStep plan name s (Settle p.uid core.peer outcome moment.now) (Settling (Ok r)) d) (sym same) h, e)
by_answer plan name p outcome moment core s m t x (Settling (Err fault.NotWaiting)) h (e, same) = (Err fault.NotWaiting, subst (λ (d : Desk). LedgerStep plan name s (Settle p.uid core.peer outcome moment.now) (Settling (Err fault.NotWaiting)) d) (sym same) h, e)
by_answer plan name p outcome moment core s m t x (Settling (Err fault.Store)) h (e, same) = (Err fault.Store, subst (λ (d : Desk). LedgerStep plan name s (Settle p.uid core.peer outcome moment.now) (Settling (Err fault.Store)) d) (sym same) h, e)
by_answer plan name p outcome moment core s m t x (Settling (Err fault.Memory)) h k = absurd k
by_answer plan name p outcome moment core s m t x (Settling (Err fault.NoLine)) h k = absurd h.0
by_answer plan name p outcome moment core s m t x (Settling (Err fault.Conflict)) h k = absurd h.0
by_answer plan name p outcome moment core s m t x (Settling (Err fault.NotHeld)) h k = absurd h.0
by_answer plan name p outcome moment core s m t x (Settling (Err fault.NotOver)) h k = absurd h.0
by_answer plan name p outcome moment core s m t x (Arrival r) h k = absurd h
by_answer plan name p outcome moment core s m t x (Upcoming d) h k = absurd h
by_answer plan name p outcome moment core s m t x (First d) h k = absurd h

module _ (plan : Network) (certificate : Certificate) (w : World) (number : ℕ) (link : Link) (k : Channel) (s : Desk) (here : IsLink w number link) (desk : IsDeskOf w link.caller s) (shows : ShowsLink plan certificate k link)
    (on : link.caller_connected ≡ true) (accepted : Contexts) (item : Instance) (status : ℕ) (replying : link.stage ≡ Replying accepted item status) (moment : Moment) (time : moment.now ≡ w.time) (n : ℕ) (front : Pdu) (new : Feeding) (x : Effect) (t : Desk)
    (first : IsFirstPdu k.caller k.to_caller front) (whole : k.caller.ear.kept ++ take n k.to_caller ≡ written front)
    (plays : PlaysBytes (LedgerStep plan link.caller) moment k.caller.ear k.caller.core (take n k.to_caller) s new x t) where
  abbrev cstep : Desk → DeskCall → DeskAnswer → Desk → Type 0
  cstep = LedgerStep plan link.caller

  abbrev c : Core
  c = k.caller.core

  abbrev Result_is : Type 0
  Result_is = ((answer : Answer) × Happens plan certificate w number (Answered number answer) link.caller t (caller_read k n new x)) ⊎ ((t ≡ s) × ShowsLink plan certificate (caller_read k n new x) link × IsData front)

  established : IsCaller true (Replying accepted item status) link.receiver c
  established = subst (λ (st : Stage). IsCaller true st link.receiver c) replying (subst (λ (b : Bool). IsCaller b link.stage link.receiver c) on shows.caller)

  carries : Carries k.caller k.to_caller (ToCaller (Replying accepted item status) (site_of k.receiver.core) c) link.receiver_connected
  carries = subst (λ (st : Stage). Carries k.caller k.to_caller (ToCaller st (site_of k.receiver.core) c) link.receiver_connected) replying (shows.to_caller on)

  receiver_at : IsReceiver link.receiver_connected (Replying accepted item status) link.caller k.receiver.core
  receiver_at = subst (λ (st : Stage). IsReceiver link.receiver_connected st link.caller k.receiver.core) replying shows.receiver

  -- nothing is under way to the receiver
  to_receiver_at : (o : link.receiver_connected ≡ true) → Carries k.receiver k.to_receiver (λ pdus. pdus ≡ []) link.caller_connected
  to_receiver_at o = subst (λ (st : Stage). Carries k.receiver k.to_receiver (ToReceiver st link.receiver c k.receiver.core) link.caller_connected) replying (shows.to_receiver o)

  abbrev new_ear : Feeding
  new_ear = record { limit = k.caller.ear.limit; failed = false; kept = [] }

  module _ (id number_of : ℕ) (has_pending : c.pending ≡ Some (storing id number_of item.uid)) (m : IsMessageFor c (message number_of (StoreRsp id status item.key.class item.uid false) None) item.key.class item.key.syntax carries.coming)
      (v : Pdv) (vs : List Pdv) (rest : drop n k.to_caller ≡ spellings (map alone vs ++ carries.controls)) (fits : AreFit k.caller.ear.limit (map alone vs ++ carries.controls)) (ear_is : new ≡ new_ear)
      (in_context : (v.id ≡ m.context.id) × AllByRecursion (λ (p : Pdv). p.id ≡ m.context.id) vs) (r : Reacts cstep c (at_moment moment (Value v)) s x t) where
    found : pair_at m.agreed v.id ≡ Some m.context
    found = subst (λ (i : ℕ). pair_at m.agreed i ≡ Some m.context) (sym in_context.0) m.found

    abbrev at : IsAt c true Sta6
    at = established.0.0

    abbrev stays : Taken → Core
    stays next = record (with_stage next c) { phase = in_its_phase (moved at.0 Sta6 moment.now) }

    part : (next : Taken) → TakesValue c.assembly.awaited c.assembly.stage v (Ok None) next → Gets c.assembly.awaited next vs (message number_of (StoreRsp id status item.key.class item.uid false) None) → (t ≡ s) × ShowsLink plan certificate (caller_read k n new x) link
    part next takes later =
        let q = quiet_by cstep moment c v m.agreed m.context true at m.has found s t x r next takes in (
          q.1,
          subst (λ (y : Effect). ShowsLink plan certificate (caller_read k n new y) link) (sym q.0) (subst (λ (f : Feeding). ShowsLink plan certificate (caller_read k n f (effect [] (stays next))) link) (sym ear_is) record {
            hop = shows.hop;
            from = shows.from;
            to = shows.to;
            peer = shows.peer;
            caller_agrees = λ o. shows.caller_agrees on;
            receiver_agrees = shows.receiver_agrees;
            caller = subst (λ (b : Bool). IsCaller b link.stage link.receiver (stays next)) (sym on) (subst (λ (st : Stage). IsCaller true st link.receiver (stays next)) (sym replying)
                (((moved at.0 Sta6 moment.now, refl, at.2, refl), established.0.1), established.1));
            receiver = shows.receiver;
            to_receiver = λ o. subst (λ (st : Stage). Carries k.receiver (k.to_receiver ++ []) (ToReceiver st link.receiver (stays next) k.receiver.core) link.caller_connected) (sym replying)
                (subst (λ (l : List ℕ). Carries k.receiver l (λ pdus. pdus ≡ []) link.caller_connected) (sym (append-nil k.to_receiver)) (to_receiver_at o));
            to_caller = λ o. subst (λ (st : Stage). Carries (record { core = stays next; ear = new_ear }) (drop n k.to_caller) (ToCaller st (site_of k.receiver.core) (stays next)) link.receiver_connected) (sym replying) record {
              coming = map alone vs;
              is = (id, number_of, has_pending, record { agreed = m.agreed; values = vs; context = m.context; has = m.has; found = m.found; of = m.of; are = refl; in_context = in_context.1; gets = later; at = m.at });
              controls = carries.controls;
              joined = rest;
              works = refl;
              waits = nothing_yet k.caller.ear.limit;
              fits = fits;
              control = carries.control;
              none = carries.none;
            };
          }),
        )

    -- the response settles the row
    settles : TakesValue c.assembly.awaited c.assembly.stage v (Ok (Some (message number_of (StoreRsp id status item.key.class item.uid false) None))) NothingTaken
        → (answer : Answer) × cstep s (Settle item.uid c.peer (Status status) moment.now) (Settling answer) t × GoesOn answer (stays NothingTaken) moment x
    settles takes =
        let td = told_by cstep moment c v m.agreed m.context true at m.has found s t x r (Some (message number_of (StoreRsp id status item.key.class item.uid false) None)) NothingTaken takes in
        let told : Told = Whole number_of m.context.class (StoreRsp id status item.key.class item.uid false) in
        let h : Turns cstep (turn moment (with_stage NothingTaken c) told) s x t = subst (λ (y : Told). Turns cstep (turn moment (with_stage NothingTaken c) y) s x t) td.1 td.2 in
        let core : Core = stays NothingTaken in
        let answer : Command = StoreRsp id status item.key.class item.uid false in
        let asks : Pending = storing id number_of item.uid in
        let other = Rattle.dr_session.specs.Reactions.requested core number_of m.context.class answer in
        let a : Turns cstep (if is_requestor core then replied core.pending number_of answer moment core else other) s x t =
        acts_by cstep moment (with_stage NothingTaken c) told DataPdu true Sta6 Dt2 Sta6 s t x at refl refl refl h in
        let b : Turns cstep (replied core.pending number_of answer moment core) s x t =
        subst (λ (y : Bool). Turns cstep (if y then replied core.pending number_of answer moment core else other) s x t) at.2 a in
        let e : Turns cstep (replied (Some asks) number_of answer moment core) s x t =
        subst (λ (o : Option Pending). Turns cstep (replied o number_of answer moment core) s x t) has_pending b in
        let d : Turns cstep (settles_by asks (Some status) moment core) s x t =
        subst (λ (y : Bool). Turns cstep (settles_by asks (if y then Some status else None) moment core) s x t) (eq-eqb number_of number_of refl) e in
        by_answer plan link.caller (storing id number_of item.uid) (Status status) moment core s d.1 t x d.0 d.2 d.3

    module _ (none : vs ≡ []) (answer : Answer) (h : cstep s (Settle item.uid c.peer (Status status) moment.now) (Settling answer) t) where
      st : Settled w link item.uid (Status status) answer t
      st = settled plan w link c.peer item.uid (Status status) moment.now answer s t desk shows.peer time h

      abbrev after_link : Link
      after_link = after_settling link answer accepted

      only_here : OnlyHere w (with_link st.mid number after_link) number link.caller
      only_here = record {
        books = st.books;
        links = λ other apart. (only_link st.mid number after_link link.caller).links other apart ∙ ap (λ (l : _). map_of.get l other) st.links;
        armed = st.armed;
        rest = st.rest;
      }

      abbrev Answered_as : Effect → Feeding → Type 0
      Answered_as y f = Happens plan certificate w number (Answered number answer) link.caller t (caller_read k n f y)

      -- it goes on
      goes_on : stays_connected answer ≡ true → x ≡ effect [] (settled_with (stays NothingTaken)) → Answered_as x new
      goes_on still g = subst (λ (y : Effect). Answered_as y new) (sym g) (subst (λ (f : Feeding). Answered_as (effect [] (settled_with (stays NothingTaken))) f) (sym ear_is) record {
        after = with_link st.mid number after_link;
        link = after_link;
        step = record { link = link; accepted = accepted; item = item; status = status; at = here; on = on; stage = replying; mid = st.mid; call = st.settles; is = refl };
        here = get_new numbers st.mid.links number after_link;
        desk = st.desk_is;
        only = only_here;
        shows = record {
          hop = shows.hop;
          from = shows.from;
          to = shows.to;
          peer = shows.peer;
          caller_agrees = λ o. shows.caller_agrees on;
          receiver_agrees = shows.receiver_agrees;
          caller = subst (λ (b : Bool). IsCaller b (Open accepted) link.receiver (settled_with (stays NothingTaken))) (sym still) (((moved at.0 Sta6 moment.now, refl, at.2, refl), established.0.1), refl, refl, refl, refl);
          receiver = open_again link.receiver_connected accepted item status link.caller k.receiver.core receiver_at;
          to_receiver = λ o. subst (λ (b : Bool). Carries k.receiver (k.to_receiver ++ []) (λ pdus. pdus ≡ []) b) (on ∙ sym still)
              (subst (λ (l : List ℕ). Carries k.receiver l (λ pdus. pdus ≡ []) link.caller_connected) (sym (append-nil k.to_receiver)) (to_receiver_at o));
          to_caller = λ o. record {
            coming = [];
            is = refl;
            controls = carries.controls;
            joined = rest ∙ ap (λ (l : List Pdv). spellings (map alone l ++ carries.controls)) none;
            works = refl;
            waits = nothing_yet k.caller.ear.limit;
            fits = subst (λ (l : List Pdv). AreFit k.caller.ear.limit (map alone l ++ carries.controls)) none fits;
            control = carries.control;
            none = carries.none;
          };
        };
      })

      abbrev failed_core : Core
      failed_core = desk_failed (aborted (left (stepped_by AbortRequest moment.now (stays NothingTaken))))

      -- its store failed: it leaves, and the row stays as it is
      leaves_it : stays_connected answer ≡ false → x ≡ effect (write (abort_pdu 0 0 ∷ []) ∷ []) failed_core → Answered_as x new
      leaves_it off g = subst (λ (y : Effect). Answered_as y new) (sym g) (subst (λ (f : Feeding). Answered_as (effect (write (abort_pdu 0 0 ∷ []) ∷ []) failed_core) f) (sym ear_is) record {
        after = with_link st.mid number after_link;
        link = after_link;
        step = record { link = link; accepted = accepted; item = item; status = status; at = here; on = on; stage = replying; mid = st.mid; call = st.settles; is = refl };
        here = get_new numbers st.mid.links number after_link;
        desk = st.desk_is;
        only = only_here;
        shows = record {
          hop = shows.hop;
          from = shows.from;
          to = shows.to;
          peer = shows.peer;
          caller_agrees = λ o. shows.caller_agrees on;
          receiver_agrees = shows.receiver_agrees;
          caller = subst (λ (b : Bool). IsCaller b (Open accepted) link.receiver failed_core) (sym off) (refl, inr (inr (moved (moved at.0 Sta6 moment.now) Sta13 moment.now, refl, at.2, refl)));
          receiver = open_again link.receiver_connected accepted item status link.caller k.receiver.core receiver_at;
          to_receiver = λ o. subst (λ (b : Bool). Carries k.receiver (k.to_receiver ++ (spellings (abort_pdu 0 0 ∷ []) ++ [])) (λ pdus. pdus ≡ []) b) (sym off)
              (subst (λ (l : List ℕ). Carries k.receiver (k.to_receiver ++ l) (λ pdus. pdus ≡ []) false) (sym (append-nil (spellings (abort_pdu 0 0 ∷ []))))
              (carries_more k.receiver k.to_receiver (λ pdus. pdus ≡ []) link.caller_connected (to_receiver_at o) (abort_pdu 0 0 ∷ []) (tt, tt) (abort_fits k.receiver.ear.limit 0 0)));
          to_caller = λ o. absurd (false≢true (sym off ∙ o));
        };
      })

    event : vs ≡ [] → (answer : Answer) → cstep s (Settle item.uid c.peer (Status status) moment.now) (Settling answer) t → GoesOn answer (stays NothingTaken) moment x → Happens plan certificate w number (Answered number answer) link.caller t (caller_read k n new x)
    event none (Ok r') h g = goes_on none (Ok r') h refl g
    event none (Err fault.NotWaiting) h g = goes_on none (Err fault.NotWaiting) h refl g
    event none (Err fault.Store) h g = leaves_it none (Err fault.Store) h refl g
    event none (Err fault.Memory) h g = absurd g
    event none (Err fault.NoLine) h g = absurd g
    event none (Err fault.Conflict) h g = absurd g
    event none (Err fault.NotHeld) h g = absurd g
    event none (Err fault.NotOver) h g = absurd g

  by_values : (id number_of : ℕ) (has_pending : c.pending ≡ Some (storing id number_of item.uid)) (m : IsMessageFor c (message number_of (StoreRsp id status item.key.class item.uid false) None) item.key.class item.key.syntax carries.coming) (vs : List Pdv) → m.values ≡ vs → Result_is
  by_values id number_of has_pending m [] e = absurd (subst (λ (l : List Pdv). Gets c.assembly.awaited c.assembly.stage l (message number_of (StoreRsp id status item.key.class item.uid false) None)) e m.gets)
  by_values id number_of has_pending m (v ∷ vs) e =
      let one : carries.coming ++ carries.controls ≡ alone v ∷ (map alone vs ++ carries.controls) = ap (λ (l : List Pdu). l ++ carries.controls) (m.are ∙ ap (λ (l : List Pdv). map alone l) e) in
      let fits : AreFit k.caller.ear.limit (alone v ∷ (map alone vs ++ carries.controls)) = subst (λ (l : List Pdu). AreFit k.caller.ear.limit l) one carries.fits in
      let f = front_is k.caller k.to_caller n front (alone v) (map alone vs ++ carries.controls) first whole (carries.joined ∙ ap (λ (l : List Pdu). spellings l) one) fits.0.0 fits.0.1 in
      let h = hears_one k.caller.ear new (take n k.to_caller) plays.0 (alone v) carries.works fits.0.0 fits.0.1 (whole ∙ ap written f.0) plays.1 in
      let r = plays_alone cstep moment c (Value v) plays.0 s t x h.0 plays.2 in
      let within = subst (λ (l : List Pdv). AllByRecursion (λ (p : Pdv). p.id ≡ m.context.id) l) e m.in_context in
      let gets = subst (λ (l : List Pdv). Gets c.assembly.awaited c.assembly.stage l (message number_of (StoreRsp id status item.key.class item.uid false) None)) e m.gets in
      elim gets [
        | inl more ↦ (let one = part id number_of has_pending m v vs f.1 fits.1 h.1 within r more.0 more.1 more.2 in inr (one.0, one.1, (v, f.0)))
        | inr last ↦ inl (
            let a = settles id number_of has_pending m v vs f.1 fits.1 h.1 within r last.0 in
            (a.0, event id number_of has_pending m v vs f.1 fits.1 h.1 within r last.1 a.0 a.1 a.2))
      ]

  pub reply_result : Result_is
  reply_result = by_values carries.is.0 carries.is.1 carries.is.2 carries.is.3 carries.is.3.values refl

pub hears_reply : HearsReply
hears_reply plan certificate certified w number link k s here desk shows on accepted item status replying moment time n front new x t first whole plays =
    reply_result plan certificate w number link k s here desk shows on accepted item status replying moment time n front new x t first whole plays
