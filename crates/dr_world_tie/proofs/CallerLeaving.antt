-- A caller leaves, and settles what it had pending.
use Rattle.std.proofs.Common.{◌≡◌, ℕ, Bool, true, false, List, [], ◌∷◌, ◌++◌, Option, Some, None, Ok, Err, refl, sym, ap, subst, ◌∙◌, inl, inr, ◌⊎◌}
use Rattle.std.specs.List.{AllByRecursion}
use Rattle.std.specs.FinMap as map_of
use Rattle.std.proofs.lemmas.List.{append-nil}
use Rattle.std.proofs.lemmas.Bool.{false≢true}
use Rattle.dr_base.specs.Texts.{Text}
use Rattle.dr_plan_model.specs.Networks.{Network}
use Rattle.dr_plan_sound.specs.declared.certificate.Certificate.{Certificate}
use Rattle.dr_site.specs.Parts.{Part, IsPartOf}
use Rattle.dr_ulstate.specs.declared.table.Action.TheVariants.{Aa1, Aa4, Ar1}
use Rattle.std.specs.Prelude.{◌&&◌, ◌+◌, nat_le, if◌then◌else◌, ◌||◌}
use Rattle.dr_ulstate.specs.Table.{cell}
use Rattle.dr_ulstate.specs.declared.table.State.{State}
use Rattle.dr_ulstate.specs.declared.table.Event.{Event as UpperEvent}
use Rattle.dr_ulstate.specs.declared.table.Event.TheVariants.{TransportClosed, AbortRequest, ArtimExpired, ReleaseRequest}
use Rattle.dr_ulstate.specs.declared.table.State.TheVariants.{Sta1, Sta5, Sta6, Sta7, Sta13}
use Rattle.dr_ulstate.specs.declared.phase.Next.TheVariants.{Idle}
use Rattle.dr_ulstate.specs.Standing.{Standing, moved, runs_artim, has_expired}
use Rattle.dr_ulstate.specs.Phases.{in_its_phase, next_expired}
use Rattle.std.specs.Option.{option_map_or}
use Rattle.std.specs.Prelude.{is_some}
use Rattle.dr_pdu.specs.declared.pdu.Pdu.{Pdu}
use Rattle.dr_pdu.specs.declared.pdu.Pdu.TheVariants as pdu
use Rattle.dr_pdu.proofs.WrittenLemmas.{others_fit}
use Rattle.dr_pdu.specs.Feeding.{Feeding}
use Rattle.dr_dimse.specs.Taking.{data_of}
use Rattle.dr_ledger.specs.declared.item.Instance.{Instance}
use Rattle.dr_ledger.specs.declared.item.Outcome.TheVariants.{Broken}
use Rattle.dr_ledger.specs.declared.fault.LedgerFault.TheVariants as fault
use Rattle.dr_ledger.specs.Books.{Book}
use Rattle.dr_ledger.specs.Replies.{Settles, IsWaiting}
use Rattle.dr_ledger.proofs.Maps.{get_new}
use Rattle.dr_world_model.proofs.Lookups.{numbers}
use Rattle.dr_world_model.proofs.Safety.{book_here, book_there}
use Rattle.dr_world_model.specs.Worlds.{World, Link, Stage, Asking, Answering, Rejecting, Open, Storing, Replying, Gone, with_link, without_caller}
use Rattle.dr_world_model.specs.Calls.{Answer, ArmedAfter, store_outcome_of}
use Rattle.dr_world_model.specs.Steps.{IsLink, SettlesPending, pending as pending_of}
use Rattle.dr_world_model.specs.Events.{BreakCaller}
use Rattle.dr_session.specs.declared.ends.Core.{Core}
use Rattle.dr_session.specs.declared.ends.Effect.{Effect}
use Rattle.dr_session.specs.declared.ends.Input.{Input}
use Rattle.dr_session.specs.declared.ends.Input.TheVariants.{Ended, Late, AbortAsked, ReleaseAsked}
use Rattle.dr_session.specs.declared.ends.Pending.{Pending}
use Rattle.dr_session.specs.declared.ends.Told.TheVariants.{Plain}
use Rattle.dr_session.specs.declared.ends.LinkAction.{LinkAction}
use Rattle.dr_session.specs.Desks.{DeskCall, DeskAnswer, Settle, Arrival, Upcoming, First, Settling}
use Rattle.dr_nego.specs.Fragments.{spellings}
use Rattle.dr_session.specs.declared.ends.Moment.{Moment}
use Rattle.dr_session.specs.Reactions.{turn, occurs, event_of, has_waited, is_requestor, is_idle, leaves_by, left, aborted, desk_failed, settling, effect, write, abort_pdu, storing}
use Rattle.dr_session.specs.Turns.{Ends, Turns}
use Rattle.dr_session.specs.Plays.{Reacts, at_moment}
use Rattle.std.specs.FinSet as set
use Rattle.std.specs.FinSet.{FinSet}
use Rattle.std.specs.Prelude.{not}
use Rattle.std.proofs.lemmas.Cmp.{nat_list_cmp_total}
use Rattle.dr_ledger.proofs.Maps.{texts, ties_itself}
use Rattle.dr_world_model.specs.Calls.{StoreOutcome, Written, Untried, Failed}
use Rattle.dr_world_model.specs.Worlds.{with_book, with_armed, same_text}
use Rattle.dr_base.specs.Texts.{text_cmp}
use Rattle.dr_world_tie.specs.Desks.{Desk, ArmedBy, LedgerStep}
use Rattle.dr_world_tie.specs.Channels.{LiveTerminal, Channel, Carries, ShowsLink, ToReceiver, IsCaller, IsAt, IsOff, IsControl, bytes_of, AgreesOn, site_of, site_in}
use Rattle.dr_world_tie.specs.Ties.{IsDeskOf, Happens, caller_as, caller_did, CallerLeaves, LateAtCaller, ReleaseLeaves, is_late}
use Rattle.dr_world_tie.proofs.Leaving.{AreFit, carries_more, only_link, acts_by, plain_turn, abort_fits}

-- ---- what is pending

abbrev pub HasPendingOf : Option Instance → Core → Type 0
HasPendingOf None c = c.pending ≡ None
HasPendingOf (Some item) c = (id context : ℕ) × (c.pending ≡ Some (storing id context item.uid))

caller_stands : (stage : Stage) (receiver : Text) (c : Core) → IsCaller true stage receiver c → (IsAt c true Sta5 ⊎ IsAt c true Sta6) × HasPendingOf (pending_of stage) c
caller_stands Asking receiver c h = (inl h.0, h.1)
caller_stands (Answering accepted) receiver c h = (inl h.0, h.1)
caller_stands Rejecting receiver c h = (inl h.0, h.1)
caller_stands (Open accepted) receiver c h = (inr h.0.0, h.1)
caller_stands (Storing accepted item) receiver c h = (inr h.0.0, (h.1.0, h.1.1, h.1.2))
caller_stands (Replying accepted item status) receiver c h = (inr h.0.0, (h.1.0, h.1.1, h.1.2))
caller_stands Gone receiver c h = absurd h

-- ---- what was left, and what the desk answered

abbrev pub IsLeft : List LinkAction → Core → Effect → Type 0
IsLeft acts c x = (x ≡ effect acts (left c)) ⊎ (x ≡ effect acts (desk_failed (left c)))

by_answer : (plan : Network) (name : Text) (p : Pending) (now : ℕ) (acts : List LinkAction) (c : Core) (s m t : Desk) (x : Effect) (a : DeskAnswer) → LedgerStep plan name s (Settle p.uid c.peer Broken now) a m
    → Turns (LedgerStep plan name) (settling (Ends (effect acts (left c))) (Ends (effect acts (desk_failed (left c)))) a) m x t
    → (answer : Answer) × LedgerStep plan name s (Settle p.uid c.peer Broken now) (Settling answer) t × IsLeft acts c x
by_answer plan name p now acts c s m t x (Settling (Ok r)) h (e, same) = (Ok r, subst (λ (d : Desk). LedgerStep plan name s (Settle p.uid c.peer Broken now) (Settling (Ok r)) d) (sym same) h, inl e)
by_answer plan name p now acts c s m t x (Settling (Err fault.NotWaiting)) h (e, same) = (Err fault.NotWaiting, subst (λ (d : Desk). LedgerStep plan name s (Settle p.uid c.peer Broken now) (Settling (Err fault.NotWaiting)) d) (sym same) h, inl e)
by_answer plan name p now acts c s m t x (Settling (Err fault.Store)) h (e, same) = (Err fault.Store, subst (λ (d : Desk). LedgerStep plan name s (Settle p.uid c.peer Broken now) (Settling (Err fault.Store)) d) (sym same) h, inr e)
by_answer plan name p now acts c s m t x (Settling (Err fault.Memory)) h k = absurd k
by_answer plan name p now acts c s m t x (Settling (Err fault.NoLine)) h k = absurd h.0
by_answer plan name p now acts c s m t x (Settling (Err fault.Conflict)) h k = absurd h.0
by_answer plan name p now acts c s m t x (Settling (Err fault.NotHeld)) h k = absurd h.0
by_answer plan name p now acts c s m t x (Settling (Err fault.NotOver)) h k = absurd h.0
by_answer plan name p now acts c s m t x (Arrival r) h k = absurd h
by_answer plan name p now acts c s m t x (Upcoming d) h k = absurd h
by_answer plan name p now acts c s m t x (First d) h k = absurd h

-- what a leaving end does with its desk: nothing, or it settles the item that it had pending
abbrev pub Does : Network → Text → Core → ℕ → Option Instance → Option Answer → Desk → Desk → Type 0
Does plan name c now None None s t = t ≡ s
Does plan name c now (Some item) (Some answer) s t = LedgerStep plan name s (Settle item.uid c.peer Broken now) (Settling answer) t
Does plan name c now None (Some answer) s t = ⊥
Does plan name c now (Some item) None s t = ⊥

pub left_of : (plan : Network) (name : Text) (item : Option Instance) (now : ℕ) (acts : List LinkAction) (c : Core) (s t : Desk) (x : Effect) → HasPendingOf item c → Turns (LedgerStep plan name) (leaves_by c.pending now acts c) s x t
    → (answer : Option Answer) × Does plan name c now item answer s t × IsLeft acts c x
left_of plan name None now acts c s t x none h =
    let e : (x ≡ effect acts (left c)) × (t ≡ s) = subst (λ (o : Option Pending). Turns (LedgerStep plan name) (leaves_by o now acts c) s x t) none h in
    (None, e.1, inl e.0)
left_of plan name (Some item) now acts c s t x (id, context, has) h =
    let e : Turns (LedgerStep plan name) (leaves_by (Some (storing id context item.uid)) now acts c) s x t = subst (λ (o : Option Pending). Turns (LedgerStep plan name) (leaves_by o now acts c) s x t) has h in
    let r = by_answer plan name (storing id context item.uid) now acts c s e.1 t x e.0 e.2 e.3 in
    (Some r.0, r.1, r.2)

-- ---- the wire to the receiver

pub still_coming : (stage : Stage) (receiver : Text) (old new c : Core) (pdus : List Pdu) → new.proposed ≡ old.proposed → new.site ≡ old.site → new.pending ≡ None → ToReceiver stage receiver old c pdus → ToReceiver stage receiver new c pdus
still_coming Asking receiver old new c pdus p s none (rq, has, is, e) = (rq, p ∙ has, subst (λ (z : Option Part). Rattle.dr_nego.specs.Proposing.IsProposal (site_in z) receiver rq) (sym s) is, e)
still_coming (Answering accepted) receiver old new c pdus p s none h = h
still_coming Rejecting receiver old new c pdus p s none h = h
still_coming (Open accepted) receiver old new c pdus p s none h = h
still_coming (Storing accepted item) receiver old new c pdus p s none (job, same, (id, context, is, m, asked, small)) = (job, same, (id, context, is, m, (λ q e. (let f : None ≡ Some q = sym none ∙ e in absurd (cc f))), small))
still_coming (Replying accepted item status) receiver old new c pdus p s none h = h
still_coming Gone receiver old new c pdus p s none h = h

pub carries_map : (t : LiveTerminal) (wire : List ℕ) (P Q : List Pdu → Type 0) (b : Bool) → ((l : List Pdu) → P l → Q l) → Carries t wire P b → Carries t wire Q b
carries_map t wire P Q b f c = record { coming = c.coming; is = f c.coming c.is; controls = c.controls; joined = c.joined; works = c.works; waits = c.waits; fits = c.fits; control = c.control; none = c.none }

-- ---- who is armed

pub armed_after : (Would : Type 0) (armed : FinSet text_cmp) (name : Text) (fate : StoreOutcome) (old new : Bool) → old ≡ set.contains armed name → ArmedBy Would old fate new
    → (after : FinSet text_cmp) × ArmedAfter Would armed name fate after × (new ≡ set.contains after name) × ((other : Text) → same_text other name ≡ false → set.contains after other ≡ set.contains armed other)
armed_after Would armed name Written old new is (free, same) = (armed, (sym is ∙ free, refl), same ∙ is, λ other apart. refl)
armed_after Would armed name Untried old new is same = (armed, refl, same ∙ is, λ other apart. refl)
armed_after Would armed name Failed old new is (inl same) = (armed, inl refl, same ∙ is, λ other apart. refl)
armed_after Would armed name Failed old new is (inr (would, was, now)) =
    (set.remove armed name, inr (would, sym is ∙ was, refl), now ∙ sym (removed name (ties_itself texts name)), λ other apart. kept other apart)
  where
    removed : (q : Text) → same_text q name ≡ true → set.contains (set.remove armed name) q ≡ false
    removed q tie = set.contains-remove nat_list_cmp_total armed name q ∙ ap (λ (b : Bool). not b && set.contains armed q) tie

    kept : (q : Text) → same_text q name ≡ false → set.contains (set.remove armed name) q ≡ set.contains armed q
    kept q apart = set.contains-remove nat_list_cmp_total armed name q ∙ ap (λ (b : Bool). not b && set.contains armed q) apart

-- ---- the event

module _ (plan : Network) (certificate : Certificate) (w : World) (number : ℕ) (link : Link) (k : Channel) (s : Desk) (here : IsLink w number link) (desk : IsDeskOf w link.caller s) (shows : ShowsLink plan certificate k link) (on : link.caller_connected ≡ true)
    (ear : Feeding) (wire : List ℕ) (limit : ear.limit ≡ k.caller.ear.limit) (x : Effect) (t : Desk) where
  -- the desk's call in the message world
  record Middle (item : Option Instance) (answer : Option Answer) : Type 0 where
    mid : World
    settles : SettlesPending w link item answer mid
    desk_is : IsDeskOf mid link.caller t
    books : (other : Text) → same_text other link.caller ≡ false → mid.books other ≡ w.books other
    armed : (other : Text) → same_text other link.caller ≡ false → set.contains mid.armed other ≡ set.contains w.armed other
    links : mid.links ≡ w.links
    rest : (mid.time ≡ w.time) × (mid.stood ≡ w.stood) × (mid.opened ≡ w.opened)

  middle : (item : Option Instance) (answer : Option Answer) → Does plan link.caller k.caller.core w.time item answer s t → Middle item answer
  middle None None h = record {
    mid = w;
    settles = refl;
    desk_is = (ap (λ (d : Desk). d.book) h ∙ desk.0, ap (λ (d : Desk). d.armed) h ∙ desk.1);
    books = λ other apart. refl;
    armed = λ other apart. refl;
    links = refl;
    rest = (refl, refl, refl);
  }
  middle (Some item) (Some answer) h =
      let would : ArmedBy (IsWaiting (w.books link.caller) item.uid link.receiver) s.armed (store_outcome_of answer) t.armed =
      subst (λ (p : Text). ArmedBy (IsWaiting (w.books link.caller) item.uid p) s.armed (store_outcome_of answer) t.armed) shows.peer
      (subst (λ (b : Book). ArmedBy (IsWaiting b item.uid k.caller.core.peer) s.armed (store_outcome_of answer) t.armed) desk.0 h.1) in
      let a = armed_after (IsWaiting (w.books link.caller) item.uid link.receiver) w.armed link.caller (store_outcome_of answer) s.armed t.armed desk.1 would in
      record {
        mid = with_armed (with_book w link.caller t.book) a.0;
        settles = record {
          book = t.book;
          call = subst (λ (p : Text). Settles item.uid p Broken w.time (w.books link.caller) answer t.book) shows.peer (subst (λ (b : Book). Settles item.uid k.caller.core.peer Broken w.time b answer t.book) desk.0 h.0);
          called = record { armed = a.0; store = a.1; is = refl };
        };
        desk_is = (sym (book_here w.books link.caller t.book), a.2);
        books = λ other apart. book_there w.books link.caller t.book other apart;
        armed = a.3;
        links = refl;
        rest = (refl, refl, refl);
      }
  middle None (Some answer) h = absurd h
  middle (Some item) None h = absurd h

  -- the channel of a caller that left, by what it wrote then
  pub off_shown : (pdus : List Pdu) → x.core.site ≡ k.caller.core.site → x.core.peer ≡ k.caller.core.peer → x.core.proposed ≡ k.caller.core.proposed
      → IsOff x.core true → bytes_of x.acts ≡ spellings pdus → AllByRecursion IsControl pdus → AreFit k.receiver.ear.limit pdus
      → ShowsLink plan certificate (caller_as k wire ear x) (without_caller link)
  off_shown pdus site peer proposed off bytes control fits = record {
    hop = shows.hop;
    from = subst (λ (p : Option Part). IsPartOf plan certificate (site_in p) × ((site_in p).name ≡ link.caller) × (ear.limit ≡ (site_in p).max_pdu) × (p ≡ Some (site_in p))) (sym site) (shows.from.0, shows.from.1, limit ∙ shows.from.2, shows.from.3);
    to = shows.to;
    peer = peer ∙ shows.peer;
    caller_agrees = λ o. absurd (false≢true o);
    receiver_agrees = λ o. (let A : Option Part → Type 0 = λ p. AgreesOn (site_in p) (site_of k.receiver.core) (site_in p).max_pdu k.receiver.core in subst A (sym site) (shows.receiver_agrees o));
    caller = off;
    receiver = shows.receiver;
    to_receiver = λ o. subst (λ (l : List ℕ). Carries k.receiver (k.to_receiver ++ l) (ToReceiver link.stage link.receiver x.core k.receiver.core) false) (sym bytes)
        (carries_map k.receiver (k.to_receiver ++ spellings pdus) (ToReceiver link.stage link.receiver k.caller.core k.receiver.core) (ToReceiver link.stage link.receiver x.core k.receiver.core) false
        (λ l h. still_coming link.stage link.receiver k.caller.core x.core k.receiver.core l proposed site off.0 h)
        (carries_more k.receiver k.to_receiver (ToReceiver link.stage link.receiver k.caller.core k.receiver.core) link.caller_connected (shows.to_receiver o) pdus control fits));
    to_caller = λ o. absurd (false≢true o);
  }

  pub caller_gone : (answer : Option Answer) (pdus : List Pdu) → Does plan link.caller k.caller.core w.time (pending_of link.stage) answer s t → x.core.site ≡ k.caller.core.site → x.core.peer ≡ k.caller.core.peer → x.core.proposed ≡ k.caller.core.proposed
      → IsOff x.core true → bytes_of x.acts ≡ spellings pdus → AllByRecursion IsControl pdus → AreFit k.receiver.ear.limit pdus
      → Happens plan certificate w number (BreakCaller number answer) link.caller t (caller_as k wire ear x)
  caller_gone answer pdus does site peer proposed off bytes control fits = (
      let m = middle (pending_of link.stage) answer does in
      record {
        after = with_link m.mid number (without_caller link);
        link = without_caller link;
        step = record { link = link; at = here; on = on; mid = m.mid; broken = m.settles; is = refl };
        here = get_new numbers m.mid.links number (without_caller link);
        desk = m.desk_is;
        only = record {
          books = m.books;
          links = λ other apart. (only_link m.mid number (without_caller link) link.caller).links other apart ∙ ap (λ (l : _). map_of.get l other) m.links;
          armed = m.armed;
          rest = m.rest;
        };
        shows = off_shown pdus site peer proposed off bytes control fits;
      })

  abbrev cstep : Desk → DeskCall → DeskAnswer → Desk → Type 0
  cstep = LedgerStep plan link.caller

  pub caller_at : (IsAt k.caller.core true Sta5 ⊎ IsAt k.caller.core true Sta6) × HasPendingOf (pending_of link.stage) k.caller.core
  caller_at = caller_stands link.stage link.receiver k.caller.core (subst (λ (b : Bool). IsCaller b link.stage link.receiver k.caller.core) on shows.caller)

  -- it left from that core, which has the site, the peer, the proposal and the pending store that it had
  pub left_from : (moment : Moment) → moment.now ≡ w.time → (core : Core) (acts : List LinkAction) (pdus : List Pdu) → core.site ≡ k.caller.core.site → core.peer ≡ k.caller.core.peer → core.proposed ≡ k.caller.core.proposed → core.pending ≡ k.caller.core.pending
      → IsOff (left core) true → bytes_of acts ≡ spellings pdus → AllByRecursion IsControl pdus → AreFit k.receiver.ear.limit pdus → Turns cstep (leaves_by core.pending moment.now acts core) s x t
      → (answer : Option Answer) × Happens plan certificate w number (BreakCaller number answer) link.caller t (caller_as k wire ear x)
  left_from moment time core acts pdus site peer proposed same off bytes control fits h =
      let r = left_of plan link.caller (pending_of link.stage) moment.now acts core s t x (has_still (pending_of link.stage) caller_at.1) h in
      (r.0, by_left r.0 (at_time (pending_of link.stage) r.0 r.1) r.2)
    where
      has_still : (item : Option Instance) → HasPendingOf item k.caller.core → HasPendingOf item core
      has_still None none = same ∙ none
      has_still (Some item) (id, context, has) = (id, context, same ∙ has)

      at_time : (item : Option Instance) (answer : Option Answer) → Does plan link.caller core moment.now item answer s t → Does plan link.caller k.caller.core w.time item answer s t
      at_time None None d = d
      at_time (Some item) (Some answer) d = subst (λ (n : ℕ). cstep s (Settle item.uid k.caller.core.peer Broken n) (Settling answer) t) time (subst (λ (p : Text). cstep s (Settle item.uid p Broken moment.now) (Settling answer) t) peer d)
      at_time None (Some answer) d = absurd d
      at_time (Some item) None d = absurd d

      by_left : (answer : Option Answer) → Does plan link.caller k.caller.core w.time (pending_of link.stage) answer s t → IsLeft acts core x → Happens plan certificate w number (BreakCaller number answer) link.caller t (caller_as k wire ear x)
      by_left answer d (inl e) = caller_gone answer pdus d (ap (λ (y : Effect). y.core.site) e ∙ site) (ap (λ (y : Effect). y.core.peer) e ∙ peer) (ap (λ (y : Effect). y.core.proposed) e ∙ proposed)
          (subst (λ (y : Effect). IsOff y.core true) (sym e) off) (ap (λ (y : Effect). bytes_of y.acts) e ∙ bytes) control fits
      by_left answer d (inr e) = caller_gone answer pdus d (ap (λ (y : Effect). y.core.site) e ∙ site) (ap (λ (y : Effect). y.core.peer) e ∙ peer) (ap (λ (y : Effect). y.core.proposed) e ∙ proposed)
          (subst (λ (y : Effect). IsOff y.core true) (sym e) off) (ap (λ (y : Effect). bytes_of y.acts) e ∙ bytes) control fits

  pub caller_ended : (moment : Moment) → moment.now ≡ w.time → Turns cstep (turn moment k.caller.core (Plain Ended)) s x t → (answer : Option Answer) × Happens plan certificate w number (BreakCaller number answer) link.caller t (caller_as k wire ear x)
  caller_ended moment time h = left_from moment time (record k.caller.core { phase = Idle }) [] [] refl refl refl refl (refl, inl refl) refl tt tt (elim caller_at.0 [
    | inl at ↦ acts_by cstep moment k.caller.core (Plain Ended) TransportClosed true Sta5 Aa4 Sta1 s t x at refl refl refl h
    | inr at ↦ acts_by cstep moment k.caller.core (Plain Ended) TransportClosed true Sta6 Aa4 Sta1 s t x at refl refl refl h
  ])

  pub caller_aborts : (moment : Moment) → moment.now ≡ w.time → Turns cstep (turn moment k.caller.core (Plain AbortAsked)) s x t → (answer : Option Answer) × Happens plan certificate w number (BreakCaller number answer) link.caller t (caller_as k wire ear x)
  caller_aborts moment time h = elim caller_at.0 [
    | inl at ↦ left_from moment time (aborted (record k.caller.core { phase = in_its_phase (moved at.0 Sta13 moment.now) })) (write (abort_pdu 0 0 ∷ []) ∷ []) (abort_pdu 0 0 ∷ []) refl refl refl refl
        (refl, inr (inr (moved at.0 Sta13 moment.now, refl, at.2, refl))) (append-nil (spellings (abort_pdu 0 0 ∷ []))) (tt, tt) (abort_fits k.receiver.ear.limit 0 0)
        (acts_by cstep moment k.caller.core (Plain AbortAsked) AbortRequest true Sta5 Aa1 Sta13 s t x at refl refl refl h)
    | inr at ↦ left_from moment time (aborted (record k.caller.core { phase = in_its_phase (moved at.0 Sta13 moment.now) })) (write (abort_pdu 0 0 ∷ []) ∷ []) (abort_pdu 0 0 ∷ []) refl refl refl refl
        (refl, inr (inr (moved at.0 Sta13 moment.now, refl, at.2, refl))) (append-nil (spellings (abort_pdu 0 0 ∷ []))) (tt, tt) (abort_fits k.receiver.ear.limit 0 0)
        (acts_by cstep moment k.caller.core (Plain AbortAsked) AbortRequest true Sta6 Aa1 Sta13 s t x at refl refl refl h)
  ]

pub caller_leaves : CallerLeaves
caller_leaves plan certificate w number link k s here desk shows on moment time i (inl ended) x t r =
    caller_ended plan certificate w number link k s here desk shows on k.caller.ear k.to_caller refl x t moment time
    (plain_turn (LedgerStep plan link.caller) moment k.caller.core Ended s t x refl (subst (λ (j : Input). Reacts (LedgerStep plan link.caller) k.caller.core (at_moment moment j) s x t) ended r))
caller_leaves plan certificate w number link k s here desk shows on moment time i (inr aborting) x t r =
    caller_aborts plan certificate w number link k s here desk shows on k.caller.ear k.to_caller refl x t moment time
    (plain_turn (LedgerStep plan link.caller) moment k.caller.core AbortAsked s t x refl (subst (λ (j : Input). Reacts (LedgerStep plan link.caller) k.caller.core (at_moment moment j) s x t) aborting r))

-- ---- a late mark

module _ (plan : Network) (certificate : Certificate) (w : World) (number : ℕ) (link : Link) (k : Channel) (s : Desk) (here : IsLink w number link) (desk : IsDeskOf w link.caller s) (shows : ShowsLink plan certificate k link) (on : link.caller_connected ≡ true)
    (moment : Moment) (time : moment.now ≡ w.time) (x : Effect) (t : Desk) (h : Turns (LedgerStep plan link.caller) (turn moment k.caller.core (Plain Late)) s x t) where
  abbrev lstep : Desk → DeskCall → DeskAnswer → Desk → Type 0
  lstep = LedgerStep plan link.caller

  abbrev LateResult : Type 0
  LateResult = ((answer : Option Answer) × Happens plan certificate w number (BreakCaller number answer) link.caller t (caller_did k x)) ⊎ ((t ≡ s) × (x ≡ effect [] k.caller.core) × (is_late k.caller.core moment.now ≡ false))

  abbrev late_event : Bool → Bool → Option UpperEvent
  late_event expired waited = if expired then Some ArtimExpired else if waited then Some AbortRequest else None

  late_in : (state : State) → (runs_artim state ≡ false) → (cell AbortRequest state true true ≡ Some (Aa1, Sta13)) → IsAt k.caller.core true state → LateResult
  late_in state artim is at =
      let e : next_expired k.caller.core.phase moment.now ≡ false =
      ap (λ (o : Option Standing). option_map_or (λ (a : Standing). has_expired a moment.now) o false) at.1 ∙ (ap (λ (st : State). runs_artim st && nat_le (at.0.since + 30000) moment.now) at.3 ∙ ap (λ (b : Bool). b && nat_le (at.0.since + 30000) moment.now) artim) in
      by_wait (is_requestor k.caller.core && has_waited k.caller.core.awaits moment.now) refl e
    where
      by_wait : (b : Bool) → (is_requestor k.caller.core && has_waited k.caller.core.awaits moment.now) ≡ b → next_expired k.caller.core.phase moment.now ≡ false → LateResult
      by_wait true waited e =
          let event : event_of (Plain Late) moment k.caller.core ≡ Some AbortRequest = ap (λ (b : Bool). late_event b (is_requestor k.caller.core && has_waited k.caller.core.awaits moment.now)) e ∙ ap (λ (b : Bool). late_event false b) waited in
          inl (left_from plan certificate w number link k s here desk shows on k.caller.ear k.to_caller refl x t moment time (aborted (record k.caller.core { phase = in_its_phase (moved at.0 Sta13 moment.now) })) (write (abort_pdu 0 0 ∷ []) ∷ []) (abort_pdu 0 0 ∷ []) refl refl refl refl
          (refl, inr (inr (moved at.0 Sta13 moment.now, refl, at.2, refl))) (append-nil (spellings (abort_pdu 0 0 ∷ []))) (tt, tt) (abort_fits k.receiver.ear.limit 0 0)
          (acts_by lstep moment k.caller.core (Plain Late) AbortRequest true state Aa1 Sta13 s t x at event refl is h))
      by_wait false waited e =
          let event : event_of (Plain Late) moment k.caller.core ≡ None = ap (λ (b : Bool). late_event b (is_requestor k.caller.core && has_waited k.caller.core.awaits moment.now)) e ∙ ap (λ (b : Bool). late_event false b) waited in
          let r : (x ≡ effect [] k.caller.core) × (t ≡ s) = subst (λ (o : Option UpperEvent). Turns lstep (occurs o moment (Plain Late) k.caller.core) s x t) event h in
          inr (r.1, r.0, ap (λ (b : Bool). b || (is_requestor k.caller.core && has_waited k.caller.core.awaits moment.now)) e ∙ waited)

  pub late_result : LateResult
  late_result = elim (caller_at plan certificate w number link k s here desk shows on k.caller.ear k.to_caller refl x t).0 [
    | inl at ↦ late_in Sta5 refl refl at
    | inr at ↦ late_in Sta6 refl refl at
  ]

pub late_at_caller : LateAtCaller
late_at_caller plan certificate w number link k s here desk shows on moment time x t r =
    late_result plan certificate w number link k s here desk shows on moment time x t (plain_turn (LedgerStep plan link.caller) moment k.caller.core Late s t x refl r)

-- ---- a release

release_fits : (limit : ℕ) → AreFit limit (pdu.ReleaseRq ∷ [])
release_fits limit = ((others_fit pdu.ReleaseRq (λ a e. cc) (λ a e. cc) (λ a e. cc), tt), tt)

pub release_leaves : ReleaseLeaves
release_leaves plan certificate w number link k s here desk shows on accepted is_open moment time x t r =
    let at_open : IsCaller true (Open accepted) link.receiver k.caller.core = subst (λ (st : Stage). IsCaller true st link.receiver k.caller.core) is_open (subst (λ (b : Bool). IsCaller b link.stage link.receiver k.caller.core) on shows.caller) in
    let at : IsAt k.caller.core true Sta6 = at_open.0.0 in
    let side : is_requestor k.caller.core ≡ true = ap (λ (o : Option Standing). option_map_or (λ (b : Standing). b.requestor) o false) at.1 ∙ at.2 in
    let idle : is_idle k.caller.core ≡ true = ap (λ (o : Option Pending). is_requestor k.caller.core && not (is_some o)) at_open.1 ∙ ap (λ (b : Bool). b && true) side in
    let event : event_of (Plain ReleaseAsked) moment k.caller.core ≡ Some ReleaseRequest = ap (λ (b : Bool). if b then Some ReleaseRequest else None) idle in
    let h = plain_turn (LedgerStep plan link.caller) moment k.caller.core ReleaseAsked s t x refl r in
    let a = acts_by (LedgerStep plan link.caller) moment k.caller.core (Plain ReleaseAsked) ReleaseRequest true Sta6 Ar1 Sta7 s t x at event refl refl h in
    let e : x ≡ effect (write (pdu.ReleaseRq ∷ []) ∷ []) (record k.caller.core { phase = in_its_phase (moved at.0 Sta7 moment.now); awaits = Some moment.now }) = a.0 in
    let same : t ≡ s = a.1 in
    caller_gone plan certificate w number link k s here desk shows on k.caller.ear k.to_caller refl x t None (pdu.ReleaseRq ∷ [])
    (subst (λ (st : Stage). Does plan link.caller k.caller.core w.time (pending_of st) None s t) (sym is_open) same)
    (ap (λ (y : Effect). y.core.site) e) (ap (λ (y : Effect). y.core.peer) e) (ap (λ (y : Effect). y.core.proposed) e)
    (subst (λ (y : Effect). IsOff y.core true) (sym e) (at_open.1, inr (inl (refl, inl (moved at.0 Sta7 moment.now, refl, at.2, refl), at_open.2, ap data_of at_open.3))))
    (ap (λ (y : Effect). bytes_of y.acts) e ∙ append-nil (spellings (pdu.ReleaseRq ∷ []))) (tt, tt) (release_fits k.receiver.ear.limit)
