-- A Move that ends a rejection.
use Rattle.std.proofs.Common.{◌≡◌, ℕ, Bool, true, List, take, drop, [], ◌∷◌, ◌++◌, Option, Some, None, Ok, Err, refl, sym, ap, subst, ◌∙◌, inl, inr, ◌⊎◌}
use Rattle.std.proofs.lemmas.Bool.{false≢true}
use Rattle.dr_base.specs.Texts.{Text}
use Rattle.dr_plan_model.specs.Networks.{Network}
use Rattle.dr_plan_sound.specs.declared.certificate.Certificate.{Certificate}
use Rattle.dr_ulstate.specs.Standing.{moved}
use Rattle.dr_ulstate.specs.Phases.{in_its_phase}
use Rattle.dr_pdu.specs.declared.pdu.Pdu.{Pdu}
use Rattle.dr_ledger.specs.Books.{Book}
use Rattle.dr_ledger.specs.Replies.{IsNext}
use Rattle.dr_ledger.proofs.Maps.{get_new}
use Rattle.dr_world_model.proofs.Lookups.{numbers}
use Rattle.dr_world_model.specs.Worlds.{World, Link, Stage, Rejecting, without_caller, with_link}
use Rattle.dr_world_model.specs.Steps.{IsLink, pending as pending_of}
use Rattle.dr_world_model.specs.Events.{AgreeCaller, BreakCaller}
use Rattle.dr_session.specs.declared.ends.Core.{Core}
use Rattle.dr_session.specs.declared.ends.Effect.{Effect}
use Rattle.dr_nego.specs.Fragments.{spellings}
use Rattle.dr_session.specs.declared.ends.Moment.{Moment}
use Rattle.dr_session.specs.Reactions.{desk_failed, refused, rejected, row, left, settling, effect}
use Rattle.dr_session.specs.Turns.{Turns, Ends}
use Rattle.dr_world_tie.specs.Desks.{Desk, LedgerStep}
use Rattle.dr_world_tie.specs.Channels.{IsOff, bytes_of, Channel, Carries, ShowsLink, ToCaller, IsAt, IsCaller, IsReceiver, site_of, site_in}
use Rattle.dr_world_tie.specs.Ties.{IsDeskOf, IsFirstPdu, Happens, caller_read, HearsRejection}
use Rattle.dr_world_tie.proofs.Leaving.{AreFit, only_link, acts_by, plain_turn}
use Rattle.std.specs.FinMap as map_of
use Rattle.dr_ulstate.specs.declared.table.Action.TheVariants.{Ae4}
use Rattle.dr_ulstate.specs.declared.table.Event.TheVariants.{AssociateRjPdu}
use Rattle.dr_ulstate.specs.declared.table.State.TheVariants.{Sta1, Sta5}
use Rattle.dr_ledger.specs.declared.item.Instance.{Instance}
use Rattle.dr_ledger.specs.declared.item.Outcome.TheVariants.{Broken}
use Rattle.dr_ledger.specs.declared.fault.LedgerFault.TheVariants as fault
use Rattle.dr_world_model.specs.Calls.{Answer}
use Rattle.dr_session.specs.declared.ends.Input.TheVariants.{Rejection}
use Rattle.dr_session.specs.declared.ends.Told.TheVariants.{Plain}
use Rattle.dr_session.specs.Desks.{DeskCall, DeskAnswer, Due, Settle, Arrival, Upcoming, First, Settling}
use Rattle.dr_session.specs.Plays.{PlaysBytes}
use Rattle.dr_world_tie.proofs.CallerLeaving.{Does, caller_gone}
use Rattle.dr_world_tie.proofs.Agreeing.{front_is, plays_alone}
use Rattle.dr_world_tie.proofs.Fronts.{hears_one}
use Rattle.dr_world_tie.proofs.Responses.{Settled, settled}
use Rattle.dr_pdu.specs.declared.pdu.Pdu.TheVariants as pdu
use Rattle.dr_pdu.specs.declared.pdu.AssociateRj.{AssociateRj}
use Rattle.dr_pdu.specs.Feeding.{Feeding}
use Rattle.dr_pdu.specs.Written.{written}
use Rattle.dr_site.specs.Parts.{Part, IsPartOf}
use Rattle.dr_session.specs.declared.ends.LinkAction.TheVariants.{Close}

module _ (plan : Network) (certificate : Certificate) (w : World) (number : ℕ) (link : Link) (k : Channel) (s : Desk) (here : IsLink w number link) (desk : IsDeskOf w link.caller s) (shows : ShowsLink plan certificate k link)
    (on : link.caller_connected ≡ true) (rejecting : link.stage ≡ Rejecting) (moment : Moment) (time : moment.now ≡ w.time) (n : ℕ) (front : Pdu) (new : Feeding) (x : Effect) (t : Desk)
    (first : IsFirstPdu k.caller k.to_caller front) (whole : k.caller.ear.kept ++ take n k.to_caller ≡ written front)
    (plays : PlaysBytes (LedgerStep plan link.caller) moment k.caller.ear k.caller.core (take n k.to_caller) s new x t) where
  abbrev cstep : Desk → DeskCall → DeskAnswer → Desk → Type 0
  cstep = LedgerStep plan link.caller

  asking : IsCaller true Rejecting link.receiver k.caller.core
  asking = subst (λ (st : Stage). IsCaller true st link.receiver k.caller.core) rejecting (subst (λ (b : Bool). IsCaller b link.stage link.receiver k.caller.core) on shows.caller)

  abbrev at : IsAt k.caller.core true Sta5
  at = asking.0

  carries : Carries k.caller k.to_caller (ToCaller Rejecting (site_of k.receiver.core) k.caller.core) link.receiver_connected
  carries = subst (λ (st : Stage). Carries k.caller k.to_caller (ToCaller st (site_of k.receiver.core) k.caller.core) link.receiver_connected) rejecting (shows.to_caller on)

  abbrev Result_is : Type 0
  Result_is = ((answer : Option Answer) × Happens plan certificate w number (AgreeCaller number answer) link.caller t (caller_read k n new x)) ⊎ Happens plan certificate w number (BreakCaller number None) link.caller t (caller_read k n new x)

  module _ (rj : AssociateRj) (limit : new.limit ≡ k.caller.ear.limit) where
    abbrev core : Core
    core = rejected rj (left (record k.caller.core { phase = in_its_phase (moved at.0 Sta1 moment.now) }))

    off_shown : (y : Core) → y.site ≡ k.caller.core.site → y.peer ≡ k.caller.core.peer → IsOff y true → ShowsLink plan certificate (caller_read k n new (effect (Close ∷ []) y)) (without_caller link)
    off_shown y site peer off = record {
      hop = shows.hop;
      from = subst (λ (p : Option Part). IsPartOf plan certificate (site_in p) × ((site_in p).name ≡ link.caller) × (new.limit ≡ (site_in p).max_pdu) × (p ≡ Some (site_in p))) (sym site) (shows.from.0, shows.from.1, limit ∙ shows.from.2, shows.from.3);
      to = shows.to;
      peer = peer ∙ shows.peer;
      caller_agrees = λ o. absurd (false≢true o);
      receiver_agrees = λ o. absurd (subst (λ (st : Stage). IsReceiver true st link.caller k.receiver.core) rejecting (subst (λ (b : Bool). IsReceiver b link.stage link.caller k.receiver.core) o shows.receiver));
      caller = off;
      receiver = shows.receiver;
      to_receiver = λ o. absurd (subst (λ (st : Stage). IsReceiver true st link.caller k.receiver.core) rejecting (subst (λ (b : Bool). IsReceiver b link.stage link.caller k.receiver.core) o shows.receiver));
      to_caller = λ o. absurd (false≢true o);
    }

    abbrev IsOut : Effect → Type 0
    IsOut y = (y ≡ effect (Close ∷ []) core) ⊎ (y ≡ effect (Close ∷ []) (desk_failed core))

    out_shown : (y : Effect) → IsOut y → ShowsLink plan certificate (caller_read k n new y) (without_caller link)
    out_shown y (inl e) = subst (λ (z : Effect). ShowsLink plan certificate (caller_read k n new z) (without_caller link)) (sym e) (off_shown core refl refl (refl, inl refl))
    out_shown y (inr e) = subst (λ (z : Effect). ShowsLink plan certificate (caller_read k n new z) (without_caller link)) (sym e) (off_shown (desk_failed core) refl refl (refl, inl refl))

    by_answer : (uid : Text) (m : Desk) (a : DeskAnswer) → cstep s (Settle uid core.peer Broken moment.now) a m → Turns cstep (settling (Ends (effect (Close ∷ []) core)) (Ends (effect (Close ∷ []) (desk_failed core))) a) m x t
        → (answer : Answer) × cstep s (Settle uid core.peer Broken moment.now) (Settling answer) t × IsOut x
    by_answer uid m (Settling (Ok r)) h (e, same) = (Ok r, subst (λ (d : Desk). cstep s (Settle uid core.peer Broken moment.now) (Settling (Ok r)) d) (sym same) h, inl e)
    by_answer uid m (Settling (Err fault.NotWaiting)) h (e, same) = (Err fault.NotWaiting, subst (λ (d : Desk). cstep s (Settle uid core.peer Broken moment.now) (Settling (Err fault.NotWaiting)) d) (sym same) h, inl e)
    by_answer uid m (Settling (Err fault.Store)) h (e, same) = (Err fault.Store, subst (λ (d : Desk). cstep s (Settle uid core.peer Broken moment.now) (Settling (Err fault.Store)) d) (sym same) h, inr e)
    by_answer uid m (Settling (Err fault.Memory)) h q = absurd q
    by_answer uid m (Settling (Err fault.NoLine)) h q = absurd h.0
    by_answer uid m (Settling (Err fault.Conflict)) h q = absurd h.0
    by_answer uid m (Settling (Err fault.NotHeld)) h q = absurd h.0
    by_answer uid m (Settling (Err fault.NotOver)) h q = absurd h.0
    by_answer uid m (Arrival r) h q = absurd h
    by_answer uid m (Upcoming d) h q = absurd h
    by_answer uid m (First d) h q = absurd h

    next_is : (i : Instance) → IsNext s.book k.caller.core.peer moment.now i → IsNext (w.books link.caller) link.receiver w.time i
    next_is i q = subst (λ (p : Text). IsNext (w.books link.caller) p w.time i) shows.peer (subst (λ (m : ℕ). IsNext (w.books link.caller) k.caller.core.peer m i) time (subst (λ (b : Book). IsNext b k.caller.core.peer moment.now i) desk.0 q))

    next_was : (i : Instance) → IsNext (w.books link.caller) link.receiver w.time i → IsNext s.book k.caller.core.peer moment.now i
    next_was i q = subst (λ (b : Book). IsNext b k.caller.core.peer moment.now i) (sym desk.0) (subst (λ (m : ℕ). IsNext (w.books link.caller) k.caller.core.peer m i) (sym time) (subst (λ (p : Text). IsNext (w.books link.caller) p w.time i) (sym shows.peer) q))

    -- a row was settled
    settles : (item : Instance) → IsNext (w.books link.caller) link.receiver w.time item → (answer : Answer) → cstep s (Settle item.uid k.caller.core.peer Broken moment.now) (Settling answer) t → IsOut x
        → Happens plan certificate w number (AgreeCaller number (Some answer)) link.caller t (caller_read k n new x)
    settles item next answer h out =
        let st : Settled w link item.uid Broken answer t = settled plan w link k.caller.core.peer item.uid Broken moment.now answer s t desk shows.peer time h in
        record {
          after = with_link st.mid number (without_caller link);
          link = without_caller link;
          step = record { link = link; at = here; on = on; then = inr (rejecting, (st.mid, (item, next, st.settles), refl)) };
          here = get_new numbers st.mid.links number (without_caller link);
          desk = st.desk_is;
          only = record {
            books = st.books;
            links = λ other apart. (only_link st.mid number (without_caller link) link.caller).links other apart ∙ ap (λ (l : _). map_of.get l other) st.links;
            armed = st.armed;
            rest = st.rest;
          };
          shows = out_shown x out;
        }

    -- no row was due
    nothing_due : t ≡ s → ((item : Instance) → IsNext (w.books link.caller) link.receiver w.time item → ⊥) → IsOut x → Happens plan certificate w number (AgreeCaller number None) link.caller t (caller_read k n new x)
    nothing_due same none out = record {
      after = with_link w number (without_caller link);
      link = without_caller link;
      step = record { link = link; at = here; on = on; then = inr (rejecting, (w, (none, refl), refl)) };
      here = get_new numbers w.links number (without_caller link);
      desk = (ap (λ (d : Desk). d.book) same ∙ desk.0, ap (λ (d : Desk). d.armed) same ∙ desk.1);
      only = only_link w number (without_caller link) link.caller;
      shows = out_shown x out;
    }

    by_first : (d : DeskAnswer) (m : Desk) → cstep s (Due core.peer moment.now) d m → Turns cstep (row (refused moment core) d) m x t → Result_is
    by_first (Arrival r) m one h = absurd one
    by_first (Upcoming d) m one h = absurd one
    by_first (Settling r) m one h = absurd one
    by_first (First (Ok None)) m one h = inl (None, nothing_due (h.1 ∙ one.1) (λ item next. (let q = next_was item next in one.0 item.uid q.due q.row)) (inl h.0))
    by_first (First (Ok (Some uid))) m one h =
        let a = by_answer uid h.1 h.0 (subst (λ (d : Desk). cstep d (Settle uid core.peer Broken moment.now) h.0 h.1) one.1 h.2) h.3 in
        inl (Some a.0, settles one.0.0 (next_is one.0.0 one.0.1) a.0 (subst (λ (u : Text). cstep s (Settle u core.peer Broken moment.now) (Settling a.0) t) one.0.2 a.1) a.2)
    by_first (First (Err fault.Store)) m one h =
        inr (caller_gone plan certificate w number link k s here desk shows on new (drop n k.to_caller) limit x t None []
        (subst (λ (st : Stage). Does plan link.caller k.caller.core w.time (pending_of st) None s t) (sym rejecting) (h.1 ∙ one.1))
        (ap (λ (y : Effect). y.core.site) h.0) (ap (λ (y : Effect). y.core.peer) h.0) (ap (λ (y : Effect). y.core.proposed) h.0)
        (subst (λ (y : Effect). IsOff y.core true) (sym h.0) (refl, inl refl)) (ap (λ (y : Effect). bytes_of y.acts) h.0) tt tt)
    by_first (First (Err fault.Memory)) m one h = absurd h
    by_first (First (Err fault.NoLine)) m one h = absurd one.0
    by_first (First (Err fault.Conflict)) m one h = absurd one.0
    by_first (First (Err fault.NotWaiting)) m one h = absurd one.0
    by_first (First (Err fault.NotHeld)) m one h = absurd one.0
    by_first (First (Err fault.NotOver)) m one h = absurd one.0

  pub rejected_here : Result_is
  rejected_here =
      let rj = carries.is.0 in
      let one : carries.coming ++ carries.controls ≡ pdu.AssociateRj rj ∷ carries.controls = ap (λ (l : List Pdu). l ++ carries.controls) carries.is.1 in
      let fits : AreFit k.caller.ear.limit (pdu.AssociateRj rj ∷ carries.controls) = subst (λ (l : List Pdu). AreFit k.caller.ear.limit l) one carries.fits in
      let f = front_is k.caller k.to_caller n front (pdu.AssociateRj rj) carries.controls first whole (carries.joined ∙ ap (λ (l : List Pdu). spellings l) one) fits.0.0 fits.0.1 in
      let h = hears_one k.caller.ear new (take n k.to_caller) plays.0 (pdu.AssociateRj rj) carries.works fits.0.0 fits.0.1 (whole ∙ ap written f.0) plays.1 in
      let r = plays_alone cstep moment k.caller.core (Rejection rj) plays.0 s t x h.0 plays.2 in
      let a = acts_by cstep moment k.caller.core (Plain (Rejection rj)) AssociateRjPdu true Sta5 Ae4 Sta1 s t x at refl refl refl (plain_turn cstep moment k.caller.core (Rejection rj) s t x refl r) in
      by_first rj (ap (λ (y : Feeding). y.limit) h.1) a.0 a.1 a.2 a.3

pub hears_rejection : HearsRejection
hears_rejection plan certificate w number link k s here desk shows on rejecting moment time n front new x t first whole plays =
    rejected_here plan certificate w number link k s here desk shows on rejecting moment time n front new x t first whole plays
