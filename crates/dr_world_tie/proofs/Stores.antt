-- A Move that ends a PDU of a store.
use Rattle.std.proofs.Common.{◌≡◌, ℕ, Bool, true, false, List, [], ◌∷◌, ◌++◌, map, take, drop, Option, Some, None, Ok, refl, sym, ap, subst, ◌∙◌, inl, inr, ◌⊎◌, ◌<◌, ◌^◌}
use Rattle.std.specs.List.{AllByRecursion}
use Rattle.std.proofs.lemmas.List.{append-nil}
use Rattle.dr_site.specs.Sites.{IsCertified}
use Rattle.dr_site.proofs.Assembled.{is_site}
use Rattle.dr_dimse.specs.declared.command.Command.{Command}
use Rattle.dr_dimse.specs.declared.message.Awaited.TheVariants.{AnswerTo}
use Rattle.dr_session.specs.Messages.{command_pdus}
use Rattle.std.specs.Option.{option_map_or}
use Rattle.dr_world_tie.proofs.Carrying.{response_carried}
use Rattle.dr_base.specs.Texts.{Text}
use Rattle.dr_plan_model.specs.Networks.{Network}
use Rattle.dr_plan_sound.specs.declared.certificate.Certificate.{Certificate}
use Rattle.dr_ulstate.specs.declared.table.State.TheVariants.{Sta6}
use Rattle.dr_ulstate.specs.Standing.{moved}
use Rattle.dr_ulstate.specs.Phases.{in_its_phase}
use Rattle.dr_pdu.specs.declared.pdu.Pdu.{Pdu}
use Rattle.dr_pdu.specs.declared.pdu.Pdv.{Pdv}
use Rattle.dr_pdu.specs.Written.{Fits, MeetsLimit, written}
use Rattle.dr_dimse.specs.declared.message.Body.TheVariants as body
use Rattle.dr_dimse.specs.declared.command.Command.TheVariants.{StoreRq, StoreRsp}
use Rattle.dr_dimse.specs.Taking.{MessageStage as Taken, Idle as NothingTaken, TakesValue}
use Rattle.dr_nego.specs.declared.agreed.Agreed.{Agreed}
use Rattle.dr_nego.specs.Agreeing.{pair_at}
use Rattle.dr_ledger.specs.PlanRoutes.{plan_routing}
use Rattle.dr_ledger.specs.Replies.{Arrives, IsAdmitted, Reply, store_status}
use Rattle.dr_ledger.proofs.Replied.{statuses_have_two_bytes}
use Rattle.dr_world_model.specs.Calls.{Arriving, Answer, Settlement, ArmedAfter, store_outcome_of, StoreOutcome, Written, Untried, Failed}
use Rattle.dr_pdu.specs.Feeding.{Feeding}
use Rattle.dr_ledger.specs.declared.item.Instance.{Instance}
use Rattle.dr_ledger.specs.declared.content.Job.{Job}
use Rattle.dr_ledger.specs.Items.{IsItem, instance_of}
use Rattle.dr_ledger.specs.Books.{Book}
use Rattle.dr_ledger.proofs.Maps.{get_new}
use Rattle.dr_world_model.proofs.Lookups.{numbers}
use Rattle.dr_world_model.proofs.Safety.{book_here, book_there}
use Rattle.dr_world_model.specs.Worlds.{World, Link, Stage, Contexts, Storing, Replying, with_link, at_stage}
use Rattle.dr_world_model.specs.Steps.{IsLink}
use Rattle.dr_world_model.specs.Events.{Receive}
use Rattle.dr_session.specs.declared.ends.Core.{Core}
use Rattle.dr_session.specs.declared.ends.Effect.{Effect}
use Rattle.dr_session.specs.declared.ends.Input.TheVariants.{Value}
use Rattle.dr_session.specs.declared.ends.Pending.{Pending}
use Rattle.dr_session.specs.Desks.{DeskCall, DeskAnswer, Arrive, Arrival}
use Rattle.dr_nego.specs.Fragments.{spellings}
use Rattle.dr_session.specs.declared.ends.Moment.{Moment}
use Rattle.dr_session.specs.Reactions.{stored, effect, storing as pending_store}
use Rattle.dr_session.specs.Plays.{PlaysBytes, with_stage}
use Rattle.dr_world_model.specs.Worlds.{with_book, with_armed}
use Rattle.dr_world_tie.specs.Desks.{Desk, ArmedBy, LedgerStep}
use Rattle.dr_world_tie.specs.Channels.{Brings, alone, message, Gets, IsMessageFor, IsListening, IsReceiver, Channel, Carries, ShowsLink, ToCaller, ToReceiver, IsCaller, bytes_of, hop_contexts, site_of}
use Rattle.dr_world_tie.specs.Ties.{IsData, IsFirstPdu, receiver_read, HearsStore, IsDeskOf, Happens}
use Rattle.dr_world_tie.proofs.Leaving.{AreFit, only_link}
use Rattle.dr_world_tie.proofs.CallerLeaving.{armed_after}
use Rattle.dr_world_tie.proofs.Agreeing.{front_is, plays_alone}
use Rattle.dr_world_tie.proofs.Fronts.{hears_one, nothing_yet}
use Rattle.dr_world_tie.proofs.Values.{quiet_by, store_by}
use Rattle.dr_world_tie.proofs.Requests.{written_on}

still_replying : (b : Bool) (accepted : Contexts) (item : Instance) (status : ℕ) (receiver : Text) (c : Core) → IsCaller b (Storing accepted item) receiver c → IsCaller b (Replying accepted item status) receiver c
still_replying true accepted item status receiver c h = (h.0, h.1)
still_replying false accepted item status receiver c h = h

module _ (plan : Network) (certificate : Certificate) (w : World) (number : ℕ) (link : Link) (k : Channel) (s : Desk) (here : IsLink w number link) (desk : IsDeskOf w link.receiver s) (shows : ShowsLink plan certificate k link)
    (on : link.receiver_connected ≡ true) (accepted : Contexts) (item : Job) (storing : link.stage ≡ Storing accepted (instance_of item)) (carries : Carries k.receiver k.to_receiver (Brings item k.caller.core k.receiver.core) link.caller_connected) (certified : IsCertified plan certificate) (moment : Moment) (n : ℕ) (front : Pdu) (new : Feeding) (x : Effect) (t : Desk)
    (first : IsFirstPdu k.receiver k.to_receiver front) (whole : k.receiver.ear.kept ++ take n k.to_receiver ≡ written front)
    (plays : PlaysBytes (LedgerStep plan link.receiver) moment k.receiver.ear k.receiver.core (take n k.to_receiver) s new x t) where
  abbrev rstep : Desk → DeskCall → DeskAnswer → Desk → Type 0
  rstep = LedgerStep plan link.receiver

  abbrev c : Core
  c = k.receiver.core

  abbrev Result_is : Type 0
  Result_is = ((reply : Reply) × Happens plan certificate w number (Receive number reply) link.receiver t (receiver_read k n new x)) ⊎ ((t ≡ s) × ShowsLink plan certificate (receiver_read k n new x) link × IsData front)

  listening : IsListening c link.caller accepted
  listening = subst (λ (st : Stage). IsReceiver true st link.caller c) storing (subst (λ (b : Bool). IsReceiver b link.stage link.caller c) on shows.receiver)

  caller_at : IsCaller link.caller_connected (Storing accepted (instance_of item)) link.receiver k.caller.core
  caller_at = subst (λ (st : Stage). IsCaller link.caller_connected st link.receiver k.caller.core) storing shows.caller

  old_there : (o : link.caller_connected ≡ true) → Carries k.caller k.to_caller (ToCaller (Storing accepted (instance_of item)) (site_of k.receiver.core) k.caller.core) true
  old_there o =
      subst (λ (st : Stage). Carries k.caller k.to_caller (ToCaller st (site_of k.receiver.core) k.caller.core) true) storing (subst (λ (b : Bool). Carries k.caller k.to_caller (ToCaller link.stage (site_of k.receiver.core) k.caller.core) b) on (shows.to_caller o))

  empty_there : (o : link.caller_connected ≡ true) → k.caller.ear.kept ++ k.to_caller ≡ []
  empty_there o =
      let old = old_there o in
      old.joined ∙ (ap (λ (l : List Pdu). spellings (l ++ old.controls)) old.is ∙ ap (λ (l : List Pdu). spellings l) (old.none refl))

  abbrev new_ear : Feeding
  new_ear = record { limit = k.receiver.ear.limit; failed = false; kept = [] }

  module _ (id number_of : ℕ) (is_item : IsItem item) (asked : (p : Pending) → k.caller.core.pending ≡ Some p → (p.id ≡ id) × (p.context ≡ number_of)) (small : id < 2 ^ 16) (m : IsMessageFor c (message number_of (StoreRq id item.key.class item.uid) (Some (body.Whole item.body))) item.key.class item.key.syntax carries.coming)
      (v : Pdv) (vs : List Pdv) (rest : drop n k.to_receiver ≡ spellings (map alone vs ++ carries.controls)) (fits : AreFit k.receiver.ear.limit (map alone vs ++ carries.controls)) (ear_is : new ≡ new_ear)
      (in_context : (v.id ≡ m.context.id) × AllByRecursion (λ (p : Pdv). p.id ≡ m.context.id) vs) (r : Rattle.dr_session.specs.Plays.Reacts rstep c (Rattle.dr_session.specs.Plays.at_moment moment (Value v)) s x t) where
    found : pair_at m.agreed v.id ≡ Some m.context
    found = subst (λ (i : ℕ). pair_at m.agreed i ≡ Some m.context) (sym in_context.0) m.found

    abbrev stays : Taken → Core
    stays next = record (with_stage next c) { phase = in_its_phase (moved listening.0.0.0 Sta6 moment.now) }

    still_listening : (next : Taken) → IsListening (stays next) link.caller accepted
    still_listening next = (((moved listening.0.0.0 Sta6 moment.now, refl, listening.0.0.2, refl), listening.0.1), listening.1, listening.2, listening.3)

    part : (next : Taken) → TakesValue c.assembly.awaited c.assembly.stage v (Ok None) next → Gets c.assembly.awaited next vs (message number_of (StoreRq id item.key.class item.uid) (Some (body.Whole item.body))) → (t ≡ s) × ShowsLink plan certificate (receiver_read k n new x) link
    part next takes later =
        let q = quiet_by rstep moment c v m.agreed m.context false listening.0.0 m.has found s t x r next takes in (
          q.1,
          subst (λ (y : Effect). ShowsLink plan certificate (receiver_read k n new y) link) (sym q.0) (subst (λ (f : Feeding). ShowsLink plan certificate (receiver_read k n f (effect [] (stays next))) link) (sym ear_is) record {
            hop = shows.hop;
            from = shows.from;
            to = shows.to;
            peer = shows.peer;
            caller_agrees = shows.caller_agrees;
            receiver_agrees = λ o. shows.receiver_agrees on;
            caller = shows.caller;
            receiver = subst (λ (b : Bool). IsReceiver b link.stage link.caller (stays next)) (sym on) (subst (λ (st : Stage). IsReceiver true st link.caller (stays next)) (sym storing) (still_listening next));
            to_receiver = λ o. subst (λ (st : Stage). Carries (record { core = stays next; ear = new_ear }) (drop n k.to_receiver) (ToReceiver st link.receiver k.caller.core (stays next)) link.caller_connected) (sym storing) record {
              coming = map alone vs;
              is = (item, refl, (id, number_of, is_item, record { agreed = m.agreed; values = vs; context = m.context; has = m.has; found = m.found; of = m.of; are = refl; in_context = in_context.1; gets = later; at = m.at }, asked, small));
              controls = carries.controls;
              joined = rest;
              works = refl;
              waits = nothing_yet k.receiver.ear.limit;
              fits = fits;
              control = carries.control;
              none = carries.none;
            };
            to_caller = rw (append-nil) shows.to_caller;
          }),
        )

    -- what is answered comes to the caller, in the context of the request and with its id
    carried_back : (status : ℕ) → status < 2 ^ 16 → (o : link.caller_connected ≡ true) →
        Carries k.caller (k.to_caller ++ bytes_of (stored (stays NothingTaken) number_of id item.key.class item.uid status).acts) (ToCaller (Replying accepted (instance_of item) status) (site_of k.receiver.core) k.caller.core) true
    carried_back status status_is o =
        let from = (site_of k.caller.core) in
        let to = (site_of k.receiver.core) in
        let storer : IsCaller true (Storing accepted (instance_of item)) link.receiver k.caller.core = subst (λ (b : Bool). IsCaller b (Storing accepted (instance_of item)) link.receiver k.caller.core) o caller_at in
        let agreed = storer.0.1.0 in
        let has = storer.0.1.1 in
        let same_ids = asked (pending_store storer.1.0 storer.1.1 item.uid) storer.1.2 in
        let ids : storer.1.0 ≡ id = same_ids.0 in
        let there : m.agreed ≡ record { pairs = hop_contexts from to; limit = from.max_pdu } = shows.receiver_agrees on m.agreed m.has in
        let answer : Command = StoreRsp id status item.key.class item.uid false in
        let back = response_carried from to (is_site plan certificate from certified shows.from.0) (is_site plan certificate to certified shows.to.0) item is_item id status small status_is m.context k.caller.core agreed m.agreed has
        ((shows.caller_agrees o).0 agreed has) there m.found m.of (storer.1.3 ∙ ap (λ (n : ℕ). AnswerTo n) ids) storer.2 in
        let pdus = command_pdus from.max_pdu m.context.id answer in
        let same : command_pdus (option_map_or (λ (a : Agreed). a.limit) c.agreed 0) number_of answer ≡ pdus =
        ap (λ (a : Option Agreed). command_pdus (option_map_or (λ (b : Agreed). b.limit) a 0) number_of answer) m.has
        ∙ (ap (λ (a : Agreed). command_pdus a.limit number_of answer) there ∙ ap (λ (n : ℕ). command_pdus from.max_pdu n answer) m.at) in
        let old = old_there o in
        let F : ℕ → Type 0 = λ l. AllByRecursion (λ (p : Pdu). Fits p × MeetsLimit l p) pdus in
        let G : List Pdu → Type 0 = λ ps. AllByRecursion (λ (p : Pdu). Fits p × MeetsLimit k.caller.ear.limit p) ps in record {
          coming = pdus;
          is = (
            id,
            m.context.id,
            storer.1.2 ∙ (ap (λ (n : ℕ). Some (pending_store n storer.1.1 item.uid)) ids
                ∙ ap (λ (n : ℕ). Some (pending_store id n item.uid)) (same_ids.1 ∙ m.at)),
            back.0,
          );
          controls = [];
          joined = written_on k.caller k.to_caller (spellings (command_pdus (option_map_or (λ (a : Agreed). a.limit) c.agreed 0) number_of answer)) (empty_there o) ∙ ap (λ (l : List Pdu). spellings l) (same ∙ sym (append-nil pdus));
          works = old.works;
          waits = old.waits;
          fits = subst G (sym (append-nil pdus)) (subst F (sym shows.from.2) back.1);
          control = tt;
          none = λ e. refl;
        }

    arrived : vs ≡ [] → TakesValue c.assembly.awaited c.assembly.stage v (Ok (Some (message number_of (StoreRq id item.key.class item.uid) (Some (body.Whole item.body))))) NothingTaken → (reply : Reply) × Happens plan certificate w number (Receive number reply) link.receiver t (receiver_read k n new x)
    arrived none takes =
        let a = store_by plan link.receiver moment c v m.agreed m.context listening.0.0 m.has found s t x r id item is_item m.of NothingTaken number_of takes in
        (a.0, event a.0 a.1 a.2)
      where
        event : (reply : Reply) → rstep s (Arrive c.peer item) (Arrival reply) t → x ≡ stored (stays NothingTaken) number_of id item.key.class item.uid (store_status reply) → Happens plan certificate w number (Receive number reply) link.receiver t (receiver_read k n new x)
        event reply call e =
            let x_is : x ≡ stored (stays NothingTaken) number_of id item.key.class item.uid (store_status reply) = e in
            let would : ArmedBy (IsAdmitted (plan_routing plan link.receiver) link.caller (instance_of item) (w.books link.receiver)) s.armed (store_outcome_of reply) t.armed =
            subst (λ (p : Text). ArmedBy (IsAdmitted (plan_routing plan link.receiver) p (instance_of item) (w.books link.receiver)) s.armed (store_outcome_of reply) t.armed) listening.1
            (subst (λ (b : Book). ArmedBy (IsAdmitted (plan_routing plan link.receiver) c.peer (instance_of item) b) s.armed (store_outcome_of reply) t.armed) desk.0 call.1) in
            let a = armed_after (IsAdmitted (plan_routing plan link.receiver) link.caller (instance_of item) (w.books link.receiver)) w.armed link.receiver (store_outcome_of reply) s.armed t.armed desk.1 would in
            let mid : World = with_armed (with_book w link.receiver t.book) a.0 in
            let after_link : Link = at_stage link (Replying accepted (instance_of item) (store_status reply)) in
            subst (λ (y : Effect). Happens plan certificate w number (Receive number reply) link.receiver t (receiver_read k n new y)) (sym x_is)
            (subst (λ (f : Feeding). Happens plan certificate w number (Receive number reply) link.receiver t (receiver_read k n f (stored (stays NothingTaken) number_of id item.key.class item.uid (store_status reply)))) (sym ear_is) record {
              after = with_link mid number after_link;
              link = after_link;
              step = record {
                link = link;
                accepted = accepted;
                item = instance_of item;
                at = here;
                on = on;
                stage = storing;
                mid = mid;
                call = record {
                  book = t.book;
                  call = subst (λ (p : Text). Arrives (plan_routing plan link.receiver) p (instance_of item) (w.books link.receiver) reply t.book) listening.1 (subst (λ (b : Book). Arrives (plan_routing plan link.receiver) c.peer (instance_of item) b reply t.book) desk.0 call.0);
                  called = record { armed = a.0; store = a.1; is = refl };
                };
                is = refl;
              };
              here = get_new numbers w.links number after_link;
              desk = (sym (book_here w.books link.receiver t.book), a.2);
              only = record {
                books = λ other apart. book_there w.books link.receiver t.book other apart;
                links = (only_link w number after_link link.receiver).links;
                armed = a.3;
                rest = (refl, refl, refl);
              };
              shows = record {
                hop = shows.hop;
                from = shows.from;
                to = shows.to;
                peer = shows.peer;
                caller_agrees = shows.caller_agrees;
                receiver_agrees = λ o. shows.receiver_agrees on;
                caller = still_replying link.caller_connected accepted (instance_of item) (store_status reply) link.receiver k.caller.core caller_at;
                receiver = subst (λ (b : Bool). IsReceiver b (Replying accepted (instance_of item) (store_status reply)) link.caller (stays NothingTaken)) (sym on) (still_listening NothingTaken, refl);
                to_receiver = λ o. record {
                  coming = [];
                  is = refl;
                  controls = carries.controls;
                  joined = rest ∙ ap (λ (l : List Pdv). spellings (map alone l ++ carries.controls)) none;
                  works = refl;
                  waits = nothing_yet k.receiver.ear.limit;
                  fits = subst (λ (l : List Pdv). AreFit k.receiver.ear.limit (map alone l ++ carries.controls)) none fits;
                  control = carries.control;
                  none = carries.none;
                };
                to_caller = λ o. subst (λ (b : Bool). Carries k.caller (k.to_caller ++ bytes_of (stored (stays NothingTaken) number_of id item.key.class item.uid (store_status reply)).acts) (ToCaller (Replying accepted (instance_of item) (store_status reply)) (site_of k.receiver.core) k.caller.core) b) (sym on)
                    (carried_back (store_status reply) (statuses_have_two_bytes reply) o);
              };
            })

  by_values : (id number_of : ℕ) (is_item : IsItem item) (asked : (p : Pending) → k.caller.core.pending ≡ Some p → (p.id ≡ id) × (p.context ≡ number_of)) (small : id < 2 ^ 16) (m : IsMessageFor c (message number_of (StoreRq id item.key.class item.uid) (Some (body.Whole item.body))) item.key.class item.key.syntax carries.coming) (vs : List Pdv) → m.values ≡ vs → Result_is
  by_values id number_of is_item asked small m [] e = absurd (subst (λ (l : List Pdv). Gets c.assembly.awaited c.assembly.stage l (message number_of (StoreRq id item.key.class item.uid) (Some (body.Whole item.body)))) e m.gets)
  by_values id number_of is_item asked small m (v ∷ vs) e =
      let one : carries.coming ++ carries.controls ≡ alone v ∷ (map alone vs ++ carries.controls) = ap (λ (l : List Pdu). l ++ carries.controls) (m.are ∙ ap (λ (l : List Pdv). map alone l) e) in
      let fits : AreFit k.receiver.ear.limit (alone v ∷ (map alone vs ++ carries.controls)) = subst (λ (l : List Pdu). AreFit k.receiver.ear.limit l) one carries.fits in
      let f = front_is k.receiver k.to_receiver n front (alone v) (map alone vs ++ carries.controls) first whole (carries.joined ∙ ap (λ (l : List Pdu). spellings l) one) fits.0.0 fits.0.1 in
      let h = hears_one k.receiver.ear new (take n k.to_receiver) plays.0 (alone v) carries.works fits.0.0 fits.0.1 (whole ∙ ap written f.0) plays.1 in
      let r = plays_alone rstep moment c (Value v) plays.0 s t x h.0 plays.2 in
      let within = subst (λ (l : List Pdv). AllByRecursion (λ (p : Pdv). p.id ≡ m.context.id) l) e m.in_context in
      let gets = subst (λ (l : List Pdv). Gets c.assembly.awaited c.assembly.stage l (message number_of (StoreRq id item.key.class item.uid) (Some (body.Whole item.body)))) e m.gets in
      elim gets [
        | inl more ↦ (let one = part id number_of is_item asked small m v vs f.1 fits.1 h.1 within r more.0 more.1 more.2 in inr (one.0, one.1, (v, f.0)))
        | inr last ↦ inl (arrived id number_of is_item asked small m v vs f.1 fits.1 h.1 within r last.1 last.0)
      ]

  pub result_is : Result_is
  result_is = by_values carries.is.0 carries.is.1 carries.is.2 carries.is.4 carries.is.5 carries.is.3 carries.is.3.values refl

pub hears_store : HearsStore
hears_store plan certificate certified w number link k s here desk shows on accepted item storing moment time n front new x t first whole plays =
    let carries : Carries k.receiver k.to_receiver (ToReceiver (Storing accepted item) link.receiver k.caller.core k.receiver.core) link.caller_connected =
    subst (λ (st : Stage). Carries k.receiver k.to_receiver (ToReceiver st link.receiver k.caller.core k.receiver.core) link.caller_connected) storing (shows.to_receiver on) in
    result_is plan certificate w number link k s here desk shows on accepted carries.is.0 (storing ∙ ap (λ (i : Instance). Storing accepted i) (sym carries.is.1)) record {
      coming = carries.coming;
      is = carries.is.2;
      controls = carries.controls;
      joined = carries.joined;
      works = carries.works;
      waits = carries.waits;
      fits = carries.fits;
      control = carries.control;
      none = carries.none;
    } certified moment n front new x t first whole plays
