-- A job that a ledger hands out goes over as a store.
use Rattle.std.proofs.Common.{◌≡◌, ℕ, Bool, true, false, List, [], ◌∷◌, ◌++◌, Contains, Some, None, refl, sym, ap, subst, ◌∙◌, inl, inr, ◌+◌, ◌<◌, ◌^◌, arith}
use Rattle.std.proofs.Math.Logic.{∥∥₁_map}
use Rattle.std.specs.Prelude.{◌&&◌, if◌then◌else◌, find, option_map, ◌==◌}
use Rattle.std.specs.FinSet as set
use Rattle.std.specs.Str.{bytes_eq}
use Rattle.std.proofs.lemmas.Bool.{cases_Bool, false≢true, eqb-false, cases_lt}
use Rattle.std.proofs.lemmas.Slice.Eq.{bytes_eq-Decides}
use Rattle.std.proofs.lemmas.List.{append-nil}
use Rattle.std.proofs.lemmas.Option.{same_Some}
use Rattle.std.specs.List.{AllByRecursion}
use Rattle.dr_pdu.specs.Written.{Fits, MeetsLimit}
use Rattle.dr_session.specs.declared.ends.Pending.{Pending}
use Rattle.dr_site.specs.Sites.{IsCertified}
use Rattle.dr_site.proofs.Assembled.{is_site}
use Rattle.dr_world_tie.proofs.Carrying.{store_carried}
use Rattle.dr_world_tie.proofs.Requests.{written_on}
use Rattle.dr_base.specs.Texts.{Text}
use Rattle.dr_base.specs.Syntaxes.{syntax_uid}
use Rattle.dr_plan_model.specs.Networks.{Network}
use Rattle.dr_plan_model.proofs.Gathered.{Contains-there, Contains-here}
use Rattle.dr_plan_sound.specs.declared.certificate.Certificate.{Certificate}
use Rattle.dr_ulstate.specs.declared.table.State.TheVariants.{Sta6}
use Rattle.dr_ulstate.specs.Standing.{moved}
use Rattle.dr_ulstate.specs.Phases.{in_its_phase}
use Rattle.dr_pdu.specs.declared.pdu.Pdu.{Pdu}
use Rattle.dr_ledger.specs.declared.content.Job.{Job}
use Rattle.dr_ledger.specs.declared.content.NextRow.TheVariants.{Whole}
use Rattle.dr_ledger.specs.Books.{Book}
use Rattle.dr_ledger.specs.Items.{IsItem, instance_of}
use Rattle.dr_ledger.specs.Replies.{IsNext}
use Rattle.dr_ledger.proofs.Maps.{get_new}
use Rattle.dr_world_model.proofs.Lookups.{numbers}
use Rattle.dr_world_model.specs.Worlds.{World, Link, Stage, Contexts, Open, Storing, with_link, at_stage}
use Rattle.dr_world_model.specs.Steps.{IsLink}
use Rattle.dr_world_model.specs.Events.{Give}
use Rattle.dr_nego.specs.declared.agreed.Agreed.{Agreed}
use Rattle.dr_nego.specs.declared.agreed.Pair.{Pair}
use Rattle.dr_session.specs.declared.ends.Core.{Core}
use Rattle.dr_session.specs.declared.ends.Effect.{Effect}
use Rattle.dr_session.specs.Ledgers.{Hands}
use Rattle.dr_nego.specs.Fragments.{spellings}
use Rattle.dr_session.specs.declared.ends.Moment.{Moment}
use Rattle.dr_nego.specs.Agreeing.{context_for, is_for}
use Rattle.dr_session.specs.Reactions.{awaiting, effect, gives_in, id_after, store_pdus, storing, write}
use Rattle.dr_session.specs.Turns.{Turns}
use Rattle.dr_world_tie.specs.Desks.{Desk, LedgerStep}
use Rattle.dr_world_tie.specs.Channels.{Channel, Carries, ShowsLink, ToCaller, ToReceiver, IsAt, IsCaller, IsReceiver, contexts_of, site_of}
use Rattle.dr_world_tie.specs.Ties.{IsDeskOf, Happens, caller_did, GivesStore}
use Rattle.dr_world_tie.proofs.ContextSets.{has_context}
use Rattle.dr_world_tie.proofs.Leaving.{only_link}

pub both : (a b : Bool) → (a && b) ≡ true → (a ≡ true) × (b ≡ true)
both true true e = (refl, refl)
both true false e = absurd (false≢true e)
both false b e = absurd (false≢true e)

-- the context that is found is of that class and transfer syntax
pub in_pairs : (class syntax : Text) (xs : List Pair) (context : ℕ) → option_map (λ (x : Pair). x.id) (find (is_for class syntax) xs) ≡ Some context → (x : Pair) × Contains xs x × (is_for class syntax x ≡ true)
in_pairs class syntax [] context e = absurd (let f : None ≡ Some context = e in cc)
in_pairs class syntax (y ∷ ys) context e = elim (cases_Bool (is_for class syntax y)) [
  | inl is_so ↦ (y, Contains-here y ys, is_so)
  | inr is_not ↦
      let r = in_pairs class syntax ys context (subst (λ (b : Bool). option_map (λ (x : Pair). x.id) (if b then Some y else find (is_for class syntax) ys) ≡ Some context) is_not e) in
      (r.0, Contains-there y ys r.0 r.1, r.2)
]

id_small : (last : ℕ) → last < 2 ^ 16 → id_after last < 2 ^ 16
id_small last small = elim (cases_Bool (last == 65535)) [ inl end_is ↦ rw end_is (omega arith) | inr other ↦ rw other (let o = eqb-false last 65535 other in small_one last small o) ]
  where
    small_one : (n : ℕ) → n < 2 ^ 16 → (n ≡ 65535 → ⊥) → n + 1 < 2 ^ 16
    small_one n small other = elim (cases_lt n 65535) [ inl less ↦ omega arith | inr more ↦ absurd (other (omega arith)) ]

now_storing : (b : Bool) (accepted : Contexts) (item : _) (caller : Text) (c : Core) → IsReceiver b (Open accepted) caller c → IsReceiver b (Storing accepted item) caller c
now_storing true accepted item caller c h = h.0
now_storing false accepted item caller c h = h

module _ (plan : Network) (certificate : Certificate) (w : World) (number : ℕ) (link : Link) (k : Channel) (s : Desk) (here : IsLink w number link) (desk : IsDeskOf w link.caller s) (shows : ShowsLink plan certificate k link)
    (on : link.caller_connected ≡ true) (accepted : Contexts) (is_open : link.stage ≡ Open accepted) (moment : Moment) (time : moment.now ≡ w.time) (job : Job) (hands : Hands s.book link.receiver moment.now (Some (Whole job)))
    (agreed : Agreed) (has : k.caller.core.agreed ≡ Some agreed) (context : ℕ) (found : context_for agreed job.key.class (syntax_uid job.key.syntax) ≡ Some context) (certified : IsCertified plan certificate)
    (at : IsAt k.caller.core true Sta6) where
  at_open : IsCaller true (Open accepted) link.receiver k.caller.core
  at_open = subst (λ (st : Stage). IsCaller true st link.receiver k.caller.core) is_open (subst (λ (b : Bool). IsCaller b link.stage link.receiver k.caller.core) on shows.caller)

  accepted_is : accepted ≡ contexts_of agreed.pairs
  accepted_is =
      let same : at_open.0.1.0 ≡ agreed = (let e : Some at_open.0.1.0 ≡ Some agreed = sym at_open.0.1.1 ∙ has in cc) in
      at_open.0.1.2 ∙ ap (λ (a : Agreed). contexts_of a.pairs) same

  is_accepted : set.contains accepted (job.key.class, job.key.syntax) ≡ true
  is_accepted =
      let p = in_pairs job.key.class (syntax_uid job.key.syntax) agreed.pairs context found in
      let b = both (bytes_eq p.0.class job.key.class) (bytes_eq p.0.syntax (syntax_uid job.key.syntax)) p.2 in
      subst (λ (z : Contexts). set.contains z (job.key.class, job.key.syntax) ≡ true) (sym accepted_is)
      (has_context agreed.pairs p.0 job.key.class job.key.syntax p.1 ((bytes_eq-Decides p.0.class job.key.class).0 b.0) ((bytes_eq-Decides p.0.syntax (syntax_uid job.key.syntax)).0 b.1))

  first : IsNext (w.books link.caller) link.receiver w.time (instance_of job)
  first = subst (λ (n : ℕ). IsNext (w.books link.caller) link.receiver n (instance_of job)) time (subst (λ (b : Book). IsNext b link.receiver moment.now (instance_of job)) desk.0 hands.0)

  old_there : (o : link.receiver_connected ≡ true) → Carries k.receiver k.to_receiver (ToReceiver (Open accepted) link.receiver k.caller.core k.receiver.core) true
  old_there o =
      subst (λ (st : Stage). Carries k.receiver k.to_receiver (ToReceiver st link.receiver k.caller.core k.receiver.core) true) is_open
      (subst (λ (b : Bool). Carries k.receiver k.to_receiver (ToReceiver link.stage link.receiver k.caller.core k.receiver.core) b) on (shows.to_receiver o))

  nothing_there : (o : link.receiver_connected ≡ true) → k.receiver.ear.kept ++ k.to_receiver ≡ []
  nothing_there o =
      let old = old_there o in
      old.joined ∙ (ap (λ (l : List Pdu). spellings (l ++ old.controls)) old.is ∙ ap (λ (l : List Pdu). spellings l) (old.none refl))

  abbrev core : Core
  core = awaiting (storing (id_after k.caller.core.last) context job.uid) moment.now (record k.caller.core { phase = in_its_phase (moved at.0 Sta6 moment.now) })

  abbrev given : Effect
  given = effect (write (store_pdus agreed context (id_after k.caller.core.last) job) ∷ []) core

  abbrev after_link : Link
  after_link = at_stage link (Storing accepted (instance_of job))

  receiver_at : IsReceiver link.receiver_connected (Storing accepted (instance_of job)) link.caller k.receiver.core
  receiver_at = now_storing link.receiver_connected accepted (instance_of job) link.caller k.receiver.core (subst (λ (st : Stage). IsReceiver link.receiver_connected st link.caller k.receiver.core) is_open shows.receiver)

  -- the store comes to the receiver, in the context that both ends have
  carried : IsItem job → (o : link.receiver_connected ≡ true) →
      Carries k.receiver (k.to_receiver ++ (spellings (store_pdus agreed context (id_after k.caller.core.last) job) ++ [])) (ToReceiver (Storing accepted (instance_of job)) link.receiver core k.receiver.core) link.caller_connected
  carried is_item o =
      let from = (site_of k.caller.core) in
      let to = (site_of k.receiver.core) in
      let listens : IsReceiver true (Open accepted) link.caller k.receiver.core = subst (λ (b : Bool). IsReceiver b (Open accepted) link.caller k.receiver.core) o (subst (λ (st : Stage). IsReceiver link.receiver_connected st link.caller k.receiver.core) is_open shows.receiver) in
      let there = listens.0.0.1.0 in
      let has_there = listens.0.0.1.1 in
      let m = store_carried from to (is_site plan certificate from certified shows.from.0) (is_site plan certificate to certified shows.to.0) job is_item agreed ((shows.caller_agrees on).0 agreed has) context found
      (id_after k.caller.core.last) (id_small k.caller.core.last (shows.caller_agrees on).1) k.receiver.core there has_there (shows.receiver_agrees o there has_there) listens.0.3 listens.1 in
      let old = old_there o in
      let pdus = store_pdus agreed context (id_after k.caller.core.last) job in
      let F : ℕ → Type 0 = λ l. AllByRecursion (λ (p : Pdu). Fits p × MeetsLimit l p) pdus in
      let G : List Pdu → Type 0 = λ ps. AllByRecursion (λ (p : Pdu). Fits p × MeetsLimit k.receiver.ear.limit p) ps in record {
        coming = pdus;
        is = (
          job,
          refl,
          (
            id_after k.caller.core.last,
            context,
            is_item,
            m.0,
            (λ p e. (let same : Some (storing (id_after k.caller.core.last) context job.uid) ≡ Some p = e in
                (ap (λ (q : Pending). q.id) (sym (same_Some _ _ same)), ap (λ (q : Pending). q.context) (sym (same_Some _ _ same))))),
            id_small k.caller.core.last (shows.caller_agrees on).1,
          ),
        );
        controls = [];
        joined = written_on k.receiver k.to_receiver (spellings pdus) (nothing_there o) ∙ ap (λ (l : List Pdu). spellings l) (sym (append-nil pdus));
        works = old.works;
        waits = old.waits;
        fits = subst G (sym (append-nil pdus)) (subst F (sym shows.to.2) m.1);
        control = tt;
        none = λ e. refl;
      }

  gives : IsItem job → Happens plan certificate w number (Give number None) link.caller s (caller_did k given)
  gives is_item = record {
    after = with_link w number after_link;
    link = after_link;
    step = record { link = link; accepted = accepted; item = instance_of job; at = here; on = on; stage = is_open; first = first; then = (is_accepted, refl) };
    here = get_new numbers w.links number after_link;
    desk = desk;
    only = only_link w number after_link link.caller;
    shows = record {
      hop = shows.hop;
      from = shows.from;
      to = shows.to;
      peer = shows.peer;
      caller_agrees = λ o. ((shows.caller_agrees on).0, id_small k.caller.core.last (shows.caller_agrees on).1);
      receiver_agrees = shows.receiver_agrees;
      caller = subst (λ (b : Bool). IsCaller b (Storing accepted (instance_of job)) link.receiver core) (sym on)
          (((moved at.0 Sta6 moment.now, refl, at.2, refl), at_open.0.1), (id_after k.caller.core.last, context, refl, refl), at_open.3);
      receiver = receiver_at;
      to_receiver = λ o. carried is_item o;
      to_caller = λ o. (let old = subst (λ (st : Stage). Carries k.caller k.to_caller (ToCaller st (site_of k.receiver.core) k.caller.core) link.receiver_connected) is_open (shows.to_caller o) in record {
        coming = old.coming;
        is = old.is;
        controls = old.controls;
        joined = old.joined;
        works = old.works;
        waits = old.waits;
        fits = old.fits;
        control = old.control;
        none = old.none;
      });
    };
  }

  pub happens : (x : Effect) (t : Desk) → Turns (LedgerStep plan link.caller) (gives_in (Some context) agreed moment job (record k.caller.core { phase = in_its_phase (moved at.0 Sta6 moment.now) })) s x t
      → ∥ Happens plan certificate w number (Give number None) link.caller t (caller_did k x) ∥₁
  happens x t h =
      let it : ∥ Happens plan certificate w number (Give number None) link.caller s (caller_did k given) ∥₁ = ∥∥₁_map hands.1 (λ is_item. gives is_item) in
      subst (λ (d : Desk). ∥ Happens plan certificate w number (Give number None) link.caller d (caller_did k x) ∥₁) (sym h.1)
      (subst (λ (y : Effect). ∥ Happens plan certificate w number (Give number None) link.caller s (caller_did k y) ∥₁) (sym h.0) it)

pub gives_store : GivesStore
gives_store plan certificate certified w number link k s here desk shows on accepted is_open moment time job hands agreed has context found at x t h =
    happens plan certificate w number link k s here desk shows on accepted is_open moment time job hands agreed has context found certified at x t h
