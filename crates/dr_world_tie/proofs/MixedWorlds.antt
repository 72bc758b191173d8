-- Nodes of ours that have links to each other beside those to other makers' products.
use Rattle.std.proofs.Common.{◌≡◌, ℕ, ◌≤◌, Bool, true, false, List, [], ◌∷◌, ◌++◌, take, Option}
use Rattle.std.proofs.Common.{Some, None, refl, sym, ap, subst, ◌∙◌, inl, inr, arith}
use Rattle.std.proofs.Math.Logic.{∥∥₁_map, ∥∥₁_elim, ∥∥₁_prop}
use Rattle.std.specs.Prelude.{◌+◌, ◌^◌, min, if◌then◌else◌, map as mapped}
use Rattle.std.specs.Ordering.{nat_cmp}
use Rattle.std.specs.FinMap as map_of
use Rattle.std.specs.FinSet as set
use Rattle.std.proofs.lemmas.Bool.{eq-eqb, false≢true}
use Rattle.std.proofs.lemmas.Option.{same_Some}
use Rattle.dr_base.specs.Texts.{Text, text_cmp}
use Rattle.dr_plan_model.specs.Networks.{Network}
use Rattle.dr_plan_sound.specs.declared.certificate.Certificate.{Certificate}
use Rattle.dr_site.specs.Sites.{IsCertified}
use Rattle.dr_site.specs.Parts.{Part}
use Rattle.dr_site.proofs.Assembled.{is_site}
use Rattle.dr_site.proofs.ContextsAsPlanned.{hop_to, pairs_as_planned}
use Rattle.dr_nego.proofs.Sized.{proposals_fit}
use Rattle.dr_ulstate.specs.declared.table.State.TheVariants.{Sta2, Sta5}
use Rattle.dr_ulstate.specs.Standing.{standing}
use Rattle.dr_ledger.specs.Items.{instance_of}
use Rattle.dr_ledger.specs.declared.item.Instance.{Instance}
use Rattle.dr_ledger.specs.declared.item.Outcome.TheVariants.{Broken}
use Rattle.dr_ledger.proofs.Maps.{get_new, same_or_not, texts, ties_itself}
use Rattle.dr_pdu.specs.Feeding.{fresh}
use Rattle.dr_session.specs.Desks.{Settle, Settling}
use Rattle.dr_session.specs.Ends.{accepting}
use Rattle.dr_session.specs.declared.ends.Input.{Input}
use Rattle.dr_session.specs.Plays.{PlaysBytes, Reacts, at_moment}
use Rattle.dr_world_model.specs.Worlds.{Link, World, same_text, start}
use Rattle.dr_world_model.specs.Events.{Event, Ask, Drop, Forget, Refuse, Requeue, Take, Tick}
use Rattle.dr_world_model.specs.Events.{StayAway as AwayEvent}
use Rattle.dr_world_model.specs.Steps.{IsHop, NoneIsPending, asked, new_link, passed}
use Rattle.dr_world_model.specs.Steps.{pending}
use Rattle.dr_world_model.specs.Among.{Ours, Act, ArrivesAtOurs, Own, RunsAmong, HeadlineAmong}
use Rattle.dr_world_model.proofs.AmongActs.{headline_holds_among}
use Rattle.dr_world_model.proofs.Lookups.{numbers as numbers_of}
use Rattle.dr_world_tie.specs.ByteWorlds.{Requestor, Acceptor, caller_of, opened_between}
use Rattle.dr_world_tie.specs.ByteWorlds.{receiver_of}
use Rattle.dr_world_tie.specs.Desks.{Desk, LedgerStep}
use Rattle.dr_world_tie.specs.Channels.{Channel, IsCaller, ShowsLink, site_in}
use Rattle.dr_world_tie.specs.Nodes.{GivesUpAt, HappensAt}
use Rattle.dr_world_tie.specs.Ties.{IsDeskOf, IsOpened, caller_did, caller_read, receiver_did}
use Rattle.dr_world_tie.specs.Ties.{receiver_read, with_desk}
use Rattle.dr_world_tie.specs.Foreign.{OnlyOf, OthersHaveNone}
use Rattle.dr_world_tie.specs.ForeignCalls.{CallsAt}
use Rattle.dr_world_tie.specs.ForeignWorlds.{OwnEnd, OwnWorld, own_beginning, with_done}
use Rattle.dr_world_tie.specs.ForeignWorlds.{OwnStep, Listens, Opens, Hears, Meets}
use Rattle.dr_world_tie.specs.ForeignWorlds.{Submits, Passes, DoesAlone, Forgets, NoneAwaits}
use Rattle.dr_world_tie.specs.ForeignWorlds.{GivesUp, OwnRuns, OwnSteps, PutsBack, Refuses, Restarts}
use Rattle.dr_world_tie.specs.ForeignWorlds.{StaysAway}
use Rattle.dr_world_tie.specs.MixedWorlds.{Alone, Asks, BothKindsStandThere, CallerIsAsked}
use Rattle.dr_world_tie.specs.MixedWorlds.{CallerIsMoved, CountsOthers, Empties, IsEmptied}
use Rattle.dr_world_tie.specs.MixedWorlds.{Joins, JoinsTo, MayBeside, MixedRuns, MixedStep}
use Rattle.dr_world_tie.specs.MixedWorlds.{MixedSteps, MixedWorld, MixedWorldsKeepTheClaims, Moves}
use Rattle.dr_world_tie.specs.MixedWorlds.{NonePends, OwnRunsAreMixed, PairsAreOurs}
use Rattle.dr_world_tie.specs.MixedWorlds.{ReceiverIsAsked, ReceiverIsMoved, ShowsMixed, ShowsPair}
use Rattle.dr_world_tie.specs.MixedWorlds.{WiresCarryWhatIsWritten, done_between, mixed_beginning}
use Rattle.dr_world_tie.specs.MixedWorlds.{pairs_after, with_pair, without_pair}
use Rattle.dr_world_tie.proofs.Changes.{caller_off, receiver_off}
use Rattle.dr_world_tie.proofs.EndsAlone.{Beside, hears, listens, meets, only_asked, only_at, opens}
use Rattle.dr_world_tie.proofs.EndsAlone.{pend_by, shown_as}
use Rattle.dr_world_tie.proofs.Foreigners.{only_none, runs_on}
use Rattle.dr_world_tie.proofs.MixedCounts.{counts_agree}
use Rattle.dr_world_tie.proofs.MixedRestarts.{mixed_restarts, pair_was}
use Rattle.dr_world_tie.proofs.MixedUpdates.{PlaceOf, desks_with, end_is_shown, no_pair, pair_alone}
use Rattle.dr_world_tie.proofs.MixedUpdates.{pair_is_shown, pair_still, place_of}
use Rattle.dr_world_tie.proofs.Nodes.{giving_up_is_drop, refusing_is_refuse}
use Rattle.dr_world_tie.proofs.Nodes.{requeueing_is_requeue, staying_away_is_stay_away}
use Rattle.dr_world_tie.proofs.Nodes.{forgetting_is_forget, submitting_takes}
use Rattle.dr_world_tie.proofs.Opening.{opens_are_asks}
use Rattle.dr_world_tie.proofs.PairsCome.{Lands, caller_is_asked, caller_is_moved}
use Rattle.dr_world_tie.proofs.PairsCome.{receiver_is_asked, receiver_is_moved}
use Rattle.dr_world_tie.proofs.Pendings.{pends_here}
use Rattle.dr_world_tie.proofs.Sited.{bytes_keep, reacts_keep}

module _ (ours : Ours) (plan : Network) (certificate : Certificate) where
  abbrev Acts : World → MixedWorld → Type 0
  Acts w new =
      (acts : List Act) × (v : World)
      × RunsAmong ours plan w acts plan v
      × ShowsMixed ours plan certificate new v

  module _ (certified : IsCertified plan certificate) (b : MixedWorld) (w : World)
      (shows : ShowsMixed ours plan certificate b w) (others_none : OthersHaveNone ours w) where
    as_new : (new made : MixedWorld) → new ≡ made → Acts w made → Acts w new
    as_new new made e h = subst (λ (z : MixedWorld). Acts w z) (sym e) h

    -- ---- ends whose peers are other products

    -- the links between two of ours stay
    abbrev beside_pairs : OwnWorld → MixedWorld
    beside_pairs o = record { own = o; pairs = b.pairs }

    abbrev ShownBeside : OwnWorld → World → Type 0
    ShownBeside o v = ShowsMixed ours plan certificate (beside_pairs o) v

    abbrev IsVacant : ℕ → Type 0
    IsVacant i = b.pairs i ≡ None

    beside : Beside ours plan certificate b.own w ShownBeside IsVacant
    beside = record {
      time = shows.time;
      desks = shows.desks;
      numbers = shows.numbers;
      own = shows.own;
      ends = shows.ends;
      stands = shows.lone;
      free = λ i none vacant. shows.free i none vacant;
      done = λ i vacant node own v next only counts t desk_is side k keeps shown.
          end_is_shown ours plan certificate b w shows i node own v next only counts keeps t desk_is
          vacant side k shown;
    }

    -- ---- nodes alone

    alone : (node : Text) (Does : Desk → Desk → Type 0) (o : OwnWorld)
        → (h : DoesAlone ours plan certificate b.own node Does o) (event : Event)
        → ArrivesAtOurs ours w event
        → HappensAt plan w event node h.after
        → Acts w (beside_pairs o)
    alone node Does o h event arrives a =
        subst (λ (z : OwnWorld). Acts w (beside_pairs z)) (sym h.is) (
          Own event ∷ [],
          a.after,
          (arrives, (a.after, a.step, (refl, refl))),
          record {
            time = a.only.rest.0 ∙ shows.time;
            desks = desks_with ours plan certificate b w shows a.after None node only h.after
                a.desk_is;
            numbers = shows.numbers;
            own = shows.own;
            ends = λ i e there. shown_as ours plan certificate w a.after a.only.links
                (shows.numbers i) e.side e.node e.terminal (shows.ends i e there);
            pairs = λ i k there. pair_still ours plan certificate w a.after None (shows.numbers i)
                node k only (λ m at same. cc same) (shows.pairs i k there);
            lone = shows.lone;
            apart = shows.apart;
            known = λ i n at. (
                let few : n ≤ w.opened = shows.known i n at in
                let e : a.after.opened ≡ w.opened = a.only.rest.2 in
                omega (arith, few, e));
            free = shows.free;
            covered = λ n link there its. shows.covered n link
                (ap (λ (l : _). map_of.get l n) (sym a.only.links) ∙ there) its;
          },
        )
      where
        only : OnlyOf w a.after None node
        only = only_at w a.after node a.only

    passes : (ms : ℕ) (o : OwnWorld)
        → o ≡ record {
          time = min (b.own.time + ms) (2 ^ 62);
          desks = b.own.desks;
          ends = b.own.ends;
        }
        → Acts w (beside_pairs o)
    passes ms o is = subst (λ (z : OwnWorld). Acts w (beside_pairs z)) (sym is) (
      Own (Tick ms) ∷ [],
      passed w ms,
      (tt, (passed w ms, refl, (refl, refl))),
      record {
        time = ap (λ (n : ℕ). min (n + ms) (2 ^ 62)) shows.time;
        desks = shows.desks;
        numbers = shows.numbers;
        own = shows.own;
        ends = λ i e there. shown_as ours plan certificate w (passed w ms) refl (shows.numbers i)
            e.side e.node e.terminal (shows.ends i e there);
        pairs = λ i k there.
            (let p = shows.pairs i k there in
            record {
              number = p.number;
              at_is = p.at_is;
              link = p.link;
              here = p.here;
              caller = p.caller;
              receiver = p.receiver;
              shows = p.shows;
            });
        lone = shows.lone;
        apart = shows.apart;
        known = shows.known;
        free = shows.free;
        covered = shows.covered;
      },
    )

    -- what a node is to forget is pending on no link
    pends_nowhere : (node uid : Text)
        → NoneAwaits b.own node uid
        → NonePends b.pairs node uid
        → (i : ℕ) (link : Link) (item : Instance)
        → PlaceOf ours plan certificate b i link
        → ours link.caller ≡ true
        → link.caller ≡ node
        → link.caller_connected ≡ true
        → pending link.stage ≡ Some item
        → item.uid ≡ uid
        → ⊥
    pends_nowhere node uid none none_too i link item (inl (e, there, inl (side, call))) mine caller
        on pend same = false≢true (sym call.caller ∙ mine)
    pends_nowhere node uid none none_too i link item (inl (e, there, inr (side, call))) mine caller
        on pend same =
        let stands : CallsAt true link.stage link.receiver e.terminal.core = subst
        (λ (c : Bool). CallsAt c link.stage link.receiver e.terminal.core) on call.stands in
        none i e there (sym call.caller ∙ caller) side
        (pend_by link.stage link.receiver e.terminal.core item stands pend
        ∙ ap (λ (u : Text). Some u) same)
    pends_nowhere node uid none none_too i link item (inr (k, there, pair)) mine caller on pend
        same =
        let stands : IsCaller true link.stage link.receiver k.caller.core = subst
        (λ (c : Bool). IsCaller c link.stage link.receiver k.caller.core) on pair.2.caller in
        none_too i k there (pair.2.from.1 ∙ caller)
        (pends_here link.stage link.receiver k.caller.core item stands pend
        ∙ ap (λ (u : Text). Some u) same)

    none_pending : (node uid : Text)
        → NoneAwaits b.own node uid
        → NonePends b.pairs node uid
        → ours node ≡ true
        → NoneIsPending w node uid
    none_pending node uid none none_too its number link item there caller on pend same =
        let mine : ours link.caller ≡ true = ap ours caller ∙ its in
        let a = shows.covered number link there (inl mine) in
        pends_nowhere node uid none none_too a.0 link item
        (place_of ours plan certificate b w shows a.0 number link a.1 there) mine caller on pend
        same

    beside_step : (step : OwnStep) (o : OwnWorld)
        → MayBeside b.pairs step
        → OwnSteps ours plan certificate b.own step o
        → Acts w (record { own = o; pairs = pairs_after step b.pairs })
    beside_step (Listens i node) o may h = listens ours plan certificate certified b.own w
        ShownBeside IsVacant beside others_none i node o may h
    beside_step (Opens i node dest) o may h = opens ours plan certificate certified b.own w
        ShownBeside IsVacant beside others_none i node dest o may h
    beside_step (Hears i came) o may h = hears ours plan certificate certified b.own w
        ShownBeside IsVacant beside others_none i came o h
    beside_step (Meets i what) o may h = meets ours plan certificate certified b.own w
        ShownBeside IsVacant beside others_none i what o h
    beside_step (Submits node item) o may h = alone node _ o h
        (Take node (instance_of item) h.does.0) h.own
        (submitting_takes plan w node item (b.own.desks node) h.after h.does.0 h.is_node
        (shows.desks node h.own) h.does.1)
    beside_step (StaysAway node uid dest) o may h = alone node _ o h
        (AwayEvent node uid dest h.does.0) tt
        (staying_away_is_stay_away plan w node uid dest (b.own.desks node) h.after h.does.0
        h.is_node (shows.desks node h.own)
        (subst
        (λ (n : ℕ). LedgerStep plan node (b.own.desks node) (Settle uid dest Broken n)
        (Settling h.does.0) h.after)
        (sym shows.time) h.does.1))
    beside_step (PutsBack node uid dest) o may h = alone node _ o h
        (Requeue node uid dest h.does.0) tt
        (requeueing_is_requeue plan w node uid dest (b.own.desks node) h.after h.does.0 h.is_node
        (shows.desks node h.own) h.does.1)
    beside_step (GivesUp node uid dest) o may h = alone node _ o h
        (Drop node uid dest h.does.0) tt
        (giving_up_is_drop plan w node uid dest (b.own.desks node) h.after h.does.0 h.is_node
        (shows.desks node h.own)
        (subst (λ (n : ℕ). GivesUpAt (b.own.desks node) uid dest n h.does.0 h.after)
        (sym shows.time) h.does.1))
    beside_step (Forgets node uid) o may h = alone node _ o h.1
        (Forget node uid h.1.does.0) tt
        (forgetting_is_forget plan w node uid (b.own.desks node) h.1.after h.1.does.0 h.1.is_node
        (none_pending node uid h.0 may h.1.own) (shows.desks node h.1.own) h.1.does.1)
    beside_step (Refuses node) o may h = alone node _ o h (Refuse node) tt
        (subst (λ (d : Desk). HappensAt plan w (Refuse node) node d) (sym h.does)
        (refusing_is_refuse plan w node (b.own.desks node) h.is_node (shows.desks node h.own)))
    beside_step (Restarts node) o may h =
        let r = mixed_restarts ours plan certificate b w shows others_none node h.own may in
        subst
        (λ (z : OwnWorld).
        Acts w (record { own = z; pairs = λ number. without_pair node (b.pairs number) }))
        (sym h.is) (r.0, r.1, r.2, r.3)
    beside_step (Passes ms) o may h = passes ms o h

    -- ---- links between two of ours

    -- an event of such a link, or none
    land : (i : ℕ) (k l : Channel) → b.pairs i ≡ Some k
        → (p : ShowsPair ours plan certificate w (shows.numbers i) k)
        → (name : Text)
        → ours name ≡ true
        → (t : Desk)
        → caller_of l ≡ caller_of k
        → receiver_of l ≡ receiver_of k
        → Lands ours plan certificate w p.number name t l
        → Acts w (done_between b i l name t)
    land i k l there p name own t from to lands = (
      lands.acts,
      lands.after,
      lands.runs,
      pair_is_shown ours plan certificate b w shows i name own lands.after (Some p.number)
          lands.only
          (λ n q. inl (p.at_is ∙ q))
          (λ n q. sym p.at_is ∙ q) t lands.desk
          (pair_alone ours plan certificate b w shows i k there) l
          record {
            number = p.number;
            at_is = refl;
            link = lands.link;
            here = lands.here;
            caller =
                ap ours (sym lands.shows.from.1 ∙ (from ∙ p.shows.from.1)) ∙ p.caller;
            receiver = ap ours (sym lands.shows.to.1 ∙ (to ∙ p.shows.to.1)) ∙ p.receiver;
            shows = lands.shows;
          },
    )

    as_named : (i : ℕ) (l : Channel) (name other : Text) (t : Desk) → other ≡ name
        → Acts w (done_between b i l name t)
        → Acts w (done_between b i l other t)
    as_named i l name other t same h =
        subst (λ (n : Text). Acts w (done_between b i l n t)) (sym same) h

    caller_moves : (i n : ℕ) (new : MixedWorld)
        → CallerIsMoved ours plan certificate b i n new
        → Acts w new
    caller_moves i n new h =
        let k : Channel = h.pair in
        let p = shows.pairs i k h.there in
        let l : Channel = caller_read k n h.ear h.effect in
        let from : caller_of k ≡ p.link.caller = p.shows.from.1 in
        let q : PlaysBytes (LedgerStep plan p.link.caller) h.moment k.caller.ear k.caller.core
        (take n k.to_caller) (b.own.desks p.link.caller) h.ear h.effect h.after = subst
        (λ (m : Text). PlaysBytes (LedgerStep plan m) h.moment k.caller.ear k.caller.core
        (take n k.to_caller) (b.own.desks m) h.ear h.effect h.after) from h.plays in
        let lands = caller_is_moved ours plan certificate certified w p.number p.link k p.here
        p.shows (b.own.desks p.link.caller) (shows.desks p.link.caller p.caller) h.moment
        (h.now ∙ sym shows.time) h.effect h.after n h.ear h.some h.within q in
        as_new new _ h.is (as_named i l p.link.caller (caller_of k) h.after from
        (land i k l h.there p p.link.caller p.caller h.after
        (ap (λ (s : Option Part). (site_in s).name)
        (bytes_keep (LedgerStep plan p.link.caller) h.moment k.caller.ear k.caller.core
        (take n k.to_caller) (b.own.desks p.link.caller) h.ear h.effect h.after q))
        refl lands))

    receiver_moves : (i n : ℕ) (new : MixedWorld)
        → ReceiverIsMoved ours plan certificate b i n new
        → Acts w new
    receiver_moves i n new h =
        let k : Channel = h.pair in
        let p = shows.pairs i k h.there in
        let l : Channel = receiver_read k n h.ear h.effect in
        let to : receiver_of k ≡ p.link.receiver = p.shows.to.1 in
        let q : PlaysBytes (LedgerStep plan p.link.receiver) h.moment k.receiver.ear
        k.receiver.core (take n k.to_receiver) (b.own.desks p.link.receiver) h.ear h.effect
        h.after = subst
        (λ (m : Text). PlaysBytes (LedgerStep plan m) h.moment k.receiver.ear k.receiver.core
        (take n k.to_receiver) (b.own.desks m) h.ear h.effect h.after) to h.plays in
        let counted : CountsOthers b i p.link.receiver h.moment.others =
        subst (λ (m : Text). CountsOthers b i m h.moment.others) to h.counted in
        let lands = receiver_is_moved ours plan certificate certified w p.number p.link k p.here
        p.shows p.receiver (b.own.desks p.link.receiver) (shows.desks p.link.receiver p.receiver)
        h.moment (h.now ∙ sym shows.time) h.effect h.after
        (counts_agree ours plan certificate b w shows p.link.receiver p.receiver i p.number p.at_is
        h.moment.others counted) n h.ear h.some h.within q in
        as_new new _ h.is (as_named i l p.link.receiver (receiver_of k) h.after to
        (land i k l h.there p p.link.receiver p.receiver h.after refl
        (ap (λ (s : Option Part). (site_in s).name)
        (bytes_keep (LedgerStep plan p.link.receiver) h.moment k.receiver.ear k.receiver.core
        (take n k.to_receiver) (b.own.desks p.link.receiver) h.ear h.effect h.after q))
        lands))

    caller_asked : (i : ℕ) (what : Input) (new : MixedWorld)
        → CallerIsAsked ours plan certificate b i what new
        → ∥ Acts w new ∥₁
    caller_asked i what new h =
        let k : Channel = h.pair in
        let p = shows.pairs i k h.there in
        let l : Channel = caller_did k h.effect in
        let from : caller_of k ≡ p.link.caller = p.shows.from.1 in
        let r : Reacts (LedgerStep plan p.link.caller) k.caller.core (at_moment h.moment what)
        (b.own.desks p.link.caller) h.effect h.after = subst
        (λ (m : Text). Reacts (LedgerStep plan m) k.caller.core (at_moment h.moment what)
        (b.own.desks m) h.effect h.after) from h.reacts in
        ∥∥₁_map (caller_is_asked ours plan certificate certified w p.number p.link k p.here
        p.shows (b.own.desks p.link.caller) (shows.desks p.link.caller p.caller) h.moment
        (h.now ∙ sym shows.time) h.effect h.after what h.may r)
        (λ lands. as_new new _ h.is (as_named i l p.link.caller (caller_of k) h.after from
        (land i k l h.there p p.link.caller p.caller h.after
        (ap (λ (s : Option Part). (site_in s).name)
        (reacts_keep (LedgerStep plan p.link.caller) k.caller.core (at_moment h.moment what)
        (b.own.desks p.link.caller) h.effect h.after r))
        refl lands)))

    receiver_asked : (i : ℕ) (what : Input) (new : MixedWorld)
        → ReceiverIsAsked ours plan certificate b i what new
        → Acts w new
    receiver_asked i what new h =
        let k : Channel = h.pair in
        let p = shows.pairs i k h.there in
        let l : Channel = receiver_did k h.effect in
        let to : receiver_of k ≡ p.link.receiver = p.shows.to.1 in
        let r : Reacts (LedgerStep plan p.link.receiver) k.receiver.core
        (at_moment h.moment what) (b.own.desks p.link.receiver) h.effect h.after = subst
        (λ (m : Text). Reacts (LedgerStep plan m) k.receiver.core (at_moment h.moment what)
        (b.own.desks m) h.effect h.after) to h.reacts in
        let lands = receiver_is_asked ours plan certificate certified w p.number p.link k p.here
        p.shows p.receiver (b.own.desks p.link.receiver) (shows.desks p.link.receiver p.receiver)
        h.moment (h.now ∙ sym shows.time) h.effect h.after what h.may r in
        as_new new _ h.is (as_named i l p.link.receiver (receiver_of k) h.after to
        (land i k l h.there p p.link.receiver p.receiver h.after refl
        (ap (λ (s : Option Part). (site_in s).name)
        (reacts_keep (LedgerStep plan p.link.receiver) k.receiver.core (at_moment h.moment what)
        (b.own.desks p.link.receiver) h.effect h.after r))
        lands))

    -- ---- a link is opened, and its wires are emptied

    -- a desk that is put where it was
    desk_there : (name other : Text)
        → with_desk b.own.desks name (b.own.desks name) other ≡ b.own.desks other
    desk_there name other = elim (same_or_not texts other name) [
      | inl same ↦
          ap (λ (c : Bool). if c then b.own.desks name else b.own.desks other)
          (ap (λ (n : Text). same_text n name) same ∙ ties_itself texts name)
          ∙ sym (ap b.own.desks same)
      | inr apart ↦ ap (λ (c : Bool). if c then b.own.desks name else b.own.desks other) apart
    ]

    undone : (i : ℕ) (k : Channel) (name : Text) (v : World)
        → ShowsMixed ours plan certificate (done_between b i k name (b.own.desks name)) v
        → ShowsMixed ours plan certificate
        (record { own = b.own; pairs = with_pair b.pairs i k })
        v
    undone i k name v h = record {
      time = h.time;
      desks = λ other its. subst (λ (d : Desk). IsDeskOf v other d) (desk_there name other)
          (h.desks other its);
      numbers = h.numbers;
      own = h.own;
      ends = h.ends;
      pairs = h.pairs;
      lone = h.lone;
      apart = h.apart;
      known = h.known;
      free = h.free;
      covered = h.covered;
    }

    joins : (i : ℕ) (from to : Text) (new : MixedWorld)
        → JoinsTo ours plan certificate b i from to new
        → Acts w new
    joins i from to new h =
        let k : Channel = opened_between h.caller h.receiver h.rq b.own.time in
        let site = is_site plan certificate h.caller certified h.from_is.0 in
        let over = (pairs_as_planned plan certificate h.caller certified h.from_is.0 to h.hop.class
        h.hop.syntax).0 (h.hop, (hop_to h.caller to h.hop).1 h.over, refl, refl) in
        let goes : IsHop plan from to =
        subst (λ (n : Text). IsHop plan n to) h.from_is.1 (over.0, over.2) in
        let opened : IsOpened plan certificate from to k = record {
          from = (h.from_is.0, h.from_is.1, refl, refl);
          to = (h.to_is.0, h.to_is.1, refl, refl);
          peer = h.to_is.1;
          asking = (
            (standing Sta5 true b.own.time, refl, refl, refl),
            refl,
            refl,
            refl,
            refl,
            (h.rq, refl, h.proposal),
            refl,
          );
          last = omega arith;
          listening = ((standing Sta2 false b.own.time, refl, refl, refl), refl, refl, refl, refl);
          ears = (refl, refl);
          rq = h.rq;
          proposed = refl;
          fits = proposals_fit h.caller to h.hop h.rq site h.over h.proposal;
          wires = (refl, refl);
        } in
        let a = opens_are_asks plan certificate w from to k goes opened in
        let v : World = asked w from to in
        as_new new _ h.is (
          Own (Ask from to) ∷ [],
          v,
          (tt, (v, (goes, refl), (refl, refl))),
          undone i k from v
              (pair_is_shown ours plan certificate b w shows i from h.own.0 v
              (Some (w.opened + 1))
              (only_asked w from to)
              (λ n q.
              (let same : w.opened + 1 ≡ n = same_Some (w.opened + 1) n q in
              inr (omega (arith, same), omega (arith, same))))
              (λ n q.
              (let f : None ≡ Some n = sym (shows.free i h.free.0 h.free.1) ∙ q in absurd (cc f)))
              (b.own.desks from) (shows.desks from h.own.0) h.free.0 k
              record {
                number = w.opened + 1;
                at_is = refl;
                link = new_link from to;
                here = get_new numbers_of w.links (w.opened + 1) (new_link from to);
                caller = h.own.0;
                receiver = h.own.1;
                shows = a.3;
              }),
        )

    empties : (i : ℕ) (new : MixedWorld)
        → IsEmptied ours plan certificate b i new
        → Acts w new
    empties i new h =
        let k : Channel = h.pair in
        let p = shows.pairs i k h.there in
        let caller = caller_off p.link.caller_connected p.link.stage p.link.receiver k.caller.core
        p.shows.caller h.over.0 in
        let receiver = receiver_off p.link.receiver_connected p.link.stage p.link.caller
        k.receiver.core p.shows.receiver h.over.1 in
        let l : Channel = record {
          caller = k.caller;
          receiver = k.receiver;
          to_caller = [];
          to_receiver = [];
        } in
        let emptied : ShowsLink plan certificate l p.link = record {
          hop = p.shows.hop;
          from = p.shows.from;
          to = p.shows.to;
          peer = p.shows.peer;
          caller_agrees = p.shows.caller_agrees;
          receiver_agrees = p.shows.receiver_agrees;
          caller = p.shows.caller;
          receiver = p.shows.receiver;
          to_receiver = λ on. absurd (false≢true (sym receiver ∙ on));
          to_caller = λ on. absurd (false≢true (sym caller ∙ on));
        } in
        let name : Text = p.link.caller in
        as_new new _ h.is (
          [],
          w,
          (refl, refl),
          undone i l name w
              (pair_is_shown ours plan certificate b w shows i name p.caller w (Some p.number)
              (only_none w (Some p.number) name)
              (λ n q. inl (p.at_is ∙ q))
              (λ n q. sym p.at_is ∙ q) (b.own.desks name) (shows.desks name p.caller)
              (pair_alone ours plan certificate b w shows i k h.there) l
              record {
                number = p.number;
                at_is = refl;
                link = p.link;
                here = p.here;
                caller = p.caller;
                receiver = p.receiver;
                shows = emptied;
              }),
        )

    -- ---- each step

    pub mixed_step : (step : MixedStep) (new : MixedWorld)
        → MixedSteps ours plan certificate b step new
        → ∥ Acts w new ∥₁
    mixed_step (Alone step) new (may, (o, h, is)) = ∣ as_new new _ is (beside_step step o may h) ∣₁
    mixed_step (Joins i from to) new h = ∣ joins i from to new h ∣₁
    mixed_step (Moves i Requestor n) new h = ∣ caller_moves i n new h ∣₁
    mixed_step (Moves i Acceptor n) new h = ∣ receiver_moves i n new h ∣₁
    mixed_step (Asks i Requestor what) new h = caller_asked i what new h
    mixed_step (Asks i Acceptor what) new h = ∣ receiver_asked i what new h ∣₁
    mixed_step (Empties i) new h = ∣ empties i new h ∣₁

  -- ---- any steps

  abbrev Reached : MixedWorld → Type 0
  Reached b =
      (acts : List Act) × (w : World)
      × RunsAmong ours plan start acts plan w
      × ShowsMixed ours plan certificate b w

  steps_on : IsCertified plan certificate
      → (steps : List MixedStep) (b new : MixedWorld) (before : List Act) (w : World)
      → RunsAmong ours plan start before plan w
      → ShowsMixed ours plan certificate b w
      → MixedRuns ours plan certificate b steps new
      → ∥ Reached new ∥₁
  steps_on certified [] b new before w runs shows h = ∣ (
    before,
    w,
    runs,
    subst (λ (z : MixedWorld). ShowsMixed ours plan certificate z w) (sym h) shows,
  ) ∣₁
  steps_on certified (step ∷ steps) b new before w runs shows (mid, one, rest) =
      let claims : HeadlineAmong ours plan w =
      headline_holds_among ours plan certified.sound before plan w runs in
      ∥∥₁_elim (mixed_step certified b w shows claims.others step mid one) ∥∥₁_prop
      (λ a. steps_on certified steps mid new (before ++ a.0) a.1
      (runs_on ours before a.0 plan plan plan start w a.1 runs a.2) a.3 rest)

  pub mixed_beginning_shown : ShowsMixed ours plan certificate mixed_beginning start
  mixed_beginning_shown = record {
    time = refl;
    desks = λ name its. (refl, sym (set.contains-empty text_cmp name));
    numbers = λ i. None;
    own = λ i e there. absurd (cc there);
    ends = λ i e there. absurd (cc there);
    pairs = λ i k there. absurd (no_pair k there);
    lone = λ i e there. refl;
    apart = λ i j n at also. absurd (cc at);
    known = λ i n at. absurd (cc at);
    free = λ i none no_pair. refl;
    covered = λ n link there its.
        (let f : None ≡ Some link = sym (map_of.get-empty nat_cmp n) ∙ there in absurd (cc f));
  }

pub mixed_worlds_keep_the_claims : MixedWorldsKeepTheClaims
mixed_worlds_keep_the_claims ours plan certificate certified steps b runs =
    ∥∥₁_map
    (steps_on ours plan certificate certified steps mixed_beginning b [] start (refl, refl)
    (mixed_beginning_shown ours plan certificate) runs)
    (λ all. (
      all.0,
      all.1,
      all.2,
      all.3,
      headline_holds_among ours plan certified.sound all.0 plan all.1 all.2,
    ))

-- ---- laws

none_after : (step : OwnStep) → pairs_after step (λ number. None) ≡ (λ number. None)
none_after (Listens i node) = refl
none_after (Opens i node dest) = refl
none_after (Hears i came) = refl
none_after (Meets i what) = refl
none_after (Submits node item) = refl
none_after (StaysAway node uid dest) = refl
none_after (PutsBack node uid dest) = refl
none_after (GivesUp node uid dest) = refl
none_after (Forgets node uid) = refl
none_after (Refuses node) = refl
none_after (Restarts node) = refl
none_after (Passes ms) = refl

may_alone : (step : OwnStep) → MayBeside (λ number. None) step
may_alone (Listens i node) = refl
may_alone (Opens i node dest) = refl
may_alone (Hears i came) = tt
may_alone (Meets i what) = tt
may_alone (Submits node item) = tt
may_alone (StaysAway node uid dest) = tt
may_alone (PutsBack node uid dest) = tt
may_alone (GivesUp node uid dest) = tt
may_alone (Forgets node uid) = λ i k there. absurd (no_pair k there)
may_alone (Refuses node) = tt
may_alone (Restarts node) = λ i k there. absurd (no_pair k there)
may_alone (Passes ms) = tt

module _ (ours : Ours) (plan : Network) (certificate : Certificate) where
  abbrev alone_world : OwnWorld → MixedWorld
  alone_world o = record { own = o; pairs = λ number. None }

  abbrev made_of : OwnWorld → (ℕ → Option Channel) → MixedWorld
  made_of o q = record { own = o; pairs = q }

  own_on : (steps : List OwnStep) (o new : OwnWorld)
      → OwnRuns ours plan certificate o steps new
      → MixedRuns ours plan certificate (alone_world o) (mapped Alone steps) (alone_world new)
  own_on [] o new h = ap (λ (z : OwnWorld). alone_world z) h
  own_on (step ∷ steps) o new (mid, one, rest) = (
    alone_world mid,
    (
      may_alone step,
      (
        mid,
        one,
        ap (λ (q : ℕ → Option Channel). made_of mid q) (sym (none_after step)),
      ),
    ),
    own_on steps mid new rest,
  )

pub own_runs_are_mixed : OwnRunsAreMixed
own_runs_are_mixed ours plan certificate steps b h =
    own_on ours plan certificate steps own_beginning b h

pub both_kinds_stand_there : BothKindsStandThere
both_kinds_stand_there ours plan certificate from to rq hop from_own to_own is_from is_to over
    proposal =
    let end : OwnEnd = record {
      side = Acceptor;
      node = from.name;
      terminal = record { core = accepting from 0; ear = fresh from.max_pdu };
    } in
    let listening : OwnWorld =
    with_done own_beginning 1 end (own_beginning.desks from.name) in
    let first : MixedWorld = record { own = listening; pairs = λ number. None } in
    let both : MixedWorld = record {
      own = listening;
      pairs = with_pair (λ number. None) 2 (opened_between from to rq 0);
    } in (
      both,
      (
        first,
        (
          refl,
          (
            listening,
            record {
              free = refl;
              own = from_own;
              site = from;
              part = is_from;
              named = refl;
              is = refl;
            },
            refl,
          ),
        ),
        (
          both,
          record {
            free = (refl, refl);
            own = (from_own, to_own);
            caller = from;
            receiver = to;
            rq = rq;
            hop = hop;
            from_is = (is_from, refl);
            to_is = (is_to, refl);
            over = over;
            proposal = proposal;
            is = refl;
          },
          refl,
        ),
      ),
      (end, refl),
      refl,
    )

pub pairs_are_ours : PairsAreOurs
pairs_are_ours = record {
  from = λ ours plan certificate b new number from to away h. false≢true (sym away ∙ h.own.0);
  to = λ ours plan certificate b new number from to away h. false≢true (sym away ∙ h.own.1);
  twice = λ ours plan certificate b new number from to k there h.
      no_pair k (sym h.free.1 ∙ there);
  shown = λ ours plan certificate w at k away p.
      false≢true (sym away ∙ (ap ours p.shows.to.1 ∙ p.receiver));
}

placed : (pairs : ℕ → Option Channel) (number : ℕ) (k l : Channel)
    → with_pair pairs number k number ≡ Some l
    → k ≡ l
placed pairs number k l there = same_Some k l
    (subst (λ (c : Bool). (if c then Some k else pairs number) ≡ Some l)
    (eq-eqb number number refl) there)

-- a link that is there after something happened beside it was there
was_there : (step : OwnStep) (pairs : ℕ → Option Channel) (number : ℕ) (l : Channel)
    → pairs_after step pairs number ≡ Some l
    → pairs number ≡ Some l
was_there (Restarts node) pairs number l h = (pair_was node (pairs number) l h).0
was_there (Listens i node) pairs number l h = h
was_there (Opens i node dest) pairs number l h = h
was_there (Hears i came) pairs number l h = h
was_there (Meets i what) pairs number l h = h
was_there (Submits node item) pairs number l h = h
was_there (StaysAway node uid dest) pairs number l h = h
was_there (PutsBack node uid dest) pairs number l h = h
was_there (GivesUp node uid dest) pairs number l h = h
was_there (Forgets node uid) pairs number l h = h
was_there (Refuses node) pairs number l h = h
was_there (Passes ms) pairs number l h = h

pub wires_carry_what_is_written : WiresCarryWhatIsWritten
wires_carry_what_is_written = record {
  caller_asked = λ ours plan certificate b new number what k l h at there.
      (let same : h.pair ≡ k = same_Some h.pair k (sym h.there ∙ at) in
      let now : caller_did h.pair h.effect ≡ l = placed b.pairs number
      (caller_did h.pair h.effect) l
      (ap (λ (z : MixedWorld). z.pairs number) (sym h.is) ∙ there) in
      (h.effect, sym now ∙ ap (λ (z : Channel). caller_did z h.effect) same));
  receiver_asked = λ ours plan certificate b new number what k l h at there.
      (let same : h.pair ≡ k = same_Some h.pair k (sym h.there ∙ at) in
      let now : receiver_did h.pair h.effect ≡ l = placed b.pairs number
      (receiver_did h.pair h.effect) l
      (ap (λ (z : MixedWorld). z.pairs number) (sym h.is) ∙ there) in
      (h.effect, sym now ∙ ap (λ (z : Channel). receiver_did z h.effect) same));
  caller_moved = λ ours plan certificate b new number n k l h at there.
      (let same : h.pair ≡ k = same_Some h.pair k (sym h.there ∙ at) in
      let now : caller_read h.pair n h.ear h.effect ≡ l = placed b.pairs number
      (caller_read h.pair n h.ear h.effect) l
      (ap (λ (z : MixedWorld). z.pairs number) (sym h.is) ∙ there) in
      (h.ear, h.effect, sym now ∙ ap (λ (z : Channel). caller_read z n h.ear h.effect) same));
  receiver_moved = λ ours plan certificate b new number n k l h at there.
      (let same : h.pair ≡ k = same_Some h.pair k (sym h.there ∙ at) in
      let now : receiver_read h.pair n h.ear h.effect ≡ l = placed b.pairs number
      (receiver_read h.pair n h.ear h.effect) l
      (ap (λ (z : MixedWorld). z.pairs number) (sym h.is) ∙ there) in
      (h.ear, h.effect, sym now ∙ ap (λ (z : Channel). receiver_read z n h.ear h.effect) same));
  beside = λ ours plan certificate b new number step l h there. was_there step b.pairs number l
      (ap (λ (z : MixedWorld). z.pairs number) (sym h.1.2) ∙ there);
}
