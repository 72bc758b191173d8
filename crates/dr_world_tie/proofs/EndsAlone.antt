-- What may happen at an end of ours whose peer is another maker's product, whatever else stands in
-- the world beside it.
use Rattle.std.proofs.Common.{◌≡◌, ◌≢◌, ℕ, ◌<◌, ◌≤◌, true, List, [], ◌∷◌, Option}
use Rattle.std.proofs.Common.{Some, None, refl, sym, ap, subst, ◌∙◌, inl, inr, ◌⊎◌, arith}
use Rattle.std.specs.Prelude.{◌+◌}
use Rattle.std.specs.FinMap as map_of
use Rattle.std.proofs.lemmas.Option.{same_Some}
use Rattle.dr_base.specs.Texts.{Text}
use Rattle.dr_plan_model.specs.Networks.{Network}
use Rattle.dr_plan_sound.specs.declared.certificate.Certificate.{Certificate}
use Rattle.dr_site.specs.Sites.{IsCertified}
use Rattle.dr_pdu.specs.Feeding.{fresh}
use Rattle.dr_session.specs.Ends.{accepting, requesting}
use Rattle.dr_ledger.proofs.Maps.{get_other, same_or_not}
use Rattle.dr_session.specs.declared.ends.Input.{Input}
use Rattle.dr_session.specs.declared.ends.Input.TheVariants as input
use Rattle.dr_world_model.specs.Worlds.{World}
use Rattle.dr_world_model.specs.Worlds.{Stage, Asking, Answering, Rejecting, Open, Storing}
use Rattle.dr_world_model.specs.Worlds.{Replying, Gone}
use Rattle.dr_world_model.specs.Steps.{pending}
use Rattle.dr_session.specs.declared.ends.Core.{Core}
use Rattle.dr_session.specs.Pendings.{pending_of}
use Rattle.dr_ledger.specs.declared.item.Instance.{Instance}
use Rattle.dr_world_model.specs.Events.{Ask}
use Rattle.dr_world_model.specs.Steps.{IsHop, asked, new_link}
use Rattle.dr_world_model.proofs.Lookups.{numbers as numbers_of}
use Rattle.dr_world_model.specs.Among.{Ours, Act, Own, RunsAmong}
use Rattle.dr_world_tie.specs.ByteWorlds.{Side, Requestor, Acceptor}
use Rattle.dr_world_tie.specs.Desks.{Desk}
use Rattle.dr_world_tie.specs.Channels.{LiveTerminal}
use Rattle.dr_world_tie.specs.Nodes.{OnlyAt}
use Rattle.dr_world_tie.specs.Ties.{IsDeskOf}
use Rattle.dr_world_tie.specs.Foreign.{CallsAsNoneOfOurs, Came, ComeAll, OnlyOf, OthersHaveNone}
use Rattle.dr_world_tie.specs.Foreign.{ShowsForeign}
use Rattle.dr_world_tie.specs.ForeignCalls.{CallsIn, LeadsTo, ShowsCall, acts_of, acts_of_all}
use Rattle.dr_world_tie.specs.ForeignCalls.{CallsAt, acts_of_push}
use Rattle.dr_world_tie.specs.ForeignWorlds.{OwnEnd, OwnWorld, with_done}
use Rattle.dr_world_tie.specs.ForeignWorlds.{HearsWhat, MeetsWhat}
use Rattle.dr_world_tie.specs.ForeignWorlds.{BeginsListening, BeginsCalling}
use Rattle.dr_world_tie.specs.ForeignWorlds.{ShowsBy}
use Rattle.dr_world_tie.proofs.Foreigners.{acceptors_begin, all_only, all_run, are_kept, only_none}
use Rattle.dr_world_tie.proofs.Foreigners.{one_input_comes}
use Rattle.dr_world_tie.proofs.ForeignPushes.{one_push_comes, requestors_begin}
use Rattle.dr_world_tie.proofs.ForeignReplies.{one_answer_comes}
use Rattle.dr_world_tie.proofs.LinksToOthers.{what_acceptors_hear, what_requestors_hear}
use Rattle.dr_world_tie.proofs.Foreigners.{all_kept}

-- a number from then on is the one before, or a new one
abbrev pub Counts : World → World → Option ℕ → Option ℕ → Type 0
Counts w v number next =
    (n : ℕ) → next ≡ Some n → (number ≡ Some n) ⊎ ((w.opened < n) × (n ≤ v.opened))

pub all_counted : (ours : Ours) (plan : Network) (name : Text) (cames : List Came) (w v : World)
    (number next : Option ℕ) (acts : List Act) (written : _)
    → ComeAll ours plan name w number cames acts written v next
    → Counts w v number next
all_counted ours plan name [] w v number next acts written h n e = inl (sym h.3 ∙ e)
all_counted ours plan name (came ∷ cames) w v number next acts written h n e =
    elim (all_counted ours plan name cames h.4 v h.5 next h.1 h.3 h.8 n e) [
      | inl was ↦ elim (h.6.counted n was) [
        | inl before ↦ inl before
        | inr new ↦
            (let a : w.opened < n = new.0 in
            let b : n ≤ h.4.opened = new.1 in
            let d : h.4.opened ≤ v.opened =
            (all_only ours plan name cames h.4 v h.5 next h.1 h.3 h.8).opened in
            inr (a, omega (arith, b, d)))
      ]
      | inr new ↦ (
          let a : h.4.opened < n = new.0 in
          let d : w.opened ≤ h.4.opened = h.6.only.opened in
          inr (omega (arith, a, d), new.1))
    ]

-- what a requestor has pending, and its link in the message world
pub pend_by : (st : Stage) (receiver : Text) (c : Core) (item : Instance)
    → CallsAt true st receiver c
    → pending st ≡ Some item
    → pending_of c.pending ≡ Some item.uid
pend_by Asking receiver c item h e = absurd (cc e)
pend_by (Answering accepted) receiver c item h e = absurd h
pend_by Rejecting receiver c item h e = absurd h
pend_by (Open accepted) receiver c item h e = absurd (cc e)
pend_by (Storing accepted it) receiver c item h e =
    ap pending_of h.1.2 ∙ ap (λ (x : Instance). Some x.uid) (same_Some it item e)
pend_by (Replying accepted it status) receiver c item h e = absurd h
pend_by Gone receiver c item h e = absurd h

-- a request is a new link, and nothing else
pub only_asked : (w : World) (node dest : Text)
    → OnlyOf w (asked w node dest) (Some (w.opened + 1)) node
only_asked w node dest = record {
  books = λ other apart. refl;
  links = λ other apart. elim (same_or_not numbers_of other (w.opened + 1)) [
    | inl same ↦ absurd (apart (ap (λ (n : ℕ). Some n) (sym same)))
    | inr is_not ↦ get_other numbers_of w.links (w.opened + 1) (new_link node dest) other is_not
  ];
  armed = λ other apart. refl;
  rest = (refl, refl);
  opened = omega arith;
}

-- what is done at a node alone
pub only_at : (w v : World) (name : Text) → OnlyAt w v name → OnlyOf w v None name
only_at w v name o = record {
  books = o.books;
  links = λ other apart. ap (λ (l : _). map_of.get l other) o.links;
  armed = o.armed;
  rest = (o.rest.0, o.rest.1);
  opened = (let e : v.opened ≡ w.opened = o.rest.2 in omega (arith, e));
}

module _ (ours : Ours) (plan : Network) (certificate : Certificate) where
  -- what isn't touched stays shown
  pub shown_still :
      (w v : World) (next at : Option ℕ) (name : Text) (side : Side) (node : Text) (k : LiveTerminal)
      → OnlyOf w v next name
      → ((m : ℕ) → at ≡ Some m → next ≢ Some m)
      → ShowsBy ours plan certificate w at side node k
      → ShowsBy ours plan certificate v at side node k
  shown_still w v next None name Acceptor node k only apart h = h
  shown_still w v next (Some m) name Acceptor node k only apart h =
      (h.0, (h.1.0, only.links m (apart m refl) ∙ h.1.1, h.1.2))
  shown_still w v next at name Requestor node k only apart h =
      (h.0, h.1, (h.2.0, (h.2.1.0, only.links h.0 (apart h.0 h.1) ∙ h.2.1.1, h.2.1.2)))

  -- links stay as they are
  pub shown_as : (w v : World) → v.links ≡ w.links
      → (at : Option ℕ) (side : Side) (node : Text) (k : LiveTerminal)
      → ShowsBy ours plan certificate w at side node k
      → ShowsBy ours plan certificate v at side node k
  shown_as w v same None Acceptor node k h = h
  shown_as w v same (Some m) Acceptor node k h =
      (h.0, (h.1.0, ap (λ (l : _). map_of.get l m) same ∙ h.1.1, h.1.2))
  shown_as w v same at Requestor node k h =
      (h.0, h.1, (h.2.0, (h.2.1.0, ap (λ (l : _). map_of.get l h.0) same ∙ h.2.1.1, h.2.1.2)))

  -- What holds of the ends of ours beside a world of messages, and what comes of another end in the
  -- place of one.
  pub record Beside (b : OwnWorld) (w : World) (Shown : OwnWorld → World → Type 0)
      (MayStand : ℕ → Type 0) : Type 0 where
    pub time : w.time ≡ b.time
    pub desks : (name : Text) → ours name ≡ true → IsDeskOf w name (b.desks name)
    pub numbers : ℕ → Option ℕ
    pub own : (i : ℕ) (e : OwnEnd) → b.ends i ≡ Some e → ours e.node ≡ true
    pub ends : (i : ℕ) (e : OwnEnd)
        → b.ends i ≡ Some e
        → ShowsBy ours plan certificate w (numbers i) e.side e.node e.terminal
    pub stands : (i : ℕ) (e : OwnEnd) → b.ends i ≡ Some e → MayStand i
    pub free : (i : ℕ) → b.ends i ≡ None → MayStand i → numbers i ≡ None
    pub done : (i : ℕ)
        → MayStand i
        → (node : Text)
        → ours node ≡ true
        → (v : World) (next : Option ℕ)
        → OnlyOf w v next node
        → Counts w v (numbers i) next
        → (t : Desk)
        → IsDeskOf v node t
        → (side : Side) (k : LiveTerminal)
        → ((n : ℕ) → numbers i ≡ Some n → next ≡ Some n)
        → ShowsBy ours plan certificate v next side node k
        → Shown (with_done b i (record { side = side; node = node; terminal = k }) t) v

  module _ (certified : IsCertified plan certificate) (b : OwnWorld) (w : World)
      (Shown : OwnWorld → World → Type 0) (MayStand : ℕ → Type 0)
      (beside : Beside b w Shown MayStand) (others : OthersHaveNone ours w) where
    abbrev pub ActsTo : OwnWorld → Type 0
    ActsTo new =
        (acts : List Act) × (v : World) × RunsAmong ours plan w acts plan v × Shown new v

    as_new : (new made : OwnWorld) → new ≡ made → ActsTo made → ActsTo new
    as_new new made e h = subst (λ (z : OwnWorld). ActsTo z) (sym e) h

    -- the numbers with none at a free place
    pub hears : (i : ℕ) (came : _) (new : OwnWorld)
        → HearsWhat ours plan certificate b i came new
        → ActsTo new
    hears i came new h = as_new new _ h.is (by_side h.end.side refl)
      where
        by_side : (side : Side) → h.end.side ≡ side
            → ActsTo
            (with_done b i
            (record {
              side = h.end.side;
              node = h.end.node;
              terminal = record { core = h.core; ear = h.left.ear };
            }) h.after)
        by_side Acceptor e =
            let own = beside.own i h.end h.there in
            let shown :
            ShowsForeign ours plan certificate h.end.node w (beside.numbers i) h.end.terminal =
            subst
            (λ (z : Side).
            ShowsBy ours plan certificate w (beside.numbers i) z h.end.node h.end.terminal) e
            (beside.ends i h.end h.there) in
            let a = what_acceptors_hear ours plan certificate certified h.end.node w
            (beside.numbers i) h.end.terminal (b.desks h.end.node) record {
              own = own;
              others = others;
              desk = beside.desks h.end.node own;
              shows = shown;
            } h.moment came h.acts h.left h.after (h.none e) h.hears in
            let core_is : a.0 ≡ h.core = same_Some a.0 h.core (sym a.1 ∙ h.lives) in
            let all = a.2.4 in
            let v : World = a.2.2 in
            let next : Option ℕ = a.2.3 in
            let only =
            all_only ours plan h.end.node a.2.0 w v (beside.numbers i) next a.2.1 h.acts all in
            let shown_now : ShowsForeign ours plan certificate h.end.node v next
            (record { core = h.core; ear = h.left.ear }) = subst
            (λ (c : _). ShowsForeign ours plan certificate h.end.node v next
            (record { core = c; ear = h.left.ear })) core_is a.2.5.shows in (
              a.2.1,
              v,
              all_run ours plan h.end.node a.2.0 w v (beside.numbers i) next a.2.1 h.acts all,
              beside.done i (beside.stands i h.end h.there) h.end.node own v next only
                  (all_counted ours plan h.end.node a.2.0 w v (beside.numbers i) next a.2.1 h.acts
                  all) h.after a.2.5.desk h.end.side (record { core = h.core; ear = h.left.ear })
                  (all_kept ours plan h.end.node a.2.0 w v (beside.numbers i) next a.2.1 h.acts all)
                  (subst
                  (λ (z : Side). ShowsBy ours plan certificate v next z h.end.node
                  (record { core = h.core; ear = h.left.ear })) (sym e) shown_now),
            )
        by_side Requestor e =
            let own = beside.own i h.end h.there in
            let shown :
            ShowsBy ours plan certificate w (beside.numbers i) Requestor h.end.node h.end.terminal =
            subst
            (λ (z : Side).
            ShowsBy ours plan certificate w (beside.numbers i) z h.end.node h.end.terminal) e
            (beside.ends i h.end h.there) in
            let a = what_requestors_hear ours plan certificate certified h.end.node w shown.0
            h.end.terminal (b.desks h.end.node) record {
              own = own;
              desk = beside.desks h.end.node own;
              shows = shown.2;
            } h.moment (h.now ∙ sym beside.time) came h.acts h.left h.after h.hears in
            let core_is : a.0 ≡ h.core = same_Some a.0 h.core (sym a.1 ∙ h.lives) in
            let v : World = a.2.1 in
            let shown_now : ShowsCall ours plan certificate h.end.node v shown.0
            (record { core = h.core; ear = h.left.ear }) = subst
            (λ (c : _). ShowsCall ours plan certificate h.end.node v shown.0
            (record { core = c; ear = h.left.ear })) core_is a.2.4.shows in (
              acts_of_all shown.0 a.2.0,
              v,
              a.2.2.runs,
              beside.done i (beside.stands i h.end h.there) h.end.node own v (Some shown.0) a.2.2.only
                  (λ n q. inl (shown.1 ∙ q)) h.after a.2.4.desk h.end.side
                  (record { core = h.core; ear = h.left.ear })
                  (λ n q. sym shown.1 ∙ q)
                  (subst
                  (λ (z : Side). ShowsBy ours plan certificate v (Some shown.0) z h.end.node
                  (record { core = h.core; ear = h.left.ear })) (sym e) (shown.0, refl, shown_now)),
            )

    -- a free place had no number
    none_before : (i : ℕ) → MayStand i → b.ends i ≡ None → (next : Option ℕ) (n : ℕ)
        → beside.numbers i ≡ Some n
        → next ≡ Some n
    none_before i may free next n q =
        (let f : None ≡ Some n = sym (beside.free i free may) ∙ q in absurd (cc f))

    -- an end at a place of its own
    pub listens : (i : ℕ) (node : Text) (new : OwnWorld) → MayStand i
        → BeginsListening ours plan certificate b i node new
        → ActsTo new
    listens i node new may h = as_new new _ h.is (
      [],
      w,
      (refl, refl),
      beside.done i may node h.own w None (only_none w None node)
          (λ n q. absurd (cc q)) (b.desks node) (beside.desks node h.own) Acceptor
          (record { core = accepting h.site b.time; ear = fresh h.site.max_pdu })
          (none_before i may h.free None)
          (subst
          (λ (n : Text). ShowsForeign ours plan certificate n w None
          (record { core = accepting h.site b.time; ear = fresh h.site.max_pdu })) h.named
          (acceptors_begin ours plan certificate h.site w b.time h.part)),
    )

    pub opens : (i : ℕ) (node dest : Text) (new : OwnWorld) → MayStand i
        → BeginsCalling ours plan certificate b i node dest new
        → ActsTo new
    opens i node dest new may h =
        let k : LiveTerminal =
        record { core = requesting (Some h.site) dest h.rq b.time; ear = fresh h.site.max_pdu } in
        let P : Text → Type 0 = λ n. ours n ≡ true → IsHop plan n dest → IsDeskOf w n (b.desks node)
        → RunsAmong ours plan w (Own (Ask n dest) ∷ []) plan (asked w n dest)
        × CallsIn ours plan certificate n (asked w n dest) (w.opened + 1) k (b.desks node)
        in
        let a = subst P h.named
        (λ own hop at. requestors_begin ours plan certificate h.site dest h.rq b.time w
        (b.desks node) h.part own h.away hop h.proposal at) h.own h.hop
        (beside.desks node h.own) in
        let v : World = asked w node dest in
        as_new new _ h.is (
          Own (Ask node dest) ∷ [],
          v,
          a.0,
          beside.done i may node h.own v (Some (w.opened + 1)) (only_asked w node dest)
              (λ n q.
              (let same : w.opened + 1 ≡ n = same_Some (w.opened + 1) n q in
              inr (omega (arith, same), omega (arith, same)))) (b.desks node) a.1.desk Requestor k
              (none_before i may h.free (Some (w.opened + 1)))
              (w.opened + 1, refl, a.1.shows),
        )

    -- a requestor is asked for something
    finishes : (i : ℕ) → MayStand i → (h_end : OwnEnd) (own : ours h_end.node ≡ true) (n : ℕ)
        → beside.numbers i ≡ Some n → h_end.side ≡ Requestor
        → (acts : List Act) (v : World) (t : Desk) (k : LiveTerminal)
        → LeadsTo ours plan h_end.node w n acts v
        → CallsIn ours plan certificate h_end.node v n k t
        → ActsTo (with_done b i (record { side = h_end.side; node = h_end.node; terminal = k }) t)
    finishes i may h_end own n at e acts v t k leads calls = (
      acts,
      v,
      leads.runs,
      beside.done i may h_end.node own v (Some n) leads.only
          (λ m q. inl (at ∙ q)) t calls.desk h_end.side k
          (λ m q. sym at ∙ q)
          (subst
          (λ (z : Side). ShowsBy ours plan certificate v (Some n) z h_end.node k) (sym e)
          (n, refl, calls.shows)),
    )

    pub shown_call : (i : ℕ) (e : OwnEnd) → b.ends i ≡ Some e → e.side ≡ Requestor
        → ShowsBy ours plan certificate w (beside.numbers i) Requestor e.node e.terminal
    shown_call i e there calls = subst
        (λ (z : Side). ShowsBy ours plan certificate w (beside.numbers i) z e.node e.terminal) calls
        (beside.ends i e there)

    pushes : (i : ℕ) (new : OwnWorld)
        → MeetsWhat ours plan certificate b i input.PushAsked new
        → ActsTo new
    pushes i new h =
        let own = beside.own i h.end h.there in
        let shown = shown_call i h.end h.there h.may in
        let a = one_push_comes ours plan certificate h.end.node w shown.0 h.end.terminal
        (b.desks h.end.node) record {
          own = own;
          desk = beside.desks h.end.node own;
          shows = shown.2;
        } h.moment (h.now ∙ sym beside.time) h.effect h.after h.reacts in
        as_new new _ h.is
        (finishes i (beside.stands i h.end h.there) h.end own shown.0 shown.1 h.may (acts_of_push shown.0 a.0) a.1 h.after
        (record { core = h.effect.core; ear = h.end.terminal.ear }) a.2 a.4)

    -- a requestor is told something else
    tells : (i : ℕ) (what : Input) (new : OwnWorld) → what ≢ input.PushAsked
        → (h : MeetsWhat ours plan certificate b i what new)
        → h.end.side ≡ Requestor
        → ActsTo new
    tells i what new other h calls =
        let own = beside.own i h.end h.there in
        let shown = shown_call i h.end h.there calls in
        let a = one_answer_comes ours plan certificate certified h.end.node w shown.0 h.end.terminal
        (b.desks h.end.node) record {
          own = own;
          desk = beside.desks h.end.node own;
          shows = shown.2;
        } h.moment (h.now ∙ sym beside.time) what other h.effect h.after h.reacts in
        as_new new _ h.is
        (finishes i (beside.stands i h.end h.there) h.end own shown.0 shown.1 calls (acts_of shown.0 a.0) a.1 h.after
        (record { core = h.effect.core; ear = h.end.terminal.ear }) a.2 a.4)

    -- an acceptor is
    told : (i : ℕ) (what : Input) (new : OwnWorld)
        → CallsAsNoneOfOurs ours what
        → (h : MeetsWhat ours plan certificate b i what new)
        → h.end.side ≡ Acceptor
        → ActsTo new
    told i what new none h listens =
        let own = beside.own i h.end h.there in
        let shown :
        ShowsForeign ours plan certificate h.end.node w (beside.numbers i) h.end.terminal = subst
        (λ (z : Side).
        ShowsBy ours plan certificate w (beside.numbers i) z h.end.node h.end.terminal) listens
        (beside.ends i h.end h.there) in
        let a = one_input_comes ours plan certificate certified h.end.node w (beside.numbers i)
        h.end.terminal (b.desks h.end.node) record {
          own = own;
          others = others;
          desk = beside.desks h.end.node own;
          shows = shown;
        } h.moment what none h.effect h.after h.reacts in
        let k : LiveTerminal = record { core = h.effect.core; ear = h.end.terminal.ear } in
        as_new new _ h.is (
          a.1,
          a.2,
          a.4.runs,
          beside.done i (beside.stands i h.end h.there) h.end.node own a.2 a.3 a.4.only a.4.counted h.after a.6.desk h.end.side k
              (are_kept w h.end.node (beside.numbers i) a.0 a.1 a.3 a.4.are)
              (subst
              (λ (z : Side). ShowsBy ours plan certificate a.2 a.3 z h.end.node k) (sym listens)
              a.6.shows),
        )

    either : (i : ℕ) (what : Input) (new : OwnWorld)
        → what ≢ input.PushAsked
        → CallsAsNoneOfOurs ours what
        → MeetsWhat ours plan certificate b i what new
        → ActsTo new
    either i what new other none h = by_side h.end.side refl
      where
        by_side : (side : Side) → h.end.side ≡ side → ActsTo new
        by_side Requestor e = tells i what new other h e
        by_side Acceptor e = told i what new none h e

    pub meets : (i : ℕ) (what : Input) (new : OwnWorld)
        → MeetsWhat ours plan certificate b i what new
        → ActsTo new
    meets i input.PushAsked new h = pushes i new h
    meets i input.ReleaseAsked new h = tells i input.ReleaseAsked new (λ e. cc e) h h.may
    meets i input.AbortAsked new h = either i input.AbortAsked new (λ e. cc e) tt h
    meets i input.Ended new h = either i input.Ended new (λ e. cc e) tt h
    meets i input.Late new h = either i input.Late new (λ e. cc e) tt h
    meets i (input.Request rq) new h = absurd h.may
    meets i (input.Acceptance ac) new h = absurd h.may
    meets i (input.Rejection rj) new h = absurd h.may
    meets i (input.Value value) new h = absurd h.may
    meets i input.NoValue new h = absurd h.may
    meets i input.ReleaseRq new h = absurd h.may
    meets i input.ReleaseRp new h = absurd h.may
    meets i (input.Abort a) new h = absurd h.may
    meets i input.Unknown new h = absurd h.may
    meets i input.Invalid new h = absurd h.may
