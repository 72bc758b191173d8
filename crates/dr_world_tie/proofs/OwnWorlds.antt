-- Nodes of ours among other makers' products, to which alone they have links.
use Rattle.std.proofs.Common.{◌≡◌, ◌≢◌, ℕ, ◌<◌, ◌≤◌, Bool, true, false, List, [], ◌∷◌, ◌++◌, Option}
use Rattle.std.proofs.Common.{Some, None, refl, sym, ap, subst, ◌∙◌, inl, inr, arith}
use Rattle.std.specs.Prelude.{◌==◌, ◌+◌, ◌^◌, min, if◌then◌else◌}
use Rattle.std.specs.FinMap as map_of
use Rattle.std.specs.FinSet as set
use Rattle.std.proofs.lemmas.Bool.{eq-eqb}
use Rattle.std.specs.Ordering.{nat_cmp}
use Rattle.std.proofs.lemmas.Bool.{cases_Bool, eqb-true, eqb-false, false≢true}
use Rattle.std.proofs.lemmas.Option.{same_Some}
use Rattle.dr_base.specs.Texts.{Text, text_cmp}
use Rattle.dr_plan_model.specs.Networks.{Network}
use Rattle.dr_plan_sound.specs.declared.certificate.Certificate.{Certificate}
use Rattle.dr_site.specs.Sites.{IsCertified}
use Rattle.dr_ledger.specs.Items.{instance_of}
use Rattle.dr_ledger.proofs.Maps.{same_or_not, texts, ties_itself}
use Rattle.dr_world_model.specs.Worlds.{Link, World, same_text, start}
use Rattle.dr_world_model.specs.Steps.{IsLink, NoneIsPending}
use Rattle.dr_world_model.specs.Events.{Event, Drop, Forget, Refuse, Requeue, Take, Tick}
use Rattle.dr_world_model.specs.Events.{StayAway as AwayEvent}
use Rattle.dr_world_model.specs.Steps.{passed}
use Rattle.dr_world_model.specs.Among.{Ours, Act, ArrivesAtOurs, Own, RunsAmong, HeadlineAmong}
use Rattle.dr_world_model.proofs.AmongActs.{headline_holds_among}
use Rattle.dr_world_tie.specs.ByteWorlds.{Side, Requestor, Acceptor}
use Rattle.dr_world_tie.specs.Desks.{Desk, LedgerStep}
use Rattle.dr_session.specs.Desks.{Settle, Settling}
use Rattle.dr_ledger.specs.declared.item.Outcome.TheVariants.{Broken}
use Rattle.dr_world_tie.specs.Channels.{LiveTerminal}
use Rattle.dr_world_tie.specs.Nodes.{GivesUpAt, HappensAt}
use Rattle.dr_world_tie.specs.Ties.{IsDeskOf, with_desk}
use Rattle.dr_world_tie.specs.Foreign.{OnlyOf, OthersHaveNone}
use Rattle.dr_world_tie.specs.Foreign.{ShowsForeign}
use Rattle.dr_world_tie.specs.ForeignCalls.{CallsAt, IsCallOf}
use Rattle.dr_world_tie.specs.ForeignWorlds.{OwnEnd, OwnWorld, with_end, with_done, own_beginning}
use Rattle.dr_world_tie.specs.ForeignWorlds.{OwnStep, Listens, Opens, Hears, Meets}
use Rattle.dr_world_tie.specs.ForeignWorlds.{Submits, Passes}
use Rattle.dr_world_tie.specs.ForeignWorlds.{DoesAlone}
use Rattle.dr_world_tie.specs.ForeignWorlds.{EndsAreAskedSo, OthersAreNotHere, OursCanListen}
use Rattle.dr_world_tie.specs.ForeignWorlds.{Forgets, NoneAwaits}
use Rattle.dr_world_tie.specs.ForeignWorlds.{GivesUp, OwnSteps, PutsBack, Refuses, Restarts}
use Rattle.dr_world_tie.specs.ForeignWorlds.{StaysAway}
use Rattle.dr_world_tie.specs.ForeignWorlds.{OwnRuns, ShowsBy, ShowsOwn, OwnWorldsKeepTheClaims}
use Rattle.dr_world_tie.proofs.Foreigners.{runs_on}
use Rattle.dr_world_tie.proofs.Nodes.{giving_up_is_drop, refusing_is_refuse}
use Rattle.dr_world_tie.proofs.Nodes.{requeueing_is_requeue, staying_away_is_stay_away}
use Rattle.dr_world_tie.proofs.Nodes.{forgetting_is_forget, submitting_takes}
use Rattle.dr_world_tie.proofs.OwnRestarts.{restart_is_shown, without_is}
use Rattle.dr_world_tie.proofs.Foreigners.{one_link}
use Rattle.dr_world_tie.proofs.EndsAlone.{Beside, Counts, hears, listens, meets, opens}
use Rattle.dr_world_tie.proofs.EndsAlone.{only_at, pend_by, shown_as, shown_still}

module _ (ours : Ours) (plan : Network) (certificate : Certificate) where
  module _ (b : OwnWorld) (w : World) (shows : ShowsOwn ours plan certificate b w) (i : ℕ)
      (node : Text) (own : ours node ≡ true) (v : World) (next : Option ℕ)
      (only : OnlyOf w v next node) (counts : Counts w v (shows.numbers i) next) (t : Desk)
      (desk_is : IsDeskOf v node t) where
    abbrev numbers_now : ℕ → Option ℕ
    numbers_now j = if j == i then next else shows.numbers j

    desks_now : (name : Text) → ours name ≡ true → IsDeskOf v name (with_desk b.desks node t name)
    desks_now name its = elim (same_or_not texts name node) [
      | inl same ↦ subst
          (λ (m : Text). IsDeskOf v m (with_desk b.desks node t m)) (sym same)
          (subst
          (λ (c : Bool). IsDeskOf v node (if c then t else b.desks node))
          (sym (ties_itself texts node)) desk_is)
      | inr apart ↦ subst
          (λ (c : Bool). IsDeskOf v name (if c then t else b.desks name)) (sym apart) (
            (shows.desks name its).0 ∙ sym (only.books name apart),
            (shows.desks name its).1 ∙ sym (only.armed name apart),
          )
    ]

    at_it : (j : ℕ) → (j == i) ≡ true → numbers_now j ≡ next
    at_it j e = ap (λ (c : Bool). if c then next else shows.numbers j) e

    beside : (j : ℕ) → (j == i) ≡ false → numbers_now j ≡ shows.numbers j
    beside j e = ap (λ (c : Bool). if c then next else shows.numbers j) e

    untouched : (j : ℕ) → (j == i) ≡ false → (m : ℕ) → shows.numbers j ≡ Some m → next ≢ Some m
    untouched j e m at is = elim (counts m is) [
      | inl before ↦ eqb-false j i e (shows.apart j i m at before)
      | inr new ↦ (
          let a : w.opened < m = new.0 in
          let d : m ≤ w.opened = shows.known j m at in
          absurd (omega (arith, a, d)))
    ]

    known_now : (j n : ℕ) → numbers_now j ≡ Some n → n ≤ v.opened
    known_now j n e = elim (cases_Bool (j == i)) [
      | inl it ↦ elim (counts n (sym (at_it j it) ∙ e)) [
        | inl before ↦ (
            let a : n ≤ w.opened = shows.known i n before in
            let d : w.opened ≤ v.opened = only.opened in
            omega (arith, a, d))
        | inr new ↦ new.1
      ]
      | inr not_it ↦ (
          let a : n ≤ w.opened = shows.known j n (sym (beside j not_it) ∙ e) in
          let d : w.opened ≤ v.opened = only.opened in
          omega (arith, a, d))
    ]

    apart_now : (j l n : ℕ) → numbers_now j ≡ Some n → numbers_now l ≡ Some n → j ≡ l
    apart_now j l n e f = elim (cases_Bool (j == i)) [
      | inl it ↦ elim (cases_Bool (l == i)) [
        | inl too ↦ eqb-true j i it ∙ sym (eqb-true l i too)
        | inr not_too ↦
            absurd (untouched l not_too n (sym (beside l not_too) ∙ f) (sym (at_it j it) ∙ e))
      ]
      | inr not_it ↦ elim (cases_Bool (l == i)) [
        | inl too ↦
            absurd (untouched j not_it n (sym (beside j not_it) ∙ e) (sym (at_it l too) ∙ f))
        | inr not_too ↦ shows.apart j l n (sym (beside j not_it) ∙ e) (sym (beside l not_too) ∙ f)
      ]
    ]

    -- the world with another end in its place
    done : (side : Side) (k : LiveTerminal)
        → ((n : ℕ) → shows.numbers i ≡ Some n → next ≡ Some n)
        → ShowsBy ours plan certificate v next side node k
        → ShowsOwn ours plan certificate
        (with_done b i (record { side = side; node = node; terminal = k }) t) v
    done side k keeps shown = record {
      time = only.rest.0 ∙ shows.time;
      desks = desks_now;
      numbers = numbers_now;
      own = λ j e there. elim (cases_Bool (j == i)) [
        | inl it ↦ subst (λ (d : OwnEnd). ours d.node ≡ true) (is_it j e it there) own
        | inr not_it ↦ shows.own j e (is_other j e not_it there)
      ];
      ends = λ j e there. elim (cases_Bool (j == i)) [
        | inl it ↦ subst
            (λ (o : Option ℕ). ShowsBy ours plan certificate v o e.side e.node e.terminal)
            (sym (at_it j it))
            (subst
            (λ (d : OwnEnd). ShowsBy ours plan certificate v next d.side d.node d.terminal)
            (is_it j e it there) shown)
        | inr not_it ↦ subst
            (λ (o : Option ℕ). ShowsBy ours plan certificate v o e.side e.node e.terminal)
            (sym (beside j not_it))
            (shown_still ours plan certificate w v next (shows.numbers j) node e.side e.node e.terminal only
            (untouched j not_it) (shows.ends j e (is_other j e not_it there)))
      ];
      apart = apart_now;
      known = known_now;
      free = λ j none. elim (cases_Bool (j == i)) [
        | inl it ↦ absurd (placed j it none)
        | inr not_it ↦ beside j not_it ∙ shows.free j (left_free j not_it none)
      ];
      called = λ n link there its. at_number next refl n link there its;
    }
      where
        placed : (j : ℕ) → (j == i) ≡ true
            → with_end b.ends i (record { side = side; node = node; terminal = k }) j ≡ None
            → ⊥
        placed j it none =
            let e : OwnEnd = record { side = side; node = node; terminal = k } in
            let f : Some e ≡ None = subst
            (λ (c : Bool). (if c then Some e else b.ends j) ≡ None) it none in
            cc f

        left_free : (j : ℕ) → (j == i) ≡ false
            → with_end b.ends i (record { side = side; node = node; terminal = k }) j ≡ None
            → b.ends j ≡ None
        left_free j not_it none = subst
            (λ (c : Bool).
            (if c then Some (record { side = side; node = node; terminal = k }) else b.ends j)
            ≡ None) not_it none

        -- a link that one of ours called, under another number
        another : (n : ℕ) (link : Link) → next ≢ Some n → IsLink v n link → ours link.caller ≡ true
            → (j : ℕ) × (e : OwnEnd)
            × (with_end b.ends i (record { side = side; node = node; terminal = k }) j ≡ Some e)
            × (numbers_now j ≡ Some n)
            × (e.side ≡ Requestor)
        another n link apart there its =
            let a = shows.called n link (sym (only.links n apart) ∙ there) its in
            elim (cases_Bool (a.0 == i)) [
              | inl it ↦ absurd
                  (apart
                  (keeps n
                  (subst (λ (j : ℕ). shows.numbers j ≡ Some n) (eqb-true a.0 i it) a.3)))
              | inr not_it ↦ (
                a.0,
                a.1,
                ap
                    (λ (c : Bool).
                    if c then Some (record { side = side; node = node; terminal = k })
                    else b.ends a.0) not_it ∙ a.2,
                beside a.0 not_it ∙ a.3,
                a.4,
              )
            ]

        -- the link of this end
        its_own : (s : Side) → side ≡ s → (n : ℕ) → next ≡ Some n → (link : Link) → IsLink v n link
            → ours link.caller ≡ true
            → (j : ℕ) × (e : OwnEnd)
            × (with_end b.ends i (record { side = side; node = node; terminal = k }) j ≡ Some e)
            × (numbers_now j ≡ Some n)
            × (e.side ≡ Requestor)
        its_own Acceptor is n at link there its =
            let s1 : ShowsBy ours plan certificate v next Acceptor node k = subst
            (λ (z : Side). ShowsBy ours plan certificate v next z node k) is shown in
            let s2 : ShowsForeign ours plan certificate node v (Some n) k = subst
            (λ (o : Option ℕ). ShowsForeign ours plan certificate node v o k) at s1 in
            let same : s2.1.0 ≡ link = one_link v n s2.1.0 link s2.1.1 there in
            absurd (false≢true (sym s2.1.2.caller ∙ (ap (λ (l : Link). ours l.caller) same ∙ its)))
        its_own Requestor is n at link there its = (
          i,
          record { side = side; node = node; terminal = k },
          ap
              (λ (c : Bool).
              if c then Some (record { side = side; node = node; terminal = k }) else b.ends i)
              (eq-eqb i i refl),
          at_it i (eq-eqb i i refl) ∙ at,
          is,
        )

        at_number : (o : Option ℕ) → next ≡ o → (n : ℕ) (link : Link) → IsLink v n link
            → ours link.caller ≡ true
            → (j : ℕ) × (e : OwnEnd)
            × (with_end b.ends i (record { side = side; node = node; terminal = k }) j ≡ Some e)
            × (numbers_now j ≡ Some n)
            × (e.side ≡ Requestor)
        at_number None is n link there its =
            another n link (λ e. (let f : None ≡ Some n = sym is ∙ e in cc f)) there its
        at_number (Some m) is n link there its = elim (cases_Bool (m == n)) [
          | inl it ↦
              its_own side refl n (is ∙ ap (λ (q : ℕ). Some q) (eqb-true m n it)) link there its
          | inr not_it ↦ another n link
              (λ e. eqb-false m n not_it (same_Some m n (sym is ∙ e))) there its
        ]

        is_it : (j : ℕ) (e : OwnEnd) → (j == i) ≡ true
            → with_end b.ends i (record { side = side; node = node; terminal = k }) j ≡ Some e
            → record { side = side; node = node; terminal = k } ≡ e
        is_it j e it there = same_Some (record { side = side; node = node; terminal = k }) e
            (subst
            (λ (c : Bool).
            (if c then Some (record { side = side; node = node; terminal = k }) else b.ends j)
            ≡ Some e) it there)

        is_other : (j : ℕ) (e : OwnEnd) → (j == i) ≡ false
            → with_end b.ends i (record { side = side; node = node; terminal = k }) j ≡ Some e
            → b.ends j ≡ Some e
        is_other j e not_it there = subst
            (λ (c : Bool).
            (if c then Some (record { side = side; node = node; terminal = k }) else b.ends j)
            ≡ Some e) not_it there

  -- ---- one step

  abbrev Acts : World → OwnWorld → Type 0
  Acts w new =
      (acts : List Act) × (v : World)
      × RunsAmong ours plan w acts plan v
      × ShowsOwn ours plan certificate new v

  module _ (certified : IsCertified plan certificate) (b : OwnWorld) (w : World)
      (shows : ShowsOwn ours plan certificate b w) (others : OthersHaveNone ours w) where
    as_new : (new made : OwnWorld) → new ≡ made → Acts w made → Acts w new
    as_new new made e h = subst (λ (z : OwnWorld). Acts w z) (sym e) h

    -- an end may stand at any place: there is nothing else
    abbrev Shown_own : OwnWorld → World → Type 0
    Shown_own c v = ShowsOwn ours plan certificate c v

    ends_beside : Beside ours plan certificate b w Shown_own (λ i. Unit {0})
    ends_beside = record {
      time = shows.time;
      desks = shows.desks;
      numbers = shows.numbers;
      own = shows.own;
      ends = shows.ends;
      stands = λ i e there. tt;
      free = λ i none may. shows.free i none;
      done = λ i may node own v next only counts t desk_is side k keeps shown.
          done b w shows i node own v next only counts t desk_is side k keeps shown;
    }

    alone : (node : Text) (Does : Desk → Desk → Type 0) (new : OwnWorld)
        → (h : DoesAlone ours plan certificate b node Does new) (event : Event)
        → ArrivesAtOurs ours w event
        → HappensAt plan w event node h.after
        → Acts w new
    alone node Does new h event arrives a = as_new new _ h.is (
      Own event ∷ [],
      a.after,
      (arrives, (a.after, a.step, (refl, refl))),
      record {
        time = a.only.rest.0 ∙ shows.time;
        desks = desks_now b w shows 0 node h.own a.after None (only_at w a.after node a.only)
            (λ n q. absurd (cc q)) h.after a.desk_is;
        numbers = shows.numbers;
        own = shows.own;
        ends = λ i e there. shown_as ours plan certificate w a.after a.only.links (shows.numbers i) e.side e.node e.terminal
            (shows.ends i e there);
        apart = shows.apart;
        known = λ i n at. (
            let few : n ≤ w.opened = shows.known i n at in
            let e : a.after.opened ≡ w.opened = a.only.rest.2 in
            omega (arith, few, e));
        free = shows.free;
        called = λ n link there its. shows.called n link
            (ap (λ (l : _). map_of.get l n) (sym a.only.links) ∙ there) its;
      },
    )

    passes : (ms : ℕ) (new : OwnWorld)
        → new ≡ record { time = min (b.time + ms) (2 ^ 62); desks = b.desks; ends = b.ends }
        → Acts w new
    passes ms new is = as_new new _ is (
      Own (Tick ms) ∷ [],
      passed w ms,
      (tt, (passed w ms, refl, (refl, refl))),
      record {
        time = ap (λ (n : ℕ). min (n + ms) (2 ^ 62)) shows.time;
        desks = shows.desks;
        numbers = shows.numbers;
        own = shows.own;
        ends = λ i e there. shown_as ours plan certificate w (passed w ms) refl (shows.numbers i) e.side e.node e.terminal
            (shows.ends i e there);
        apart = shows.apart;
        known = shows.known;
        free = shows.free;
        called = shows.called;
      },
    )

    none_pending : (node uid : Text) → NoneAwaits b node uid → ours node ≡ true
        → NoneIsPending w node uid
    none_pending node uid none its number link item there caller on pend same =
        let a = shows.called number link there (ap ours caller ∙ its) in
        let s : ShowsBy ours plan certificate w (shows.numbers a.0) Requestor a.1.node a.1.terminal =
        subst
        (λ (z : Side).
        ShowsBy ours plan certificate w (shows.numbers a.0) z a.1.node a.1.terminal) a.4
        (shows.ends a.0 a.1 a.2) in
        let number_is : s.0 ≡ number = same_Some s.0 number (sym s.1 ∙ a.3) in
        let at : IsLink w number s.2.1.0 =
        subst (λ (n : ℕ). IsLink w n s.2.1.0) number_is s.2.1.1 in
        let call : IsCallOf ours a.1.node link a.1.terminal.core = subst
        (λ (l : Link). IsCallOf ours a.1.node l a.1.terminal.core)
        (one_link w number s.2.1.0 link at there) s.2.1.2 in
        let stands : CallsAt true link.stage link.receiver a.1.terminal.core = subst
        (λ (c : Bool). CallsAt c link.stage link.receiver a.1.terminal.core) on call.stands in
        none a.0 a.1 a.2 (sym call.caller ∙ caller) a.4
        (pend_by link.stage link.receiver a.1.terminal.core item stands pend
        ∙ ap (λ (u : Text). Some u) same)

    pub one_step : (step : OwnStep) (new : OwnWorld)
        → OwnSteps ours plan certificate b step new
        → Acts w new
    one_step (Listens i node) new h = listens ours plan certificate certified b w Shown_own
        (λ j. Unit {0}) ends_beside others i node new tt h
    one_step (Opens i node dest) new h = opens ours plan certificate certified b w Shown_own
        (λ j. Unit {0}) ends_beside others i node dest new tt h
    one_step (Hears i came) new h = hears ours plan certificate certified b w Shown_own
        (λ j. Unit {0}) ends_beside others i came new h
    one_step (Meets i what) new h = meets ours plan certificate certified b w Shown_own
        (λ j. Unit {0}) ends_beside others i what new h
    one_step (Submits node item) new h = alone node _ new h
        (Take node (instance_of item) h.does.0) h.own
        (submitting_takes plan w node item (b.desks node) h.after h.does.0 h.is_node
        (shows.desks node h.own) h.does.1)
    one_step (StaysAway node uid dest) new h = alone node _ new h
        (AwayEvent node uid dest h.does.0) tt
        (staying_away_is_stay_away plan w node uid dest (b.desks node) h.after h.does.0 h.is_node
        (shows.desks node h.own)
        (subst
        (λ (n : ℕ). LedgerStep plan node (b.desks node) (Settle uid dest Broken n)
        (Settling h.does.0) h.after)
        (sym shows.time) h.does.1))
    one_step (PutsBack node uid dest) new h = alone node _ new h
        (Requeue node uid dest h.does.0) tt
        (requeueing_is_requeue plan w node uid dest (b.desks node) h.after h.does.0 h.is_node
        (shows.desks node h.own) h.does.1)
    one_step (GivesUp node uid dest) new h = alone node _ new h
        (Drop node uid dest h.does.0) tt
        (giving_up_is_drop plan w node uid dest (b.desks node) h.after h.does.0 h.is_node
        (shows.desks node h.own)
        (subst (λ (n : ℕ). GivesUpAt (b.desks node) uid dest n h.does.0 h.after)
        (sym shows.time) h.does.1))
    one_step (Forgets node uid) new h = alone node _ new h.1
        (Forget node uid h.1.does.0) tt
        (forgetting_is_forget plan w node uid (b.desks node) h.1.after h.1.does.0 h.1.is_node
        (none_pending node uid h.0 h.1.own) (shows.desks node h.1.own) h.1.does.1)
    one_step (Refuses node) new h = alone node _ new h (Refuse node) tt
        (subst (λ (d : Desk). HappensAt plan w (Refuse node) node d) (sym h.does)
        (refusing_is_refuse plan w node (b.desks node) h.is_node (shows.desks node h.own)))
    one_step (Restarts node) new h = as_new new _ h.is
        (restart_is_shown ours plan certificate b w shows others node h.own)
    one_step (Passes ms) new h = passes ms new h

  -- ---- any steps

  any_steps : IsCertified plan certificate
      → (steps : List OwnStep) (b new : OwnWorld) (before : List Act) (w : World)
      → RunsAmong ours plan start before plan w
      → ShowsOwn ours plan certificate b w
      → OwnRuns ours plan certificate b steps new
      → (acts : List Act) × (v : World)
      × RunsAmong ours plan start acts plan v
      × ShowsOwn ours plan certificate new v
  any_steps certified [] b new before w runs shows h =
      (before, w, runs, subst (λ (z : OwnWorld). ShowsOwn ours plan certificate z w) (sym h) shows)
  any_steps certified (step ∷ steps) b new before w runs shows h =
      let claims : HeadlineAmong ours plan w =
      headline_holds_among ours plan certified.sound before plan w runs in
      let one = one_step certified b w shows claims.others step h.0 h.1 in
      any_steps certified steps h.0 new (before ++ one.0) one.1
      (runs_on ours before one.0 plan plan plan start w one.1 runs one.2) one.3 h.2

  pub beginning_shown : ShowsOwn ours plan certificate own_beginning start
  beginning_shown = record {
    time = refl;
    desks = λ name its. (refl, sym (set.contains-empty text_cmp name));
    numbers = λ i. None;
    own = λ i e there. absurd (cc there);
    ends = λ i e there. absurd (cc there);
    apart = λ i j n at also. absurd (cc at);
    known = λ i n at. absurd (cc at);
    free = λ i none. refl;
    called = λ n link there its.
        (let f : None ≡ Some link = sym (map_of.get-empty nat_cmp n) ∙ there in absurd (cc f));
  }

pub own_worlds_keep_the_claims : OwnWorldsKeepTheClaims
own_worlds_keep_the_claims ours plan certificate certified steps b runs =
    let all = any_steps ours plan certificate certified steps own_beginning b [] start (refl, refl)
    (beginning_shown ours plan certificate) runs in (
      all.0,
      all.1,
      all.2,
      all.3,
      headline_holds_among ours plan certified.sound all.0 plan all.1 all.2,
    )

-- ---- laws

pub ours_can_listen : OursCanListen
ours_can_listen ours plan certificate b number site free own part =
    (_, record { free = free; own = own; site = site; part = part; named = refl; is = refl })

pub others_are_not_here : OthersAreNotHere
others_are_not_here = record {
  listens = λ ours plan certificate b new number node away h. false≢true (sym away ∙ h.own);
  calls = λ ours plan certificate b new number node dest own h. false≢true (sym h.away ∙ own);
  takes = λ ours plan certificate b new node item away h. false≢true (sym away ∙ h.own);
}

pub ends_are_asked_so : EndsAreAskedSo
ends_are_asked_so = record {
  sends = λ ours plan certificate b new number e at accepts h.
      (let same : h.end ≡ e = same_Some h.end e (sym h.there ∙ at) in
      let f : Acceptor ≡ Requestor = sym accepts ∙ (ap (λ (z : OwnEnd). z.side) (sym same) ∙ h.may) in
      cc f);
  anew = λ ours plan certificate b new node h number e at named.
      (let was = without_is node (b.ends number) e
      (sym (ap (λ (z : OwnWorld). z.ends number) h.is) ∙ at) in
      false≢true (sym was.1
      ∙ (ap (λ (z : Text). same_text z node) named ∙ ties_itself texts node)));
}
