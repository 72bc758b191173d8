-- One end, or one link between two of ours, in the place of another: the rest stays shown.
use Rattle.std.proofs.Common.{◌≡◌, ◌≢◌, ◌⊎◌, ℕ, ◌<◌, ◌≤◌, Bool, true, false, Option, None, Some}
use Rattle.std.proofs.Common.{refl, sym, ap, subst, ◌∙◌, inl, inr, arith}
use Rattle.std.specs.Prelude.{◌==◌, if◌then◌else◌}
use Rattle.std.proofs.lemmas.Bool.{cases_Bool, eq-eqb, eqb-true, eqb-false}
use Rattle.std.proofs.lemmas.Option.{same_Some}
use Rattle.dr_base.specs.Texts.{Text}
use Rattle.dr_plan_model.specs.Networks.{Network}
use Rattle.dr_plan_sound.specs.declared.certificate.Certificate.{Certificate}
use Rattle.dr_ledger.proofs.Maps.{same_or_not, texts, ties_itself}
use Rattle.dr_world_model.specs.Worlds.{Link, World}
use Rattle.dr_world_model.specs.Steps.{IsLink}
use Rattle.dr_world_model.specs.Among.{Ours}
use Rattle.dr_world_tie.specs.ByteWorlds.{Side, Requestor, Acceptor}
use Rattle.dr_world_tie.specs.Desks.{Desk}
use Rattle.dr_world_tie.specs.Channels.{Channel, LiveTerminal, ShowsLink}
use Rattle.dr_world_tie.specs.Ties.{IsDeskOf, with_desk}
use Rattle.dr_world_tie.specs.Foreign.{OnlyOf, IsCalledBy}
use Rattle.dr_world_tie.specs.ForeignCalls.{IsCallOf}
use Rattle.dr_world_tie.specs.ForeignWorlds.{OwnEnd, ShowsBy, with_end, with_done}
use Rattle.dr_world_tie.specs.MixedWorlds.{HasOurs, MixedWorld, ShowsMixed, ShowsPair, done_between}
use Rattle.dr_world_tie.specs.MixedWorlds.{with_pair}
use Rattle.dr_world_tie.proofs.EndsAlone.{Counts, shown_still}
use Rattle.dr_world_tie.proofs.Foreigners.{one_link}

no_end : (e : OwnEnd) → None ≡ Some e → ⊥
no_end e h = cc h

pub no_pair : (k : Channel) → None ≡ Some k → ⊥
no_pair k h = cc h

no_number : (n : ℕ) → None ≡ Some n → ⊥
no_number n h = cc h

module _ (ours : Ours) (plan : Network) (certificate : Certificate) where
  -- ---- what has a number

  -- an end is the receiver of the link, or its caller
  abbrev pub IsOfLink : OwnEnd → Link → Type 0
  IsOfLink e link =
      ((e.side ≡ Acceptor) × IsCalledBy ours plan e.node link e.terminal.core)
      ⊎ ((e.side ≡ Requestor) × IsCallOf ours e.node link e.terminal.core)

  -- the link between two of ours is this one
  abbrev pub IsPairOf : Channel → Link → Type 0
  IsPairOf k link =
      (ours link.caller ≡ true) × (ours link.receiver ≡ true)
      × ShowsLink plan certificate k link

  abbrev pub PlaceOf : MixedWorld → ℕ → Link → Type 0
  PlaceOf b i link =
      ((e : OwnEnd) × (b.own.ends i ≡ Some e) × IsOfLink e link)
      ⊎ ((k : Channel) × (b.pairs i ≡ Some k) × IsPairOf k link)

  module _ (b : MixedWorld) (w : World) (shows : ShowsMixed ours plan certificate b w) where
    end_of_number : (i n : ℕ) (link : Link) → shows.numbers i ≡ Some n → IsLink w n link
        → (side : Side) (node : Text) (k : LiveTerminal)
        → ShowsBy ours plan certificate w (shows.numbers i) side node k
        → IsOfLink (record { side = side; node = node; terminal = k }) link
    end_of_number i n link at here Acceptor node k s =
        let t : ShowsBy ours plan certificate w (Some n) Acceptor node k =
        subst (λ (o : Option ℕ). ShowsBy ours plan certificate w o Acceptor node k) at s in
        inl (
          refl,
          subst (λ (l : Link). IsCalledBy ours plan node l k.core)
              (one_link w n t.1.0 link t.1.1 here) t.1.2,
        )
    end_of_number i n link at here Requestor node k s =
        let number_is : s.0 ≡ n = same_Some s.0 n (sym s.1 ∙ at) in
        let found : IsLink w n s.2.1.0 =
        subst (λ (m : ℕ). IsLink w m s.2.1.0) number_is s.2.1.1 in
        inr (
          refl,
          subst (λ (l : Link). IsCallOf ours node l k.core)
              (one_link w n s.2.1.0 link found here) s.2.1.2,
        )

    pub pair_of_number : (i n : ℕ) (link : Link) → shows.numbers i ≡ Some n → IsLink w n link
        → (k : Channel)
        → ShowsPair ours plan certificate w (shows.numbers i) k
        → IsPairOf k link
    pair_of_number i n link at here k s =
        let number_is : s.number ≡ n = same_Some s.number n (sym s.at_is ∙ at) in
        let found : IsLink w n s.link =
        subst (λ (m : ℕ). IsLink w m s.link) number_is s.here in
        subst (λ (l : Link). IsPairOf k l) (one_link w n s.link link found here)
        (s.caller, s.receiver, s.shows)

    -- what has the number of a link is one of its ends, or is the link
    pub place_of : (i n : ℕ) (link : Link) → shows.numbers i ≡ Some n → IsLink w n link
        → PlaceOf b i link
    place_of i n link at here = by_end (b.own.ends i) refl
      where
        by_pair : b.own.ends i ≡ None → (o : Option Channel) → b.pairs i ≡ o → PlaceOf b i link
        by_pair none None e =
            absurd (no_number n (sym (shows.free i none e) ∙ at))
        by_pair none (Some k) e =
            inr (k, e, pair_of_number i n link at here k (shows.pairs i k e))

        by_end : (o : Option OwnEnd) → b.own.ends i ≡ o → PlaceOf b i link
        by_end None e = by_pair e (b.pairs i) refl
        by_end (Some d) e = inl (
          d,
          e,
          end_of_number i n link at here d.side d.node d.terminal (shows.ends i d e),
        )

  -- ---- what isn't touched

  pub pair_still :
      (w v : World) (next at : Option ℕ) (name : Text) (k : Channel)
      → OnlyOf w v next name
      → ((m : ℕ) → at ≡ Some m → next ≢ Some m)
      → ShowsPair ours plan certificate w at k
      → ShowsPair ours plan certificate v at k
  pair_still w v next at name k only apart h = record {
    number = h.number;
    at_is = h.at_is;
    link = h.link;
    here = only.links h.number (apart h.number h.at_is) ∙ h.here;
    caller = h.caller;
    receiver = h.receiver;
    shows = h.shows;
  }

  -- no end is alone where a link between two of ours is
  pub pair_alone : (b : MixedWorld) (w : World) (shows : ShowsMixed ours plan certificate b w)
      (i : ℕ) (k : Channel)
      → b.pairs i ≡ Some k
      → b.own.ends i ≡ None
  pair_alone b w shows i k there = by_end (b.own.ends i) refl
    where
      by_end : (o : Option OwnEnd) → b.own.ends i ≡ o → o ≡ None
      by_end None e = refl
      by_end (Some d) e = absurd (no_pair k (sym (shows.lone i d e) ∙ there))

  -- the desks of ours, one of them another
  pub desks_with : (b : MixedWorld) (w : World) (shows : ShowsMixed ours plan certificate b w)
      (v : World) (next : Option ℕ) (node : Text)
      → OnlyOf w v next node
      → (t : Desk)
      → IsDeskOf v node t
      → (name : Text)
      → ours name ≡ true
      → IsDeskOf v name (with_desk b.own.desks node t name)
  desks_with b w shows v next node only t desk_is name its =
      elim (same_or_not texts name node) [
        | inl same ↦ subst
            (λ (m : Text). IsDeskOf v m (with_desk b.own.desks node t m)) (sym same)
            (subst
            (λ (c : Bool). IsDeskOf v node (if c then t else b.own.desks node))
            (sym (ties_itself texts node)) desk_is)
        | inr apart ↦ subst
            (λ (c : Bool). IsDeskOf v name (if c then t else b.own.desks name)) (sym apart) (
              (shows.desks name its).0 ∙ sym (only.books name apart),
              (shows.desks name its).1 ∙ sym (only.armed name apart),
            )
      ]

  -- ---- a place is another

  module _ (b : MixedWorld) (w : World) (shows : ShowsMixed ours plan certificate b w) (i : ℕ)
      (node : Text) (own : ours node ≡ true) (v : World) (next : Option ℕ)
      (only : OnlyOf w v next node) (counts : Counts w v (shows.numbers i) next)
      (keeps : (n : ℕ) → shows.numbers i ≡ Some n → next ≡ Some n) (t : Desk)
      (desk_is : IsDeskOf v node t) where
    abbrev now_numbers : ℕ → Option ℕ
    now_numbers j = if j == i then next else shows.numbers j

    now_desks : (name : Text) → ours name ≡ true
        → IsDeskOf v name (with_desk b.own.desks node t name)
    now_desks = desks_with b w shows v next node only t desk_is

    now_it : (j : ℕ) → (j == i) ≡ true → now_numbers j ≡ next
    now_it j e = ap (λ (c : Bool). if c then next else shows.numbers j) e

    now_beside : (j : ℕ) → (j == i) ≡ false → now_numbers j ≡ shows.numbers j
    now_beside j e = ap (λ (c : Bool). if c then next else shows.numbers j) e

    untouched : (j : ℕ) → (j == i) ≡ false → (m : ℕ) → shows.numbers j ≡ Some m → next ≢ Some m
    untouched j e m at is = elim (counts m is) [
      | inl before ↦ eqb-false j i e (shows.apart j i m at before)
      | inr new ↦ (
          let a : w.opened < m = new.0 in
          let d : m ≤ w.opened = shows.known j m at in
          absurd (omega (arith, a, d)))
    ]

    now_known : (j n : ℕ) → now_numbers j ≡ Some n → n ≤ v.opened
    now_known j n e = elim (cases_Bool (j == i)) [
      | inl it ↦ elim (counts n (sym (now_it j it) ∙ e)) [
        | inl before ↦ (
            let a : n ≤ w.opened = shows.known i n before in
            let d : w.opened ≤ v.opened = only.opened in
            omega (arith, a, d))
        | inr new ↦ new.1
      ]
      | inr not_it ↦ (
          let a : n ≤ w.opened = shows.known j n (sym (now_beside j not_it) ∙ e) in
          let d : w.opened ≤ v.opened = only.opened in
          omega (arith, a, d))
    ]

    now_apart : (j l n : ℕ) → now_numbers j ≡ Some n → now_numbers l ≡ Some n → j ≡ l
    now_apart j l n e f = elim (cases_Bool (j == i)) [
      | inl it ↦ elim (cases_Bool (l == i)) [
        | inl too ↦ eqb-true j i it ∙ sym (eqb-true l i too)
        | inr not_too ↦
            absurd (untouched l not_too n (sym (now_beside l not_too) ∙ f) (sym (now_it j it) ∙ e))
      ]
      | inr not_it ↦ elim (cases_Bool (l == i)) [
        | inl too ↦
            absurd (untouched j not_it n (sym (now_beside j not_it) ∙ e) (sym (now_it l too) ∙ f))
        | inr not_too ↦
            shows.apart j l n (sym (now_beside j not_it) ∙ e) (sym (now_beside l not_too) ∙ f)
      ]
    ]

    -- each link of ours has a number
    now_covered : (n : ℕ) (link : Link) → IsLink v n link → HasOurs ours link
        → (j : ℕ) × (now_numbers j ≡ Some n)
    now_covered n link there its = at_number next refl
      where
        another : next ≢ Some n → (j : ℕ) × (now_numbers j ≡ Some n)
        another away =
            let a = shows.covered n link (sym (only.links n away) ∙ there) its in
            elim (cases_Bool (a.0 == i)) [
              | inl it ↦ absurd (away (keeps n
                  (subst (λ (j : ℕ). shows.numbers j ≡ Some n) (eqb-true a.0 i it) a.1)))
              | inr not_it ↦ (a.0, now_beside a.0 not_it ∙ a.1)
            ]

        at_number : (o : Option ℕ) → next ≡ o → (j : ℕ) × (now_numbers j ≡ Some n)
        at_number None is = another (λ e. no_number n (sym is ∙ e))
        at_number (Some m) is = elim (cases_Bool (m == n)) [
          | inl it ↦ (
            i,
            now_it i (eq-eqb i i refl) ∙ (is ∙ ap (λ (q : ℕ). Some q) (eqb-true m n it)),
          )
          | inr not_it ↦ another (λ e. eqb-false m n not_it (same_Some m n (sym is ∙ e)))
        ]

    -- another end, where no link between two of ours is
    pub end_is_shown : b.pairs i ≡ None → (side : Side) (k : LiveTerminal)
        → ShowsBy ours plan certificate v next side node k
        → ShowsMixed ours plan certificate
        (record {
          own = with_done b.own i (record { side = side; node = node; terminal = k }) t;
          pairs = b.pairs;
        })
        v
    end_is_shown vacant side k shown = record {
      time = only.rest.0 ∙ shows.time;
      desks = now_desks;
      numbers = now_numbers;
      own = λ j e there. elim (cases_Bool (j == i)) [
        | inl it ↦ subst (λ (d : OwnEnd). ours d.node ≡ true) (is_it j e it there) own
        | inr not_it ↦ shows.own j e (is_other j e not_it there)
      ];
      ends = λ j e there. elim (cases_Bool (j == i)) [
        | inl it ↦ subst
            (λ (o : Option ℕ). ShowsBy ours plan certificate v o e.side e.node e.terminal)
            (sym (now_it j it))
            (subst
            (λ (d : OwnEnd). ShowsBy ours plan certificate v next d.side d.node d.terminal)
            (is_it j e it there) shown)
        | inr not_it ↦ subst
            (λ (o : Option ℕ). ShowsBy ours plan certificate v o e.side e.node e.terminal)
            (sym (now_beside j not_it))
            (shown_still ours plan certificate w v next (shows.numbers j) node e.side e.node
            e.terminal only (untouched j not_it) (shows.ends j e (is_other j e not_it there)))
      ];
      pairs = λ j l there. elim (cases_Bool (j == i)) [
        | inl it ↦ absurd (no_pair l
            (sym (subst (λ (m : ℕ). b.pairs m ≡ None) (sym (eqb-true j i it)) vacant) ∙ there))
        | inr not_it ↦ subst (λ (o : Option ℕ). ShowsPair ours plan certificate v o l)
            (sym (now_beside j not_it))
            (pair_still w v next (shows.numbers j) node l only (untouched j not_it)
            (shows.pairs j l there))
      ];
      lone = λ j e there. elim (cases_Bool (j == i)) [
        | inl it ↦ subst (λ (m : ℕ). b.pairs m ≡ None) (sym (eqb-true j i it)) vacant
        | inr not_it ↦ shows.lone j e (is_other j e not_it there)
      ];
      apart = now_apart;
      known = now_known;
      free = λ j none free_pair. elim (cases_Bool (j == i)) [
        | inl it ↦ absurd (placed j it none)
        | inr not_it ↦ now_beside j not_it ∙ shows.free j (left_free j not_it none) free_pair
      ];
      covered = now_covered;
    }
      where
        placed : (j : ℕ) → (j == i) ≡ true
            → with_end b.own.ends i (record { side = side; node = node; terminal = k }) j ≡ None
            → ⊥
        placed j it none =
            let e : OwnEnd = record { side = side; node = node; terminal = k } in
            let f : Some e ≡ None = subst
            (λ (c : Bool). (if c then Some e else b.own.ends j) ≡ None) it none in
            cc f

        left_free : (j : ℕ) → (j == i) ≡ false
            → with_end b.own.ends i (record { side = side; node = node; terminal = k }) j ≡ None
            → b.own.ends j ≡ None
        left_free j not_it none = subst
            (λ (c : Bool).
            (if c then Some (record { side = side; node = node; terminal = k }) else b.own.ends j)
            ≡ None) not_it none

        is_it : (j : ℕ) (e : OwnEnd) → (j == i) ≡ true
            → with_end b.own.ends i (record { side = side; node = node; terminal = k }) j ≡ Some e
            → record { side = side; node = node; terminal = k } ≡ e
        is_it j e it there = same_Some (record { side = side; node = node; terminal = k }) e
            (subst
            (λ (c : Bool).
            (if c then Some (record { side = side; node = node; terminal = k }) else b.own.ends j)
            ≡ Some e) it there)

        is_other : (j : ℕ) (e : OwnEnd) → (j == i) ≡ false
            → with_end b.own.ends i (record { side = side; node = node; terminal = k }) j ≡ Some e
            → b.own.ends j ≡ Some e
        is_other j e not_it there = subst
            (λ (c : Bool).
            (if c then Some (record { side = side; node = node; terminal = k }) else b.own.ends j)
            ≡ Some e) not_it there

    -- another link between two of ours, where no end is alone
    pub pair_is_shown : b.own.ends i ≡ None → (k : Channel)
        → ShowsPair ours plan certificate v next k
        → ShowsMixed ours plan certificate (done_between b i k node t) v
    pair_is_shown vacant k shown = record {
      time = only.rest.0 ∙ shows.time;
      desks = now_desks;
      numbers = now_numbers;
      own = shows.own;
      ends = λ j e there. elim (cases_Bool (j == i)) [
        | inl it ↦ absurd (no_end e
            (sym (subst (λ (m : ℕ). b.own.ends m ≡ None) (sym (eqb-true j i it)) vacant) ∙ there))
        | inr not_it ↦ subst
            (λ (o : Option ℕ). ShowsBy ours plan certificate v o e.side e.node e.terminal)
            (sym (now_beside j not_it))
            (shown_still ours plan certificate w v next (shows.numbers j) node e.side e.node
            e.terminal only (untouched j not_it) (shows.ends j e there))
      ];
      pairs = λ j l there. elim (cases_Bool (j == i)) [
        | inl it ↦ subst (λ (o : Option ℕ). ShowsPair ours plan certificate v o l)
            (sym (now_it j it))
            (subst (λ (c : Channel). ShowsPair ours plan certificate v next c)
            (is_this j l it there) shown)
        | inr not_it ↦ subst (λ (o : Option ℕ). ShowsPair ours plan certificate v o l)
            (sym (now_beside j not_it))
            (pair_still w v next (shows.numbers j) node l only (untouched j not_it)
            (shows.pairs j l (is_that j l not_it there)))
      ];
      lone = λ j e there. elim (cases_Bool (j == i)) [
        | inl it ↦ absurd (no_end e
            (sym (subst (λ (m : ℕ). b.own.ends m ≡ None) (sym (eqb-true j i it)) vacant) ∙ there))
        | inr not_it ↦
            ap (λ (c : Bool). if c then Some k else b.pairs j) not_it ∙ shows.lone j e there
      ];
      apart = now_apart;
      known = now_known;
      free = λ j none free_pair. elim (cases_Bool (j == i)) [
        | inl it ↦ absurd (linked j it free_pair)
        | inr not_it ↦ now_beside j not_it ∙ shows.free j none (unlinked j not_it free_pair)
      ];
      covered = now_covered;
    }
      where
        linked : (j : ℕ) → (j == i) ≡ true → with_pair b.pairs i k j ≡ None → ⊥
        linked j it none =
            let f : Some k ≡ None = subst
            (λ (c : Bool). (if c then Some k else b.pairs j) ≡ None) it none in
            cc f

        unlinked : (j : ℕ) → (j == i) ≡ false → with_pair b.pairs i k j ≡ None
            → b.pairs j ≡ None
        unlinked j not_it none =
            subst (λ (c : Bool). (if c then Some k else b.pairs j) ≡ None) not_it none

        is_this : (j : ℕ) (l : Channel) → (j == i) ≡ true → with_pair b.pairs i k j ≡ Some l
            → k ≡ l
        is_this j l it there = same_Some k l
            (subst (λ (c : Bool). (if c then Some k else b.pairs j) ≡ Some l) it there)

        is_that : (j : ℕ) (l : Channel) → (j == i) ≡ false → with_pair b.pairs i k j ≡ Some l
            → b.pairs j ≡ Some l
        is_that j l not_it there =
            subst (λ (c : Bool). (if c then Some k else b.pairs j) ≡ Some l) not_it there
