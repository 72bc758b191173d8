-- Nodes of ours that have links to each other, and to other makers' products, take another plan.
use Rattle.std.proofs.Common.{◌≡◌, ℕ, true, false, List, [], ◌∷◌, ◌++◌, Option, None, Some}
use Rattle.std.proofs.Common.{Contains, refl, sym, ap, subst, ◌∙◌, inl, inr, is_some}
use Rattle.std.proofs.Math.Logic.{∥∥₁_map, ∥∥₁_elim, ∥∥₁_prop}
use Rattle.std.specs.Ordering.{nat_cmp}
use Rattle.std.specs.FinMap as map_of
use Rattle.std.proofs.lemmas.Bool.{cases_Bool, false≢true}
use Rattle.dr_base.specs.Texts.{Text}
use Rattle.dr_plan_model.specs.Networks.{Network}
use Rattle.dr_plan_model.proofs.Gathered.{Contains-cons_cases, nothing_in_nil}
use Rattle.dr_plan_sound.specs.declared.certificate.Certificate.{Certificate}
use Rattle.dr_site.specs.Sites.{IsCertified}
use Rattle.dr_ledger.specs.Adopting.{IsFit}
use Rattle.dr_ledger.specs.Books.{Adoption, after}
use Rattle.dr_ledger.proofs.Maps.{texts, ties_itself}
use Rattle.dr_session.specs.Ledgers.{Desk, desk}
use Rattle.dr_world_model.specs.Worlds.{Link, World, same_text, start}
use Rattle.dr_world_model.specs.Steps.{IsLink}
use Rattle.dr_world_model.specs.Among.{Act, HeadlineAmong, Ours, RunsAmong}
use Rattle.dr_world_model.proofs.AmongActs.{headline_holds_among}
use Rattle.dr_world_model.proofs.Picking.{in_any}
use Rattle.dr_world_tie.specs.ByteWorlds.{Requestor}
use Rattle.dr_world_tie.specs.Channels.{Channel}
use Rattle.dr_world_tie.specs.Foreign.{OthersHaveNone}
use Rattle.dr_world_tie.specs.ForeignWorlds.{OwnEnd, OwnWorld, ShowsOwn}
use Rattle.dr_world_tie.specs.MixedChanges.{MixedCanTake, MixedChangesKeepTheClaims}
use Rattle.dr_world_tie.specs.MixedChanges.{MixedDeed, MixedDoes, MixedRunsThrough, MixedTake}
use Rattle.dr_world_tie.specs.MixedChanges.{MixedTakes, PairsAreOver}
use Rattle.dr_world_tie.specs.MixedWorlds.{MixedWorld, ShowsMixed}
use Rattle.dr_world_tie.specs.MixedWorlds.{mixed_beginning}
use Rattle.dr_world_tie.specs.OwnChanges.{MayOursTake, OursTake}
use Rattle.dr_world_tie.proofs.Foreigners.{one_link, runs_on}
use Rattle.dr_world_tie.proofs.MixedRestarts.{left_world, mixed_restarts, pair_was}
use Rattle.dr_world_tie.proofs.MixedUpdates.{PlaceOf, no_pair, place_of}
use Rattle.dr_world_tie.proofs.MixedWorlds.{mixed_beginning_shown, mixed_step}
use Rattle.dr_world_tie.proofs.OwnChanges.{ours_can_take, plan_is_taken}

module _ (ours : Ours) (plan : Network) (certificate : Certificate) where
  -- both its nodes are ours
  abbrev IsBetween : Link → Type 0
  IsBetween link = (ours link.caller ≡ true) × (ours link.receiver ≡ true)

  -- Acts lead to a world in which no link of these numbers is between two of ours. The books are as
  -- they were.
  record NoneBetween (b : MixedWorld) (w : World) (all : List ℕ) : Type 0 where
    acts : List Act
    mid : World
    left : MixedWorld
    runs : RunsAmong ours plan w acts plan mid
    shows : ShowsMixed ours plan certificate left mid
    time : left.own.time ≡ b.own.time
    desks : (name : Text) → left.own.desks name ≡ b.own.desks name
    books : (name : Text) → mid.books name ≡ w.books name
    stay : (n : ℕ) (link : Link) → IsLink mid n link → IsLink w n link
    none : (n : ℕ) → Contains all n → (link : Link) → IsLink mid n link → IsBetween link → ⊥

  -- one number before others
  before_more : (b between : MixedWorld) (w v : World) (number : ℕ) (more : List ℕ)
      (acts : List Act)
      → RunsAmong ours plan w acts plan v
      → between.own.time ≡ b.own.time
      → ((name : Text) → between.own.desks name ≡ b.own.desks name)
      → ((name : Text) → v.books name ≡ w.books name)
      → ((n : ℕ) (link : Link) → IsLink v n link → IsLink w n link)
      → ((link : Link) → IsLink v number link → IsBetween link → ⊥)
      → NoneBetween between v more
      → NoneBetween b w (number ∷ more)
  before_more b between w v number more acts runs time desks books stay one r = record {
    acts = acts ++ r.acts;
    mid = r.mid;
    left = r.left;
    runs = runs_on ours acts r.acts plan plan plan w v r.mid runs r.runs;
    shows = r.shows;
    time = r.time ∙ time;
    desks = λ name. r.desks name ∙ desks name;
    books = λ name. r.books name ∙ books name;
    stay = λ n link here. stay n link (r.stay n link here);
    none = λ n among link here is. elim (Contains-cons_cases number more n among) [
      | inl same ↦
          one link (subst (λ (m : ℕ). IsLink v m link) (sym same) (r.stay n link here)) is
      | inr behind ↦ r.none n behind link here is
    ];
  }

  -- what can be done of the others, from any world
  abbrev Rest : List ℕ → Type 0
  Rest more = (b : MixedWorld) (w : World)
      → ShowsMixed ours plan certificate b w
      → OthersHaveNone ours w
      → PairsAreOver b.pairs
      → NoneBetween b w more

  nothing_done : (b : MixedWorld) (w : World) → ShowsMixed ours plan certificate b w
      → OthersHaveNone ours w
      → PairsAreOver b.pairs
      → (number : ℕ) (more : List ℕ)
      → ((link : Link) → IsLink w number link → IsBetween link → ⊥)
      → Rest more
      → NoneBetween b w (number ∷ more)
  nothing_done b w shows others over number more one rest =
      before_more b b w w number more [] (refl, refl) refl (λ name. refl) (λ name. refl)
      (λ n l here. here) one (rest b w shows others over)

  -- its receiver starts anew
  receiver_restarts : (b : MixedWorld) (w : World) → ShowsMixed ours plan certificate b w
      → OthersHaveNone ours w
      → PairsAreOver b.pairs
      → (number : ℕ) (more : List ℕ) (link : Link) → IsLink w number link
      → ours link.receiver ≡ true
      → Rest more
      → NoneBetween b w (number ∷ more)
  receiver_restarts b w shows others over number more link here its rest =
      let node : Text = link.receiver in
      let r = mixed_restarts ours plan certificate b w shows others node its
      (λ i k there called. (over i k there).0) in
      let left : MixedWorld = left_world ours plan certificate b w shows others node its
      (λ i k there called. (over i k there).0) in
      before_more b left w r.1 number more r.0 r.2 refl (λ name. refl) r.4
      (λ n l there. (r.5 n l there).0)
      (λ l there is.
      (let was = r.5 number l there in
      let same : l ≡ link = one_link w number l link was.0 here in
      own_name link.receiver
      (ap (λ (z : Link). same_text z.receiver node) (sym same) ∙ was.2)))
      (rest left r.1 r.3 (λ name away. r.4 name ∙ others name away)
      (λ i k there. over i k (pair_was node (b.pairs i) k there).0))
    where
      own_name : (name : Text) → same_text name name ≡ false → ⊥
      own_name name apart = false≢true (sym apart ∙ ties_itself texts name)

  one_gone : (b : MixedWorld) (w : World) → ShowsMixed ours plan certificate b w
      → OthersHaveNone ours w
      → PairsAreOver b.pairs
      → (number : ℕ) (more : List ℕ) (o : Option Link) → map_of.get w.links number ≡ o
      → Rest more
      → NoneBetween b w (number ∷ more)
  one_gone b w shows others over number more None at rest =
      nothing_done b w shows others over number more
      (λ link here is. (let f : None ≡ Some link = sym at ∙ here in absurd (cc f))) rest
  one_gone b w shows others over number more (Some link) at rest =
      elim (cases_Bool (ours link.receiver)) [
        | inl its ↦ receiver_restarts b w shows others over number more link at its rest
        | inr away ↦ nothing_done b w shows others over number more
            (λ l here is.
            (let same : link ≡ l = one_link w number link l at here in
            false≢true (sym away ∙ (ap (λ (z : Link). ours z.receiver) same ∙ is.1)))) rest
      ]

  all_gone_between : (all : List ℕ) (b : MixedWorld) (w : World)
      → ShowsMixed ours plan certificate b w
      → OthersHaveNone ours w
      → PairsAreOver b.pairs
      → NoneBetween b w all
  all_gone_between [] b w shows others over = record {
    acts = [];
    mid = w;
    left = b;
    runs = (refl, refl);
    shows = shows;
    time = refl;
    desks = λ name. refl;
    books = λ name. refl;
    stay = λ n link here. here;
    none = λ n among link here is. nothing_in_nil n among;
  }
  all_gone_between (number ∷ more) b w shows others over =
      one_gone b w shows others over number more (map_of.get w.links number) refl
      (λ c v shown none off. all_gone_between more c v shown none off)

  -- ---- the plan is taken

  module _ (next : Network) (own : Certificate) (certified : IsCertified next own)
      (b new : MixedWorld) (w : World) (shown : ShowsMixed ours plan certificate b w)
      (others : OthersHaveNone ours w) (h : MixedTake ours plan b next new) where
    gone : NoneBetween b w (map_of.keys w.links)
    gone = all_gone_between (map_of.keys w.links) b w shown others h.may.over

    abbrev v : World
    v = gone.mid

    abbrev left : OwnWorld
    left = gone.left.own

    no_link : (n : ℕ) (link : Link) → IsLink v n link → IsBetween link → ⊥
    no_link n link here is =
        let was = gone.stay n link here in
        gone.none n
        (in_any n (map_of.keys w.links) (sym (map_of.contains_key-keys w.links n) ∙ ap is_some was))
        link here is

    no_pair_left : (i : ℕ) (k : Channel) → gone.left.pairs i ≡ Some k → ⊥
    no_pair_left i k there =
        let p = gone.shows.pairs i k there in
        no_link p.number p.link p.here (p.caller, p.receiver)

    pair_none : (i : ℕ) → gone.left.pairs i ≡ None
    pair_none i = by_pair (gone.left.pairs i) refl
      where
        by_pair : (o : Option Channel) → gone.left.pairs i ≡ o → gone.left.pairs i ≡ None
        by_pair None e = e
        by_pair (Some k) e = absurd (no_pair_left i k e)

    -- what one of ours called has a requestor of ours
    requestor_of : (i n : ℕ) (link : Link)
        → ours link.caller ≡ true
        → gone.shows.numbers i ≡ Some n
        → PlaceOf ours plan certificate gone.left i link
        → (j : ℕ) × (e : OwnEnd) × (left.ends j ≡ Some e) × (gone.shows.numbers j ≡ Some n)
        × (e.side ≡ Requestor)
    requestor_of i n link its at (inl (e, there, inl (side, call))) =
        absurd (false≢true (sym call.caller ∙ its))
    requestor_of i n link its at (inl (e, there, inr (side, call))) = (i, e, there, at, side)
    requestor_of i n link its at (inr (k, there, pair)) = absurd (no_pair_left i k there)

    -- the ends that are alone are all that there is
    left_shown : ShowsOwn ours plan certificate left v
    left_shown = record {
      time = gone.shows.time;
      desks = gone.shows.desks;
      numbers = gone.shows.numbers;
      own = gone.shows.own;
      ends = gone.shows.ends;
      apart = gone.shows.apart;
      known = gone.shows.known;
      free = λ i none. gone.shows.free i none (pair_none i);
      called = λ n link there its.
          (let a = gone.shows.covered n link there (inl its) in
          requestor_of a.0 n link its a.1
          (place_of ours plan certificate gone.left v gone.shows a.0 n link a.1 there));
    }

    -- desks are as they were
    may_left : MayOursTake ours plan left next
    may_left = record {
      unarmed = λ name is its.
          ap (λ (d : Desk). d.armed) (gone.desks name) ∙ h.own.may.unarmed name is its;
      stay = h.own.may.stay;
      fit = λ name is its. subst (λ (d : Desk). IsFit next name d.book) (sym (gone.desks name))
          (h.own.may.fit name is its);
      strangers = λ name none its. gone.desks name ∙ h.own.may.strangers name none its;
    }

    left_takes : OursTake ours plan left next new.own
    left_takes = record {
      may = may_left;
      time = h.own.time ∙ sym gone.time;
      ends = h.own.ends;
      desks = λ name is its.
          h.own.desks name is its
          ∙ ap (λ (d : Desk). desk (after Adoption d.book) false) (sym (gone.desks name));
      joined = h.own.joined;
    }

    pub mixed_plan_is_taken : (acts : List Act) × (u : World)
        × RunsAmong ours plan w acts next u
        × ShowsMixed ours next own new u
    mixed_plan_is_taken =
        let t = plan_is_taken ours plan certificate next own certified left new.own v left_shown
        (λ name away. gone.books name ∙ others name away) left_takes in
        let u : World = t.1 in (
          gone.acts ++ t.0,
          u,
          runs_on ours gone.acts t.0 plan plan next w v u gone.runs t.2,
          record {
            time = t.3.time;
            desks = t.3.desks;
            numbers = λ i. None;
            own = t.3.own;
            ends = λ i e there. absurd (no_end_left i e there);
            pairs = λ i k there. absurd (no_pair k (sym (h.pairs i) ∙ there));
            lone = λ i e there. h.pairs i;
            apart = λ i j n at also. absurd (cc at);
            known = λ i n at. absurd (cc at);
            free = λ i none no_pair_there. refl;
            covered = λ n link there its. absurd (no_link_left u t.4 n link there);
          },
        )
      where
        no_end_left : (i : ℕ) (e : OwnEnd) → new.own.ends i ≡ Some e → ⊥
        no_end_left i e there = (let f : None ≡ Some e = sym (h.own.ends i) ∙ there in cc f)

        no_link_left : (u : World) → u.links ≡ map_of.empty → (n : ℕ) (link : Link)
            → IsLink u n link
            → ⊥
        no_link_left u none n link there =
            let f : None ≡ Some link = sym (map_of.get-empty nat_cmp n)
            ∙ (sym (ap (λ (l : _). map_of.get l n) none) ∙ there) in
            cc f

-- ---- any deeds

module _ (ours : Ours) (first : Network) (its : Certificate) (sound : IsCertified first its) where
  abbrev Led : Network → Certificate → MixedWorld → Type 0
  Led last own new =
      (acts : List Act) × (v : World)
      × RunsAmong ours first start acts last v
      × ShowsMixed ours last own new v

  deeds_on : (deeds : List MixedDeed) (plan last : Network) (certificate own : Certificate)
      (b new : MixedWorld) (before : List Act) (w : World)
      → IsCertified plan certificate
      → RunsAmong ours first start before plan w
      → ShowsMixed ours plan certificate b w
      → MixedRunsThrough ours plan certificate b deeds last own new
      → ∥ Led last own new ∥₁
  deeds_on [] plan last certificate own b new before w certified runs shows (p, c, o) = ∣ (
    before,
    w,
    subst (λ (q : Network). RunsAmong ours first start before q w) (sym p) runs,
    subst (λ (q : Network × (Certificate × MixedWorld)). ShowsMixed ours q.0 q.1.0 q.1.1 w)
        (λ j. (sym p j, (sym c j, sym o j))) shows,
  ) ∣₁
  deeds_on (MixedDoes step ∷ deeds) plan last certificate own b new before w certified runs shows
      (mid, h, rest) =
      let claims : HeadlineAmong ours plan w =
      headline_holds_among ours first sound.sound before plan w runs in
      ∥∥₁_elim (mixed_step ours plan certificate certified b w shows claims.others step mid h)
      ∥∥₁_prop
      (λ one. deeds_on deeds plan last certificate own mid new (before ++ one.0) one.1 certified
      (runs_on ours before one.0 first plan plan start w one.1 runs one.2) one.3 rest)
  deeds_on (MixedTakes next sealed ∷ deeds) plan last certificate own b new before w certified runs
      shows (mid, proper, h, rest) =
      let claims : HeadlineAmong ours plan w =
      headline_holds_among ours first sound.sound before plan w runs in
      let one =
      mixed_plan_is_taken ours plan certificate next sealed proper b mid w shows claims.others h in
      deeds_on deeds next last sealed own mid new (before ++ one.0) one.1 proper
      (runs_on ours before one.0 first plan next start w one.1 runs one.2) one.3 rest

pub mixed_changes_keep_the_claims : MixedChangesKeepTheClaims
mixed_changes_keep_the_claims ours plan certificate certified deeds last its b runs =
    ∥∥₁_map
    (deeds_on ours plan certificate certified deeds plan last certificate its mixed_beginning b []
    start certified (refl, refl) (mixed_beginning_shown ours plan certificate) runs)
    (λ all. (
      all.0,
      all.1,
      all.2,
      all.3,
      headline_holds_among ours plan certified.sound all.0 last all.1 all.2,
    ))

-- ---- laws

pub mixed_can_take : MixedCanTake
mixed_can_take ours plan next b may =
    let own = ours_can_take ours plan next b.own may.own in (
      record { own = own.0; pairs = λ number. None },
      record { may = may; own = own.1; pairs = λ number. refl },
    )
