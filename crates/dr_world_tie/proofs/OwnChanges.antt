-- Nodes of ours take another plan among other makers' products.
use Rattle.std.proofs.Common.{◌≡◌, ℕ, Bool, true, false, List, [], ◌∷◌, ◌++◌, Option, None, Some}
use Rattle.std.proofs.Common.{Contains, refl, sym, ap, subst, ◌∙◌, inl, inr, is_some}
use Rattle.std.specs.Prelude.{cond}
use Rattle.std.specs.Ordering.{nat_cmp}
use Rattle.std.specs.FinMap as map_of
use Rattle.std.specs.FinSet as set
use Rattle.std.proofs.lemmas.Bool.{cases_Bool, false≢true}
use Rattle.dr_base.specs.Texts.{Text}
use Rattle.dr_plan_model.specs.Networks.{Network}
use Rattle.dr_plan_model.specs.Walks.{Goes}
use Rattle.dr_plan_model.proofs.Gathered.{Contains-cons_cases, nothing_in_nil}
use Rattle.dr_plan_sound.specs.declared.certificate.Certificate.{Certificate}
use Rattle.dr_site.specs.Sites.{IsCertified}
use Rattle.dr_ledger.specs.declared.item.Instance.{Instance}
use Rattle.dr_ledger.specs.declared.item.Progress.{Progress}
use Rattle.dr_ledger.specs.Adopting.{IsFit}
use Rattle.dr_ledger.specs.Books.{Adoption, Book, after, empty_book, is_queued}
use Rattle.dr_ledger.specs.Pairs.{pair_cmp}
use Rattle.dr_ledger.proofs.Maps.{texts, ties_itself}
use Rattle.dr_session.specs.Ledgers.{Desk}
use Rattle.dr_world_model.specs.Worlds.{Link, World, same_text, start}
use Rattle.dr_world_model.specs.Events.{HasNode}
use Rattle.dr_world_model.specs.Steps.{IsLink}
use Rattle.dr_world_model.specs.Among.{Act, HeadlineAmong, MayTurn, Ours, RunsAmong, Turn, Turns}
use Rattle.dr_world_model.proofs.AdoptionsKept.{no_row, node_or_not}
use Rattle.dr_world_model.proofs.AmongActs.{headline_holds_among}
use Rattle.dr_world_model.proofs.Picking.{in_any}
use Rattle.dr_world_tie.specs.Ties.{IsDeskOf}
use Rattle.dr_world_tie.specs.Foreign.{OthersHaveNone}
use Rattle.dr_world_tie.specs.ForeignWorlds.{OwnEnd, OwnWorld, ShowsOwn, own_beginning}
use Rattle.dr_world_tie.specs.ForeignWorlds.{without_node}
use Rattle.dr_world_tie.specs.OwnChanges.{OursCanTake, OursMayTakeAtFirst, OursTake}
use Rattle.dr_world_tie.specs.OwnChanges.{OwnChangesKeepTheClaims, OwnDeed, OwnDoes, OwnRunsThrough}
use Rattle.dr_world_tie.specs.OwnChanges.{OwnTakes}
use Rattle.dr_world_tie.proofs.Changes.{at_node, elsewhere, node_apart, reached_goes, taken}
use Rattle.dr_world_tie.proofs.Foreigners.{one_link, runs_on}
use Rattle.dr_world_tie.proofs.OwnRestarts.{restarts_alone}
use Rattle.dr_world_tie.proofs.OwnWorlds.{beginning_shown, one_step}

module _ (ours : Ours) (plan : Network) (certificate : Certificate) where
  -- none of its nodes is ours
  abbrev IsAway : Link → Type 0
  IsAway link = (ours link.caller ≡ false) × (ours link.receiver ≡ false)

  -- Acts lead to a world in which no link of these numbers is one of ours. The books are as they
  -- were.
  record Cleared (b : OwnWorld) (w : World) (all : List ℕ) : Type 0 where
    acts : List Act
    mid : World
    left : OwnWorld
    runs : RunsAmong ours plan w acts plan mid
    shows : ShowsOwn ours plan certificate left mid
    time : left.time ≡ b.time
    desks : (name : Text) → left.desks name ≡ b.desks name
    books : (name : Text) → mid.books name ≡ w.books name
    stay : (n : ℕ) (link : Link) → IsLink mid n link → IsLink w n link
    away : (n : ℕ) → Contains all n → (link : Link) → IsLink mid n link → IsAway link

  -- one number before others
  joined : (b between : OwnWorld) (w v : World) (number : ℕ) (more : List ℕ) (acts : List Act)
      → RunsAmong ours plan w acts plan v
      → between.time ≡ b.time
      → ((name : Text) → between.desks name ≡ b.desks name)
      → ((name : Text) → v.books name ≡ w.books name)
      → ((n : ℕ) (link : Link) → IsLink v n link → IsLink w n link)
      → ((link : Link) → IsLink v number link → IsAway link)
      → Cleared between v more
      → Cleared b w (number ∷ more)
  joined b between w v number more acts runs time desks books stay one r = record {
    acts = acts ++ r.acts;
    mid = r.mid;
    left = r.left;
    runs = runs_on ours acts r.acts plan plan plan w v r.mid runs r.runs;
    shows = r.shows;
    time = r.time ∙ time;
    desks = λ name. r.desks name ∙ desks name;
    books = λ name. r.books name ∙ books name;
    stay = λ n link here. stay n link (r.stay n link here);
    away = λ n among link here. elim (Contains-cons_cases number more n among) [
      | inl same ↦
          one link (subst (λ (m : ℕ). IsLink v m link) (sym same) (r.stay n link here))
      | inr behind ↦ r.away n behind link here
    ];
  }

  -- what can be cleared of the others, from any world
  abbrev Rest : List ℕ → Type 0
  Rest more = (b : OwnWorld) (w : World)
      → ShowsOwn ours plan certificate b w
      → OthersHaveNone ours w
      → Cleared b w more

  -- a node of the link starts anew
  one_restarts : (b : OwnWorld) (w : World) → ShowsOwn ours plan certificate b w
      → OthersHaveNone ours w
      → (number : ℕ) (more : List ℕ) (link : Link) → IsLink w number link
      → (node : Text) → ours node ≡ true
      → ((same_text link.caller node ≡ false) → (same_text link.receiver node ≡ false) → ⊥)
      → Rest more
      → Cleared b w (number ∷ more)
  one_restarts b w shows others number more link here node its of_it rest =
      let r = restarts_alone ours plan certificate b w shows others node its in
      let left : OwnWorld = record {
        time = b.time;
        desks = b.desks;
        ends = λ n. without_node node (b.ends n);
      } in
      joined b left w r.1 number more r.0 r.2 refl (λ name. refl) r.4
      (λ n l there. (r.5 n l there).0)
      (λ l there.
      (let was = r.5 number l there in
      let same : l ≡ link = one_link w number l link was.0 here in
      absurd (of_it
      (ap (λ (z : Link). same_text z.caller node) (sym same) ∙ was.1)
      (ap (λ (z : Link). same_text z.receiver node) (sym same) ∙ was.2))))
      (rest left r.1 r.3 (λ name away. r.4 name ∙ others name away))

  own_name : (name : Text) → same_text name name ≡ false → ⊥
  own_name name apart = false≢true (sym apart ∙ ties_itself texts name)

  -- where the link has a node of ours it starts anew
  one_cleared : (b : OwnWorld) (w : World) → ShowsOwn ours plan certificate b w
      → OthersHaveNone ours w
      → (number : ℕ) (more : List ℕ) (o : Option Link) → map_of.get w.links number ≡ o
      → Rest more
      → Cleared b w (number ∷ more)
  one_cleared b w shows others number more None at rest =
      joined b b w w number more [] (refl, refl) refl (λ name. refl) (λ name. refl)
      (λ n link here. here)
      (λ link here. (let f : None ≡ Some link = sym at ∙ here in absurd (cc f)))
      (rest b w shows others)
  one_cleared b w shows others number more (Some link) at rest =
      elim (cases_Bool (ours link.receiver)) [
        | inl its ↦ one_restarts b w shows others number more link at link.receiver its
            (λ caller receiver. own_name link.receiver receiver) rest
        | inr receiver ↦ elim (cases_Bool (ours link.caller)) [
          | inl its ↦ one_restarts b w shows others number more link at link.caller its
              (λ caller receiver. own_name link.caller caller) rest
          | inr caller ↦
              joined b b w w number more [] (refl, refl) refl (λ name. refl) (λ name. refl)
              (λ n l here. here)
              (λ l here.
              (let same : link ≡ l = one_link w number link l at here in
              subst IsAway same (caller, receiver)))
              (rest b w shows others)
        ]
      ]

  all_cleared : (all : List ℕ) (b : OwnWorld) (w : World)
      → ShowsOwn ours plan certificate b w
      → OthersHaveNone ours w
      → Cleared b w all
  all_cleared [] b w shows others = record {
    acts = [];
    mid = w;
    left = b;
    runs = (refl, refl);
    shows = shows;
    time = refl;
    desks = λ name. refl;
    books = λ name. refl;
    stay = λ n link here. here;
    away = λ n among link here. absurd (nothing_in_nil n among);
  }
  all_cleared (number ∷ more) b w shows others =
      one_cleared b w shows others number more (map_of.get w.links number) refl
      (λ c v shown none. all_cleared more c v shown none)

  -- ---- the plan is taken

  module _ (next : Network) (own : Certificate) (certified : IsCertified next own)
      (b new : OwnWorld) (w : World) (shown : ShowsOwn ours plan certificate b w)
      (others : OthersHaveNone ours w) (h : OursTake ours plan b next new) where
    cleared : Cleared b w (map_of.keys w.links)
    cleared = all_cleared (map_of.keys w.links) b w shown others

    abbrev v : World
    v = cleared.mid

    none_ours : (n : ℕ) (link : Link) → IsLink v n link → IsAway link
    none_ours n link here =
        let was = cleared.stay n link here in
        cleared.away n
        (in_any n (map_of.keys w.links) (sym (map_of.contains_key-keys w.links n) ∙ ap is_some was))
        link here

    desk_was : (name : Text) → ours name ≡ true → IsDeskOf v name (b.desks name)
    desk_was name its =
        subst (λ (d : Desk). IsDeskOf v name d) (cleared.desks name) (cleared.shows.desks name its)

    none_there : (name : Text) → ours name ≡ false → v.books name ≡ empty_book
    none_there name away = cleared.books name ∙ others name away

    stranger : (name : Text) → (HasNode plan name → ⊥) → v.books name ≡ empty_book
    stranger name none = elim (cases_Bool (ours name)) [
      | inl its ↦
          sym (desk_was name its).0 ∙ ap (λ (d : Desk). d.book) (h.may.strangers name none its)
      | inr away ↦ none_there name away
    ]

    no_row_there : (name uid to : Text) (row : Progress) → v.books name ≡ empty_book
        → map_of.get (v.books name).rows (uid, to) ≡ Some row
        → ⊥
    no_row_there name uid to row none at = no_row row
        (sym (map_of.get-empty pair_cmp (uid, to))
        ∙ (sym (ap (λ (k : Book). map_of.get k.rows (uid, to)) none) ∙ at))

    fit : (name uid to : Text) (row : Progress) (item : Instance)
        → map_of.get (v.books name).rows (uid, to) ≡ Some row
        → is_queued row ≡ true
        → map_of.get (v.books name).items uid ≡ Some item
        → Goes next item.key name to
    fit name uid to row item at queued has = elim (node_or_not plan name) [
      | inl is ↦ elim (cases_Bool (ours name)) [
        | inl its ↦
            let fits = subst (IsFit next name) (desk_was name its).0 (h.may.fit name is its) in
            reached_goes next item.key name to
            (node_apart next name certified.formed (h.may.stay name is its))
            (fits (uid, to) row item at queued has)
        | inr away ↦ absurd (no_row_there name uid to row (none_there name away) at)
      ]
      | inr none ↦ absurd (no_row_there name uid to row (stranger name none) at)
    ]

    -- the books then
    abbrev book_of : Text → Book
    book_of name = cond (ours name) (new.desks name).book empty_book

    book_own : (name : Text) → ours name ≡ true → book_of name ≡ (new.desks name).book
    book_own name its = ap (λ (c : Bool). cond c (new.desks name).book empty_book) its

    book_away : (name : Text) → ours name ≡ false → book_of name ≡ empty_book
    book_away name away = ap (λ (c : Bool). cond c (new.desks name).book empty_book) away

    abbrev turned : World
    turned = record {
      time = v.time;
      books = book_of;
      stood = book_of;
      armed = v.armed;
      links = map_of.empty;
      opened = v.opened;
    }

    may : MayTurn ours plan v next
    may = record {
      callers = λ n link here its. absurd (false≢true (sym (none_ours n link here).0 ∙ its));
      receivers = λ n link here its. absurd (false≢true (sym (none_ours n link here).1 ∙ its));
      unarmed = λ name is its. sym (desk_was name its).1 ∙ h.may.unarmed name is its;
      stay = h.may.stay;
      fit = fit;
      strangers = stranger;
    }

    turns : Turns ours plan v next turned
    turns = record {
      may = may;
      books = λ name is its.
          book_own name its
          ∙ (ap (λ (d : Desk). d.book) (h.desks name is its)
          ∙ ap (λ (k : Book). after Adoption k) (desk_was name its).0);
      joined = λ name none. elim (cases_Bool (ours name)) [
        | inl its ↦ book_own name its ∙ ap (λ (d : Desk). d.book) (h.joined name none its)
        | inr away ↦ book_away name away
      ];
      others = book_away;
      stood = refl;
      links = refl;
      time = refl;
      armed = refl;
      opened = refl;
    }

    armed_alike : (name : Text) → ours name ≡ true
        → (new.desks name).armed ≡ set.contains v.armed name
    armed_alike name its = elim (node_or_not plan name) [
      | inl is ↦
          ap (λ (d : Desk). d.armed) (h.desks name is its)
          ∙ sym (sym (desk_was name its).1 ∙ h.may.unarmed name is its)
      | inr none ↦
          ap (λ (d : Desk). d.armed) (h.joined name none its)
          ∙ sym (sym (desk_was name its).1
          ∙ ap (λ (d : Desk). d.armed) (h.may.strangers name none its))
    ]

    no_end : (i : ℕ) (e : OwnEnd) → new.ends i ≡ Some e → ⊥
    no_end i e there = (let f : None ≡ Some e = sym (h.ends i) ∙ there in cc f)

    turned_shown : ShowsOwn ours next own new turned
    turned_shown = record {
      time = cleared.shows.time ∙ (cleared.time ∙ sym h.time);
      desks = λ name its. (sym (book_own name its), armed_alike name its);
      numbers = λ i. None;
      own = λ i e there. absurd (no_end i e there);
      ends = λ i e there. absurd (no_end i e there);
      apart = λ i j n at also. absurd (cc at);
      known = λ i n at. absurd (cc at);
      free = λ i none. refl;
      called = λ n link there its.
          (let f : None ≡ Some link = sym (map_of.get-empty nat_cmp n) ∙ there in absurd (cc f));
    }

    pub plan_is_taken : (acts : List Act) × (u : World)
        × RunsAmong ours plan w acts next u
        × ShowsOwn ours next own new u
        × (u.links ≡ map_of.empty)
    plan_is_taken = (
      cleared.acts ++ Turn next ∷ [],
      turned,
      runs_on ours cleared.acts (Turn next ∷ []) plan plan next w v turned cleared.runs
          ((certified.formed, certified.sound), (turned, turns, (refl, refl))),
      turned_shown,
      refl,
    )

-- ---- any deeds

module _ (ours : Ours) (first : Network) (its : Certificate) (sound : IsCertified first its) where
  any_deeds : (deeds : List OwnDeed) (plan last : Network) (certificate own : Certificate)
      (b new : OwnWorld) (before : List Act) (w : World)
      → IsCertified plan certificate
      → RunsAmong ours first start before plan w
      → ShowsOwn ours plan certificate b w
      → OwnRunsThrough ours plan certificate b deeds last own new
      → (acts : List Act) × (v : World)
      × RunsAmong ours first start acts last v
      × ShowsOwn ours last own new v
  any_deeds [] plan last certificate own b new before w certified runs shows (p, c, o) = (
    before,
    w,
    subst (λ (q : Network). RunsAmong ours first start before q w) (sym p) runs,
    subst (λ (q : Network × (Certificate × OwnWorld)). ShowsOwn ours q.0 q.1.0 q.1.1 w)
        (λ j. (sym p j, (sym c j, sym o j))) shows,
  )
  any_deeds (OwnDoes step ∷ deeds) plan last certificate own b new before w certified runs shows
      (mid, h, rest) =
      let claims : HeadlineAmong ours plan w =
      headline_holds_among ours first sound.sound before plan w runs in
      let one = one_step ours plan certificate certified b w shows claims.others step mid h in
      any_deeds deeds plan last certificate own mid new (before ++ one.0) one.1 certified
      (runs_on ours before one.0 first plan plan start w one.1 runs one.2) one.3 rest
  any_deeds (OwnTakes next sealed ∷ deeds) plan last certificate own b new before w certified runs
      shows (mid, proper, h, rest) =
      let claims : HeadlineAmong ours plan w =
      headline_holds_among ours first sound.sound before plan w runs in
      let one =
      plan_is_taken ours plan certificate next sealed proper b mid w shows claims.others h in
      any_deeds deeds next last sealed own mid new (before ++ one.0) one.1 proper
      (runs_on ours before one.0 first plan next start w one.1 runs one.2) one.3 rest

pub own_changes_keep_the_claims : OwnChangesKeepTheClaims
own_changes_keep_the_claims ours plan certificate certified deeds last its b runs =
    let all = any_deeds ours plan certificate certified deeds plan last certificate its
    own_beginning b [] start certified (refl, refl) (beginning_shown ours plan certificate) runs in (
      all.0,
      all.1,
      all.2,
      all.3,
      headline_holds_among ours plan certified.sound all.0 last all.1 all.2,
    )

-- ---- laws

pub ours_can_take : OursCanTake
ours_can_take ours plan next b may = (
  record {
    time = b.time;
    desks = λ name. taken plan name (node_or_not plan name) (b.desks name).book;
    ends = λ n. None;
  },
  record {
    may = may;
    time = refl;
    ends = λ n. refl;
    desks = λ name is its. at_node plan name (node_or_not plan name) (b.desks name).book is;
    joined = λ name none its.
        elsewhere plan name (node_or_not plan name) (b.desks name).book none;
  },
)

pub ours_may_take_at_first : OursMayTakeAtFirst
ours_may_take_at_first ours plan next stay = record {
  unarmed = λ name is its. refl;
  stay = stay;
  fit = λ name is its at row item h undone has.
      absurd (no_row row (sym (map_of.get-empty pair_cmp at) ∙ h));
  strangers = λ name none its. refl;
}
