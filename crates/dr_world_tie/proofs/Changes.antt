-- A change of plan in the world of bytes is an adoption in the message world beside it.
use Rattle.std.proofs.Common.{◌≡◌, ℕ, Bool, true, false, List, [], ◌∷◌, ◌++◌, Option, Some, None, refl, sym, ap, subst, ◌∙◌, inl, inr, ◌⊎◌}
use Rattle.std.proofs.Math.Logic.{∥∥₁_map, ∥∥₁_elim, ∥∥₁_prop}
use Rattle.std.proofs.lemmas.Bool.{false≢true}
use Rattle.std.specs.Prelude.{◌≢◌}
use Rattle.std.specs.Ordering.{nat_cmp}
use Rattle.std.specs.FinMap as map_of
use Rattle.std.specs.FinMap.{FinMap}
use Rattle.std.specs.FinSet as set
use Rattle.dr_base.specs.Texts.{Text}
use Rattle.dr_route.specs.Routes.{local}
use Rattle.dr_route.specs.declared.key.Key.{Key}
use Rattle.dr_plan_model.specs.Networks.{Network}
use Rattle.dr_plan_model.specs.Plans.{IsWellFormed}
use Rattle.dr_plan_model.specs.Walks.{Sends, IsWalk, last_place, IsReached, Goes}
use Rattle.dr_plan_model.proofs.WalksAlike.{not_known_local}
use Rattle.dr_plan_sound.specs.declared.certificate.Certificate.{Certificate}
use Rattle.dr_site.specs.Sites.{IsCertified}
use Rattle.dr_ulstate.specs.declared.table.State.{State}
use Rattle.dr_ulstate.specs.declared.table.State.TheVariants.{Sta2, Sta5, Sta6}
use Rattle.dr_ulstate.specs.Phases.{state_of}
use Rattle.dr_ledger.specs.declared.item.Instance.{Instance}
use Rattle.dr_ledger.specs.declared.item.Progress.{Progress}
use Rattle.dr_ledger.specs.Adopting.{IsFit}
use Rattle.dr_ledger.specs.Books.{Book, Adoption, after, empty_book, is_queued}
use Rattle.dr_ledger.specs.Pairs.{pair_cmp}
use Rattle.dr_session.specs.declared.ends.Core.{Core}
use Rattle.dr_session.specs.Ends.{is_gone}
use Rattle.dr_session.specs.Ledgers.{Desk, desk}
use Rattle.dr_world_model.specs.Worlds.{World, Link, Stage, Asking, Answering, Rejecting, Open, Storing, Replying, Gone, start}
use Rattle.dr_world_model.specs.Steps.{IsLink}
use Rattle.dr_world_model.specs.Events.{HasNode}
use Rattle.dr_world_model.specs.Runs.{Action, Occurs, Adopt, Adopts, Runs}
use Rattle.dr_world_model.proofs.AdoptionsKept.{no_row, node_or_not}
use Rattle.dr_world_model.proofs.FromSafety.{headline_holds}
use Rattle.dr_world_model.proofs.Lasting.{kept_stays_kept}
use Rattle.dr_world_tie.specs.Channels.{Channel, IsCaller, IsReceiver}
use Rattle.dr_world_tie.specs.ByteWorlds.{ByteWorld, beginning, WorldStep, StepNote, is_over}
use Rattle.dr_world_tie.specs.Shown.{ShowsWorld, ShowsAt, Comes}
use Rattle.dr_world_tie.specs.Changes.{TakesPlan, PlansAreAdopted, Deed, Does, Takes, RunsThrough, ChangesKeepTheHeadline, WhatIsKeptStaysThrough, PlansCanBeTaken, NewWorldsMayTake, WhatIsTakenIsOne}
use Rattle.dr_world_tie.proofs.Others.{state_is, shown_channel}
use Rattle.dr_world_tie.proofs.World.{world_steps, beside_beginning}

-- ---- an end that is over is off

not_over : (c : Core) (state : State) → state_of c.phase ≡ state → is_gone state ≡ false → is_over c ≡ true → ⊥
not_over c state e f over = false≢true (sym f ∙ (sym (ap is_gone e) ∙ over))

pub caller_off : (on : Bool) (stage : Stage) (receiver : Text) (c : Core) → IsCaller on stage receiver c → is_over c ≡ true → on ≡ false
caller_off false stage receiver c h over = refl
caller_off true Asking receiver c h over = absurd (not_over c Sta5 (state_is c true Sta5 h.0) refl over)
caller_off true (Answering accepted) receiver c h over = absurd (not_over c Sta5 (state_is c true Sta5 h.0) refl over)
caller_off true Rejecting receiver c h over = absurd (not_over c Sta5 (state_is c true Sta5 h.0) refl over)
caller_off true (Open accepted) receiver c h over = absurd (not_over c Sta6 (state_is c true Sta6 h.0.0) refl over)
caller_off true (Storing accepted item) receiver c h over = absurd (not_over c Sta6 (state_is c true Sta6 h.0.0) refl over)
caller_off true (Replying accepted item status) receiver c h over = absurd (not_over c Sta6 (state_is c true Sta6 h.0.0) refl over)
caller_off true Gone receiver c h over = absurd h

pub receiver_off : (on : Bool) (stage : Stage) (caller : Text) (c : Core) → IsReceiver on stage caller c → is_over c ≡ true → on ≡ false
receiver_off false stage caller c h over = refl
receiver_off true Asking caller c h over = absurd (not_over c Sta2 (state_is c false Sta2 h.0) refl over)
receiver_off true (Answering accepted) caller c h over = absurd (not_over c Sta6 (state_is c false Sta6 h.0.0.0) refl over)
receiver_off true Rejecting caller c h over = absurd h
receiver_off true (Open accepted) caller c h over = absurd (not_over c Sta6 (state_is c false Sta6 h.0.0.0) refl over)
receiver_off true (Storing accepted item) caller c h over = absurd (not_over c Sta6 (state_is c false Sta6 h.0.0) refl over)
receiver_off true (Replying accepted item status) caller c h over = absurd (not_over c Sta6 (state_is c false Sta6 h.0.0.0) refl over)
receiver_off true Gone caller c h over = absurd h

-- ---- what comes from a node was sent by it

-- a walk of one step at least ends by a step from the last node but one
last_step : (plan : Network) (key : Key) (over : List Text) (caller name first : Text) (x y : Text) → IsWalk plan key caller name (first ∷ over) → last_place caller name (first ∷ over) ≡ (x, y) →
    (c : Text) × (before : List Text) × IsWalk plan key caller name before × (last_place caller name before ≡ (c, x)) × Sends plan x c key y
last_step plan key [] caller name first x y walk is =
    let from : name ≡ x = ap (λ (p : Text × Text). p.0) is in
    let to : first ≡ y = ap (λ (p : Text × Text). p.1) is in
    (caller, [], tt, ap (λ (n : Text). (caller, n)) from, subst (λ (p : Text × Text). Sends plan p.0 caller key p.1) (λ j. (from j, to j)) walk.0)
last_step plan key (next ∷ over) caller name first x y walk is =
    let s = last_step plan key over name first next x y walk.1 is in
    (s.0, first ∷ s.1, (walk.0, s.2), s.3, s.4)

pub reached_goes : (plan : Network) (key : Key) (name to : Text) → name ≢ local → IsReached plan key name to → Goes plan key name to
reached_goes plan key name to apart r = by_over r.1 r.3 r.4
  where
    by_over : (over : List Text) → IsWalk plan key local r.0 over → last_place local r.0 over ≡ (name, to) → Goes plan key name to
    by_over [] walk is = absurd (apart (sym (ap (λ (p : Text × Text). p.0) is)))
    by_over (first ∷ over) walk is =
        let s = last_step plan key over local r.0 first name to walk is in
        (s.0, (r.0, s.1, r.2, s.2, s.3), s.4)

pub node_apart : (plan : Network) (name : Text) → IsWellFormed plan → HasNode plan name → name ≢ local
node_apart plan name formed node e = not_known_local plan formed (node.0, node.1.0, node.1.1 ∙ e)

-- ---- a plan that is taken

no_links : (number : ℕ) (next : Network) (own : Certificate) → ShowsAt next own (map_of.get (map_of.empty {R = nat_cmp}) number) (map_of.get (map_of.empty {R = nat_cmp}) number)
no_links number next own =
    subst (λ (o : Option Channel). ShowsAt next own o (map_of.get (map_of.empty {R = nat_cmp}) number)) (sym (map_of.get-empty nat_cmp number))
    (subst (λ (o : Option Link). ShowsAt next own None o) (sym (map_of.get-empty nat_cmp number)) tt)

module _ (plan next : Network) (certificate own : Certificate) (certified : IsCertified next own) (b new : ByteWorld) (w : World) (s : ShowsWorld plan certificate b w) (t : TakesPlan plan b next new) where
  abbrev adopted : World
  adopted = record {
    time = w.time;
    books = λ name. (new.desks name).book;
    stood = λ name. (new.desks name).book;
    armed = w.armed;
    links = map_of.empty;
    opened = w.opened;
  }

  off : (number : ℕ) (link : Link) → IsLink w number link → (link.caller_connected ≡ false) × (link.receiver_connected ≡ false)
  off number link here =
      let k = shown_channel plan certificate b w number link s here in
      let o = t.may.over number k.0 k.1 in (
        caller_off link.caller_connected link.stage link.receiver k.0.caller.core k.2.caller o.0,
        receiver_off link.receiver_connected link.stage link.caller k.0.receiver.core k.2.receiver o.1,
      )

  stranger : (name : Text) → (HasNode plan name → ⊥) → w.books name ≡ empty_book
  stranger name none = sym (s.desks name).0 ∙ ap (λ (d : Desk). d.book) (t.may.strangers name none)

  unarmed : (name : Text) → HasNode plan name → set.contains w.armed name ≡ false
  unarmed name is = sym (s.desks name).1 ∙ t.may.unarmed name is

  fit : (name uid to : Text) (row : Progress) (item : Instance) → map_of.get (w.books name).rows (uid, to) ≡ Some row → is_queued row ≡ true → map_of.get (w.books name).items uid ≡ Some item → Goes next item.key name to
  fit name uid to row item at queued has = elim (node_or_not plan name) [
    | inl is ↦
        let fits = subst (IsFit next name) (s.desks name).0 (t.may.fit name is) in
        reached_goes next item.key name to (node_apart next name certified.formed (t.may.stay name is)) (fits (uid, to) row item at queued has)
    | inr none ↦ absurd (no_row row (sym (map_of.get-empty pair_cmp (uid, to)) ∙ (sym (ap (λ (k : Book). map_of.get k.rows (uid, to)) (stranger name none)) ∙ at)))
  ]

  adopts : Adopts plan w next adopted
  adopts = record {
    may = record { off = off; unarmed = unarmed; stay = t.may.stay; fit = fit; strangers = stranger };
    books = λ name is. ap (λ (d : Desk). d.book) (t.desks name is) ∙ ap (λ (k : Book). after Adoption k) (s.desks name).0;
    joined = λ name none. ap (λ (d : Desk). d.book) (t.joined name none);
    stood = refl;
    links = refl;
    time = refl;
    armed = refl;
    opened = refl;
  }

  armed_alike : (name : Text) → (new.desks name).armed ≡ set.contains w.armed name
  armed_alike name = elim (node_or_not plan name) [
    | inl is ↦ ap (λ (d : Desk). d.armed) (t.desks name is) ∙ sym (unarmed name is)
    | inr none ↦ ap (λ (d : Desk). d.armed) (t.joined name none) ∙ sym (sym (s.desks name).1 ∙ ap (λ (d : Desk). d.armed) (t.may.strangers name none))
  ]

  shown : ShowsWorld next own new adopted
  shown = record {
    time = s.time ∙ sym t.time;
    opened = s.opened ∙ sym t.opened;
    desks = λ name. (refl, armed_alike name);
    links = λ number. subst (λ (m : FinMap nat_cmp Channel). ShowsAt next own (map_of.get m number) (map_of.get (map_of.empty {R = nat_cmp}) number)) (sym t.links) (no_links number next own);
  }

pub plans_are_adopted : PlansAreAdopted
plans_are_adopted plan next certificate own certified b new w s t =
    (adopted plan next certificate own certified b new w s t, adopts plan next certificate own certified b new w s t, shown plan next certificate own certified b new w s t)

-- ---- runs

runs_then : (actions more : List Action) (first mid last : Network) (w v u : World) → Runs first w actions mid v → Runs mid v more last u → Runs first w (actions ++ more) last u
runs_then [] more first mid last w v u h k = subst (λ (p : Network × World). Runs p.0 p.1 more last u) (λ j. (h.0 j, h.1 j)) k
runs_then (Occurs event ∷ actions) more first mid last w v u h k = (h.0, h.1, runs_then actions more first mid last h.0 v u h.2 k)
runs_then (Adopt next ∷ actions) more first mid last w v u h k = (h.0, (h.1.0, h.1.1, runs_then actions more next mid last h.1.0 v u h.1.2 k))

-- a world beside the bytes, to which actions lead from this one
abbrev IsFrom : Network → World → Network → Certificate → ByteWorld → Type 0
IsFrom first v plan certificate b = (w : World) × ShowsWorld plan certificate b w × ((actions : List Action) × Runs first v actions plan w)

step_from : (first : Network) (v : World) (plan : Network) (b : ByteWorld) (step : WorldStep) (note : StepNote) (w u : World) → (actions : List Action) × Runs first v actions plan w → Comes plan b step note w u → (actions : List Action) × Runs first v actions plan u
step_from first v plan b step note w u by (inl same) = subst (λ (z : World). (actions : List Action) × Runs first v actions plan z) (sym same.0) by
step_from first v plan b step note w u by (inr (e, named, h)) = (by.0 ++ Occurs e ∷ [], runs_then by.0 (Occurs e ∷ []) first plan plan v w u by.1 (u, h, (refl, refl)))

through_from : (first : Network) (v : World) (deeds : List Deed) (plan : Network) (certificate : Certificate) (last : Network) (its : Certificate) (b new : ByteWorld) → IsCertified plan certificate → ∥ IsFrom first v plan certificate b ∥₁
    → RunsThrough plan certificate b deeds last its new → ∥ (IsFrom first v last its new × IsCertified last its) ∥₁
through_from first v [] plan certificate last its b new certified from h =
    let P : Network × (Certificate × ByteWorld) → Type 0 = λ p. ∥ (IsFrom first v p.0 p.1.0 p.1.1 × IsCertified p.0 p.1.0) ∥₁ in
    subst P (λ j. (sym h.0 j, (sym h.1 j, sym h.2 j))) (∥∥₁_map from (λ f. (f, certified)))
through_from first v (Does step ∷ deeds) plan certificate last its b new certified from (note, mid, h, rest) =
    through_from first v deeds plan certificate last its mid new certified (∥∥₁_elim from ∥∥₁_prop (λ f.
    ∥∥₁_map (world_steps plan certificate certified b mid f.0 step note f.1 h) (λ r. (r.0, r.2, step_from first v plan b step note f.0 r.0 f.2 r.1)))) rest
through_from first v (Takes next own ∷ deeds) plan certificate last its b new certified from (mid, proper, h, rest) =
    through_from first v deeds next own last its mid new proper (∥∥₁_map from (λ f.
    let a = plans_are_adopted plan next certificate own proper b mid f.0 f.1 h in
    (a.0, a.2, (f.2.0 ++ Adopt next ∷ [], runs_then f.2.0 (Adopt next ∷ []) first plan next v f.0 a.0 f.2.1 ((proper.formed, proper.sound), (a.0, a.1, (refl, refl)))))
    )) rest

pub certified_through : (deeds : List Deed) (plan last : Network) (certificate its : Certificate) (b new : ByteWorld) → IsCertified plan certificate → RunsThrough plan certificate b deeds last its new → IsCertified last its
certified_through [] plan last certificate its b new certified h = (let P : Network × Certificate → Type 0 = λ p. IsCertified p.0 p.1 in subst P (λ j. (sym h.0 j, sym h.1 j)) certified)
certified_through (Does step ∷ deeds) plan last certificate its b new certified h = certified_through deeds plan last certificate its h.1 new certified h.3
certified_through (Takes next own ∷ deeds) plan last certificate its b new certified h = certified_through deeds next last own its h.0 new h.1 h.3

starts : (plan : Network) (certificate : Certificate) → IsFrom plan start plan certificate beginning
starts plan certificate = (start, beside_beginning plan certificate, ([], (refl, refl)))

pub changes_keep_the_headline : ChangesKeepTheHeadline
changes_keep_the_headline plan certificate certified deeds last its b h =
    ∥∥₁_map (through_from plan start deeds plan certificate last its beginning b certified ∣ starts plan certificate ∣₁ h)
    (λ g. (g.0.0, g.0.1, g.0.2, headline_holds plan certified.sound g.0.2.0 last g.0.0 g.0.2.1))

pub kept_stays_through : WhatIsKeptStaysThrough
kept_stays_through plan certificate certified deeds more mid last own its b c h k =
    ∥∥₁_elim (through_from plan start deeds plan certificate mid own beginning b certified ∣ starts plan certificate ∣₁ h) ∥∥₁_prop (λ g.
    ∥∥₁_map (through_from mid g.0.0 more mid own last its b c g.1 ∣ (g.0.0, g.0.1, ([], (refl, refl))) ∣₁ k)
    (λ z. (g.0.0, z.0.0, g.0.1, z.0.1, kept_stays_kept plan certified.sound g.0.2.0 mid g.0.0 g.0.2.1 z.0.2.0 last z.0.0 z.0.2.1)))

-- ---- laws

module _ (plan : Network) (name : Text) where
  abbrev pub taken : HasNode plan name ⊎ (HasNode plan name → ⊥) → Book → Desk
  taken (inl is) k = desk (after Adoption k) false
  taken (inr none) k = desk empty_book false

  pub at_node : (o : HasNode plan name ⊎ (HasNode plan name → ⊥)) (k : Book) → HasNode plan name → taken o k ≡ desk (after Adoption k) false
  at_node (inl is) k here = refl
  at_node (inr none) k here = absurd (none here)

  pub elsewhere : (o : HasNode plan name ⊎ (HasNode plan name → ⊥)) (k : Book) → (HasNode plan name → ⊥) → taken o k ≡ desk empty_book false
  elsewhere (inl is) k none = absurd (none is)
  elsewhere (inr none) k none_here = refl

pub plans_can_be_taken : PlansCanBeTaken
plans_can_be_taken plan next b may = (
  record {
    time = b.time;
    desks = λ name. taken plan name (node_or_not plan name) (b.desks name).book;
    links = map_of.empty;
    opened = b.opened;
  },
  record {
    may = may;
    time = refl;
    opened = refl;
    links = refl;
    desks = λ name is. at_node plan name (node_or_not plan name) (b.desks name).book is;
    joined = λ name none. elsewhere plan name (node_or_not plan name) (b.desks name).book none;
  },
)

pub new_worlds_may_take : NewWorldsMayTake
new_worlds_may_take plan next stay = record {
  over = λ number k h. absurd (no_row k (sym (map_of.get-empty nat_cmp number) ∙ h));
  unarmed = λ name is. refl;
  stay = stay;
  fit = λ name is at row item h undone has. absurd (no_row row (sym (map_of.get-empty pair_cmp at) ∙ h));
  strangers = λ name none. refl;
}

pub what_is_taken_is_one : WhatIsTakenIsOne
what_is_taken_is_one plan next b one other h k = (
  h.time ∙ sym k.time,
  h.links ∙ sym k.links,
  λ name. elim (node_or_not plan name) [
    | inl is ↦ h.desks name is ∙ sym (k.desks name is)
    | inr none ↦ h.joined name none ∙ sym (k.joined name none)
  ],
)
