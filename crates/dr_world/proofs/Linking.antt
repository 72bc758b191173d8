-- A call at one end, and what it writes, as a world's contents show it.
use Rattle.std.proofs.Common.{◌≡◌, ℕ, Bool, cond, List, Option, None, Some, Ok, Err, refl, sym, ap, subst, ◌∙◌}
use Rattle.std.specs.Option.{option_map}
use Rattle.std.specs.Ordering.{nat_cmp}
use Rattle.std.specs.Cmp.{eq_by_cmp_equiv}
use Rattle.std.specs.FinMap as map
use Rattle.std.specs.BTreeMap as tree
use Rattle.std.specs.BTreeMap.{BTreeMap, is_at}
use Rattle.dr_base.specs.Texts.{Text, text_cmp}
use Rattle.dr_plan_model.specs.Networks.{Network}
use Rattle.dr_plan_sound.specs.declared.certificate.Certificate.{Certificate}
use Rattle.dr_site.specs.Parts.{Part}
use Rattle.dr_site.specs.Sites.{IsCertified}
use Rattle.dr_ledger.specs.declared.ledger.Ledger.{Ghosts}
use Rattle.dr_session.specs.declared.ends.LinkAction.{LinkAction}
use Rattle.dr_session.specs.declared.ends.Input.TheVariants as input
use Rattle.dr_session.specs.declared.ends.Heard.TheVariants as heard
use Rattle.dr_session.specs.Ledgers.{Desk}
use Rattle.dr_node.specs.declared.event.LinkEvent.TheVariants as event
use Rattle.dr_node.specs.declared.fault.NodeFault.TheVariants.{LinkUnknown}
use Rattle.dr_node.specs.declared.links.LinkSide.{LinkSide as NodeSide}
use Rattle.dr_node.specs.declared.node.Node.{Node}
use Rattle.dr_node.specs.Sides.{Sides, EndDeed, Does, DoesIn, with_end}
use Rattle.dr_world_model.proofs.Lookups.{numbers}
use Rattle.dr_world_tie.specs.Channels.{Channel}
use Rattle.dr_world_tie.specs.ByteWorlds.{ByteWorld, Side, Requestor, Acceptor, WorldStep, Push, Abort, Release, Late, Steps, Skipped as WasSkipped}
use Rattle.dr_world_tie.specs.ByteWorlds as bytes
use Rattle.dr_world.specs.declared.steps.StepNote.{StepNote}
use Rattle.dr_world.specs.declared.steps.StepNote.TheVariants.{Skipped}
use Rattle.dr_world.specs.declared.wires.Wires.{Wires}
use Rattle.dr_world.specs.declared.world.World.{World}
use Rattle.dr_world.specs.Shows.{Contents, ShowsBytes, LinkedAt, IsSeated, Becomes, with_seat, with_side, with_wires, with_end_done}
use Rattle.dr_world.specs.Ends.{IsDoneAtEnd, AreWritten, name_at, note_by}
use Rattle.dr_world.specs.Nodes.{IsDoneAt, AllStandIn, seat_of, seats_of, event_at, push_at}
use Rattle.dr_world.specs.Whole.{Meets, MeetsIn, StepsTo, contents, noted}
use Rattle.dr_world.proofs.Asking.{met_at, seated_after, aborted, released, delayed, pushed}

-- ---- the contents after a call

module _ {L : Type 0} {l : Ghosts L} (does : Part → EndDeed Desk) (old new : World L l) (link taken : ℕ) (side : Side) (w v : Wires) (acts : List LinkAction) (wired : Some w ≡ tree.get nat_cmp old.wires link)
    (updates : (q : ℕ) → tree.get nat_cmp new.wires q ≡ cond (is_at (nat_cmp link) q) (Some v) (tree.get nat_cmp old.wires q)) (time : new.time ≡ old.time) (opened : new.opened ≡ old.opened) (written : AreWritten side taken acts w v) where
  wires_at : (q : ℕ) → tree.get nat_cmp new.wires q ≡ with_wires (contents old).wires link v q
  wires_at q = updates q ∙ ap (λ (b : Bool). cond b (Some v) (tree.get nat_cmp old.wires q)) ((eq_by_cmp_equiv numbers.total).symm link q)

  contents_are : (n : Node L l) (own : NodeSide) (sides : Sides) (end : Rattle.dr_session.specs.Ends.Terminal) (t : Desk) → sides ≡ map.insert n.links link (with_end own end)
      → ((q : Text) → seats_of new.nodes q ≡ with_seat (seats_of old.nodes) (name_at side w) (record { site = l.site n.desk.ledger; sides = sides; desk = t }) q)
      → contents new ≡ with_end_done (contents old) (name_at side w) (seat_of n) link (with_end own end) t v
  contents_are n own sides end t sides_are seats =
      let at : (q : Text) → seats_of new.nodes q ≡ with_seat (seats_of old.nodes) (name_at side w) (with_side (seat_of n) link (with_end own end) t) q = λ q.
      seats q ∙ ap (λ (m : Sides). with_seat (seats_of old.nodes) (name_at side w) (record { site = l.site n.desk.ledger; sides = m; desk = t }) q) sides_are in
      λ i. record { now = (time i).passed; opened = opened i; seats = λ q. at q i; wires = λ q. wires_at q i }

  by_side : (n : Node L l) → tree.get text_cmp old.nodes (name_at side w) ≡ Some n → (sides : Sides) (t : Desk) (o : Option NodeSide) → map.get n.links link ≡ o → DoesIn (does (l.site n.desk.ledger)) old.time.passed link o n.links (seat_of n).desk (Ok acts) sides t
      → ((q : Text) → seats_of new.nodes q ≡ with_seat (seats_of old.nodes) (name_at side w) (record { site = l.site n.desk.ledger; sides = sides; desk = t }) q) → IsDoneAtEnd does taken (contents old) link side acts (contents new)
  by_side n is sides t None none h seats = absurd (no_fault acts h.0)
    where
      no_fault : (xs : List LinkAction) → Ok xs ≡ Err LinkUnknown → ⊥
      no_fault xs e = cc
  by_side n is sides t (Some own) has h seats = record {
    wires = w;
    after = v;
    wired = sym wired;
    seat = seat_of n;
    seated = ap (option_map seat_of) is;
    own = own;
    has = has;
    end = h.0;
    desk = t;
    does_it = h.1;
    written = written;
    is = contents_are n own sides h.0 t h.2 seats;
  }

  pub done_of : (now : ℕ) → now ≡ old.time.passed → (h : IsDoneAt does (name_at side w) link now old.nodes acts new.nodes) → AllStandIn new.nodes → IsDoneAtEnd does taken (contents old) link side acts (contents new)
  done_of now at h all =
      let d = h.3 all in
      let D : ℕ → Type 0 = λ m. Does (does (l.site h.0.desk.ledger)) m link h.0.links (seat_of h.0).desk (Ok acts) d.0 d.1 in
      by_side h.0 h.1 d.0 d.1 (map.get h.0.links link) refl (subst D at d.2) d.3

-- the same, as the call has it
pub done_named : {L : Type 0} {l : Ghosts L} (does : Part → EndDeed Desk) (old new : World L l) (link : ℕ) (side : Side) (w v : Wires) (acts written_acts noted_acts : List LinkAction) → written_acts ≡ acts → noted_acts ≡ acts → Some w ≡ tree.get nat_cmp old.wires link
    → ((q : ℕ) → tree.get nat_cmp new.wires q ≡ cond (is_at (nat_cmp link) q) (Some v) (tree.get nat_cmp old.wires q)) → new.time ≡ old.time → new.opened ≡ old.opened → AreWritten side 0 written_acts w v
    → (name : Text) → name ≡ name_at side w → (now : ℕ) → now ≡ old.time.passed → IsDoneAt does name link now old.nodes acts new.nodes → (note : StepNote) → noted note ≡ note_by noted_acts → Meets does link side old note new
done_named does old new link side w v acts written_acts noted_acts e f wired updates time opened written name named_so now at h note noted_so =
    let W : List LinkAction → Type 0 = λ a. AreWritten side 0 a w v in
    let D : Text → Type 0 = λ q. IsDoneAt does q link now old.nodes acts new.nodes in
    let P : Option Wires → Type 0 = λ o. MeetsIn does o link side old note new in
    let d : IsDoneAt does (name_at side w) link now old.nodes acts new.nodes = subst D named_so h in
    subst P wired (d.2, λ all. (acts, noted_so ∙ ap note_by f, done_of does old new link 0 side w v acts wired updates time opened (subst W e written) now at d all))

pub unmet : {L : Type 0} {l : Ghosts L} (does : Part → EndDeed Desk) (w : World L l) (wires : BTreeMap ℕ Wires) (link : ℕ) (side : Side) → None ≡ tree.get nat_cmp w.wires link → wires ≡ w.wires
    → Meets does link side w Skipped (record { alloc = w.alloc; time = w.time; opened = w.opened; nodes = w.nodes; wires = wires; lost = w.lost })
unmet {L} {l} does w wires link side none same =
    let new : World L l = record { alloc = w.alloc; time = w.time; opened = w.opened; nodes = w.nodes; wires = wires; lost = w.lost } in
    let P : Option Wires → Type 0 = λ o. MeetsIn does o link side w Skipped new in
    subst P none (refl, ap (λ (m : BTreeMap ℕ Wires). contents (let v : World L l = record { alloc = w.alloc; time = w.time; opened = w.opened; nodes = w.nodes; wires = m; lost = w.lost } in v)) same, refl)

-- ---- as steps

-- what no wires are of is no channel
pub unlinked : (c : Contents) (b : ByteWorld) → ShowsBytes c b → (number : ℕ) → c.wires number ≡ None → map.get b.links number ≡ None
unlinked c b s number none = by_get (map.get b.links number) refl (subst (λ (o : Option Wires). LinkedAt c.seats number o (map.get b.links number)) none (s.links number))
  where
    by_get : (o : Option Channel) → map.get b.links number ≡ o → LinkedAt c.seats number None (map.get b.links number) → map.get b.links number ≡ None
    by_get None e h = e
    by_get (Some k) e h = absurd (subst (λ (o : Option Channel). LinkedAt c.seats number None o) e h)

module _ {L : Type 0} {l : Ghosts L} (old new : World L l) (note : StepNote) (does : Part → EndDeed Desk) (link : ℕ) (side : Side) (step : WorldStep)
    (skips : (plan : Network) (certificate : Certificate) (b : ByteWorld) → map.get b.links link ≡ None → Steps plan certificate b step WasSkipped b)
    (steps : (plan : Network) (certificate : Certificate) → IsCertified plan certificate → (c : Contents) (b : ByteWorld) → IsSeated plan certificate c.seats → ShowsBytes c b → (acts : List LinkAction) (after : Contents) → IsDoneAtEnd does 0 c link side acts after
    → Becomes plan certificate b step (note_by acts) after) where
  met_in : (o : Option Wires) → tree.get nat_cmp old.wires link ≡ o → MeetsIn does o link side old note new → StepsTo step old note new
  met_in None none h = (
    (λ all. (let P : BTreeMap Text (Node L l) → Type 0 = λ m. AllStandIn m in subst P h.2 all)),
    λ plan certificate certified b s shown all.
        let b_is : Becomes plan certificate b step WasSkipped (contents old) = (b, skips plan certificate b (unlinked (contents old) b shown link none), shown) in (
          subst (λ (x : Contents). IsSeated plan certificate x.seats) (sym h.1) s,
          ∣ subst (λ (n : StepNote). Becomes plan certificate b step (noted n) (contents new)) (sym h.0) (subst (λ (x : Contents). Becomes plan certificate b step WasSkipped x) (sym h.1) b_is) ∣₁,
        ),
  )
  met_in (Some w) has h = (
    h.0,
    λ plan certificate certified b s shown all.
        let d = h.1 all in (
          seated_after plan certificate certified (contents old) b s shown does 0 link d.0 (contents new) side d.2,
          ∣ subst (λ (n : bytes.StepNote). Becomes plan certificate b step n (contents new)) (sym d.1) (steps plan certificate certified (contents old) b s shown d.0 (contents new) d.2) ∣₁,
        ),
  )

  pub met : Meets does link side old note new → StepsTo step old note new
  met h = met_in (tree.get nat_cmp old.wires link) refl h

module _ {L : Type 0} {l : Ghosts L} (old new : World L l) (note : StepNote) (link : ℕ) where
  link_step : (plan : Network) (certificate : Certificate) (b : ByteWorld) (What : Channel → Type 0) → map.get b.links link ≡ None → bytes.LinkStep (map.get b.links link) b WasSkipped b What
  link_step plan certificate b What none = (let P : Option Channel → Type 0 = λ o. bytes.LinkStep o b WasSkipped b What in subst P (sym none) (refl, refl))

  pub aborting : (side : Side) → Meets (event_at event.Abort) link side old note new → StepsTo (Abort link side) old note new
  aborting side = met old new note (event_at event.Abort) link side (Abort link side) (λ plan certificate b none. link_step plan certificate b _ none)
      (λ plan certificate certified c b seated s acts after d. aborted plan certificate b link acts after side
      (met_at plan certificate certified c b seated s (event_at event.Abort) link acts after input.AbortAsked (λ site at o desk r e t h. h) side d))

  pub releasing : Meets (event_at event.Release) link Requestor old note new → StepsTo (Release link) old note new
  releasing = met old new note (event_at event.Release) link Requestor (Release link) (λ plan certificate b none. link_step plan certificate b _ none)
      (λ plan certificate certified c b seated s acts after d. released plan certificate b link acts after
      (met_at plan certificate certified c b seated s (event_at event.Release) link acts after input.ReleaseAsked (λ site at o desk r e t h. h) Requestor d))

  pub delaying : (side : Side) → Meets (event_at (event.Heard heard.Late)) link side old note new → StepsTo (Late link side) old note new
  delaying side = met old new note (event_at (event.Heard heard.Late)) link side (Late link side) (λ plan certificate b none. link_step plan certificate b _ none)
      (λ plan certificate certified c b seated s acts after d. delayed plan certificate b link acts after side
      (met_at plan certificate certified c b seated s (event_at (event.Heard heard.Late)) link acts after input.Late (λ site at o desk r e t h. h) side d))

  pub pushing : Meets push_at link Requestor old note new → StepsTo (Push link) old note new
  pushing = met old new note push_at link Requestor (Push link) (λ plan certificate b none. link_step plan certificate b _ none)
      (λ plan certificate certified c b seated s acts after d. pushed plan certificate b link acts after
      (met_at plan certificate certified c b seated s push_at link acts after input.PushAsked (λ site at o desk r e t h. h) Requestor d))
