-- A link that a world closed, as its contents show it.
use Rattle.std.proofs.Common.{◌≡◌, ℕ, Bool, true, false, cond, List, Option, None, Some, Ok, Err, refl, sym, ap, subst, ◌∙◌}
use Rattle.std.specs.Prelude.{◌&&◌, not}
use Rattle.std.specs.Option.{option_map, option_map_or}
use Rattle.std.specs.Ordering.{nat_cmp, eq_by_cmp}
use Rattle.std.proofs.lemmas.Map.Views.{tells_apart}
use Rattle.std.specs.Cmp.{eq_by_cmp_equiv}
use Rattle.std.specs.FinMap as map
use Rattle.std.specs.BTreeMap as tree
use Rattle.std.specs.BTreeMap.{BTreeMap, is_at}
use Rattle.dr_base.specs.Texts.{Text, text_cmp}
use Rattle.dr_plan_model.specs.Networks.{Network}
use Rattle.dr_plan_sound.specs.declared.certificate.Certificate.{Certificate}
use Rattle.dr_ledger.specs.declared.ledger.Ledger.{Ghosts}
use Rattle.dr_session.specs.declared.ends.Heard.TheVariants as heard
use Rattle.dr_session.specs.declared.ends.LinkAction.{LinkAction}
use Rattle.dr_session.specs.Ends.{Terminal, is_gone}
use Rattle.dr_session.specs.Ledgers.{Desk}
use Rattle.dr_node.specs.declared.event.LinkEvent.{LinkEvent}
use Rattle.dr_node.specs.declared.event.LinkEvent.TheVariants as event
use Rattle.dr_node.specs.declared.fault.NodeFault.TheVariants.{LinkUnknown}
use Rattle.dr_node.specs.declared.links.LinkSide.{LinkSide as NodeSide}
use Rattle.dr_node.specs.declared.node.Node.{Node}
use Rattle.dr_node.specs.Sides.{Sides, EndDeed, Does, DoesIn, moment_at, state_of_side, with_end}
use Rattle.dr_world_model.proofs.Lookups.{numbers}
use Rattle.dr_world_tie.specs.Channels.{Channel}
use Rattle.dr_world_tie.specs.ByteWorlds.{ByteWorld, WorldStep, Steps, Close, Skipped as WasSkipped, LinkStep, DoesIf, Closes, is_over}
use Rattle.dr_world.specs.declared.steps.StepNote.TheVariants as note
use Rattle.dr_world.specs.declared.wires.Wires.{Wires}
use Rattle.dr_world.specs.declared.world.World.{World}
use Rattle.dr_world.specs.Shows.{Contents, Seat, ShowsBytes, IsSeated, Becomes, side_of, with_seat, with_side, with_wires}
use Rattle.dr_world.specs.Closed.{AreLost, IsClosed}
use Rattle.dr_world.specs.Nodes.{AllStandIn, IsDoneAt, event_at, over_at, seat_of, seats_of}
use Rattle.dr_world.specs.Whole.{AllStand, StepsTo, contents}
use Rattle.dr_world.proofs.Counted.{linked_there}
use Rattle.dr_world.proofs.Closing.{closed_becomes, closed_seated}
use Rattle.dr_world.proofs.Linking.{unlinked}

-- the deed of one end, where it answered
module _ (does : EndDeed Desk) (now link : ℕ) (old new : Sides) (s t : Desk) (acts : List LinkAction) where
  deed_in : (o : Option NodeSide) → map.get old link ≡ o → DoesIn does now link o old s (Ok acts) new t → (own : NodeSide) × (end : Terminal) × (map.get old link ≡ Some own) × does (moment_at link old now) own.end s (Ok acts) end t × (new ≡ map.insert old link (with_end own end))
  deed_in None none h = (let e : ⊥ = no_fault acts h.0 in absurd e)
    where
      no_fault : (xs : List LinkAction) → Ok xs ≡ Err LinkUnknown → ⊥
      no_fault xs e = cc
  deed_in (Some own) has h = (own, h.0, has, h.1, h.2)

  deed : Does does now link old s (Ok acts) new t → (own : NodeSide) × (end : Terminal) × (map.get old link ≡ Some own) × does (moment_at link old now) own.end s (Ok acts) end t × (new ≡ map.insert old link (with_end own end))
  deed h = deed_in (map.get old link) refl h

-- ---- ends that are over

module _ {L : Type 0} {l : Ghosts L} (link : ℕ) (accepted : Bool) (t : Rattle.dr_world_tie.specs.Channels.LiveTerminal) where
  pub over_is : (o : Option (Node L l)) (seat : Seat) → option_map seat_of o ≡ Some seat → map.get seat.sides link ≡ Some (side_of accepted t) → over_at link o ≡ is_over t.core
  over_is None seat e h = (let x : None ≡ Some seat = e in let y : ⊥ = cc in absurd y)
  over_is (Some n) seat e h =
      let x : Some (seat_of n) ≡ Some seat = e in
      let same : seat_of n ≡ seat = cc in
      let got : map.get n.links link ≡ Some (side_of accepted t) = subst (λ (y : Seat). map.get y.sides link ≡ Some (side_of accepted t)) (sym same) h in
      ap (λ (q : Option NodeSide). option_map_or is_gone (state_of_side q) true) got

both_over : {L : Type 0} {l : Ghosts L} (old : World L l) (b : ByteWorld) (s : ShowsBytes (contents old) b) (link : ℕ) (w : Wires) (wired : (contents old).wires link ≡ Some w) →
    (over_at link (tree.get text_cmp old.nodes w.caller) && over_at link (tree.get text_cmp old.nodes w.receiver))
    ≡ (is_over (linked_there (contents old) b s link w wired).0.caller.core && is_over (linked_there (contents old) b s link w wired).0.receiver.core)
both_over {L} {l} old b s link w wired =
    let k = (linked_there (contents old) b s link w wired).0 in
    let linked = (linked_there (contents old) b s link w wired).2 in
    ap (λ (x : Bool). x && over_at link (tree.get text_cmp old.nodes w.receiver)) (over_is link false k.caller (tree.get text_cmp old.nodes w.caller) linked.at_caller.0 linked.at_caller.1 linked.at_caller.2)
    ∙ ap (λ (x : Bool). is_over k.caller.core && x) (over_is link true k.receiver (tree.get text_cmp old.nodes w.receiver) linked.at_receiver.0 linked.at_receiver.1 linked.at_receiver.2)

-- ---- a step that is skipped

pub skipped : {L : Type 0} {l : Ghosts L} (old new : World L l) (step : WorldStep) → contents new ≡ contents old → (AllStand new → AllStand old) → ((plan : Network) (certificate : Certificate) (b : ByteWorld) → ShowsBytes (contents old) b → Steps plan certificate b step WasSkipped b)
    → StepsTo step old note.Skipped new
skipped old new step same stood skips = (
  stood,
  λ plan certificate certified b seated s all.
      let S : Contents → Type 0 = λ z. IsSeated plan certificate z.seats in
      let B : Contents → Type 0 = λ z. Becomes plan certificate b step WasSkipped z in
      (subst S (sym same) seated, ∣ subst B (sym same) (b, skips plan certificate b s, s) ∣₁),
)

pub no_link : {L : Type 0} {l : Ghosts L} (w : World L l) (wires : BTreeMap ℕ Wires) (link : ℕ) → None ≡ tree.get nat_cmp w.wires link → wires ≡ w.wires
    → StepsTo (Close link) w note.Skipped (record { alloc = w.alloc; time = w.time; opened = w.opened; nodes = w.nodes; wires = wires; lost = w.lost })
no_link {L} {l} w wires link none same =
    let new : World L l = record { alloc = w.alloc; time = w.time; opened = w.opened; nodes = w.nodes; wires = wires; lost = w.lost } in
    skipped w new (Close link) (ap (λ (m : BTreeMap ℕ Wires). contents (let v : World L l = record { alloc = w.alloc; time = w.time; opened = w.opened; nodes = w.nodes; wires = m; lost = w.lost } in v)) same) (λ all. all)
    (λ plan certificate b s. (let P : Option Channel → Type 0 = λ o. LinkStep o b WasSkipped b (λ k. DoesIf (not (is_over k.caller.core && is_over k.receiver.core)) b WasSkipped b (Closes plan b link k b)) in
    subst P (sym (unlinked (contents w) b s link (sym none))) (refl, refl)))

-- the wires of a link as they were
pub all_over : {L : Type 0} {l : Ghosts L} (old new : World L l) (link : ℕ) (w : Wires) → Some w ≡ tree.get nat_cmp old.wires link → ((q : ℕ) → tree.get nat_cmp new.wires q ≡ cond (is_at (nat_cmp link) q) (Some w) (tree.get nat_cmp old.wires q))
    → new.time ≡ old.time → new.opened ≡ old.opened → new.nodes ≡ old.nodes → (over_at link (tree.get text_cmp old.nodes w.caller) && over_at link (tree.get text_cmp old.nodes w.receiver)) ≡ true → StepsTo (Close link) old note.Skipped new
all_over {L} {l} old new link w wired updates time opened nodes over =
    skipped old new (Close link) (λ i. record { now = (time i).passed; opened = opened i; seats = seats_of (nodes i); wires = λ q. wires_same q i })
    (let P : BTreeMap Text (Node L l) → Type 0 = λ m. AllStandIn m in subst P nodes)
    (λ plan certificate b s.
    let there = linked_there (contents old) b s link w (sym wired) in
    let gone : not (is_over there.0.caller.core && is_over there.0.receiver.core) ≡ false = ap not (sym (both_over old b s link w (sym wired)) ∙ over) in
    let P : Option Channel → Type 0 = λ o. LinkStep o b WasSkipped b (λ k. DoesIf (not (is_over k.caller.core && is_over k.receiver.core)) b WasSkipped b (Closes plan b link k b)) in
    let D : Bool → Type 0 = λ v. DoesIf v b WasSkipped b (Closes plan b link there.0 b) in
    subst P (sym there.1) (subst D (sym gone) (refl, refl)))
  where
    by_number : (q : ℕ) (x : Bool) → eq_by_cmp nat_cmp q link ≡ x → cond x (Some w) (tree.get nat_cmp old.wires q) ≡ tree.get nat_cmp old.wires q
    by_number q true e = (let at : q ≡ link = tells_apart numbers.exact q link e in wired ∙ ap (tree.get nat_cmp old.wires) (sym at))
    by_number q false e = refl

    wires_same : (q : ℕ) → tree.get nat_cmp new.wires q ≡ tree.get nat_cmp old.wires q
    wires_same q = updates q ∙ (ap (λ (b : Bool). cond b (Some w) (tree.get nat_cmp old.wires q)) ((eq_by_cmp_equiv numbers.total).symm link q) ∙ by_number q (eq_by_cmp nat_cmp q link) refl)

-- ---- a link that is closed

module _ {L : Type 0} {l : Ghosts L} (old new : World L l) (link : ℕ) (w v : Wires) (wired : Some w ≡ tree.get nat_cmp old.wires link) (lost : AreLost w v)
    (updates : (q : ℕ) → tree.get nat_cmp new.wires q ≡ cond (is_at (nat_cmp link) q) (Some v) (tree.get nat_cmp old.wires q)) (time : new.time ≡ old.time) (opened : new.opened ≡ old.opened) (mid : BTreeMap Text (Node L l))
    (acts own_acts : List LinkAction) (first : IsDoneAt (event_at (event.Heard heard.End)) w.receiver link old.time.passed old.nodes acts mid) (second : IsDoneAt (event_at (event.Heard heard.End)) w.caller link old.time.passed mid own_acts new.nodes) where
  wires_at : (q : ℕ) → tree.get nat_cmp new.wires q ≡ with_wires (contents old).wires link v q
  wires_at q = updates q ∙ ap (λ (b : Bool). cond b (Some v) (tree.get nat_cmp old.wires q)) ((eq_by_cmp_equiv numbers.total).symm link q)

  is_closed : AllStand new → IsClosed (contents old) link (contents new)
  is_closed all =
      let far_all = second.2 all in
      let f = first.3 far_all in
      let g = second.3 all in
      let theirs = deed (event_at (event.Heard heard.End) (l.site first.0.desk.ledger)) old.time.passed link first.0.links f.0 (seat_of first.0).desk f.1 acts f.2 in
      let mine = deed (event_at (event.Heard heard.End) (l.site second.0.desk.ledger)) old.time.passed link second.0.links g.0 (seat_of second.0).desk g.1 own_acts g.2 in
      let far_seat = with_side (seat_of first.0) link (with_end theirs.0 theirs.1) f.1 in
      let mid_at : (q : Text) → seats_of mid q ≡ with_seat (seats_of old.nodes) w.receiver far_seat q = λ q.
      f.3 q ∙ ap (λ (m : Sides). with_seat (seats_of old.nodes) w.receiver (let s : Seat = record { site = l.site first.0.desk.ledger; sides = m; desk = f.1 } in s) q) theirs.4 in
      let near_seat = with_side (seat_of second.0) link (with_end mine.0 mine.1) g.1 in
      let new_at : (q : Text) → seats_of new.nodes q ≡ with_seat (with_seat (seats_of old.nodes) w.receiver far_seat) w.caller near_seat q = λ q.
      g.3 q ∙ (ap (λ (m : Sides). with_seat (seats_of mid) w.caller (let s : Seat = record { site = l.site second.0.desk.ledger; sides = m; desk = g.1 } in s) q) mine.4
      ∙ ap (λ (o : Option Seat). cond (Rattle.dr_world_model.specs.Worlds.same_text q w.caller) (Some near_seat) o) (mid_at q)) in
      record {
        wires = w;
        after = v;
        wired = sym wired;
        lost = lost;
        far = seat_of first.0;
        is_far = ap (option_map seat_of) first.1;
        theirs = theirs.0;
        has_theirs = theirs.2;
        acts = acts;
        end = theirs.1;
        desk = f.1;
        ends = theirs.3;
        near = seat_of second.0;
        is_near = sym (mid_at w.caller) ∙ ap (option_map seat_of) second.1;
        mine = mine.0;
        has_mine = mine.2;
        own_acts = own_acts;
        own_end = mine.1;
        own_desk = g.1;
        own_ends = mine.3;
        is = (λ i. record { now = (time i).passed; opened = opened i; seats = λ q. new_at q i; wires = λ q. wires_at q i });
      }

  -- both ends were over, or one wasn't
  module _ (some : (over_at link (tree.get text_cmp old.nodes w.caller) && over_at link (tree.get text_cmp old.nodes w.receiver)) ≡ false) where
    pub closing : StepsTo (Close link) old note.Done new
    unfolding is_closed
    closing = (
      (λ all. first.2 (second.2 all)),
      λ plan certificate certified b seated s all.
          let d = is_closed all in (
            closed_seated plan certificate certified (contents old) b seated s link (contents new) d,
            ∣ closed_becomes plan certificate certified (contents old) b seated s link (contents new) d (ap not (sym (both_over old b s link w (sym wired)) ∙ some)) ∣₁,
          ),
    )

-- as the calls have it
pub closing_as : {L : Type 0} {l : Ghosts L} (old : World L l) (link now : ℕ) (w v : Wires) (wires : BTreeMap ℕ Wires) (mid nodes : BTreeMap Text (Node L l)) (acts own_acts : List LinkAction) (e f : LinkEvent) → e ≡ event.Heard heard.End → f ≡ event.Heard heard.End → now ≡ old.time.passed
    → Some w ≡ tree.get nat_cmp old.wires link → AreLost w v → ((q : ℕ) → tree.get nat_cmp wires q ≡ cond (is_at (nat_cmp link) q) (Some v) (tree.get nat_cmp old.wires q)) → IsDoneAt (event_at e) w.receiver link now old.nodes acts mid
    → IsDoneAt (event_at f) w.caller link now mid own_acts nodes → (over_at link (tree.get text_cmp old.nodes w.caller) && over_at link (tree.get text_cmp old.nodes w.receiver)) ≡ false
    → StepsTo (Close link) old note.Done (record { alloc = old.alloc; time = old.time; opened = old.opened; nodes = nodes; wires = wires; lost = old.lost })
closing_as {L} {l} old link now w v wires mid nodes acts own_acts e f is_e is_f at wired lost updates first second some =
    let new : World L l = record { alloc = old.alloc; time = old.time; opened = old.opened; nodes = nodes; wires = wires; lost = old.lost } in
    let E : LinkEvent → Type 0 = λ x. IsDoneAt (event_at x) w.receiver link now old.nodes acts mid in
    let F : LinkEvent → Type 0 = λ x. IsDoneAt (event_at x) w.caller link now mid own_acts nodes in
    let M : ℕ → Type 0 = λ m. IsDoneAt (event_at (event.Heard heard.End)) w.receiver link m old.nodes acts mid in
    let N : ℕ → Type 0 = λ m. IsDoneAt (event_at (event.Heard heard.End)) w.caller link m mid own_acts nodes in
    closing old new link w v wired lost updates refl refl mid acts own_acts (subst M at (subst E is_e first)) (subst N at (subst F is_f second)) some
