-- What a world does at a Move is that step of the world of bytes.
use Rattle.std.proofs.Common.{◌≡◌, ℕ, zero, suc, arith, length, Bool, true, false, cond, List, [], ◌∷◌, ◌++◌, take, Option, None, Some, refl, sym, ap, subst, ◌∙◌, inl, inr, ◌⊎◌}
use Rattle.std.specs.Prelude.{◌&&◌, ◌==◌, nat_le}
use Rattle.std.proofs.lemmas.Bool.{le-leb}
use Rattle.std.specs.Option.{option_map, option_map_or}
use Rattle.std.specs.Ordering.{nat_cmp}
use Rattle.std.specs.FinMap as map
use Rattle.std.specs.BTreeMap as tree
use Rattle.std.specs.BTreeMap.{BTreeMap, is_at}
use Rattle.dr_base.specs.Texts.{Text, text_cmp}
use Rattle.dr_plan_model.specs.Networks.{Network}
use Rattle.dr_plan_sound.specs.declared.certificate.Certificate.{Certificate}
use Rattle.dr_site.specs.Sites.{IsCertified}
use Rattle.dr_ulstate.specs.declared.table.State.{State}
use Rattle.dr_ledger.specs.declared.ledger.Ledger.{Ghosts}
use Rattle.dr_session.specs.declared.ends.Heard.TheVariants as heard
use Rattle.dr_session.specs.declared.ends.Input.TheVariants as input
use Rattle.dr_session.specs.declared.ends.LinkAction.{LinkAction}
use Rattle.dr_session.specs.Ends.{is_gone, state_in}
use Rattle.dr_session.specs.Plays.{Reacts, at_moment}
use Rattle.dr_node.specs.declared.event.LinkEvent.{LinkEvent}
use Rattle.dr_node.specs.declared.event.LinkEvent.TheVariants as event
use Rattle.dr_node.specs.declared.links.LinkSide.{LinkSide as NodeSide}
use Rattle.dr_node.specs.declared.node.Node.{Node}
use Rattle.dr_node.specs.Sides.{state_of_side}
use Rattle.dr_world_tie.specs.Desks.{LedgerStep}
use Rattle.dr_world_tie.specs.Channels.{LiveTerminal, Channel}
use Rattle.dr_world_tie.specs.ByteWorlds.{ByteWorld, Move, Side, Requestor, Acceptor, StepNote as ByteNote, Done as WasDone, Skipped as WasSkipped, LinkStep, DoesIf, ReadsIf, Moves, CallerReads, ReceiverReads, CallerMeets, ReceiverMeets, Meets as MeetsBytes, core_at, is_over, with_done}
use Rattle.dr_world.specs.declared.fronts.MoveDue.{MoveDue}
use Rattle.dr_world.specs.declared.fronts.MoveDue.TheVariants as due
use Rattle.dr_world.specs.declared.steps.StepNote.{StepNote}
use Rattle.dr_world.specs.declared.steps.StepNote.TheVariants.{Done, Skipped}
use Rattle.dr_world.specs.declared.wires.Wires.{Wires}
use Rattle.dr_world.specs.declared.world.World.{World}
use Rattle.dr_world.specs.Shows.{Contents, Seat, ShowsBytes, IsSeated, Becomes, IsLinked}
use Rattle.dr_world.specs.Ends.{IsDoneAtEnd, AreWritten, name_at, wire_at, opposite}
use Rattle.dr_world.specs.Nodes.{IsDoneAt, event_at, over_at, seat_of}
use Rattle.dr_world.specs.Whole.{Meets, MeetsIn, StepsTo, contents, noted}
use Rattle.dr_world.specs.Moved.{AreTaken, Hears, HearsIn, IsMoveDue, IsDueAt, IsMovable, kept_at, kept_of}
use Rattle.dr_world.proofs.Asking.{MetAt, met_at, seated_after, node_of, did_at, wire_of}
use Rattle.dr_world.proofs.Closes.{over_is, skipped}
use Rattle.dr_world.proofs.Counted.{linked_there}
use Rattle.dr_world.proofs.Linking.{done_of, unlinked}
use Rattle.dr_world.proofs.Meeting.{Happened}
use Rattle.dr_world.proofs.Moving.{moved, wire_is}

-- ---- where nothing is due

module _ (plan : Network) (b : ByteWorld) (number : ℕ) (k : Channel) (n : ℕ) where
  none_asked : n ≡ 0 → nat_le 1 n ≡ false
  none_asked e = ap (nat_le 1) e

  not_both : (p q : Bool) → (p ≡ false) ⊎ (q ≡ false) → (p && q) ≡ false
  not_both true q (inl e) = (let f : ⊥ = cc in absurd f)
  not_both true q (inr e) = e
  not_both false q e = refl

  rests : (go : Bool) (What : Type 0) → go ≡ false → DoesIf go b WasSkipped b What
  rests go What e = (let P : Bool → Type 0 = λ v. DoesIf v b WasSkipped b What in subst P (sym e) (refl, refl))

  caller_rests : (wire : List ℕ) → (n ≡ 0) ⊎ ((wire ≡ []) × (is_over k.receiver.core ≡ false)) → CallerReads wire plan b number k n WasSkipped b
  caller_rests [] (inl e) = rests _ _ (not_both (nat_le 1 n) (is_over k.receiver.core) (inl (none_asked e)))
  caller_rests [] (inr e) = rests _ _ (not_both (nat_le 1 n) (is_over k.receiver.core) (inr e.1))
  caller_rests (x ∷ xs) (inl e) = rests _ _ (none_asked e)
  caller_rests (x ∷ xs) (inr e) = (let f : ⊥ = no_byte x xs e.0 in absurd f)
    where
      no_byte : (y : ℕ) (ys : List ℕ) → y ∷ ys ≡ [] → ⊥
      no_byte y ys e = cc

  receiver_rests : (wire : List ℕ) → (n ≡ 0) ⊎ ((wire ≡ []) × (is_over k.caller.core ≡ false)) → ReceiverReads wire plan b number k n WasSkipped b
  receiver_rests [] (inl e) = rests _ _ (not_both (nat_le 1 n) (is_over k.caller.core) (inl (none_asked e)))
  receiver_rests [] (inr e) = rests _ _ (not_both (nat_le 1 n) (is_over k.caller.core) (inr e.1))
  receiver_rests (x ∷ xs) (inl e) = rests _ _ (none_asked e)
  receiver_rests (x ∷ xs) (inr e) = (let f : ⊥ = no_byte x xs e.0 in absurd f)
    where
      no_byte : (y : ℕ) (ys : List ℕ) → y ∷ ys ≡ [] → ⊥
      no_byte y ys e = cc

  unread : (over : Bool) (What : Type 0) → (over ≡ true) ⊎ What → ReadsIf over b WasSkipped b What
  unread true What h = (refl, refl)
  unread false What (inl e) = (let f : ⊥ = cc in absurd f)
  unread false What (inr h) = h

  moves_none : (side : Side) → (n ≡ 0) ⊎ ((is_over (core_at k side) ≡ true) ⊎ ((wire_of side k ≡ []) × (is_over (core_at k (opposite side)) ≡ false))) → Moves plan b number k side n WasSkipped b
  moves_none Requestor (inl e) = unread (is_over k.caller.core) _ (inr (caller_rests k.to_caller (inl e)))
  moves_none Requestor (inr (inl e)) = unread (is_over k.caller.core) _ (inl e)
  moves_none Requestor (inr (inr e)) = unread (is_over k.caller.core) _ (inr (caller_rests k.to_caller (inr e)))
  moves_none Acceptor (inl e) = unread (is_over k.receiver.core) _ (inr (receiver_rests k.to_receiver (inl e)))
  moves_none Acceptor (inr (inl e)) = unread (is_over k.receiver.core) _ (inl e)
  moves_none Acceptor (inr (inr e)) = unread (is_over k.receiver.core) _ (inr (receiver_rests k.to_receiver (inr e)))

  -- ---- where the connection's end is due

  ended : (go : Bool) (after : ByteWorld) (What : Type 0) → go ≡ true → What → DoesIf go b WasDone after What
  ended go after What e h = (let P : Bool → Type 0 = λ v. DoesIf v b WasDone after What in subst P (sym e) (refl, h))

  both : (p q : Bool) → p ≡ true → q ≡ true → (p && q) ≡ true
  both true q e f = f
  both false q e f = (let g : ⊥ = cc in absurd g)

  caller_ended : (wire : List ℕ) (after : ByteWorld) → wire ≡ [] → nat_le 1 n ≡ true → is_over k.receiver.core ≡ true → CallerMeets plan b number k input.Ended after → CallerReads wire plan b number k n WasDone after
  caller_ended [] after e one over h = ended _ after _ (both (nat_le 1 n) (is_over k.receiver.core) one over) h
  caller_ended (x ∷ xs) after e one over h = (let f : ⊥ = cc in absurd f)

  receiver_ended : (wire : List ℕ) (after : ByteWorld) → wire ≡ [] → nat_le 1 n ≡ true → is_over k.caller.core ≡ true → ReceiverMeets plan b number k input.Ended after → ReceiverReads wire plan b number k n WasDone after
  receiver_ended [] after e one over h = ended _ after _ (both (nat_le 1 n) (is_over k.caller.core) one over) h
  receiver_ended (x ∷ xs) after e one over h = (let f : ⊥ = cc in absurd f)

  reads : (over : Bool) (after : ByteWorld) (What : Type 0) → over ≡ false → What → ReadsIf over b WasDone after What
  reads over after What e h = (let P : Bool → Type 0 = λ v. ReadsIf v b WasDone after What in subst P (sym e) h)

  moves_end : (side : Side) (after : ByteWorld) → nat_le 1 n ≡ true → is_over (core_at k side) ≡ false → wire_of side k ≡ [] → is_over (core_at k (opposite side)) ≡ true → MeetsBytes plan b number k side input.Ended after
      → Moves plan b number k side n WasDone after
  moves_end Requestor after one on none over h = reads (is_over k.caller.core) after _ on (caller_ended k.to_caller after none one over h)
  moves_end Acceptor after one on none over h = reads (is_over k.receiver.core) after _ on (receiver_ended k.to_receiver after none one over h)

-- ---- a node's end of a link

module _ {L : Type 0} {l : Ghosts L} (link : ℕ) (own : NodeSide) where
  at_node : (o : Option (Node L l)) (seat : Seat) → option_map seat_of o ≡ Some seat → map.get seat.sides link ≡ Some own → (over_at link o ≡ is_gone (state_in own.end.core)) × (kept_at link o ≡ own.end.ear.kept)
  at_node None seat e h = (let x : None ≡ Some seat = e in let y : ⊥ = cc in absurd y)
  at_node (Some n) seat e h =
      let x : Some (seat_of n) ≡ Some seat = e in
      let same : seat_of n ≡ seat = cc in
      let got : map.get n.links link ≡ Some own = subst (λ (y : Seat). map.get y.sides link ≡ Some own) (sym same) h in
      (ap (λ (q : Option NodeSide). option_map_or is_gone (state_of_side q) true) got, ap (λ (q : Option NodeSide). kept_of q) got)

module _ {L : Type 0} {l : Ghosts L} (old : World L l) (b : ByteWorld) (link : ℕ) (w : Wires) (k : Channel) (linked : IsLinked (contents old).seats link w k) where
  over_side : (side : Side) → over_at link (tree.get text_cmp old.nodes (name_at side w)) ≡ is_over (core_at k side)
  over_side Requestor = over_is link false k.caller (tree.get text_cmp old.nodes w.caller) linked.at_caller.0 linked.at_caller.1 linked.at_caller.2
  over_side Acceptor = over_is link true k.receiver (tree.get text_cmp old.nodes w.receiver) linked.at_receiver.0 linked.at_receiver.1 linked.at_receiver.2

-- how many bytes may come to the end of a link at a node
module _ {L : Type 0} {l : Ghosts L} (link : ℕ) (wire : List ℕ) (n m : ℕ) (o : Option (Node L l)) where
  pub kept_none : None ≡ o → IsMovable [] wire n m → IsMovable (kept_at link o) wire n m
  kept_none e h = (let P : Option (Node L l) → Type 0 = λ z. IsMovable (kept_at link z) wire n m in subst P e h)

  pub kept_apart : (node : Node L l) → Some node ≡ o → None ≡ map.get node.links link → IsMovable [] wire n m → IsMovable (kept_at link o) wire n m
  kept_apart node e none h =
      let P : Option (Node L l) → Type 0 = λ z. IsMovable (kept_at link z) wire n m in
      let Q : Option NodeSide → Type 0 = λ s. IsMovable (kept_of s) wire n m in
      subst P e (subst Q none h)

  pub kept_there : (node : Node L l) (side : NodeSide) (kept : List ℕ) → Some node ≡ o → Some side ≡ map.get node.links link → kept ≡ side.end.ear.kept → IsMovable kept wire n m → IsMovable (kept_at link o) wire n m
  kept_there node side kept e has same h =
      let P : Option (Node L l) → Type 0 = λ z. IsMovable (kept_at link z) wire n m in
      let Q : Option NodeSide → Type 0 = λ s. IsMovable (kept_of s) wire n m in
      let R : List ℕ → Type 0 = λ k. IsMovable k wire n m in
      subst P e (subst Q has (subst R same h))

one_at_least : (n : ℕ) → (n ≡ 0 → ⊥) → nat_le 1 n ≡ true
one_at_least zero none = absurd (none refl)
one_at_least (suc n) none = le-leb 1 (suc n) (omega arith)

pub bytes_due : {L : Type 0} {l : Ghosts L} (nodes : BTreeMap Text (Node L l)) (link n m : ℕ) (side : Side) (w : Wires) (name other : Text) (over empty : Bool) (wire : List ℕ) → (n ≡ 0 → ⊥) → name ≡ name_at side w
    → over ≡ over_at link (tree.get text_cmp nodes name) → over ≡ false → wire ≡ wire_at side w → empty ≡ (length wire == 0) → empty ≡ false → other ≡ name_at side w → IsMovable (kept_at link (tree.get text_cmp nodes other)) wire n m
    → IsDueAt nodes link side n w (due.Bytes m)
bytes_due nodes link n m side w name other over empty wire asked named_so over_is on wire_so empty_is some other_so h =
    let N : Text → Type 0 = λ q. IsMovable (kept_at link (tree.get text_cmp nodes q)) (wire_at side w) n m in
    let W : List ℕ → Type 0 = λ z. IsMovable (kept_at link (tree.get text_cmp nodes other)) z n m in (
      one_at_least n asked,
      ap (λ (q : Text). over_at link (tree.get text_cmp nodes q)) (sym named_so) ∙ (sym over_is ∙ on),
      (λ none. (let e : true ≡ false = sym (empty_is ∙ ap (λ (z : List ℕ). length z == 0) (wire_so ∙ none)) ∙ some in let f : ⊥ = cc in f)),
      subst N other_so (subst W wire_so h),
    )

-- ---- steps

linked_step : (plan : Network) (b : ByteWorld) (number : ℕ) (k : Channel) (side : Side) (n : ℕ) (note : ByteNote) (after : ByteWorld) → map.get b.links number ≡ Some k → Moves plan b number k side n note after
    → LinkStep (map.get b.links number) b note after (λ z. Moves plan b number z side n note after)
linked_step plan b number k side n note after has h = (let P : Option Channel → Type 0 = λ o. LinkStep o b note after (λ z. Moves plan b number z side n note after) in subst P (sym has) h)

module _ {L : Type 0} {l : Ghosts L} (old : World L l) (link n : ℕ) (side : Side) where
  nothing_at : (w : Wires) → tree.get nat_cmp old.wires link ≡ Some w → IsDueAt old.nodes link side n w due.Nothing → StepsTo (Move link side n) old Skipped old
  nothing_at w wired h = skipped old old (Move link side n) refl (λ all. all) (λ plan certificate b s.
      let there = linked_there (contents old) b s link w wired in
      let o = over_side old b link w there.0 there.2 in
      linked_step plan b link there.0 side n WasSkipped b there.1 (moves_none plan b link there.0 n side (by_case there.0 o (wire_is side (contents old).seats link w there.0 there.2) h)))
    where
      by_case : (k : Channel) → ((s : Side) → over_at link (tree.get text_cmp old.nodes (name_at s w)) ≡ is_over (core_at k s)) → wire_of side k ≡ wire_at side w → IsDueAt old.nodes link side n w due.Nothing
          → (n ≡ 0) ⊎ ((is_over (core_at k side) ≡ true) ⊎ ((wire_of side k ≡ []) × (is_over (core_at k (opposite side)) ≡ false)))
      by_case k o wire (inl e) = inl e
      by_case k o wire (inr (inl e)) = inr (inl (sym (o side) ∙ e))
      by_case k o wire (inr (inr e)) = inr (inr (wire ∙ e.0, sym (o (opposite side)) ∙ e.1))

  nothing_in : (o : Option Wires) → tree.get nat_cmp old.wires link ≡ o → IsMoveDue o old.nodes link side n due.Nothing → StepsTo (Move link side n) old Skipped old
  nothing_in None none h = skipped old old (Move link side n) refl (λ all. all) (λ plan certificate b s.
      (let P : Option Channel → Type 0 = λ o. LinkStep o b WasSkipped b (λ z. Moves plan b link z side n WasSkipped b) in subst P (sym (unlinked (contents old) b s link none)) (refl, refl)))
  nothing_in (Some w) has h = nothing_at w has h

  pub nothing_moves : (what : MoveDue) → IsMoveDue (tree.get nat_cmp old.wires link) old.nodes link side n what → what ≡ due.Nothing → StepsTo (Move link side n) old Skipped old
  nothing_moves what h is = (let P : MoveDue → Type 0 = λ d. IsMoveDue (tree.get nat_cmp old.wires link) old.nodes link side n d in nothing_in (tree.get nat_cmp old.wires link) refl (subst P is h))

-- ---- the connection's end

met_as : (plan : Network) (b : ByteWorld) (number : ℕ) (acts : List LinkAction) (new : Contents) (side : Side) (m : MetAt plan b number side input.Ended acts new)
    → Reacts (LedgerStep plan (node_of side m.k)) (core_at m.k side) (at_moment m.at input.Ended) (b.desks (node_of side m.k)) m.x m.t
    → MeetsBytes plan b number m.k side input.Ended (with_done b (node_of side m.k) m.t number (did_at side m.k m.x))
met_as plan b number acts new Requestor m r = (m.at, m.x, m.t, m.moment, r, refl)
met_as plan b number acts new Acceptor m r = (m.at, m.x, m.t, m.moment, r, refl)

-- an end that isn't over does something
reacted : (plan : Network) (b : ByteWorld) (number : ℕ) (acts : List LinkAction) (new : Contents) (side : Side) (m : MetAt plan b number side input.Ended acts new) → is_over (core_at m.k side) ≡ false
    → Reacts (LedgerStep plan (node_of side m.k)) (core_at m.k side) (at_moment m.at input.Ended) (b.desks (node_of side m.k)) m.x m.t
reacted plan b number acts new side m on = by_case m.happened
  where
    not_on : is_over (core_at m.k side) ≡ true → ⊥
    not_on e = (let x : true ≡ false = sym e ∙ on in cc)

    by_case : Happened (LedgerStep plan (node_of side m.k)) (core_at m.k side) m.at input.Ended (b.desks (node_of side m.k)) m.x m.t
        → Reacts (LedgerStep plan (node_of side m.k)) (core_at m.k side) (at_moment m.at input.Ended) (b.desks (node_of side m.k)) m.x m.t
    by_case (inl r) = r
    by_case (inr o) = absurd (not_on (ap (λ (q : State). is_gone q) o.0))

module _ {L : Type 0} {l : Ghosts L} (old new : World L l) (link n : ℕ) (side : Side) where
  -- at that world of bytes
  end_becomes : (w : Wires) → tree.get nat_cmp old.wires link ≡ Some w → IsDueAt old.nodes link side n w due.End → (plan : Network) (certificate : Certificate) (b : ByteWorld) → ShowsBytes (contents old) b → (acts : List LinkAction)
      → MetAt plan b link side input.Ended acts (contents new) → Becomes plan certificate b (Move link side n) WasDone (contents new)
  end_becomes w wired h plan certificate b s acts m =
      let there = linked_there (contents old) b s link w wired in
      let k_is : there.0 ≡ m.k = one_channel there.0 m.k (sym there.1 ∙ m.has) in
      let linked : IsLinked (contents old).seats link w m.k = subst (λ (z : Channel). IsLinked (contents old).seats link w z) k_is there.2 in
      let o = over_side old b link w m.k linked in
      let on : is_over (core_at m.k side) ≡ false = sym (o side) ∙ h.1 in
      let after = with_done b (node_of side m.k) m.t link (did_at side m.k m.x) in (
        after,
        linked_step plan b link m.k side n WasDone after m.has (moves_end plan b link m.k n side after h.0 on (wire_is side (contents old).seats link w m.k linked ∙ h.2) (sym (o (opposite side)) ∙ h.3)
            (met_as plan b link acts (contents new) side m (reacted plan b link acts (contents new) side m on))),
        m.shows,
      )
    where
      one_channel : (x y : Channel) → Some x ≡ Some y → x ≡ y
      one_channel x y e = cc

  end_in : (o : Option Wires) → tree.get nat_cmp old.wires link ≡ o → (note : StepNote) → IsMoveDue o old.nodes link side n due.End → MeetsIn (event_at (event.Heard heard.End)) o link side old note new → StepsTo (Move link side n) old Done new
  end_in None none note h m = (let e : ⊥ = not_nothing h in absurd e)
    where
      not_nothing : due.End ≡ due.Nothing → ⊥
      not_nothing e = cc
  end_in (Some w) has note h m = (
    m.0,
    λ plan certificate certified b seated s all.
        let d = m.1 all in (
          seated_after plan certificate certified (contents old) b seated s (event_at (event.Heard heard.End)) 0 link d.0 (contents new) side d.2,
          ∣ end_becomes w has h plan certificate b s d.0
              (met_at plan certificate certified (contents old) b seated s (event_at (event.Heard heard.End)) link d.0 (contents new) input.Ended (λ site at o desk r e t h. h) side d.2) ∣₁,
        ),
  )

  pub end_moves : (what : MoveDue) (note : StepNote) (e : LinkEvent) → IsMoveDue (tree.get nat_cmp old.wires link) old.nodes link side n what → what ≡ due.End → e ≡ event.Heard heard.End → Meets (event_at e) link side old note new → StepsTo (Move link side n) old Done new
  end_moves what note e h is e_is m =
      let P : MoveDue → Type 0 = λ d. IsMoveDue (tree.get nat_cmp old.wires link) old.nodes link side n d in
      let Q : LinkEvent → Type 0 = λ x. Meets (event_at x) link side old note new in
      end_in (tree.get nat_cmp old.wires link) refl note (subst P is h) (subst Q e_is m)

  -- ---- bytes

  module _ (m : ℕ) where
    hears_at : (w : Wires) → tree.get nat_cmp old.wires link ≡ Some w → IsDueAt old.nodes link side n w (due.Bytes m) → (plan : Network) (certificate : Certificate) → IsCertified plan certificate → (b : ByteWorld) → IsSeated plan certificate (contents old).seats
        → ShowsBytes (contents old) b → (acts : List LinkAction) → IsDoneAtEnd (event_at (event.Heard (heard.Bytes (take m (wire_at side w))))) m (contents old) link side acts (contents new)
        → Becomes plan certificate b (Move link side n) WasDone (contents new)
    hears_at w wired h plan certificate certified b seated s acts d =
        let w_is : w ≡ d.wires = one_wires w d.wires (sym wired ∙ d.wired) in
        let o = at_node link d.own (tree.get text_cmp old.nodes (name_at side d.wires)) d.seat d.seated d.has in
        let D : Wires → Type 0 = λ z. IsDueAt old.nodes link side n z (due.Bytes m) in
        let g : IsDueAt old.nodes link side n d.wires (due.Bytes m) = subst D w_is h in
        moved plan certificate certified (contents old) b seated s link n m side (take m (wire_at side w)) acts (contents new) d (ap (λ (z : Wires). take m (wire_at side z)) w_is) g.2 g.0 (sym o.0 ∙ g.1)
        (λ t same. g.3.2 t (ap (λ (f : Rattle.dr_pdu.specs.Feeding.Feeding). f.kept) same ∙ sym o.1))
      where
        one_wires : (x y : Wires) → Some x ≡ Some y → x ≡ y
        one_wires x y e = cc

    hears_in : (o : Option Wires) → tree.get nat_cmp old.wires link ≡ o → (note : StepNote) → IsMoveDue o old.nodes link side n (due.Bytes m) → HearsIn o link side m old note new → StepsTo (Move link side n) old note new
    hears_in None none note h heard_so = (let e : ⊥ = not_nothing h in absurd e)
      where
        not_nothing : due.Bytes m ≡ due.Nothing → ⊥
        not_nothing e = cc
    hears_in (Some w) has note h heard_so = (
      heard_so.1,
      λ plan certificate certified b seated s all.
          let d = heard_so.2 all in (
            seated_after plan certificate certified (contents old) b seated s (event_at (event.Heard (heard.Bytes (take m (wire_at side w))))) m link d.0 (contents new) side d.1,
            ∣ subst (λ (x : StepNote). Becomes plan certificate b (Move link side n) (noted x) (contents new)) (sym heard_so.0) (hears_at w has h plan certificate certified b seated s d.0 d.1) ∣₁,
          ),
    )

    pub bytes_move : (what : MoveDue) (note : StepNote) → IsMoveDue (tree.get nat_cmp old.wires link) old.nodes link side n what → what ≡ due.Bytes m → Hears link side m old note new → StepsTo (Move link side n) old note new
    bytes_move what note h is heard_so =
        let P : MoveDue → Type 0 = λ d. IsMoveDue (tree.get nat_cmp old.wires link) old.nodes link side n d in
        hears_in (tree.get nat_cmp old.wires link) refl note (subst P is h) heard_so

-- ---- as the calls have it

pub unheard : {L : Type 0} {l : Ghosts L} (w : World L l) (wires : BTreeMap ℕ Wires) (link m : ℕ) (side : Side) → None ≡ tree.get nat_cmp w.wires link → wires ≡ w.wires
    → Hears link side m w Skipped (record { alloc = w.alloc; time = w.time; opened = w.opened; nodes = w.nodes; wires = wires; lost = w.lost })
unheard {L} {l} w wires link m side none same =
    let new : World L l = record { alloc = w.alloc; time = w.time; opened = w.opened; nodes = w.nodes; wires = wires; lost = w.lost } in
    let P : Option Wires → Type 0 = λ o. HearsIn o link side m w Skipped new in
    subst P none (refl, ap (λ (z : BTreeMap ℕ Wires). contents (let v : World L l = record { alloc = w.alloc; time = w.time; opened = w.opened; nodes = w.nodes; wires = z; lost = w.lost } in v)) same, refl)

named_same : (side : Side) (m : ℕ) (w v : Wires) → AreTaken side m w v → name_at side v ≡ name_at side w
named_same Requestor m w v t = t.caller
named_same Acceptor m w v t = t.receiver

written_off : (side : Side) (m : ℕ) (acts : List LinkAction) (w u v : Wires) → AreTaken side m w u → AreWritten side 0 acts u v → AreWritten side m acts w v
written_off side m acts w u v t h = record {
  caller = h.caller ∙ t.caller;
  receiver = h.receiver ∙ t.receiver;
  own = h.own ∙ t.own;
  other = h.other ∙ ap (λ (z : List ℕ). z ++ Rattle.dr_world_tie.specs.Channels.bytes_of acts) t.other;
}

pub heard_named : {L : Type 0} {l : Ghosts L} (old new : World L l) (link m : ℕ) (side : Side) (w u v : Wires) (piece : List ℕ) (acts written_acts : List LinkAction) → written_acts ≡ acts → Some w ≡ tree.get nat_cmp old.wires link
    → ((q : ℕ) → tree.get nat_cmp new.wires q ≡ cond (is_at (nat_cmp link) q) (Some v) (tree.get nat_cmp old.wires q)) → new.time ≡ old.time → new.opened ≡ old.opened → piece ≡ take m (wire_at side w) → AreTaken side m w u → AreWritten side 0 written_acts u v
    → (name : Text) → name ≡ name_at side u → (now : ℕ) → now ≡ old.time.passed → IsDoneAt (event_at (event.Heard (heard.Bytes piece))) name link now old.nodes acts new.nodes → Hears link side m old Done new
heard_named old new link m side w u v piece acts written_acts e wired updates time opened piece_is taken written name named_so now at h =
    let W : List LinkAction → Type 0 = λ a. AreWritten side 0 a u v in
    let N : Text → Type 0 = λ q. IsDoneAt (event_at (event.Heard (heard.Bytes piece))) q link now old.nodes acts new.nodes in
    let E : List ℕ → Type 0 = λ p. IsDoneAt (event_at (event.Heard (heard.Bytes p))) (name_at side w) link now old.nodes acts new.nodes in
    let d = subst E piece_is (subst N (named_so ∙ named_same side m w u taken) h) in
    let P : Option Wires → Type 0 = λ o. HearsIn o link side m old Done new in
    subst P wired (
      refl,
      d.2,
      λ all. (acts, done_of (event_at (event.Heard (heard.Bytes (take m (wire_at side w))))) old new link m side w v acts wired updates time opened (written_off side m acts w u v taken (subst W e written)) now at d all),
    )
