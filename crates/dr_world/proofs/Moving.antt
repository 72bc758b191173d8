-- Bytes that come to an end, and the connection's end, are a Move of the world of bytes.
use Rattle.std.proofs.Common.{◌≡◌, ◌≢◌, ℕ, Bool, true, false, List, [], ◌∷◌, take, Option, Some, refl, sym, ap, subst, ◌∙◌}
use Rattle.std.specs.Prelude.{nat_le}
use Rattle.std.specs.FinMap as map
use Rattle.dr_base.specs.Texts.{Text}
use Rattle.dr_plan_model.specs.Networks.{Network}
use Rattle.dr_plan_sound.specs.declared.certificate.Certificate.{Certificate}
use Rattle.dr_pdu.specs.Feeding.{Feeding}
use Rattle.dr_session.specs.declared.ends.Core.{Core}
use Rattle.dr_session.specs.declared.ends.Effect.{Effect}
use Rattle.dr_session.specs.declared.ends.Heard.TheVariants as heard
use Rattle.dr_session.specs.declared.ends.Moment.{Moment}
use Rattle.dr_session.specs.Ends.{is_gone, state_in}
use Rattle.dr_session.specs.Ledgers.{Desk}
use Rattle.dr_session.specs.Plays.{PlaysBytes}
use Rattle.dr_node.specs.declared.event.LinkEvent.TheVariants as event
use Rattle.dr_node.specs.declared.links.LinkSide.{LinkSide as NodeSide}
use Rattle.dr_node.specs.Sides.{moment_at}
use Rattle.dr_world_tie.specs.Desks.{LedgerStep}
use Rattle.dr_world_tie.specs.Channels.{Channel}
use Rattle.dr_world_tie.specs.ByteWorlds.{ByteWorld, Side, Requestor, Acceptor, Done, LinkStep, DoesIf, ReadsIf, Moves, CallerReads, ReceiverReads, CallerHears, ReceiverHears, IsMoved, IsMoment, caller_of, receiver_of, core_at, is_over, with_done}
use Rattle.dr_world.specs.Laws.{MoveIsShown}
use Rattle.dr_world.specs.Shows.{Contents, ShowsBytes, IsSeated, Becomes, IsLinked, side_of}
use Rattle.dr_world.specs.Ends.{name_at, wire_at}
use Rattle.dr_world.specs.Nodes.{event_at}
use Rattle.dr_world.proofs.Asking.{Found, found, shown, end_of, node_of, accepts, read_at, wire_of, named_so}
use Rattle.dr_world.proofs.Meeting.{hears, is_moment}
use Rattle.dr_world_tie.proofs.Sited.{bytes_keep}

-- where bytes are on the wire
caller_reads : (xs : List ℕ) → xs ≢ [] → (plan : Network) (b : ByteWorld) (number : ℕ) (k : Channel) (n : ℕ) (after : ByteWorld) → nat_le 1 n ≡ true → CallerHears plan b number k n after → CallerReads xs plan b number k n Done after
caller_reads [] some plan b number k n after one h = absurd (some refl)
caller_reads (x ∷ xs) some plan b number k n after one h = (let P : Bool → Type 0 = λ v. DoesIf v b Done after (CallerHears plan b number k n after) in subst P (sym one) (refl, h))

receiver_reads : (xs : List ℕ) → xs ≢ [] → (plan : Network) (b : ByteWorld) (number : ℕ) (k : Channel) (n : ℕ) (after : ByteWorld) → nat_le 1 n ≡ true → ReceiverHears plan b number k n after → ReceiverReads xs plan b number k n Done after
receiver_reads [] some plan b number k n after one h = absurd (some refl)
receiver_reads (x ∷ xs) some plan b number k n after one h = (let P : Bool → Type 0 = λ v. DoesIf v b Done after (ReceiverHears plan b number k n after) in subst P (sym one) (refl, h))

pub wire_is : (side : Side) (seats : Rattle.dr_world.specs.Shows.Seats) (number : ℕ) (w : Rattle.dr_world.specs.declared.wires.Wires.Wires) (k : Channel) → IsLinked seats number w k → wire_of side k ≡ wire_at side w
wire_is Requestor seats number w k l = l.to_caller
wire_is Acceptor seats number w k l = l.to_receiver

module _ (plan : Network) (certificate : Certificate) (b : ByteWorld) (number n m : ℕ) (k : Channel) (has : map.get b.links number ≡ Some k) (one : nat_le 1 n ≡ true) (at : Moment) (ear : Feeding) (x : Effect) (t : Desk) (new : Contents) where
  linked_step : (side : Side) (after : ByteWorld) → Moves plan b number k side n Done after → LinkStep (map.get b.links number) b Done after (λ z. Moves plan b number z side n Done after)
  linked_step side after h = (let P : Option Channel → Type 0 = λ o. LinkStep o b Done after (λ z. Moves plan b number z side n Done after) in subst P (sym has) h)

  moves_at : (side : Side) → is_over (core_at k side) ≡ false → wire_of side k ≢ [] → IsMoved (end_of side k) (wire_of side k) n m → IsMoment b number (node_of side k) at
      → PlaysBytes (LedgerStep plan (node_of side k)) at (end_of side k).ear (end_of side k).core (take m (wire_of side k)) (b.desks (node_of side k)) ear x t → Moves plan b number k side n Done (with_done b (node_of side k) t number (read_at side k m ear x))
  moves_at Requestor on some moved moment plays =
      let after = with_done b (caller_of k) t number (read_at Requestor k m ear x) in
      let P : Bool → Type 0 = λ v. ReadsIf v b Done after (CallerReads k.to_caller plan b number k n Done after) in
      subst P (sym on) (caller_reads k.to_caller some plan b number k n after one (m, at, ear, x, t, moved, moment, plays, refl))
  moves_at Acceptor on some moved moment plays =
      let after = with_done b (receiver_of k) t number (read_at Acceptor k m ear x) in
      let P : Bool → Type 0 = λ v. ReadsIf v b Done after (ReceiverReads k.to_receiver plan b number k n Done after) in
      subst P (sym on) (receiver_reads k.to_receiver some plan b number k n after one (m, at, ear, x, t, moved, moment, plays, refl))

core_same : (side : Side) (k : Channel) → (end_of side k).core ≡ core_at k side
core_same Requestor k = refl
core_same Acceptor k = refl

pub moved : MoveIsShown
moved plan certificate certified c b seated s number n m side piece acts new d is_piece some one on front =
    let does = event_at (event.Heard (heard.Bytes piece)) in
    let f : Found plan certificate certified c b seated s does m number acts new side d = found plan certificate certified c b seated s does m number acts new side d in
    let name = name_at side d.wires in
    let own : d.own ≡ side_of (accepts side) (end_of side f.k) = own_is d.own (side_of (accepts side) (end_of side f.k)) (sym d.has ∙ f.had) in
    let here : is_gone (Rattle.dr_ulstate.specs.Phases.state_of (end_of side f.k).core.phase) ≡ false = ap (λ (o : NodeSide). is_gone (state_in o.end.core)) (sym own) ∙ on in
    let at = moment_at number d.seat.sides c.now in
    let h = hears plan certificate certified c b seated s number name d.seat d.seated (accepts side) (end_of side f.k) d.own d.has f.had acts d.end d.desk piece here d.does_it in
    let keeps = bytes_keep (LedgerStep plan name) at (end_of side f.k).ear (end_of side f.k).core piece (b.desks name) d.end.ear h.0 d.desk h.1 in
    let shows = shown plan certificate certified c b seated s does m number acts new side d f h.0 d.end.ear keeps h.2 h.3 in
    let same : name ≡ node_of side f.k = sym (named_so c.seats number d.wires f.k f.linked side) in
    let wire = wire_is side c.seats number d.wires f.k f.linked in
    let M : Text → Type 0 = λ q. IsMoment b number q at in
    let S : Text → Type 0 = λ q. ShowsBytes new (with_done b q d.desk number (read_at side f.k m d.end.ear h.0)) in
    let H : Text → List ℕ → Type 0 = λ q p. PlaysBytes (LedgerStep plan q) at (end_of side f.k).ear (end_of side f.k).core p (b.desks q) d.end.ear h.0 d.desk in
    let plays : PlaysBytes (LedgerStep plan (node_of side f.k)) at (end_of side f.k).ear (end_of side f.k).core (take m (wire_of side f.k)) (b.desks (node_of side f.k)) d.end.ear h.0 d.desk =
    subst (λ (p : List ℕ). H (node_of side f.k) p) (is_piece ∙ ap (take m) (sym wire)) (subst (λ (q : Text). H q piece) same h.1) in
    let W : List ℕ → Type 0 = λ z. IsMoved (end_of side f.k) z n m in
    let step = moves_at plan certificate b number n m f.k f.has one at d.end.ear h.0 d.desk new side (ap (λ (e : Core). is_over e) (sym (core_same side f.k)) ∙ here) (λ e. some (sym wire ∙ e))
    (subst W (sym wire) (front (end_of side f.k) (ap (λ (o : NodeSide). o.end.ear) (sym own)))) (subst M same (is_moment plan certificate certified c b seated s number name d.seat d.seated)) plays in
    (with_done b (node_of side f.k) d.desk number (read_at side f.k m d.end.ear h.0), linked_step plan certificate b number n m f.k f.has one at d.end.ear h.0 d.desk new side _ step, subst S same shows)
  where
    own_is : (x y : NodeSide) → Some x ≡ Some y → x ≡ y
    own_is x y e = cc
