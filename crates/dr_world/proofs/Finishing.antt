-- A Move of all that is left of a PDU ends it.
use Rattle.std.proofs.Common.{◌≡◌, ◌≢◌, ℕ, ◌≤◌, Bool, true, false, List, [], ◌∷◌, ◌++◌, length, take, map as mapped, Option, Some, refl, sym, ap, subst, ◌∙◌, arith, inl, inr}
use Rattle.std.specs.Prelude.{nat_le}
use Rattle.std.proofs.lemmas.Bool.{le-leb}
use Rattle.std.proofs.Math.Seq.{take-append_seam}
use Rattle.std.specs.FinMap as map
use Rattle.dr_plan_model.specs.Networks.{Network}
use Rattle.dr_pdu.specs.declared.pdu.Pdu.{Pdu}
use Rattle.dr_pdu.specs.Feeding.{Feeding, fresh}
use Rattle.dr_session.specs.declared.ends.Effect.{Effect}
use Rattle.dr_session.specs.declared.ends.Input.{Input}
use Rattle.dr_session.specs.declared.ends.Moment.{Moment}
use Rattle.dr_session.specs.Desks.{DeskCall, DeskAnswer}
use Rattle.dr_session.specs.Plays.{Plays, PlaysBytes, at_moment, inputs_of}
use Rattle.dr_world_tie.specs.Desks.{LedgerStep}
use Rattle.dr_world_tie.specs.Channels.{LiveTerminal, Channel}
use Rattle.dr_world_tie.specs.Moves.{IsLeft}
use Rattle.dr_world_tie.specs.ByteWorlds.{ByteWorld, Requestor, Acceptor, StepNote, Done, LinkStep, DoesIf, ReadsIf, Moves, CallerReads, ReceiverReads, CallerHears, ReceiverHears, IsMoved, is_over, with_done, caller_of, receiver_of}
use Rattle.dr_world_tie.proofs.Fronts.{hears_one}
use Rattle.dr_world.specs.Ended.{HasHeard, MoveEndsPdu, after_reading}

done_if : (b after : ByteWorld) (note : StepNote) (go : Bool) (What : Type 0) → go ≡ true → DoesIf go b note after What → (note ≡ Done) × What
done_if b after note true What e h = h
done_if b after note false What e h = (let f : ⊥ = cc in absurd f)

read_if : (b after : ByteWorld) (note : StepNote) (over : Bool) (What : Type 0) → over ≡ false → ReadsIf over b note after What → What
read_if b after note false What e h = h
read_if b after note true What e h = (let f : ⊥ = cc in absurd f)

some_bytes : (left : List ℕ) (n : ℕ) → left ≢ [] → length left ≤ n → nat_le 1 n ≡ true
some_bytes [] n some less = absurd (some refl)
some_bytes (x ∷ xs) n some less = le-leb 1 n (omega (arith, less))

some_wire : (left rest wire : List ℕ) → left ≢ [] → wire ≡ left ++ rest → wire ≢ []
some_wire [] rest wire some is none = some refl
some_wire (x ∷ xs) rest wire some is none = (let e : x ∷ (xs ++ rest) ≡ [] = sym is ∙ none in cc)

-- just the rest is moved
all_left : (t : LiveTerminal) (wire : List ℕ) (n m : ℕ) → IsMoved t wire n m → (front : Pdu) (left : List ℕ) → IsLeft t wire front left → length left ≤ n → m ≡ length left
all_left t wire n m moved front left h less = (let a = moved.1 front left h in elim a.1 [ inl all ↦ omega (arith, all, less, a.0) | inr same ↦ same ])

-- what was heard is the PDU
module _ {S : Type 0} (step : S → DeskCall → DeskAnswer → S → Type 0) (at : Moment) (t : LiveTerminal) (wire : List ℕ) (s : S) (front : Pdu) (left : List ℕ) (is : IsLeft t wire front left) (works : t.ear.failed ≡ false) where
  heard_front : (m : ℕ) (new : Feeding) (x : Effect) (after : S) → m ≡ length left → PlaysBytes step at t.ear t.core (take m wire) s new x after
      → Plays step t.core (mapped (at_moment at) (inputs_of front)) s x.acts x.core after × (new ≡ fresh t.ear.limit)
  heard_front m new x after same (inputs, hears, plays) =
      let piece : take m wire ≡ left = ap (λ (z : ℕ). take z wire) same ∙ (ap (take (length left)) is.wire_is ∙ take-append_seam left is.rest) in
      let one = hears_one t.ear new (take m wire) inputs front works is.first.2 is.first.3 (ap (λ (z : List ℕ). t.ear.kept ++ z) piece ∙ is.joined) hears in
      (subst (λ (z : List Input). Plays step t.core (mapped (at_moment at) z) s x.acts x.core after) one.0 plays, one.1)

module _ (plan : Network) (b after : ByteWorld) (link n : ℕ) (note : StepNote) (k : Channel) (front : Pdu) (left : List ℕ) (less : length left ≤ n) where
  caller_on : (wire : List ℕ) → wire ≢ [] → left ≢ [] → CallerReads wire plan b link k n note after → (note ≡ Done) × CallerHears plan b link k n after
  caller_on [] some there h = absurd (some refl)
  caller_on (x ∷ xs) some there h = done_if b after note (nat_le 1 n) _ (some_bytes left n there less) h

  receiver_on : (wire : List ℕ) → wire ≢ [] → left ≢ [] → ReceiverReads wire plan b link k n note after → (note ≡ Done) × ReceiverHears plan b link k n after
  receiver_on [] some there h = absurd (some refl)
  receiver_on (x ∷ xs) some there h = done_if b after note (nat_le 1 n) _ (some_bytes left n there less) h

  caller_ends : (is : IsLeft k.caller k.to_caller front left) → k.caller.ear.failed ≡ false → CallerHears plan b link k n after → HasHeard plan b link Requestor k front left after
  caller_ends is works (m, at, ear, x, t, moved, moment, plays, so) =
      let same = all_left k.caller k.to_caller n m moved front left is less in
      let h = heard_front (LedgerStep plan (caller_of k)) at k.caller k.to_caller (b.desks (caller_of k)) front left is works m ear x t same plays in
      record { at = at; moment = moment; x = x; t = t; plays = h.0; is = so ∙ (λ i. with_done b (caller_of k) t link (after_reading Requestor k (same i) (h.1 i) x)) }

  receiver_ends : (is : IsLeft k.receiver k.to_receiver front left) → k.receiver.ear.failed ≡ false → ReceiverHears plan b link k n after → HasHeard plan b link Acceptor k front left after
  receiver_ends is works (m, at, ear, x, t, moved, moment, plays, so) =
      let same = all_left k.receiver k.to_receiver n m moved front left is less in
      let h = heard_front (LedgerStep plan (receiver_of k)) at k.receiver k.to_receiver (b.desks (receiver_of k)) front left is works m ear x t same plays in
      record { at = at; moment = moment; x = x; t = t; plays = h.0; is = so ∙ (λ i. with_done b (receiver_of k) t link (after_reading Acceptor k (same i) (h.1 i) x)) }

linked_here : (b after : ByteWorld) (link : ℕ) (k : Channel) (note : StepNote) (What : Channel → Type 0) → map.get b.links link ≡ Some k → LinkStep (map.get b.links link) b note after What → What k
linked_here b after link k note What has h = (let P : Option Channel → Type 0 = λ o. LinkStep o b note after What in subst P has h)

pub move_ends_pdu : MoveEndsPdu
move_ends_pdu plan certificate b after link n Requestor note k has on works front left is less h =
    let moves = linked_here b after link k note (λ z. Moves plan b link z Requestor n note after) has h in
    let reads = read_if b after note (is_over k.caller.core) _ on moves in
    let r = caller_on plan b after link n note k front left less k.to_caller (some_wire left is.rest k.to_caller is.some is.wire_is) is.some reads in
    (r.0, caller_ends plan b after link n note k front left less is works r.1)
move_ends_pdu plan certificate b after link n Acceptor note k has on works front left is less h =
    let moves = linked_here b after link k note (λ z. Moves plan b link z Acceptor n note after) has h in
    let reads = read_if b after note (is_over k.receiver.core) _ on moves in
    let r = receiver_on plan b after link n note k front left less k.to_receiver (some_wire left is.rest k.to_receiver is.some is.wire_is) is.some reads in
    (r.0, receiver_ends plan b after link n note k front left less is works r.1)
