-- The reason of an abort is the table's.
use Rattle.std.proofs.Common.{◌≡◌, ℕ, Bool, true, false, [], ◌∷◌, Option, Some, None, refl, ap, subst}
use Rattle.std.specs.Prelude.{if◌then◌else◌}
use Rattle.std.proofs.lemmas.Option.{same_Some}
use Rattle.dr_ulstate.specs.declared.table.AbortReason.{AbortReason}
use Rattle.dr_ulstate.specs.declared.table.AbortReason.TheVariants.{UnrecognizedPdu, InvalidParameter}
use Rattle.dr_ulstate.specs.declared.table.Action.TheVariants.{Aa8}
use Rattle.dr_ulstate.specs.declared.table.Event.{Event}
use Rattle.dr_ulstate.specs.declared.table.Event.TheVariants.{AssociateAcPdu, AssociateRjPdu, AssociateRqPdu, DataRequest, DataPdu, ReleaseRequest, ReleaseRqPdu, ReleaseRpPdu, AbortRequest, AbortPdu, TransportClosed, ArtimExpired, InvalidPdu}
use Rattle.dr_ulstate.specs.Phases.{next_expired}
use Rattle.dr_ulstate.specs.Table.{abort_reason, reason_number}
use Rattle.dr_session.specs.declared.ends.Core.{Core}
use Rattle.dr_session.specs.declared.ends.Input.{Input}
use Rattle.dr_session.specs.declared.ends.Input.TheVariants as input
use Rattle.dr_session.specs.declared.ends.Moment.{Moment}
use Rattle.dr_session.specs.declared.ends.Told.{Told}
use Rattle.dr_session.specs.declared.ends.Told.TheVariants.{Plain, Quiet, Fault, Strange, Store, Whole, Agreement}
use Rattle.dr_session.specs.Laws.{AbortsAreTheTables, shown_of}
use Rattle.dr_session.specs.Reactions.{event_of, event_of_plain, reason_of, is_idle, is_free, is_impatient, leaves, write, abort_pdu, aborted}

-- the reason, where the event is known
known : (n : ℕ) (a e : Event) (shown : AbortReason) → Some a ≡ Some e → n ≡ reason_number (abort_reason Aa8 a shown) → n ≡ reason_number (abort_reason Aa8 e shown)
known n a e shown h is = subst (λ (z : Event). n ≡ reason_number (abort_reason Aa8 z shown)) (same_Some a e h) is

never : (n : ℕ) (e : Event) (shown : AbortReason) → None ≡ Some e → n ≡ reason_number (abort_reason Aa8 e shown)
never n e shown h = absurd (let f : ⊥ = cc in f)

by_mark : (expired impatient : Bool) (e : Event) → (if expired then Some ArtimExpired else if impatient then Some AbortRequest else None) ≡ Some e → 2 ≡ reason_number (abort_reason Aa8 e InvalidParameter)
by_mark true impatient e h = known 2 ArtimExpired e InvalidParameter h refl
by_mark false true e h = known 2 AbortRequest e InvalidParameter h refl
by_mark false false e h = never 2 e InvalidParameter h

if_release : (b : Bool) (e : Event) → (if b then Some ReleaseRequest else None) ≡ Some e → 2 ≡ reason_number (abort_reason Aa8 e InvalidParameter)
if_release true e h = known 2 ReleaseRequest e InvalidParameter h refl
if_release false e h = never 2 e InvalidParameter h

if_data : (b : Bool) (e : Event) → (if b then Some DataRequest else None) ≡ Some e → 2 ≡ reason_number (abort_reason Aa8 e InvalidParameter)
if_data true e h = known 2 DataRequest e InvalidParameter h refl
if_data false e h = never 2 e InvalidParameter h

of_plain : (i : Input) (at : Moment) (c : Core) (e : Event) → event_of_plain i at c ≡ Some e → reason_of (Plain i) ≡ reason_number (abort_reason Aa8 e (shown_of (Plain i)))
of_plain (input.Request rq) at c e h = known 2 AssociateRqPdu e InvalidParameter h refl
of_plain (input.Acceptance ac) at c e h = known 2 AssociateAcPdu e InvalidParameter h refl
of_plain (input.Rejection rj) at c e h = known 2 AssociateRjPdu e InvalidParameter h refl
of_plain (input.Value p) at c e h = known 2 DataPdu e InvalidParameter h refl
of_plain input.NoValue at c e h = known 2 DataPdu e InvalidParameter h refl
of_plain input.ReleaseRq at c e h = known 2 ReleaseRqPdu e InvalidParameter h refl
of_plain input.ReleaseRp at c e h = known 2 ReleaseRpPdu e InvalidParameter h refl
of_plain (input.Abort a) at c e h = known 2 AbortPdu e InvalidParameter h refl
of_plain input.Unknown at c e h = known 1 InvalidPdu e UnrecognizedPdu h refl
of_plain input.Invalid at c e h = known 6 InvalidPdu e InvalidParameter h refl
of_plain input.Ended at c e h = known 2 TransportClosed e InvalidParameter h refl
of_plain input.Late at c e h = by_mark (next_expired c.phase at.now) (is_impatient c at.now) e h
of_plain input.AbortAsked at c e h = known 2 AbortRequest e InvalidParameter h refl
of_plain input.ReleaseAsked at c e h = if_release (is_idle c) e h
of_plain input.PushAsked at c e h = if_data (is_free c) e h

reason_is : (told : Told) (at : Moment) (c : Core) (e : Event) → event_of told at c ≡ Some e → reason_of told ≡ reason_number (abort_reason Aa8 e (shown_of told))
reason_is (Plain i) at c e h = of_plain i at c e h
reason_is Strange at c e h = known 6 InvalidPdu e InvalidParameter h refl
reason_is (Agreement answer) at c e h = known 2 AssociateAcPdu e InvalidParameter h refl
reason_is Quiet at c e h = known 2 DataPdu e InvalidParameter h refl
reason_is Fault at c e h = known 2 DataPdu e InvalidParameter h refl
reason_is (Store context of id class instance found) at c e h = known 2 DataPdu e InvalidParameter h refl
reason_is (Whole context of command) at c e h = known 2 DataPdu e InvalidParameter h refl

pub aborts_are_the_tables : AbortsAreTheTables
aborts_are_the_tables at c told e h = (refl, refl, ap (λ (n : ℕ). leaves at (write (abort_pdu 2 n ∷ []) ∷ []) (aborted c)) (reason_is told at c e h))
