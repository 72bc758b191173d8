-- An end that is over does nothing.
use Rattle.std.proofs.Common.{◌≡◌, ℕ, Bool, true, false, not, List, Option, Some, None, Result, Err, refl, ap, subst, ◌∙◌}
use Rattle.std.specs.Prelude.{if◌then◌else◌}
use Rattle.std.specs.Option.{option_map_or}
use Rattle.dr_ulstate.specs.declared.table.State.{State}
use Rattle.dr_ulstate.specs.declared.table.State.TheVariants.{Sta1, Sta2, Sta3, Sta4, Sta5, Sta6, Sta7, Sta8, Sta9, Sta10, Sta11, Sta12, Sta13}
use Rattle.dr_ulstate.specs.declared.table.Action.{Action}
use Rattle.dr_ulstate.specs.declared.table.Event.{Event}
use Rattle.dr_ulstate.specs.declared.table.Event.TheVariants.{AssociateRequest, TransportConfirm, AssociateAcPdu, AssociateRjPdu, TransportIndication, AssociateRqPdu, AcceptResponse, RejectResponse, DataRequest, DataPdu, ReleaseRequest, ReleaseRqPdu, ReleaseRpPdu, ReleaseResponse, AbortRequest, AbortPdu, TransportClosed, ArtimExpired, InvalidPdu}
use Rattle.dr_ulstate.specs.declared.phase.Next.{Next}
use Rattle.dr_ulstate.specs.Phases.{standing_of, state_of, stepped_from, after_cell}
use Rattle.dr_ulstate.specs.Standing.{Standing}
use Rattle.dr_ulstate.specs.Table.{cell}
use Rattle.dr_session.specs.declared.ends.Core.{Core}
use Rattle.dr_session.specs.declared.ends.Input.{Input}
use Rattle.dr_session.specs.declared.ends.Input.TheVariants.{Request, Acceptance, Rejection, Value, NoValue, ReleaseRq, ReleaseRp, Abort, Unknown, Invalid, Ended, Late, AbortAsked, ReleaseAsked, PushAsked}
use Rattle.dr_session.specs.declared.ends.Moment.{Moment}
use Rattle.dr_session.specs.declared.ends.Told.{Told}
use Rattle.dr_session.specs.declared.ends.Told.TheVariants.{Plain, Quiet, Fault, Strange, Store, Whole, Agreement}
use Rattle.dr_session.specs.declared.ends.Heard.{Heard}
use Rattle.dr_session.specs.declared.ends.Heard.TheVariants as heard
use Rattle.dr_session.specs.Ends.{Terminal, IsEndOver, is_gone, MeetsIn, MeetsBy, HearsOf, HearsBytes, HearsPiece, LosesBy, LosesIn, CrowdsBy, CrowdsIn, idle_in, state_in}
use Rattle.dr_session.specs.Reactions.{turn, quiet, occurs, moves, event_of, event_of_plain}
use Rattle.dr_session.specs.Laws.{RestsWhenOver, IsStill, StaysOver, HearsNothing}
use Rattle.dr_session.specs.Desks.{DeskCall, DeskAnswer}
use Rattle.dr_session.specs.declared.ends.LinkAction.{LinkAction}
use Rattle.std.specs.declared.alloc.AllocError.{AllocError}

-- what opens a connection; no turn meets it
abbrev opens : Event → Bool
opens AssociateRequest = true
opens TransportIndication = true
opens e = false

abbrev is_met : Option Event → Bool
is_met None = true
is_met (Some e) = not (opens e)

no_cell : (e : Event) (requestor acceptable : Bool) → not (opens e) ≡ true → cell e Sta1 requestor acceptable ≡ None
no_cell AssociateRequest r a h = absurd (let k : false ≡ true = h in cc)
no_cell TransportIndication r a h = absurd (let k : false ≡ true = h in cc)
no_cell TransportConfirm r a h = refl
no_cell AssociateAcPdu r a h = refl
no_cell AssociateRjPdu r a h = refl
no_cell AssociateRqPdu r a h = refl
no_cell AcceptResponse r a h = refl
no_cell RejectResponse r a h = refl
no_cell DataRequest r a h = refl
no_cell DataPdu r a h = refl
no_cell ReleaseRequest r a h = refl
no_cell ReleaseRqPdu r a h = refl
no_cell ReleaseRpPdu r a h = refl
no_cell ReleaseResponse r a h = refl
no_cell AbortRequest r a h = refl
no_cell AbortPdu r a h = refl
no_cell TransportClosed r a h = refl
no_cell ArtimExpired r a h = refl
no_cell InvalidPdu r a h = refl

gone_is : (s : State) → is_gone s ≡ true → s ≡ Sta1
gone_is Sta1 h = refl
gone_is Sta2 h = absurd (let k : false ≡ true = h in cc)
gone_is Sta3 h = absurd (let k : false ≡ true = h in cc)
gone_is Sta4 h = absurd (let k : false ≡ true = h in cc)
gone_is Sta5 h = absurd (let k : false ≡ true = h in cc)
gone_is Sta6 h = absurd (let k : false ≡ true = h in cc)
gone_is Sta7 h = absurd (let k : false ≡ true = h in cc)
gone_is Sta8 h = absurd (let k : false ≡ true = h in cc)
gone_is Sta9 h = absurd (let k : false ≡ true = h in cc)
gone_is Sta10 h = absurd (let k : false ≡ true = h in cc)
gone_is Sta11 h = absurd (let k : false ≡ true = h in cc)
gone_is Sta12 h = absurd (let k : false ≡ true = h in cc)
gone_is Sta13 h = absurd (let k : false ≡ true = h in cc)

rests_at : (o : Option Standing) (e : Event) (acceptable : Bool) (next : Next) (now : ℕ) → is_gone (option_map_or (λ (a : Standing). a.state) o Sta1) ≡ true
    → not (opens e) ≡ true → stepped_from o e acceptable next now ≡ Err next
rests_at None e acceptable next now gone met = refl
rests_at (Some a) e acceptable next now gone met =
    let none : cell e a.state a.requestor acceptable ≡ None = ap (λ (s : State). cell e s a.requestor acceptable) (gone_is a.state gone) ∙ no_cell e a.requestor acceptable met in
    ap (λ (x : Option (Action × State)). after_cell x a now next) none

occurs_rests : (o : Option Event) (at : Moment) (told : Told) (c : Core) → is_gone (state_of c.phase) ≡ true → is_met o ≡ true → occurs o at told c ≡ quiet c
occurs_rests None at told c gone met = refl
occurs_rests (Some e) at told c gone met =
    ap (λ (r : Result (Action × Next) Next). moves r at told c) (rests_at (standing_of c.phase) e _ c.phase at.now gone met)

either : (x y : Bool) → is_met (if x then Some ArtimExpired else if y then Some AbortRequest else None) ≡ true
either true y = refl
either false true = refl
either false false = refl

where_asked : (e : Event) (x : Bool) → not (opens e) ≡ true → is_met (if x then Some e else None) ≡ true
where_asked e true met = met
where_asked e false met = refl

meets_plain : (i : Input) (at : Moment) (c : Core) → is_met (event_of_plain i at c) ≡ true
meets_plain (Request rq) at c = refl
meets_plain (Acceptance ac) at c = refl
meets_plain (Rejection rj) at c = refl
meets_plain (Value p) at c = refl
meets_plain NoValue at c = refl
meets_plain ReleaseRq at c = refl
meets_plain ReleaseRp at c = refl
meets_plain (Abort a) at c = refl
meets_plain Unknown at c = refl
meets_plain Invalid at c = refl
meets_plain Ended at c = refl
meets_plain Late at c = either _ _
meets_plain AbortAsked at c = refl
meets_plain ReleaseAsked at c = where_asked ReleaseRequest _ refl
meets_plain PushAsked at c = where_asked DataRequest _ refl

meets : (told : Told) (at : Moment) (c : Core) → is_met (event_of told at c) ≡ true
meets (Plain i) at c = meets_plain i at c
meets Quiet at c = refl
meets Fault at c = refl
meets Strange at c = refl
meets (Store context of id class instance found) at c = refl
meets (Whole context of command) at c = refl
meets (Agreement answer) at c = refl

pub rests : RestsWhenOver
rests at c told over = occurs_rests (event_of told at c) at told c over (meets told at c)

-- ---- at each call of an end

module _ {S : Type 0} (step : S → DeskCall → DeskAnswer → S → Type 0) (at : Moment) (old new : Terminal) (s t : S) (result : Result (List LinkAction) AllocError) where
  meets_still : (o : Option Core) (i : Input) → IsEndOver o → MeetsIn step o at i old s result new t → IsStill old s result new t
  meets_still None i over h = h
  meets_still (Some c) i over h = subst (λ (b : Bool). MeetsBy step b at i c old s result new t) over h

  hears_still : (o : Option Core) (piece : List ℕ) → IsEndOver o → HearsBytes step o at piece old s result new t → IsStill old s result new t
  hears_still None piece over h = h
  hears_still (Some c) piece over h = subst (λ (b : Bool). HearsPiece step b at piece c old s result new t) over h

  loses_still : (o : Option Core) → IsEndOver o → t ≡ s → LosesIn o old result new → IsStill old s result new t
  loses_still None over same h = (h.0, h.1, same)
  loses_still (Some c) over same h =
      let still : LosesBy true old result new = subst (λ (b : Bool). LosesBy b old result new) over h in (still.0, still.1, same)

  crowds_still : (o : Option Core) → IsEndOver o → t ≡ s → CrowdsIn o old result new → IsStill old s result new t
  crowds_still None over same h = (h.0, h.1, same)
  crowds_still (Some c) over same h =
      let still : CrowdsBy true c old result new = subst (λ (b : Bool). CrowdsBy b c old result new) over h in (still.0, still.1, same)

  hears_over : (came : Heard) → IsEndOver old.core → HearsOf step came at old s result new t → IsStill old s result new t
  hears_over (heard.Bytes piece) over h = hears_still old.core piece over h
  hears_over heard.End over h = meets_still old.core Ended over h
  hears_over heard.Fault over h = meets_still old.core Ended over h
  hears_over heard.Late over h = meets_still old.core Late over h
  hears_over heard.Idle over h = meets_still old.core (idle_in (state_in old.core)) over h
  hears_over heard.Crowded over h = crowds_still old.core over h.0 h.1
  hears_over heard.Memory over h = loses_still old.core over h.0 h.1

pub stays_over : {S : Type 0} (step : S → DeskCall → DeskAnswer → S → Type 0) → StaysOver step
stays_over step i at old new s t result over h = meets_still step at old new s t result old.core i over h

pub hears_nothing : {S : Type 0} (step : S → DeskCall → DeskAnswer → S → Type 0) → HearsNothing step
hears_nothing step came at old new s t result over h = hears_over step at old new s t result came over h
