-- What the end of its connection makes of an end: it is over.
use Rattle.std.proofs.Common.{◌≡◌, Bool, true, List, Option, None, Some, Ok, Err, refl, ap, ◌∙◌, inl, inr}
use Rattle.std.specs.Option.{option_map_or}
use Rattle.dr_ulstate.specs.declared.table.State.{State}
use Rattle.dr_ulstate.specs.declared.table.State.TheVariants.{Sta1, Sta2, Sta3, Sta4, Sta5, Sta6, Sta7, Sta8, Sta9, Sta10, Sta11, Sta12, Sta13}
use Rattle.dr_ulstate.specs.declared.table.Event.TheVariants.{TransportClosed}
use Rattle.dr_ulstate.specs.declared.table.Action.{Action}
use Rattle.dr_ulstate.specs.declared.table.Action.TheVariants.{Aa4, Aa5, Ar5}
use Rattle.dr_ulstate.specs.declared.phase.Next.{Next}
use Rattle.dr_ulstate.specs.Table.{action_of, with_next}
use Rattle.dr_ulstate.specs.Standing.{Standing}
use Rattle.dr_ulstate.specs.Phases.{standing_of, state_of, stepped_from, after_cell}
use Rattle.dr_ledger.specs.declared.fault.LedgerFault.TheVariants as fault
use Rattle.dr_session.specs.declared.ends.Core.{Core}
use Rattle.dr_session.specs.declared.ends.Effect.{Effect}
use Rattle.dr_session.specs.declared.ends.Input.TheVariants.{Ended}
use Rattle.dr_session.specs.declared.ends.LinkAction.{LinkAction}
use Rattle.dr_session.specs.declared.ends.Moment.{Moment}
use Rattle.dr_session.specs.declared.ends.Pending.{Pending}
use Rattle.dr_session.specs.declared.ends.Told.{Told}
use Rattle.dr_session.specs.declared.ends.Told.TheVariants.{Plain}
use Rattle.dr_session.specs.Desks.{DeskCall, DeskAnswer, Arrival, Upcoming, First, Settling}
use Rattle.dr_session.specs.Reactions.{effect, moves, leaves_by, settling, left, desk_failed}
use Rattle.dr_session.specs.Turns.{Turns, Ends}
use Rattle.dr_world_tie.proofs.Leaving.{plain_turn}
use Rattle.dr_world.proofs.Meeting.{Happened}

-- the actions of a connection's end, each of which leads to Sta1
abbrev Leads : Option Action → Type 0
Leads None = Unit {0}
Leads (Some Aa4) = Unit {0}
Leads (Some Aa5) = Unit {0}
Leads (Some Ar5) = Unit {0}
Leads (Some other) = ⊥

leads : (s : State) → Leads (action_of TransportClosed s)
leads Sta1 = tt
leads Sta2 = tt
leads Sta3 = tt
leads Sta4 = tt
leads Sta5 = tt
leads Sta6 = tt
leads Sta7 = tt
leads Sta8 = tt
leads Sta9 = tt
leads Sta10 = tt
leads Sta11 = tt
leads Sta12 = tt
leads Sta13 = tt

-- where nothing follows the end was over
only_over : (s : State) → action_of TransportClosed s ≡ None → s ≡ Sta1
only_over Sta1 h = refl
only_over Sta2 h = (let f : ⊥ = cc in absurd f)
only_over Sta3 h = (let f : ⊥ = cc in absurd f)
only_over Sta4 h = (let f : ⊥ = cc in absurd f)
only_over Sta5 h = (let f : ⊥ = cc in absurd f)
only_over Sta6 h = (let f : ⊥ = cc in absurd f)
only_over Sta7 h = (let f : ⊥ = cc in absurd f)
only_over Sta8 h = (let f : ⊥ = cc in absurd f)
only_over Sta9 h = (let f : ⊥ = cc in absurd f)
only_over Sta10 h = (let f : ⊥ = cc in absurd f)
only_over Sta11 h = (let f : ⊥ = cc in absurd f)
only_over Sta12 h = (let f : ⊥ = cc in absurd f)
only_over Sta13 h = (let f : ⊥ = cc in absurd f)

module _ {S : Type 0} (step : S → DeskCall → DeskAnswer → S → Type 0) (moment : Moment) (c : Core) (t : S) (x : Effect) where
  settled : (acts : List LinkAction) (d : Core) (m : S) (a : DeskAnswer) → Turns step (settling (Ends (effect acts (left d))) (Ends (effect acts (desk_failed (left d)))) a) m x t → x.core.phase ≡ d.phase
  settled acts d m (Settling (Ok value)) h = ap (λ (y : Effect). y.core.phase) h.0
  settled acts d m (Settling (Err fault.NoLine)) h = ap (λ (y : Effect). y.core.phase) h.0
  settled acts d m (Settling (Err fault.Conflict)) h = ap (λ (y : Effect). y.core.phase) h.0
  settled acts d m (Settling (Err fault.Store)) h = ap (λ (y : Effect). y.core.phase) h.0
  settled acts d m (Settling (Err fault.NotWaiting)) h = ap (λ (y : Effect). y.core.phase) h.0
  settled acts d m (Settling (Err fault.NotHeld)) h = ap (λ (y : Effect). y.core.phase) h.0
  settled acts d m (Settling (Err fault.NotOver)) h = ap (λ (y : Effect). y.core.phase) h.0
  settled acts d m (Settling (Err fault.Memory)) h = absurd h
  settled acts d m (Arrival reply) h = absurd h
  settled acts d m (Upcoming due) h = absurd h
  settled acts d m (First found) h = absurd h

  leaves_phase : (p : Option Pending) (acts : List LinkAction) (d : Core) (s : S) → Turns step (leaves_by p moment.now acts d) s x t → x.core.phase ≡ d.phase
  leaves_phase None acts d s h = ap (λ (y : Effect). y.core.phase) h.0
  leaves_phase (Some p) acts d s h = settled acts d h.1 h.0 h.3

  by_action : (o : Option Action) → Leads o → (o ≡ None → state_of c.phase ≡ Sta1) → (a : Standing) (requestor : Bool) (told : Told) (s : S)
      → Turns step (moves (after_cell (with_next o requestor true) a moment.now c.phase) moment told c) s x t → state_of x.core.phase ≡ Sta1
  by_action None k gone a requestor told s h = ap (λ (y : Effect). state_of y.core.phase) h.0 ∙ gone refl
  by_action (Some Aa4) k gone a requestor told s h = ap (λ (n : Next). state_of n) (leaves_phase _ _ _ s h)
  by_action (Some Aa5) k gone a requestor told s h = ap (λ (n : Next). state_of n) (leaves_phase _ _ _ s h)
  by_action (Some Ar5) k gone a requestor told s h = ap (λ (y : Effect). state_of y.core.phase) h.0
  by_action (Some other) k gone a requestor told s h = absurd k

  by_standing : (o : Option Standing) → standing_of c.phase ≡ o → (s : S) → Turns step (moves (stepped_from o TransportClosed true c.phase moment.now) moment (Plain Ended) c) s x t → state_of x.core.phase ≡ Sta1
  by_standing None is s h = ap (λ (y : Effect). state_of y.core.phase) h.0 ∙ ap (λ (o : Option Standing). option_map_or (λ (a : Standing). a.state) o Sta1) is
  by_standing (Some a) is s h =
      by_action (action_of TransportClosed a.state) (leads a.state) (λ none. ap (λ (o : Option Standing). option_map_or (λ (b : Standing). b.state) o Sta1) is ∙ only_over a.state none) a a.requestor (Plain Ended) s h

  pub ended_over : (s : S) → Happened step c moment Ended s x t → state_of x.core.phase ≡ Sta1
  ended_over s (inl r) = by_standing (standing_of c.phase) refl s (plain_turn step moment c Ended s t x refl r)
  ended_over s (inr (gone, same, still)) = ap (λ (y : Effect). state_of y.core.phase) same ∙ gone
