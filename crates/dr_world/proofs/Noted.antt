-- What an end writes at a step tells whether it did anything.
use Rattle.std.proofs.Common.{◌≡◌, ◌≢◌, ℕ, Bool, true, false, List, [], ◌∷◌, Option, None, Some, Ok, Err, refl, sym, ap, subst, ◌∙◌}
use Rattle.std.specs.Prelude.{◌&&◌, ◌||◌, is_some, if◌then◌else◌}
use Rattle.std.specs.Option.{option_map_or}
use Rattle.dr_ulstate.specs.declared.table.State.{State}
use Rattle.dr_ulstate.specs.declared.table.State.TheVariants.{Sta1, Sta2, Sta3, Sta4, Sta5, Sta6, Sta7, Sta8, Sta9, Sta10, Sta11, Sta12, Sta13}
use Rattle.dr_ulstate.specs.declared.table.Event.{Event as UpperEvent}
use Rattle.dr_ulstate.specs.declared.table.Event.TheVariants.{AbortRequest, ReleaseRequest, DataRequest, ArtimExpired}
use Rattle.dr_ulstate.specs.declared.table.Action.{Action}
use Rattle.dr_ulstate.specs.declared.table.Action.TheVariants.{Aa1, Aa2, Ar1}
use Rattle.dr_ulstate.specs.Table.{action_of, with_next}
use Rattle.dr_ulstate.specs.Standing.{Standing, has_expired, runs_artim}
use Rattle.dr_ulstate.specs.Phases.{standing_of, stepped_from, after_cell, next_expired}
use Rattle.dr_ledger.specs.declared.fault.LedgerFault.TheVariants as fault
use Rattle.dr_session.specs.declared.ends.Core.{Core}
use Rattle.dr_session.specs.declared.ends.Effect.{Effect}
use Rattle.dr_session.specs.declared.ends.Input.TheVariants.{Late, AbortAsked, ReleaseAsked, PushAsked}
use Rattle.dr_session.specs.declared.ends.LinkAction.{LinkAction}
use Rattle.dr_session.specs.declared.ends.Moment.{Moment}
use Rattle.dr_session.specs.declared.ends.Pending.{Pending}
use Rattle.dr_session.specs.declared.ends.Told.{Told}
use Rattle.dr_session.specs.declared.ends.Told.TheVariants.{Plain}
use Rattle.dr_session.specs.Desks.{DeskCall, DeskAnswer, Arrival, Upcoming, First, Settling}
use Rattle.dr_session.specs.Plays.{Reacts, at_moment}
use Rattle.dr_session.specs.Reactions.{effect, occurs, moves, leaves_by, settling, left, desk_failed, is_idle, is_free, is_impatient}
use Rattle.dr_session.specs.Turns.{Turns, Ends}
use Rattle.dr_world_tie.specs.ByteWorlds.{has_cell, acts_late}
use Rattle.dr_world_tie.proofs.Leaving.{plain_turn}

-- the actions of an end's own user and of its timer, which all write or close
abbrev Speaks : Option Action → Type 0
Speaks None = Unit {0}
Speaks (Some Aa1) = Unit {0}
Speaks (Some Aa2) = Unit {0}
Speaks (Some Ar1) = Unit {0}
Speaks (Some other) = ⊥

abort_speaks : (s : State) → Speaks (action_of AbortRequest s)
abort_speaks Sta1 = tt
abort_speaks Sta2 = tt
abort_speaks Sta3 = tt
abort_speaks Sta4 = tt
abort_speaks Sta5 = tt
abort_speaks Sta6 = tt
abort_speaks Sta7 = tt
abort_speaks Sta8 = tt
abort_speaks Sta9 = tt
abort_speaks Sta10 = tt
abort_speaks Sta11 = tt
abort_speaks Sta12 = tt
abort_speaks Sta13 = tt

release_speaks : (s : State) → Speaks (action_of ReleaseRequest s)
release_speaks Sta1 = tt
release_speaks Sta2 = tt
release_speaks Sta3 = tt
release_speaks Sta4 = tt
release_speaks Sta5 = tt
release_speaks Sta6 = tt
release_speaks Sta7 = tt
release_speaks Sta8 = tt
release_speaks Sta9 = tt
release_speaks Sta10 = tt
release_speaks Sta11 = tt
release_speaks Sta12 = tt
release_speaks Sta13 = tt

expiry_speaks : (s : State) → Speaks (action_of ArtimExpired s)
expiry_speaks Sta1 = tt
expiry_speaks Sta2 = tt
expiry_speaks Sta3 = tt
expiry_speaks Sta4 = tt
expiry_speaks Sta5 = tt
expiry_speaks Sta6 = tt
expiry_speaks Sta7 = tt
expiry_speaks Sta8 = tt
expiry_speaks Sta9 = tt
expiry_speaks Sta10 = tt
expiry_speaks Sta11 = tt
expiry_speaks Sta12 = tt
expiry_speaks Sta13 = tt

-- the timer expires where it runs
expires : (s : State) → runs_artim s ≡ true → is_some (action_of ArtimExpired s) ≡ true
expires Sta1 h = h
expires Sta2 h = refl
expires Sta3 h = h
expires Sta4 h = h
expires Sta5 h = h
expires Sta6 h = h
expires Sta7 h = h
expires Sta8 h = h
expires Sta9 h = h
expires Sta10 h = h
expires Sta11 h = h
expires Sta12 h = h
expires Sta13 h = refl

expires_in : (o : Option Standing) (now : ℕ) → option_map_or (λ (a : Standing). has_expired a now) o false ≡ true → is_some (action_of ArtimExpired (option_map_or (λ (a : Standing). a.state) o Sta1)) ≡ true
expires_in None now h = h
expires_in (Some a) now h = expires a.state (first (runs_artim a.state) _ h)
  where
    first : (p q : Bool) → (p && q) ≡ true → p ≡ true
    first true q e = refl
    first false q e = e

some_acts : (x : LinkAction) (acts : List LinkAction) → acts ≡ x ∷ [] → acts ≢ []
some_acts x acts e f = (let g : x ∷ [] ≡ [] = sym e ∙ f in let h : ⊥ = cc in h)

module _ {S : Type 0} (step : S → DeskCall → DeskAnswer → S → Type 0) (moment : Moment) (c : Core) (t : S) (x : Effect) where
  settled : (acts : List LinkAction) (d : Core) (m : S) (a : DeskAnswer) → Turns step (settling (Ends (effect acts (left d))) (Ends (effect acts (desk_failed (left d)))) a) m x t → x.acts ≡ acts
  settled acts d m (Settling (Ok value)) h = ap (λ (y : Effect). y.acts) h.0
  settled acts d m (Settling (Err fault.NoLine)) h = ap (λ (y : Effect). y.acts) h.0
  settled acts d m (Settling (Err fault.Conflict)) h = ap (λ (y : Effect). y.acts) h.0
  settled acts d m (Settling (Err fault.Store)) h = ap (λ (y : Effect). y.acts) h.0
  settled acts d m (Settling (Err fault.NotWaiting)) h = ap (λ (y : Effect). y.acts) h.0
  settled acts d m (Settling (Err fault.NotHeld)) h = ap (λ (y : Effect). y.acts) h.0
  settled acts d m (Settling (Err fault.NotOver)) h = ap (λ (y : Effect). y.acts) h.0
  settled acts d m (Settling (Err fault.Memory)) h = absurd h
  settled acts d m (Arrival reply) h = absurd h
  settled acts d m (Upcoming due) h = absurd h
  settled acts d m (First found) h = absurd h

  leaves_acts : (p : Option Pending) (acts : List LinkAction) (d : Core) (s : S) → Turns step (leaves_by p moment.now acts d) s x t → x.acts ≡ acts
  leaves_acts None acts d s h = ap (λ (y : Effect). y.acts) h.0
  leaves_acts (Some p) acts d s h = settled acts d h.1 h.0 h.3

  -- something is written, or nothing was done
  abbrev pub WritesIf : Bool → S → Type 0
  WritesIf true s = x.acts ≢ []
  WritesIf false s = (x ≡ effect [] c) × (t ≡ s)

  by_action : (o : Option Action) → Speaks o → (a : Standing) (requestor acceptable : Bool) (told : Told) (s : S) → Turns step (moves (after_cell (with_next o requestor acceptable) a moment.now c.phase) moment told c) s x t → WritesIf (is_some o) s
  by_action None k a requestor acceptable told s h = (h.0, h.1)
  by_action (Some Aa1) k a requestor acceptable told s h = some_acts _ x.acts (leaves_acts _ _ _ s h)
  by_action (Some Aa2) k a requestor acceptable told s h = some_acts _ x.acts (leaves_acts _ _ _ s h)
  by_action (Some Ar1) k a requestor acceptable told s h = some_acts _ x.acts (ap (λ (y : Effect). y.acts) h.0)
  by_action (Some other) k a requestor acceptable told s h = absurd k

  by_standing : (e : UpperEvent) → ((q : State) → Speaks (action_of e q)) → is_some (action_of e Sta1) ≡ false → (acceptable : Bool) (told : Told) (o : Option Standing) (s : S)
      → Turns step (moves (stepped_from o e acceptable c.phase moment.now) moment told c) s x t → WritesIf (is_some (action_of e (option_map_or (λ (a : Standing). a.state) o Sta1))) s
  by_standing e speaks gone acceptable told None s h = (let P : Bool → Type 0 = λ b. WritesIf b s in subst P (sym gone) (h.0, h.1))
  by_standing e speaks gone acceptable told (Some a) s h = by_action (action_of e a.state) (speaks a.state) a a.requestor acceptable told s h

  aborts : (acceptable : Bool) (told : Told) (s : S) → Turns step (moves (stepped_from (standing_of c.phase) AbortRequest acceptable c.phase moment.now) moment told c) s x t → WritesIf (has_cell AbortRequest c) s
  aborts acceptable told s h = by_standing AbortRequest abort_speaks refl acceptable told (standing_of c.phase) s h

  pub abort_writes : (s : S) → Reacts step c (at_moment moment AbortAsked) s x t → WritesIf (has_cell AbortRequest c) s
  abort_writes s r = aborts true (Plain AbortAsked) s (plain_turn step moment c AbortAsked s t x refl r)

  by_idle : (b : Bool) (s : S) → Turns step (occurs (if b then Some ReleaseRequest else None) moment (Plain ReleaseAsked) c) s x t → WritesIf (b && has_cell ReleaseRequest c) s
  by_idle true s h = by_standing ReleaseRequest release_speaks refl true (Plain ReleaseAsked) (standing_of c.phase) s h
  by_idle false s h = (h.0, h.1)

  pub release_writes : (s : S) → Reacts step c (at_moment moment ReleaseAsked) s x t → WritesIf (is_idle c && has_cell ReleaseRequest c) s
  release_writes s r = by_idle (is_idle c) s (plain_turn step moment c ReleaseAsked s t x refl r)

  by_late : (expired impatient : Bool) (s : S) → next_expired c.phase moment.now ≡ expired → Turns step (occurs (if expired then Some ArtimExpired else if impatient then Some AbortRequest else None) moment (Plain Late) c) s x t
      → WritesIf (expired || (impatient && has_cell AbortRequest c)) s
  by_late true impatient s e h =
      let w = by_standing ArtimExpired expiry_speaks refl true (Plain Late) (standing_of c.phase) s h in
      let P : Bool → Type 0 = λ b. WritesIf b s in
      subst P (expires_in (standing_of c.phase) moment.now e) w
  by_late false true s e h = aborts true (Plain Late) s h
  by_late false false s e h = (h.0, h.1)

  pub late_writes : (s : S) → Reacts step c (at_moment moment Late) s x t → WritesIf (acts_late c moment.now) s
  late_writes s r = by_late (next_expired c.phase moment.now) (is_impatient c moment.now) s refl (plain_turn step moment c Late s t x refl r)

  by_free : (b : Bool) (s : S) → b ≡ false → Turns step (occurs (if b then Some DataRequest else None) moment (Plain PushAsked) c) s x t → (x ≡ effect [] c) × (t ≡ s)
  by_free false s e h = (h.0, h.1)
  by_free true s e h = (let f : ⊥ = cc in absurd f)

  pub push_rests : (s : S) → is_free c ≡ false → Reacts step c (at_moment moment PushAsked) s x t → (x ≡ effect [] c) × (t ≡ s)
  push_rests s e r = by_free (is_free c) s e (plain_turn step moment c PushAsked s t x refl r)
