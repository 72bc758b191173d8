-- A connection that waits for its request is closed 30,000 ms behind the moment when it came.
use Rattle.std.proofs.Common.{◌≡◌, ℕ, ◌≤◌, ◌<◌, ◌+◌, Bool, true, false, List, [], ◌∷◌, Some, None, refl, sym, ap, subst, ◌∙◌, arith}
use Rattle.std.specs.Prelude.{nat_le, if◌then◌else◌}
use Rattle.std.proofs.lemmas.Bool.{leb-true, leb-false}
use Rattle.dr_ulstate.specs.declared.table.Event.TheVariants.{ArtimExpired}
use Rattle.dr_dimse.specs.Taking.{MessageStage, Idle}
use Rattle.dr_site.specs.Parts.{Part}
use Rattle.dr_session.specs.declared.ends.Effect.{Effect}
use Rattle.dr_session.specs.declared.ends.Input.TheVariants.{Late}
use Rattle.dr_session.specs.declared.ends.Moment.{Moment}
use Rattle.dr_session.specs.declared.ends.Told.{Told}
use Rattle.dr_session.specs.declared.ends.Told.TheVariants.{Plain}
use Rattle.dr_session.specs.Desks.{DeskCall, DeskAnswer}
use Rattle.dr_session.specs.Ends.{accepting}
use Rattle.dr_session.specs.Plays.{with_stage}
use Rattle.dr_ulstate.specs.declared.table.State.TheVariants.{Sta1}
use Rattle.dr_ulstate.specs.Phases.{state_of}
use Rattle.dr_session.specs.declared.ends.LinkAction.TheVariants.{Close}
use Rattle.dr_session.specs.Reactions.{turn, occurs, effect}
use Rattle.dr_session.specs.Turns.{Turns}
use Rattle.dr_session.specs.Waits.{ClosesAfterWaiting}

module _ {S : Type 0} (step : S → DeskCall → DeskAnswer → S → Type 0) where
  by_test : (late : Bool) (site : Part) (opened : ℕ) (at : Moment) (s t : S) (x : Effect) → nat_le (opened + 30000) at.now ≡ late
      → Turns step (occurs (if late then Some ArtimExpired else None) at (Plain Late) (accepting site opened)) s x t
      → (t ≡ s) × (opened + 30000 ≤ at.now → (x.acts ≡ Close ∷ []) × (state_of x.core.phase ≡ Sta1)) × (at.now < opened + 30000 → x ≡ effect [] (accepting site opened))
  by_test true site opened at s t x e (is, same) =
      let past = leb-true (opened + 30000) at.now e in
      (same, (λ h. (ap (λ (y : Effect). y.acts) is, ap (λ (y : Effect). state_of y.core.phase) is)), λ early. absurd (omega (arith, past, early)))
  by_test false site opened at s t x e (is, same) =
      let before = leb-false (opened + 30000) at.now e in
      (same, (λ past. absurd (omega (arith, past, before))), λ early. is)

  pub closes : ClosesAfterWaiting step
  closes site opened at s t x h =
      let turns : Turns step (turn at (with_stage Idle (accepting site opened)) (Plain Late)) s x t =
      subst (λ (y : Told). Turns step (turn at (with_stage Idle (accepting site opened)) y) s x t) h.tells.0
      (subst (λ (z : MessageStage). Turns step (turn at (with_stage z (accepting site opened)) h.told) s x t) h.tells.1 h.turns) in
      by_test (nat_le (opened + 30000) at.now) site opened at s t x refl turns
