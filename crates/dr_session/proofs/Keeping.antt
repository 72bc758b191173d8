-- A session keeps what it works with.
use Rattle.std.specs.Prelude.{◌≡◌, ℕ}
use Rattle.std.proofs.Common.{refl, subst, ◌∙◌}
use Rattle.std.specs.Borrow.{Bor}
use Rattle.dr_session.specs.declared.sessions.Session.{Session}
use Rattle.dr_session.specs.Links.{Counts}
use Rattle.dr_session.specs.Sessions.{KeepsParts}

module _ {L S C : Type 0} where
  pub kept_on : (old mid new : Session L S C) → KeepsParts old mid → KeepsParts mid new → KeepsParts old new
  kept_on old mid new first second = (second.0 ∙ first.0, second.1 ∙ first.1, second.2 ∙ first.2, second.3 ∙ first.3)

  -- what rests on the clock and on the others is as it was
  pub as_kept : (F : (ℕ → Type 0) → ℕ → Type 0) (tells : C → ℕ → Type 0) (old new : Session L S C) → KeepsParts old new → F (tells new.clock.now) new.others → F (tells old.clock.now) old.others
  as_kept F tells old new kept it =
      subst (λ (n : ℕ). F (tells old.clock.now) n) kept.3 (subst (λ (c : Bor C). F (tells c.now) new.others) kept.2 it)

-- what was said of what a session works with holds of what its lender finds
pub handed_back : {L S : Type 0} → (F : L → S → Type 0) (k l : L) (s t : S) → k ≡ l → s ≡ t → F k s → F l t
handed_back F k l s t link port it = subst (λ u. F l u) port (subst (λ m. F m s) link it)

pub counts_back : {L : Type 0} → (failed : L → ℕ) (Failed : Type 0) (before : ℕ) (k l : L) → k ≡ l → Counts Failed before (failed k) → Counts Failed before (failed l)
counts_back failed Failed before k l link it = subst (λ m. Counts Failed before (failed m)) link it
