-- For a node that the site has no hop to nothing is done.
use Rattle.std.specs.Prelude.{◌≡◌, ℕ, Bool, List, Result, Ok, Err}
use Rattle.std.proofs.Common.{refl, inl, inr}
use Rattle.dr_base.specs.Texts.{Text}
use Rattle.dr_site.specs.Parts.{Part}
use Rattle.dr_nego.specs.declared.fault.NegoFault.{NegoFault}
use Rattle.dr_nego.specs.declared.fault.NegoFault.TheVariants as negofault
use Rattle.dr_session.specs.declared.ends.Ended.{Ended}
use Rattle.dr_session.specs.declared.ends.Heard.{Heard}
use Rattle.dr_session.specs.declared.ends.LinkAction.{LinkAction}
use Rattle.dr_session.specs.declared.sessions.SessionFault.{SessionFault}
use Rattle.dr_session.specs.declared.sessions.SessionFault.TheVariants as fault
use Rattle.dr_session.specs.Desks.{DeskCall, DeskAnswer}
use Rattle.dr_session.specs.Ends.{Terminal, OpensTo}
use Rattle.dr_session.specs.Hops.{HasNoHop}
use Rattle.dr_session.specs.Links.{DeliversAs}

pub opens_over_hops : (site : Part) (dest : Text) (now : ℕ) (r : Result (Terminal × List LinkAction) NegoFault)
    → HasNoHop site dest → OpensTo site dest now r → r ≡ Err negofault.NoHop
opens_over_hops site dest now (Ok x) none h = absurd (none h.0.0 h.0.1)
opens_over_hops site dest now (Err negofault.NoHop) none h = refl
opens_over_hops site dest now (Err negofault.Memory) none h = absurd (none h.0 h.1)
opens_over_hops site dest now (Err negofault.StrangeId) none h = absurd h
opens_over_hops site dest now (Err negofault.StrangeSyntax) none h = absurd h
opens_over_hops site dest now (Err negofault.LimitTooSmall) none h = absurd h

pub calls_over_hops : {L S : Type 0} (hears : L → Heard → L → Type 0) (sends : L → List ℕ → Bool → L → Type 0) (closes : L → L → Type 0) (step : S → DeskCall → DeskAnswer → S → Type 0) (tells : ℕ → Type 0)
    (site : Part) (dest : Text) (r : Result Ended SessionFault) (k l : L) (s t : S)
    → HasNoHop site dest → DeliversAs hears sends closes step tells 0 site dest r k s l t
    → (r ≡ Err fault.NoHop) × (l ≡ k) × (t ≡ s)
calls_over_hops hears sends closes step tells site dest (Ok ended) k l s t none h = absurd (none h.0.0 h.0.1)
calls_over_hops hears sends closes step tells site dest (Err fault.NoHop) k l s t none h = (refl, h.1, h.2)
calls_over_hops hears sends closes step tells site dest (Err fault.Memory) k l s t none (inl h) = absurd (none h.0.0 h.0.1)
calls_over_hops hears sends closes step tells site dest (Err fault.Memory) k l s t none (inr h) = absurd (none h.0.0 h.0.1)
calls_over_hops hears sends closes step tells site dest (Err fault.Read) k l s t none h = absurd (none h.0.0 h.0.1)
calls_over_hops hears sends closes step tells site dest (Err fault.Write) k l s t none h = absurd (none h.0.0 h.0.1)
calls_over_hops hears sends closes step tells site dest (Err fault.TooManyReads) k l s t none h = absurd (none h.0.0 h.0.1)
calls_over_hops hears sends closes step tells site dest (Err fault.Desk) k l s t none h = absurd (none h.0.0 h.0.1)
