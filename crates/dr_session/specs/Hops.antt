-- What is done for a node that the site has no hop to.
use Rattle.std.specs.Prelude.{◌≡◌, ℕ, Bool, List, Result, Err}
use Rattle.dr_base.specs.Texts.{Text}
use Rattle.dr_plan_sound.specs.declared.certificate.Hop.{Hop}
use Rattle.dr_site.specs.Parts.{Part}
use Rattle.dr_nego.specs.declared.fault.NegoFault.{NegoFault}
use Rattle.dr_nego.specs.declared.fault.NegoFault.TheVariants as negofault
use Rattle.dr_nego.specs.Proposing.{IsHopTo}
use Rattle.dr_session.specs.declared.ends.Ended.{Ended}
use Rattle.dr_session.specs.declared.ends.Heard.{Heard}
use Rattle.dr_session.specs.declared.ends.LinkAction.{LinkAction}
use Rattle.dr_session.specs.declared.sessions.SessionFault.{SessionFault}
use Rattle.dr_session.specs.declared.sessions.SessionFault.TheVariants as fault
use Rattle.dr_session.specs.Desks.{DeskCall, DeskAnswer}
use Rattle.dr_session.specs.Ends.{Terminal, OpensTo}
use Rattle.dr_session.specs.Links.{DeliversAs}

abbrev pub HasNoHop : Part → Text → Type 0
HasNoHop site dest = (hop : Hop) → IsHopTo site dest hop → ⊥

-- no end asks for an association there, and it is told so whatever memory there is
abbrev pub OpensOverHops : Type 0
OpensOverHops =
    (site : Part) (dest : Text) (now : ℕ) (r : Result (Terminal × List LinkAction) NegoFault)
    → HasNoHop site dest
    → OpensTo site dest now r
    → r ≡ Err negofault.NoHop

-- there is no session, which is told whatever memory there is, and neither the link nor the desk is
-- called
abbrev pub CallsOverHops : {L S C : Type 0}
    → (L → Heard → L → Type 0)
    → (L → List ℕ → Bool → L → Type 0)
    → (L → L → Type 0)
    → (S → DeskCall → DeskAnswer → S → Type 0)
    → (C → ℕ → Type 0) → Type 0
CallsOverHops {L} {S} {C} hears sends closes step tells =
    (clock : C) (site : Part) (dest : Text) (r : Result Ended SessionFault) (k l : L) (s t : S)
    → HasNoHop site dest
    → DeliversAs hears sends closes step (tells clock) 0 site dest r k s l t
    → (r ≡ Err fault.NoHop) × (l ≡ k) × (t ≡ s)
