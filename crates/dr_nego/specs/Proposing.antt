-- What a caller proposes for a hop.
use Rattle.std.specs.Prelude.{◌≡◌, ◌↔◌, ◌<◌, [], ◌∷◌, replicate, Contains, AllPairs, Result, Ok}
use Rattle.std.specs.Prelude.{Err}
use Rattle.dr_base.specs.Texts.{Text}
use Rattle.dr_base.specs.Syntaxes.{syntax_uid}
use Rattle.dr_base.specs.declared.syntax.Syntax.TheVariants.{Implicit}
use Rattle.dr_plan_sound.specs.declared.certificate.Hop.{Hop}
use Rattle.dr_site.specs.Parts.{Part}
pub use Rattle.dr_site.specs.Parts.{IsHopTo}
use Rattle.dr_pdu.specs.declared.pdu.ContextProposal.{ContextProposal}
use Rattle.dr_nego.specs.declared.fault.NegoFault.{NegoFault}
use Rattle.dr_nego.specs.declared.fault.NegoFault.TheVariants.{StrangeId, StrangeSyntax}
use Rattle.dr_nego.specs.declared.fault.NegoFault.TheVariants.{LimitTooSmall, NoHop, Memory}
use Rattle.dr_nego.specs.Agreeing.{AssociateRq}
use Rattle.dr_base.specs.Standard.{verification, application_context}

-- the context that is proposed for a numbered pair of a hop: the pair's number, class and one
-- transfer syntax
abbrev pub context_of : Hop → ContextProposal
context_of hop = record { id = hop.id; class = hop.class; syntaxes = syntax_uid hop.syntax ∷ [] }

-- a context for each pair of the hop, by rising ids (which is byte order of class, then of the
-- transfer syntax)
pub record IsProposal (site : Part) (dest : Text) (rq : AssociateRq) : Type 0 where
  pub front : rq.front
      ≡ record { version = 1; called = dest; calling = site.name; reserved = replicate 32 0 }
  pub application : rq.application ≡ application_context
  pub rising : AllPairs (λ (a b : ContextProposal). a.id < b.id) rq.contexts
  pub each : (c : ContextProposal)
      → Contains rq.contexts c ↔ ((hop : Hop) × IsHopTo site dest hop × (c ≡ context_of hop))
  pub max_pdu : rq.max_pdu ≡ site.max_pdu

-- what a site answers when its proposal for a node is asked for: the request, or that it has no hop
-- to there; memory is wanted for a hop alone
abbrev pub Proposes : Part → Text → Result AssociateRq NegoFault → Type 0
Proposes site dest (Ok rq) = ((hop : Hop) × IsHopTo site dest hop) × IsProposal site dest rq
Proposes site dest (Err NoHop) = (hop : Hop) → IsHopTo site dest hop → ⊥
Proposes site dest (Err StrangeId) = ⊥
Proposes site dest (Err StrangeSyntax) = ⊥
Proposes site dest (Err LimitTooSmall) = ⊥
Proposes site dest (Err Memory) = (hop : Hop) × IsHopTo site dest hop

-- a request of Verification alone, in context 1 and the implicit syntax, by a caller that takes
-- 16,384 bytes
abbrev pub echo_proposal : Text → Text → AssociateRq
echo_proposal calling called = record {
  front = record { version = 1; called = called; calling = calling; reserved = replicate 32 0 };
  application = application_context;
  contexts = record { id = 1; class = verification; syntaxes = syntax_uid Implicit ∷ [] } ∷ [];
  max_pdu = 16384;
}
