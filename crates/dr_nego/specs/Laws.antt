-- Laws of negotiation.
use Rattle.std.specs.Prelude.{◌≡◌, ◌≢◌, ◌↔◌, ◌<◌, ◌≤◌, ◌⊎◌, ℕ, Bool, true, false, List, [], ◌∷◌}
use Rattle.std.specs.Prelude.{◌++◌, map, length, Contains, AllPairs, All, Option, Some, None}
use Rattle.std.specs.Prelude.{Result, Ok, Err}
use Rattle.std.specs.List.{flat_map}
use Rattle.dr_base.specs.Texts.{Text}
use Rattle.dr_base.specs.Syntaxes.{syntax_uid}
use Rattle.dr_base.specs.declared.syntax.Syntax.{Syntax}
use Rattle.dr_plan_model.specs.Formed.{IsName}
use Rattle.dr_plan_model.specs.Networks.{Network}
use Rattle.dr_plan_model.specs.Walks.{GoesOver}
use Rattle.dr_plan_sound.specs.declared.certificate.Certificate.{Certificate}
use Rattle.dr_plan_sound.specs.declared.certificate.Hop.{Hop}
use Rattle.dr_site.specs.Parts.{Part, IsPartOf}
use Rattle.dr_site.specs.Sites.{IsCertified, IsSite}
use Rattle.dr_pdu.specs.declared.pdu.ContextProposal.{ContextProposal}
use Rattle.dr_pdu.specs.declared.pdu.ContextAnswer.{ContextAnswer}
use Rattle.dr_pdu.specs.declared.pdu.Pdu.{Pdu}
use Rattle.dr_pdu.specs.declared.pdu.Pdu.TheVariants as pdu
use Rattle.dr_pdu.specs.declared.pdu.Pdv.{Pdv}
use Rattle.dr_pdu.specs.Written.{Fits, MeetsLimit}
use Rattle.dr_dimse.specs.declared.command.Command.{Command as CommandValue}
use Rattle.dr_dimse.specs.declared.message.Message.{Message}
use Rattle.dr_dimse.specs.Commands.{IsCommand, announces}
use Rattle.dr_dimse.specs.Messages.{IsWhole, IsMessage, body_of}
use Rattle.dr_nego.specs.declared.agreed.Pair.{Pair}
use Rattle.dr_nego.specs.declared.agreed.Agreed.{Agreed}
use Rattle.dr_nego.specs.declared.answering.Answer.TheVariants.{Accept, Reject}
use Rattle.dr_nego.specs.declared.fault.NegoFault.{NegoFault}
use Rattle.dr_nego.specs.declared.fault.NegoFault.TheVariants.{Memory}
use Rattle.dr_nego.specs.declared.fragment.FragmentKind.{FragmentKind}
use Rattle.dr_nego.specs.declared.fragment.FragmentKind.TheVariants.{Command, DataSet}
use Rattle.dr_nego.specs.Agreeing.{AssociateRq, AssociateAc, Concludes, AreAgreed, IsTooSmall}
use Rattle.dr_nego.specs.Agreeing.{agreed_on, context_for}
use Rattle.dr_nego.specs.Answering.{answer, acceptance_of, agreed_by}
use Rattle.dr_nego.specs.Proposing.{IsProposal, IsHopTo, echo_proposal}
use Rattle.dr_nego.specs.Fragments.{piece_size, pieces, ArePieces, value_pdu, value_pdus}
use Rattle.dr_nego.specs.Fragments.{is_command, fragment_pdus}

-- the pairs of the plan among the accepted contexts are exactly those that go over the hop
abbrev pub AgreesOnHop : Network → Text → Text → Agreed → Type 0
AgreesOnHop plan from to agreed =
    (class : Text) (syntax : Syntax)
    → ((x : Pair) × Contains agreed.pairs x × (x.class ≡ class) × (x.syntax ≡ syntax_uid syntax))
    ↔ GoesOver plan from to (class, syntax)

-- Over a hop of a sound plan the receiver accepts each pair that the caller proposes; with 256
-- others it rejects.
abbrev pub HopsAreAgreed : Type 0
HopsAreAgreed =
    (plan : Network) (certificate : Certificate) (from to : Part)
    → IsCertified plan certificate
    → IsPartOf plan certificate from
    → IsPartOf plan certificate to
    → (rq : AssociateRq) (pair : Text × Syntax)
    → GoesOver plan from.name to.name pair
    → IsProposal from to.name rq
    → (others : ℕ)
    → (others < 256)
    × (answer rq to others ≡ Accept (acceptance_of rq to) (agreed_by rq to))
    × AgreesOnHop plan from.name to.name (agreed_by rq to)
    ⊎ ((256 ≤ others) × (answer rq to others ≡ Reject 2 3 2))

-- the contexts of a request have different ids
abbrev pub HasApartIds : AssociateRq → Type 0
HasApartIds rq = AllPairs (λ (a b : ContextProposal). a.id ≢ b.id) rq.contexts

-- What a site's node accepts of a request, the caller that made it concludes, with the same
-- contexts. Only the limits are each other's.
abbrev pub BothSidesAgree : Type 0
BothSidesAgree =
    (rq : AssociateRq) (site : Part)
    → IsSite site → HasApartIds rq
    → Concludes rq (acceptance_of rq site)
    (Ok (record { pairs = (agreed_by rq site).pairs; limit = site.max_pdu }))

-- what is agreed on are just the contexts that were proposed and accepted, by rising ids as they
-- were proposed
abbrev pub AgreementsAreWhole : Type 0
AgreementsAreWhole =
    (rq : AssociateRq) (ac : AssociateAc)
    → AllPairs (λ (a b : ContextProposal). a.id < b.id) rq.contexts
    → AllPairs (λ (a b : ContextAnswer). a.id ≢ b.id) ac.contexts
    → AreAgreed rq ac (agreed_on rq ac)

-- a caller concludes one thing from an acceptance, but for want of memory
abbrev pub OneConclusion : Type 0
OneConclusion =
    (rq : AssociateRq) (ac : AssociateAc) (r s : Result Agreed NegoFault)
    → r ≢ Err Memory → s ≢ Err Memory → Concludes rq ac r → Concludes rq ac s → r ≡ s

-- a site proposes one thing to a node
abbrev pub OneProposal : Type 0
OneProposal =
    (site : Part) (dest : Text) (rq other : AssociateRq)
    → IsSite site → IsProposal site dest rq
    → IsProposal site dest other
    → rq ≡ other

-- a site's proposal for a hop can be written
abbrev pub ProposalsFit : Type 0
ProposalsFit =
    (site : Part) (dest : Text) (hop : Hop) (rq : AssociateRq)
    → IsSite site → IsHopTo site dest hop → IsProposal site dest rq
    → Fits (pdu.AssociateRq rq)

-- the request of an echo between two nodes can be written
abbrev pub EchoesFit : Type 0
EchoesFit =
    (calling called : Text) → IsName calling → IsName called
    → Fits (pdu.AssociateRq (echo_proposal calling called))

-- what a site's node answers to a request that can be written can be written itself
abbrev pub AcceptancesFit : Type 0
AcceptancesFit =
    (rq : AssociateRq) (site : Part)
    → IsSite site
    → Fits (pdu.AssociateRq rq)
    → Fits (pdu.AssociateAc (acceptance_of rq site))

-- where the ids rise, the context of a class and a syntax is that of the least id
abbrev pub ContextsAreLeast : Type 0
ContextsAreLeast =
    (agreed : Agreed)
    → AllPairs (λ (x y : Pair). x.id < y.id) agreed.pairs
    → (x : Pair) → Contains agreed.pairs x
    → (id : ℕ) × (context_for agreed x.class x.syntax ≡ Some id) × (id ≤ x.id)

-- the pieces of a text within a limit are what the relation asks for
abbrev pub PiecesAreWhole : Type 0
PiecesAreWhole =
    (limit : ℕ) → (IsTooSmall limit → ⊥) → (text : List ℕ)
    → ArePieces (piece_size limit) text (pieces (piece_size limit) text)

-- a text has one list of pieces of a size, as the relation asks for them
abbrev pub OneCut : Type 0
OneCut =
    (size : ℕ) → 1 ≤ size
    → (text : List ℕ) (a b : List (List ℕ))
    → ArePieces size text a → ArePieces size text b → a ≡ b

-- the last of the PDUs alone says that it is the last
abbrev pub LastIsMarked : Type 0
LastIsMarked =
    (id : ℕ) (is_command : Bool) (front : List (List ℕ)) (final : List ℕ)
    → value_pdus id is_command (front ++ final ∷ [])
    ≡ map (value_pdu id is_command false) front ++ value_pdu id is_command true final ∷ []

-- each PDU of fragments can be written, and meets the limit
abbrev pub FragmentsFit : Type 0
FragmentsFit = (limit id : ℕ) (kind : FragmentKind) (text : List ℕ) → (IsTooSmall limit → ⊥) →
    All (λ (p : Pdu). Fits p × MeetsLimit limit p) (fragment_pdus limit id kind text)

-- ---- what hears fragments

-- the presentation data values of a PDU; one that isn't a P-DATA-TF has none
abbrev pub values_in : Pdu → List Pdv
values_in (pdu.Transfer values) = values
values_in p = []

-- the presentation data values of PDUs, one after the other
abbrev pub values_of : List Pdu → List Pdv
values_of pdus = flat_map values_in pdus

-- the values of a text's fragments are the whole of it, of its kind, in its context
abbrev pub FragmentsAreWhole : Type 0
FragmentsAreWhole =
    (limit id : ℕ) (kind : FragmentKind) (text : List ℕ)
    → IsWhole (is_command kind) id (values_of (fragment_pdus limit id kind text)) text

-- the fragments of a command that announces no data set are its message
abbrev pub CommandsAreMessages : Type 0
CommandsAreMessages =
    (limit id : ℕ) (c : CommandValue) (text : List ℕ)
    → IsCommand text c → length text ≤ 16384 → announces c ≡ false
    → IsMessage (values_of (fragment_pdus limit id Command text))
    (record { id = id; command = c; body = None })

-- the fragments of a command that announces a data set, and then those of the data set, are its
-- message
abbrev pub DataSetsAreMessages : Type 0
DataSetsAreMessages =
    (limit id : ℕ) (c : CommandValue) (text body : List ℕ)
    → IsCommand text c → length text ≤ 16384 → announces c ≡ true
    → IsMessage
    (values_of (fragment_pdus limit id Command text ++ fragment_pdus limit id DataSet body))
    (record { id = id; command = c; body = Some (body_of body) })
