-- Worked figures of negotiation: a gateway that sends CT images to an archive.
use Rattle.std.specs.Prelude.{◌≡◌, ℕ, List, [], ◌∷◌, length, map, codes, replicate, Some, None, Err}
use Rattle.dr_base.specs.Texts.{Text}
use Rattle.dr_base.specs.Syntaxes.{syntax_uid}
use Rattle.dr_base.specs.declared.syntax.Syntax.{Syntax}
use Rattle.dr_base.specs.declared.syntax.Syntax.TheVariants.{Implicit, Explicit}
use Rattle.dr_route.specs.declared.accept.Callers.TheVariants as callers
use Rattle.dr_site.specs.Parts.{Part}
use Rattle.dr_pdu.specs.declared.pdu.ContextProposal.{ContextProposal}
use Rattle.dr_pdu.specs.declared.pdu.ContextAnswer.{ContextAnswer}
use Rattle.dr_pdu.specs.declared.pdu.Pdu.TheVariants as pdu
use Rattle.dr_pdu.specs.Written.{written, body_text}
use Rattle.dr_nego.specs.declared.answering.Answer.TheVariants.{Accept, Reject, TooSmall}
use Rattle.dr_nego.specs.declared.fault.NegoFault.TheVariants.{StrangeId, StrangeSyntax}
use Rattle.dr_nego.specs.declared.fault.NegoFault.TheVariants.{LimitTooSmall}
use Rattle.dr_nego.specs.Agreeing.{AssociateRq, AssociateAc, Concludes, agreed_on, context_for}
use Rattle.dr_nego.specs.Answering.{answer, answer_of, acceptance_of}
use Rattle.dr_base.specs.Standard.{application_context, verification, image}
use Rattle.dr_nego.specs.Proposing.{echo_proposal}
use Rattle.dr_nego.specs.Fragments.{piece_size, pieces}
use Rattle.dr_plan_sound.specs.Samples.{archive}

-- the title of the gateway, which calls
abbrev pub gate : Text
gate = codes "GATE"

-- the archive's site: it takes images from the gateway in both syntaxes, explicit first, and from
-- anybody in the implicit
abbrev pub archive_site : Part
archive_site = record {
  name = archive;
  max_pdu = 16384;
  digest = [];
  rules = [];
  accepts =
      record {
        «from» = callers.Listed (gate ∷ []);
        class = image;
        syntaxes = Explicit ∷ Implicit ∷ [];
      } ∷ record { «from» = callers.Any; class = image; syntaxes = Implicit ∷ [] } ∷ [];
  flows = [];
  lines = [];
  hops = [];
  literals = record {
    modalities = record { literals = []; prefixes = [] };
    stations = record { literals = []; prefixes = [] };
  };
}

-- a context with this id that proposes a class in these transfer syntaxes
abbrev pub context : ℕ → Text → List Syntax → ContextProposal
context id class syntaxes = record { id = id; class = class; syntaxes = map syntax_uid syntaxes }

-- a request of these titles with these contexts
abbrev pub request : Text → Text → Text → ℕ → List ContextProposal → ℕ → AssociateRq
request called calling application version contexts max_pdu = record {
  front =
      record { version = version; called = called; calling = calling; reserved = replicate 32 0 };
  application = application;
  contexts = contexts;
  max_pdu = max_pdu;
}

-- the A-ASSOCIATE-RQ that the gateway sends to the archive: CT images, in the explicit syntax
abbrev pub proposal : AssociateRq
proposal = request archive gate application_context 1 (context 1 image (Explicit ∷ []) ∷ []) 16384

-- the body of the gateway's proposal has 228 bytes
abbrev pub ProposalIsLong : Type 0
ProposalIsLong = length (body_text (pdu.AssociateRq proposal)) ≡ 228

-- the body of the archive's acceptance of that proposal has 199 bytes
abbrev pub AcceptanceIsLong : Type 0
AcceptanceIsLong = length (body_text (pdu.AssociateAc (acceptance_of proposal archive_site))) ≡ 199

-- the body of the gateway's request for an echo has 218 bytes
abbrev pub EchoIsLong : Type 0
EchoIsLong = length (body_text (pdu.AssociateRq (echo_proposal gate archive))) ≡ 218

-- the body of the archive's acceptance of a request for an echo has 197 bytes
abbrev pub EchoAnswerIsLong : Type 0
EchoAnswerIsLong =
    length (body_text (pdu.AssociateAc (acceptance_of (echo_proposal gate archive) archive_site)))
    ≡ 197

-- ---- answers

-- a UID that is no application context, and no class or transfer syntax of a plan's row
abbrev pub other : Text
other = codes "1.2.3"

-- Wrong in everything; then one fault less each time, down to a request that is accepted.
abbrev pub RejectionsInOrder : Type 0
RejectionsInOrder =
    (answer (request gate (codes "-") other 2 [] 7) archive_site 256 ≡ Reject 1 1 2)
    × (answer (request gate (codes "-") application_context 2 [] 7) archive_site 256 ≡ Reject 1 2 2)
    × (answer (request gate (codes "-") application_context 1 [] 7) archive_site 256 ≡ Reject 1 1 7)
    × (answer (request archive (codes "-") application_context 1 [] 7) archive_site 256
    ≡ Reject 1 1 3)
    × (answer (request archive gate application_context 1 [] 7) archive_site 256 ≡ Reject 2 3 2)
    × (answer (request archive gate application_context 1 [] 7) archive_site 255 ≡ TooSmall)
    × (answer (request archive gate application_context 3 [] 8) archive_site 255
    ≡ Accept (acceptance_of (request archive gate application_context 3 [] 8) archive_site)
    (record { pairs = []; limit = 8 }))
    × (written (pdu.AssociateRj (record { result = 1; source = 1; reason = 7 }))
    ≡ 3 ∷ 0 ∷ 0 ∷ 0 ∷ 0 ∷ 4 ∷ 0 ∷ 1 ∷ 1 ∷ 7 ∷ [])

-- A caller of no row is refused where no row is for everybody; a limit of 0 is none, and 1 is too
-- small.
abbrev pub LimitsAreTested : Type 0
LimitsAreTested =
    (answer (request archive gate application_context 1 [] 1) archive_site 0 ≡ TooSmall)
    × (answer (request archive gate application_context 1 [] 0) archive_site 0
    ≡ Accept (acceptance_of (request archive gate application_context 1 [] 0) archive_site)
    (record { pairs = []; limit = 0 }))
    × (answer (request archive gate application_context 1 [] 0)
    (record archive_site {
      accepts =
          record { «from» = callers.Listed (archive ∷ []); class = image; syntaxes = Explicit ∷ [] }
          ∷ [];
    }) 0
    ≡ Reject 1 1 3)

-- The first row's first syntax that was proposed, whatever the caller's order; a stranger's rows; a
-- class of no row; no common syntax; Verification, in the implicit syntax first.
abbrev pub ContextsAreAnswered : Type 0
ContextsAreAnswered =
    (answer_of archive_site.accepts gate (context 1 image (Implicit ∷ Explicit ∷ []))
    ≡ record { id = 1; result = 0; syntax = syntax_uid Explicit })
    × (answer_of archive_site.accepts gate (context 3 image (Implicit ∷ []))
    ≡ record { id = 3; result = 0; syntax = syntax_uid Implicit })
    × (answer_of archive_site.accepts (codes "CT1") (context 5 image (Explicit ∷ Implicit ∷ []))
    ≡ record { id = 5; result = 0; syntax = syntax_uid Implicit })
    × (answer_of archive_site.accepts (codes "CT1") (context 5 image (Explicit ∷ []))
    ≡ record { id = 5; result = 4; syntax = [] })
    × (answer_of archive_site.accepts gate (context 7 other (Explicit ∷ []))
    ≡ record { id = 7; result = 3; syntax = [] })
    × (answer_of archive_site.accepts (codes "CT1")
    (context 9 verification (Explicit ∷ Implicit ∷ []))
    ≡ record { id = 9; result = 0; syntax = syntax_uid Implicit })
    × (answer_of [] gate (context 9 verification (Explicit ∷ []))
    ≡ record { id = 9; result = 0; syntax = syntax_uid Explicit })
    × (answer_of [] gate (record { id = 9; class = verification; syntaxes = other ∷ [] })
    ≡ record { id = 9; result = 4; syntax = [] })

-- ---- conclusions

-- an acceptance of the gateway's proposal with these answers and this greatest length
abbrev pub answered : List ContextAnswer → ℕ → AssociateAc
answered contexts max_pdu = record {
  front = proposal.front;
  application = application_context;
  contexts = contexts;
  max_pdu = max_pdu;
}

-- the answer that accepts the context with this id in a transfer syntax
abbrev pub accepted : ℕ → Syntax → ContextAnswer
accepted id syntax = record { id = id; result = 0; syntax = syntax_uid syntax }

-- a context or a syntax that wasn't proposed, a small limit, and a refused context beside an
-- accepted one
abbrev pub ConclusionsAreDrawn : Type 0
ConclusionsAreDrawn =
    Concludes proposal (answered (accepted 3 Implicit ∷ []) 7) (Err StrangeId)
    × Concludes proposal (answered (accepted 1 Implicit ∷ []) 7) (Err StrangeSyntax)
    × Concludes proposal (answered (accepted 1 Explicit ∷ []) 7) (Err LimitTooSmall)
    × (agreed_on proposal (answered (accepted 1 Explicit ∷ []) 8)
    ≡ record {
      pairs = record { id = 1; class = image; syntax = syntax_uid Explicit } ∷ [];
      limit = 8;
    })
    × (agreed_on proposal (answered (record { id = 1; result = 3; syntax = [] } ∷ []) 0)
    ≡ record { pairs = []; limit = 0 })
    × (context_for (agreed_on proposal (answered (accepted 1 Explicit ∷ []) 8)) image
    (syntax_uid Explicit)
    ≡ Some 1)
    × (context_for (agreed_on proposal (answered (accepted 1 Explicit ∷ []) 8)) image
    (syntax_uid Implicit)
    ≡ None)

-- ---- pieces

-- the lengths of the pieces that so many bytes are cut into under a greatest length
abbrev pub lengths_of : ℕ → ℕ → List ℕ
lengths_of limit bytes =
    map (λ (p : List ℕ). length p) (pieces (piece_size limit) (replicate bytes 65))

-- 3 bytes under 9 are cut into 2 and 1; 2,036 under 1,024 into 1,018 twice; none into one empty
-- piece; the size is even, and 1,048,570 at most
abbrev pub TextsAreCut : Type 0
TextsAreCut =
    (lengths_of 9 3 ≡ 2 ∷ 1 ∷ [])
    × (lengths_of 1024 2100 ≡ 1018 ∷ 1018 ∷ 64 ∷ [])
    × (lengths_of 1024 2036 ≡ 1018 ∷ 1018 ∷ [])
    × (lengths_of 1024 0 ≡ 0 ∷ [])
    × (piece_size 0 ≡ 1048570)
    × (piece_size 1048577 ≡ 1048570)
    × (piece_size 8 ≡ 2)
    × (piece_size 16384 ≡ 16378)
