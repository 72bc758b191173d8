-- The one spelling that is written: items in the order 10H, 20H or 21H, 50H, titles padded by
-- spaces, reserved bytes 0.
use Rattle.std.specs.Prelude.{◌≡◌, ◌⊎◌, ◌≤◌, ℕ, ◌-◌, Bool, true, false, List, [], ◌∷◌, ◌++◌, length}
use Rattle.std.specs.Prelude.{replicate, ◌==◌, nat_lt, if◌then◌else◌, codes}
use Rattle.std.specs.Int.{w16, w32, to_be_bytes}
use Rattle.std.specs.List.{flat_map}
use Rattle.dr_pdu.specs.declared.pdu.Pdu.{Pdu}
use Rattle.dr_pdu.specs.declared.pdu.Pdu.TheVariants.{AssociateRq, AssociateAc, AssociateRj}
use Rattle.dr_pdu.specs.declared.pdu.Pdu.TheVariants.{Transfer, ReleaseRq, ReleaseRp, Abort}
use Rattle.dr_pdu.specs.declared.pdu.Association.{Association}
use Rattle.dr_pdu.specs.declared.pdu.ContextProposal.{ContextProposal}
use Rattle.dr_pdu.specs.declared.pdu.ContextAnswer.{ContextAnswer}
use Rattle.dr_pdu.specs.Items.{item_text, pdv_text}
use Rattle.dr_pdu.specs.Grammar.{Spells}

-- ---- names of the product

-- the implementation class UID of the product (PS3.7 D.3.3.2)
abbrev pub implementation : List ℕ
implementation = codes "2.25.331274590186724905318462075136948210573"

-- the implementation version name of the product (PS3.7 D.3.3.2)
abbrev pub version_name : List ℕ
version_name = codes "DR_ROUTER_1"

-- the UID of Implicit VR Little Endian (PS3.5 A.1)
abbrev pub implicit : List ℕ
implicit = codes "1.2.840.10008.1.2"

-- ---- parts

-- an item or a sub-item as it is written, with a reserved byte of 0
abbrev pub item : ℕ → List ℕ → List ℕ
item kind body = item_text 0 (record { kind = kind; body = body })

-- a title, padded by spaces to its 16 bytes
abbrev pub padded : List ℕ → List ℕ
padded name = name ++ replicate (16 - length name) 32

-- the body of a 20H item: id, 3 reserved, one 30H abstract syntax, and the 40H transfer syntaxes
-- (PS3.8 9.3.2.2)
abbrev pub proposal_body : ContextProposal → List ℕ
proposal_body c = c.id ∷ 0 ∷ 0 ∷ 0 ∷ (item 0x30 c.class ++ flat_map (item 0x40) c.syntaxes)

-- the body of a 21H item (PS3.8 9.3.3.2). A refused context names no syntax that counts: in full
-- the implicit one.
abbrev pub answer_body : Bool → ContextAnswer → List ℕ
answer_body full c =
    c.id ∷ 0 ∷ c.result ∷ 0
    ∷ (if c.result == 0 then item 0x40 c.syntax else if full then item 0x40 implicit else [])

-- the user information (50H). Where there is no limit, it is there only in full, and names the
-- product.
abbrev pub user_text : Bool → ℕ → List ℕ
user_text true max_pdu = item 0x50
    (item 0x51 (to_be_bytes w32 max_pdu) ++ (item 0x52 implementation ++ item 0x55 version_name))
user_text false max_pdu =
    if max_pdu == 0 then [] else item 0x50 (item 0x51 (to_be_bytes w32 max_pdu))

-- the body of an association PDU: version, titles, reserved bytes, application context, contexts,
-- user information
abbrev pub association_text : {C : Type 0} → ℕ → (C → List ℕ) → List ℕ → Association C → List ℕ
association_text kind context_body user a =
    to_be_bytes w16 a.front.version
    ++ 0 ∷ 0
    ∷ (padded a.front.called
    ++ (padded a.front.calling
    ++ (a.front.reserved
    ++ (item 0x10 a.application
    ++ (flat_map (λ c. item kind (context_body c)) a.contexts ++ user)))))

-- the full text, or the bare one without what nobody needs, where the full one is longer than
-- 262,144 bytes
abbrev pub unless_long : List ℕ → List ℕ → List ℕ
unless_long full bare = if nat_lt 262144 (length full) then bare else full

-- the body of an A-ASSOCIATE-RQ (PS3.8 9.3.2), in full or bare
abbrev pub request_text : Bool → Association ContextProposal → List ℕ
request_text full rq = association_text 0x20 proposal_body (user_text full rq.max_pdu) rq

-- the body of an A-ASSOCIATE-AC (PS3.8 9.3.3), in full or bare
abbrev pub acceptance_text : Bool → Association ContextAnswer → List ℕ
acceptance_text full ac = association_text 0x21 (answer_body full) (user_text full ac.max_pdu) ac

-- ---- PDUs

-- the type of a PDU, its first byte (PS3.8 9.3.1)
abbrev pub kind_of : Pdu → ℕ
kind_of (AssociateRq rq) = 1
kind_of (AssociateAc ac) = 2
kind_of (AssociateRj rj) = 3
kind_of (Transfer pdvs) = 4
kind_of ReleaseRq = 5
kind_of ReleaseRp = 6
kind_of (Abort a) = 7

-- what is written behind the six bytes of a PDU's header (PS3.8 9.3.2 to 9.3.8)
abbrev pub body_text : Pdu → List ℕ
body_text (AssociateRq rq) = unless_long (request_text true rq) (request_text false rq)
body_text (AssociateAc ac) = unless_long (acceptance_text true ac) (acceptance_text false ac)
body_text (AssociateRj rj) = 0 ∷ rj.result ∷ rj.source ∷ rj.reason ∷ []
body_text (Transfer pdvs) = flat_map pdv_text pdvs
body_text ReleaseRq = 0 ∷ 0 ∷ 0 ∷ 0 ∷ []
body_text ReleaseRp = 0 ∷ 0 ∷ 0 ∷ 0 ∷ []
body_text (Abort a) = 0 ∷ 0 ∷ a.source ∷ a.reason ∷ []

-- a PDU's header, of type, reserved byte and length (PS3.8 9.3.1), and the body behind it
abbrev pub framed : ℕ → List ℕ → List ℕ
framed kind body = kind ∷ 0 ∷ (to_be_bytes w32 (length body) ++ body)

-- the one spelling of a PDU that is written: of an A-RELEASE-RQ `05 00 00 00 00 04 00 00 00 00`
abbrev pub written : Pdu → List ℕ
written p = framed (kind_of p) (body_text p)

-- the PDU has a spelling, where a P-DATA-TF is bounded by 134,217,728 alone, as under the limit 0
abbrev pub Fits : Pdu → Type 0
Fits p = (text : List ℕ) × Spells 0 text p

-- the PDU meets a limit, which bounds the length of a P-DATA-TF alone, and nothing where it is 0
abbrev pub MeetsLimit : ℕ → Pdu → Type 0
MeetsLimit limit (Transfer pdvs) = (limit ≡ 0) ⊎ (length (flat_map pdv_text pdvs) ≤ limit)
MeetsLimit limit p = Unit {0}
