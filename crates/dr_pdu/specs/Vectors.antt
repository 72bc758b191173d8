-- Worked figures: GATE proposes CT images to ARCH in the explicit syntax, and asks for an echo in
-- the implicit one.
use Rattle.std.specs.Prelude.{ℕ, List, [], ◌∷◌, ◌++◌, replicate, codes}
use Rattle.dr_pdu.specs.declared.pdu.Pdu.{Pdu}
use Rattle.dr_pdu.specs.declared.pdu.Pdu.TheVariants.{AssociateRq, AssociateAc, AssociateRj}
use Rattle.dr_pdu.specs.declared.pdu.Pdu.TheVariants.{Transfer, Abort}
use Rattle.dr_pdu.specs.declared.pdu.Front.{Front}
use Rattle.dr_base.specs.Standard.{application_context, verification, image}
use Rattle.dr_pdu.specs.Written.{implicit}

-- the UID of Explicit VR Little Endian (PS3.5 A.2)
abbrev pub explicit : List ℕ
explicit = codes "1.2.840.10008.1.2.1"

-- the front of an association that GATE asks of ARCH: version 1, the two titles, reserved bytes 0
abbrev pub front : Front
front =
    record { version = 1; called = codes "ARCH"; calling = codes "GATE"; reserved = replicate 32 0 }

-- the A-ASSOCIATE-RQ of GATE with one context, of this class and transfer syntax
abbrev pub proposal : List ℕ → List ℕ → Pdu
proposal class syntax = AssociateRq
    (record {
      front = front;
      application = application_context;
      contexts = record { id = 1; class = class; syntaxes = syntax ∷ [] } ∷ [];
      max_pdu = 16384;
    })

-- the A-ASSOCIATE-RQ for CT images in the explicit syntax, byte by byte
abbrev pub proposal_text : List ℕ
proposal_text =
    1 ∷ 0 ∷ 0 ∷ 0 ∷ 0 ∷ 228 ∷ 0 ∷ 1 ∷ 0 ∷ 0
    ∷ (codes "ARCH            "
    ++ (codes "GATE            "
    ++ (replicate 32 0
    ++ (0x10 ∷ 0 ∷ 0 ∷ 21
    ∷ (application_context
    ++ (0x20 ∷ 0 ∷ 0 ∷ 56 ∷ 1 ∷ 0 ∷ 0 ∷ 0 ∷ 0x30 ∷ 0 ∷ 0 ∷ 25
    ∷ (image
    ++ (0x40 ∷ 0 ∷ 0 ∷ 19
    ∷ (explicit
    ++ (0x50 ∷ 0 ∷ 0 ∷ 71 ∷ 0x51 ∷ 0 ∷ 0 ∷ 4 ∷ 0 ∷ 0 ∷ 0x40 ∷ 0 ∷ 0x52 ∷ 0 ∷ 0 ∷ 44
    ∷ (codes "2.25.331274590186724905318462075136948210573"
    ++ (0x55 ∷ 0 ∷ 0 ∷ 11 ∷ codes "DR_ROUTER_1"))))))))))))

-- the A-ASSOCIATE-AC of ARCH that accepts the one context in this transfer syntax
abbrev pub acceptance : List ℕ → Pdu
acceptance syntax = AssociateAc
    (record {
      front = front;
      application = application_context;
      contexts = record { id = 1; result = 0; syntax = syntax } ∷ [];
      max_pdu = 16384;
    })

-- an A-ASSOCIATE-AC with its one context refused (result 3), and no greatest length
abbrev pub refusal : Pdu
refusal = AssociateAc
    (record {
      front = front;
      application = application_context;
      contexts = record { id = 1; result = 3; syntax = [] } ∷ [];
      max_pdu = 0;
    })

-- an A-ASSOCIATE-RJ: permanent, by the service user, called title not recognized (PS3.8 9.3.4)
abbrev pub rejection : Pdu
rejection = AssociateRj (record { result = 1; source = 1; reason = 7 })

-- an A-ASSOCIATE-RJ of three numbers that differ: result 2, transient, source 3, reason 5
abbrev pub transient_rejection : Pdu
transient_rejection = AssociateRj (record { result = 2; source = 3; reason = 5 })

-- the service provider aborts on an invalid value (9.3.8)
abbrev pub abort : Pdu
abort = Abort (record { source = 2; reason = 6 })

-- the A-ASSOCIATE-RJ with result 1, source 1 and reason 7, byte by byte
abbrev pub rejection_text : List ℕ
rejection_text = 3 ∷ 0 ∷ 0 ∷ 0 ∷ 0 ∷ 4 ∷ 0 ∷ 1 ∷ 1 ∷ 7 ∷ []

-- a C-ECHO-RQ with message id 1 in context 1
abbrev pub echo_command : List ℕ
echo_command =
    0 ∷ 0 ∷ 0 ∷ 0 ∷ 4 ∷ 0 ∷ 0 ∷ 0 ∷ 0x38 ∷ 0 ∷ 0 ∷ 0 ∷ 0 ∷ 0 ∷ 2 ∷ 0 ∷ 0x12 ∷ 0 ∷ 0 ∷ 0
    ∷ (verification
    ++ 0 ∷ 0 ∷ 0 ∷ 0 ∷ 1 ∷ 2 ∷ 0 ∷ 0 ∷ 0 ∷ 0x30 ∷ 0 ∷ 0 ∷ 0 ∷ 0x10 ∷ 1 ∷ 2 ∷ 0 ∷ 0 ∷ 0 ∷ 1 ∷ 0 ∷ 0
    ∷ 0 ∷ 0 ∷ 8 ∷ 2 ∷ 0 ∷ 0 ∷ 0 ∷ 1 ∷ 1 ∷ [])

-- the P-DATA-TF of an echo: in context 1 one value, which is a command and the last fragment
-- (header 3)
abbrev pub echo : Pdu
echo = Transfer (record { id = 1; header = 3; fragment = echo_command } ∷ [])

-- the P-DATA-TF of an echo byte by byte: length 74, and in it a value of length 70
abbrev pub echo_text : List ℕ
echo_text = 4 ∷ 0 ∷ 0 ∷ 0 ∷ 0 ∷ 0x4A ∷ 0 ∷ 0 ∷ 0 ∷ 0x46 ∷ 1 ∷ 3 ∷ echo_command

-- ---- a request as another product may write it: reserved bytes that aren't 0, an item of no known
-- type, two abstract syntaxes of which the first counts, two transfer syntaxes, and user
-- information of all kinds (51H to 59H)

-- the front of the foreign request: its 32 reserved bytes are 1 to 32
abbrev pub foreign_front : Front
foreign_front = record {
  version = 1;
  called = codes "ARCH";
  calling = codes "GATE";
  reserved =
      1 ∷ 2 ∷ 3 ∷ 4 ∷ 5 ∷ 6 ∷ 7 ∷ 8 ∷ 9 ∷ 10 ∷ 11 ∷ 12 ∷ 13 ∷ 14 ∷ 15 ∷ 16 ∷ 17 ∷ 18 ∷ 19 ∷ 20 ∷ 21
      ∷ 22 ∷ 23 ∷ 24 ∷ 25 ∷ 26 ∷ 27 ∷ 28 ∷ 29 ∷ 30 ∷ 31 ∷ 32 ∷ [];
}

-- the items of the foreign request's context: two abstract syntaxes, and two transfer syntaxes
abbrev pub foreign_proposal : List ℕ
foreign_proposal =
    48 ∷ 7 ∷ 0 ∷ 25
    ∷ (image
    ++ (48 ∷ 0 ∷ 0 ∷ 17
    ∷ (verification ++ (64 ∷ 5 ∷ 0 ∷ 19 ∷ (explicit ++ (64 ∷ 0 ∷ 0 ∷ 17 ∷ implicit))))))

-- the user information of the foreign request: sub-items of all types from 51H to 59H (PS3.8 annex
-- D, PS3.7 D.3.3)
abbrev pub foreign_user : List ℕ
foreign_user =
    81 ∷ 3 ∷ 0 ∷ 4 ∷ 0 ∷ 0 ∷ 64 ∷ 0 ∷ 82 ∷ 0 ∷ 0 ∷ 3 ∷ 49 ∷ 46 ∷ 50 ∷ 83 ∷ 0 ∷ 0 ∷ 4 ∷ 0 ∷ 1 ∷ 0 ∷ 1
    ∷ 84 ∷ 0 ∷ 0 ∷ 4 ∷ 0 ∷ 0 ∷ 1 ∷ 1 ∷ 85 ∷ 0 ∷ 0 ∷ 1 ∷ 68 ∷ 86 ∷ 0 ∷ 0 ∷ 1 ∷ 9 ∷ 87 ∷ 0 ∷ 0 ∷ 1 ∷ 9
    ∷ 88 ∷ 0 ∷ 0 ∷ 2 ∷ 1 ∷ 1 ∷ 89 ∷ 0 ∷ 0 ∷ 0 ∷ []

-- the items of the foreign request: one of type 11H, which is unknown, application context,
-- context, user information
abbrev pub foreign_items : List ℕ
foreign_items =
    0x11 ∷ 0 ∷ 0 ∷ 2 ∷ 7 ∷ 8 ∷ 0x10 ∷ 9 ∷ 0 ∷ 21
    ∷ (application_context
    ++ (0x20 ∷ 4 ∷ 0 ∷ 98 ∷ 1 ∷ 1 ∷ 2 ∷ 3
    ∷ (foreign_proposal ++ (0x50 ∷ 0 ∷ 0 ∷ 56 ∷ foreign_user))))

-- the body of the foreign request: version, two reserved bytes, titles padded by spaces, 32
-- reserved bytes, items
abbrev pub foreign_body : List ℕ
foreign_body =
    0 ∷ 1 ∷ 9 ∷ 8
    ∷ (codes "ARCH            "
    ++ (codes "GATE            " ++ (foreign_front.reserved ++ foreign_items)))

-- the foreign request byte by byte: type 1, a reserved byte that isn't 0, length 261, and the body
abbrev pub foreign_text : List ℕ
foreign_text = 1 ∷ 7 ∷ 0 ∷ 0 ∷ 1 ∷ 5 ∷ foreign_body

-- what the foreign request is read as: one context of CT images, in the explicit or the implicit
-- syntax
abbrev pub foreign_request : Pdu
foreign_request = AssociateRq
    (record {
      front = foreign_front;
      application = application_context;
      contexts = record { id = 1; class = image; syntaxes = explicit ∷ implicit ∷ [] } ∷ [];
      max_pdu = 16384;
    })

-- ---- contexts and requests that lack an item

-- the body of a context with a transfer syntax (40H) alone: its abstract syntax is missing
abbrev pub syntax_alone : List ℕ
syntax_alone = 1 ∷ 0 ∷ 0 ∷ 0 ∷ 0x40 ∷ 0 ∷ 0 ∷ 17 ∷ implicit

-- the body of a context with an abstract syntax (30H) alone: it has no transfer syntax
abbrev pub class_alone : List ℕ
class_alone = 1 ∷ 0 ∷ 0 ∷ 0 ∷ 0x30 ∷ 0 ∷ 0 ∷ 17 ∷ verification

-- the body of a context that lacks nothing, for a request without an application context
abbrev pub bare_proposal : List ℕ
bare_proposal = 1 ∷ 0 ∷ 0 ∷ 0 ∷ 0x30 ∷ 0 ∷ 0 ∷ 17 ∷ (verification ++ (0x40 ∷ 0 ∷ 0 ∷ 17 ∷ implicit))

-- the items of a request without an application context (10H): one context alone
abbrev pub bare_items : List ℕ
bare_items = 0x20 ∷ 0 ∷ 0 ∷ 46 ∷ bare_proposal

-- the body of a request without an application context
abbrev pub bare_body : List ℕ
bare_body =
    0 ∷ 1 ∷ 0 ∷ 0
    ∷ (codes "ARCH            " ++ (codes "GATE            " ++ (replicate 32 0 ++ bare_items)))

-- an A-ASSOCIATE-AC that answers one context id twice
abbrev pub repeated : Pdu
repeated = AssociateAc
    (record {
      front = front;
      application = application_context;
      contexts =
          record { id = 1; result = 0; syntax = explicit }
          ∷ record { id = 1; result = 0; syntax = implicit } ∷ [];
      max_pdu = 16384;
    })
