-- Which parts have a spelling: those that are read as they were written, and that fit their length
-- fields. The tests of `fits` compute just this.
use Rattle.std.specs.Prelude.{◌≡◌, ◌≢◌, ℕ, ◌+◌, ◌^◌, ◌<◌, ◌≤◌, false, List, [], ◌∷◌, length, map}
use Rattle.std.specs.List.{AllByRecursion}
use Rattle.dr_pdu.specs.declared.pdu.Association.{Association}
use Rattle.dr_pdu.specs.declared.pdu.Front.{Front}
use Rattle.dr_pdu.specs.declared.pdu.ContextProposal.{ContextProposal}
use Rattle.dr_pdu.specs.declared.pdu.ContextAnswer.{ContextAnswer}
use Rattle.dr_base.specs.Padding.{unpadded, trimmed}
use Rattle.dr_pdu.specs.Written.{proposal_body, answer_body, user_text}

-- a title that is read as it was written, padded to 16 bytes
abbrev pub IsTitle : List ℕ → Type 0
IsTitle name = (length name ≤ 16) × (trimmed name ≡ name)

-- a name or a UID that is read as it was written
abbrev pub IsUnpadded : List ℕ → Type 0
IsUnpadded name = unpadded name ≡ name

-- the front of an association that its fields can hold: two titles, and 32 reserved bytes
abbrev pub FrontFits : Front → Type 0
FrontFits f = IsTitle f.called × IsTitle f.calling × (length f.reserved ≡ 32)

-- a proposed context that an item can hold: each syntax and the class are read again, and there is
-- a syntax
abbrev pub ProposalFits : ContextProposal → Type 0
ProposalFits c =
    IsUnpadded c.class
    × AllByRecursion IsUnpadded c.syntaxes
    × (c.syntaxes ≢ [])
    × (length (proposal_body c) < 2 ^ 16)

-- an answered context that an item can hold; a refused one has no syntax
abbrev pub AnswerFits : ContextAnswer → Type 0
AnswerFits c =
    (c.result ≢ 0 → c.syntax ≡ []) × IsUnpadded c.syntax × (length (answer_body false c) < 2 ^ 16)

-- how long items are: four bytes and the body for each
abbrev pub weight : List (List ℕ) → ℕ
weight [] = 0
weight (b ∷ bs) = (4 + length b) + weight bs

-- an association whose parts fit their items, and whose shortest text fits an association PDU: 68
-- bytes, the 4 and the name of the application context, the contexts, the user information
abbrev pub AssociationFits : {C : Type 0} → (C → Type 0) → (C → List ℕ) → Association C → Type 0
AssociationFits ContextFits bare_body a =
    FrontFits a.front × IsUnpadded a.application
    × AllByRecursion ContextFits a.contexts
    × ((72 + length a.application)
    + (weight (map bare_body a.contexts) + length (user_text false a.max_pdu)) ≤ 262144)
    × (length a.application < 2 ^ 16)
