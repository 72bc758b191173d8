-- The grammar of the PDUs (PS3.8 section 9.3): a relation between texts and PDUs. Items come in any
-- order, unknown ones are skipped, and of a repeated one the first counts, so all is said of the
-- list of the items.
use Rattle.std.specs.Prelude.{◌≡◌, ◌≢◌, ℕ, ◌%◌, ◌^◌, ◌<◌, List, [], ◌∷◌, ◌++◌, length, map}
use Rattle.std.specs.Prelude.{Contains, Option, Some, None, option_map, MatchOption, Result, Ok}
use Rattle.std.specs.Prelude.{Err, ◌==◌, ◌||◌, nat_lt, if◌then◌else◌, ◌⊎◌}
use Rattle.std.specs.Int.{w16, w32, to_be_bytes}
use Rattle.dr_base.specs.Runs.{Run}
use Rattle.dr_pdu.specs.declared.pdu.Pdu.{Pdu}
use Rattle.dr_pdu.specs.declared.pdu.Pdu.TheVariants.{AssociateRq, AssociateAc, AssociateRj}
use Rattle.dr_pdu.specs.declared.pdu.Pdu.TheVariants.{Transfer, ReleaseRq, ReleaseRp, Abort}
use Rattle.dr_pdu.specs.declared.pdu.Association.{Association}
use Rattle.dr_pdu.specs.declared.pdu.Front.{Front}
use Rattle.dr_pdu.specs.declared.pdu.ContextProposal.{ContextProposal}
use Rattle.dr_pdu.specs.declared.pdu.ContextAnswer.{ContextAnswer}
use Rattle.dr_pdu.specs.declared.fault.PduFault.{PduFault}
use Rattle.dr_pdu.specs.declared.fault.PduFault.TheVariants.{More, UnknownType, TooLong, BadItem}
use Rattle.dr_pdu.specs.declared.fault.PduFault.TheVariants.{BadContextId, Memory, Failed}
use Rattle.dr_base.specs.Padding.{unpadded, trimmed}
use Rattle.dr_pdu.specs.Items.{Item, AreItems, StartsPdv, bodies, first_body}
use Rattle.dr_base.specs.Lists.{Each}

-- ---- associations (9.3.2, 9.3.3)

-- 20H in a request: id, 3 reserved, items: one 30H abstract syntax, one or more 40H transfer
-- syntaxes (9.3.2.2)
abbrev pub IsProposal : List ℕ → ContextProposal → Type 0
IsProposal body c =
    (r s t : ℕ) × (items : List Item) × (rest : List ℕ)
    × (body ≡ c.id ∷ r ∷ s ∷ t ∷ rest)
    × AreItems items rest
    × (option_map unpadded (first_body 0x30 items) ≡ Some c.class)
    × (map unpadded (bodies 0x40 items) ≡ c.syntaxes)
    × (c.syntaxes ≢ [])

-- 21H in an acceptance: id, reserved, result, reserved, items: one 40H, which isn't looked at
-- unless the result is 0 (9.3.3.2)
abbrev pub IsAnswer : List ℕ → ContextAnswer → Type 0
IsAnswer body c =
    (r s : ℕ) × (items : List Item) × (rest : List ℕ)
    × (body ≡ c.id ∷ r ∷ c.result ∷ s ∷ rest)
    × AreItems items rest
    × (if c.result == 0 then option_map unpadded (first_body 0x40 items) else Some [])
    ≡ Some c.syntax

-- 50H, and in it 51H: the greatest length (Annex D.1). Where one is missing there is no limit, 0
abbrev pub IsGreatestLength : Option (List ℕ) → ℕ → Type 0
IsGreatestLength None n = n ≡ 0
IsGreatestLength (Some body) n =
    (items : List Item) × AreItems items body
    × MatchOption (first_body 0x51 items) (n ≡ 0) (λ b. (n < 2 ^ 32) × (b ≡ to_be_bytes w32 n))

-- version (2), 2 reserved, called title (16), calling title (16), 32 reserved, and then the items
abbrev pub IsFront : List ℕ → Front → List ℕ → Type 0
IsFront body f rest =
    (r s : ℕ)
    × (called calling : List ℕ)
    × (f.version < 2 ^ 16) × (length called ≡ 16) × (length calling ≡ 16) × (length f.reserved ≡ 32)
    × (trimmed called ≡ f.called)
    × (trimmed calling ≡ f.calling)
    × (body ≡ to_be_bytes w16 f.version ++ r ∷ s ∷ (called ++ (calling ++ (f.reserved ++ rest))))

-- the body of an association PDU whose contexts are items of that type
abbrev pub IsAssociation : {C : Type 0} → ℕ → (List ℕ → C → Type 0) → List ℕ → Association C
    → Type 0
IsAssociation kind IsContext body a =
    (items : List Item) × (rest : List ℕ)
    × IsFront body a.front rest
    × AreItems items rest
    × (option_map unpadded (first_body 0x10 items) ≡ Some a.application)
    × Each IsContext (bodies kind items) a.contexts
    × IsGreatestLength (first_body 0x50 items) a.max_pdu

-- ---- bodies

-- what stands after the six bytes of a PDU's header, by its type
abbrev pub IsBody : ℕ → List ℕ → Pdu → Type 0
IsBody kind body (AssociateRq rq) = (kind ≡ 1) × IsAssociation 0x20 IsProposal body rq
IsBody kind body (AssociateAc ac) = (kind ≡ 2) × IsAssociation 0x21 IsAnswer body ac
IsBody kind body (AssociateRj rj) =
    (kind ≡ 3) × (r : ℕ) × (body ≡ r ∷ rj.result ∷ rj.source ∷ rj.reason ∷ [])
IsBody kind body (Transfer pdvs) = (kind ≡ 4) × Run StartsPdv pdvs body []
IsBody kind body ReleaseRq = (kind ≡ 5) × (length body ≡ 4)
IsBody kind body ReleaseRp = (kind ≡ 6) × (length body ≡ 4)
IsBody kind body (Abort a) = (kind ≡ 7) × (r s : ℕ) × (body ≡ r ∷ s ∷ a.source ∷ a.reason ∷ [])

-- the ids of the contexts are odd, and no two are alike
abbrev pub AreContextIds : List ℕ → Type 0
AreContextIds [] = Unit {0}
AreContextIds (id ∷ ids) = (id % 2 ≡ 1) × (Contains ids id → ⊥) × AreContextIds ids

-- the context ids of an association are odd, and no two are alike (PS3.8 9.3.2.2, 9.3.3.2); other
-- PDUs are free
abbrev pub HasContextIds : Pdu → Type 0
HasContextIds (AssociateRq rq) = AreContextIds (map (λ c. c.id) rq.contexts)
HasContextIds (AssociateAc ac) = AreContextIds (map (λ c. c.id) ac.contexts)
HasContextIds p = Unit {0}

-- ---- texts

-- type, reserved, length (4), and what follows (9.3.1)
abbrev pub StartsFrame : List ℕ → ℕ → ℕ → List ℕ → Type 0
StartsFrame text kind len rest =
    (reserved : ℕ) × (len < 2 ^ 32) × (text ≡ kind ∷ reserved ∷ (to_be_bytes w32 len ++ rest))

-- The fault that a type and a length show at once. An association's length is 68 to 262,144; that
-- of a P-DATA-TF is at most the limit, or 134,217,728 where that is 0; that of the others is 4.
abbrev pub header_fault : ℕ → ℕ → ℕ → Option PduFault
header_fault limit kind len =
    if kind == 1 || kind == 2
    then (if nat_lt 262144 len then Some TooLong else if nat_lt len 68 then Some BadItem else None)
    else if kind == 4
    then (if nat_lt (if limit == 0 then 134217728 else limit) len then Some TooLong else None)
    else if kind == 3 || kind == 5 || kind == 6 || kind == 7
    then (if len == 4 then None else Some BadItem)
    else Some UnknownType

-- the text begins with a header that shows no fault, and with its whole body
abbrev pub HasWholeBody : ℕ → List ℕ → ℕ → List ℕ → List ℕ → Type 0
HasWholeBody limit text kind body rest =
    StartsFrame text kind (length body) (body ++ rest)
    × (header_fault limit kind (length body) ≡ None)

-- the text, all of it, is a spelling of the PDU
abbrev pub Spells : ℕ → List ℕ → Pdu → Type 0
Spells limit text p =
    (kind : ℕ) × (body : List ℕ)
    × HasWholeBody limit text kind body []
    × IsBody kind body p × HasContextIds p

-- The fault that the front of a text shows. Faults of the header show at once, those of the body
-- once it is whole: first those of its items, then those of the context ids.
abbrev pub Shows : ℕ → List ℕ → PduFault → Type 0
Shows limit text More =
    (length text < 6)
    ⊎ ((kind len : ℕ) × (rest : List ℕ)
    × StartsFrame text kind len rest
    × (header_fault limit kind len ≡ None)
    × (length rest < len))
Shows limit text UnknownType =
    (kind len : ℕ) × (rest : List ℕ)
    × StartsFrame text kind len rest
    × (header_fault limit kind len ≡ Some UnknownType)
Shows limit text TooLong =
    (kind len : ℕ) × (rest : List ℕ)
    × StartsFrame text kind len rest
    × (header_fault limit kind len ≡ Some TooLong)
Shows limit text BadItem =
    ((kind len : ℕ) × (rest : List ℕ)
    × StartsFrame text kind len rest
    × (header_fault limit kind len ≡ Some BadItem))
    ⊎ ((kind : ℕ) × (body rest : List ℕ)
    × HasWholeBody limit text kind body rest
    × ((p : Pdu) → IsBody kind body p → ⊥))
Shows limit text BadContextId =
    (kind : ℕ) × (body rest : List ℕ) × (p : Pdu)
    × HasWholeBody limit text kind body rest
    × IsBody kind body p × (HasContextIds p → ⊥)
Shows limit text Memory = Unit {0}
Shows limit text Failed = ⊥

-- what decoding the front of a text answers: the PDU that stands there and its length, or the fault
abbrev pub Decodes : ℕ → List ℕ → Result (Pdu × ℕ) PduFault → Type 0
Decodes limit text (Ok x) =
    (spelling rest : List ℕ)
    × (text ≡ spelling ++ rest)
    × (length spelling ≡ x.1)
    × Spells limit spelling x.0
Decodes limit text (Err fault) = Shows limit text fault
