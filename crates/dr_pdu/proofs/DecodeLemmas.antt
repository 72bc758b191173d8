-- The front of a text.
use Rattle.std.proofs.Common.{◌≡◌, ℕ, ◌+◌, ◌-◌, ◌*◌, ◌≤◌, List, [], ◌∷◌, ◌++◌, length, get_or, take, drop, Some, None, refl, sym, ap, ◌∙◌, arith, inl, inr}
use Rattle.std.specs.Int.{w32, to_be_bytes}
use Rattle.std.proofs.lemmas.List.{take_rest, take-append-drop, length-take-le, append-nil}
use Rattle.dr_pdu.specs.declared.pdu.Pdu.{Pdu}
use Rattle.dr_pdu.specs.declared.pdu.Pdu.TheVariants.{AssociateRq, AssociateAc}
use Rattle.dr_pdu.specs.declared.pdu.Association.{Association}
use Rattle.dr_pdu.specs.declared.pdu.ContextProposal.{ContextProposal}
use Rattle.dr_pdu.specs.declared.pdu.ContextAnswer.{ContextAnswer}
use Rattle.dr_pdu.specs.declared.fault.PduFault.{PduFault}
use Rattle.dr_pdu.specs.declared.fault.PduFault.TheVariants.{More, UnknownType, TooLong, BadItem, BadContextId, Memory, Failed}
use Rattle.dr_pdu.specs.Reads.{Refuses}
use Rattle.dr_pdu.specs.Grammar.{StartsFrame, header_fault, HasWholeBody, IsBody, IsAssociation, IsProposal, IsAnswer, HasContextIds, Spells, Shows}
use Rattle.dr_pdu.proofs.Bytes.{IsBytes, four_bytes}

pub front6 : (text : List ℕ) → 6 ≤ length text → text ≡ get_or text 0 0 ∷ get_or text 1 0 ∷ get_or text 2 0 ∷ get_or text 3 0 ∷ get_or text 4 0 ∷ get_or text 5 0 ∷ drop 6 text
front6 [] h = absurd (omega arith)
front6 (a ∷ []) h = absurd (omega arith)
front6 (a ∷ b ∷ []) h = absurd (omega arith)
front6 (a ∷ b ∷ c ∷ []) h = absurd (omega arith)
front6 (a ∷ b ∷ c ∷ d ∷ []) h = absurd (omega arith)
front6 (a ∷ b ∷ c ∷ d ∷ e ∷ []) h = absurd (omega arith)
front6 (a ∷ b ∷ c ∷ d ∷ e ∷ f ∷ rest) h = refl

-- six bytes are a header
pub begins : (text : List ℕ) (len : ℕ) → 6 ≤ length text → IsBytes text → len ≡ ((get_or text 2 0 * 256 + get_or text 3 0) * 256 + get_or text 4 0) * 256 + get_or text 5 0
    → StartsFrame text (get_or text 0 0) len (take (length text - 6) (drop 6 text))
begins text len long bytes is =
    let number : to_be_bytes w32 len ≡ get_or text 2 0 ∷ get_or text 3 0 ∷ get_or text 4 0 ∷ get_or text 5 0 ∷ [] = four_bytes _ _ _ _ len (bytes 2) (bytes 3) (bytes 4) (bytes 5) is in
    let k = get_or text 0 0 in
    let r = get_or text 1 0 in (
      r,
      omega (arith, bytes 2, bytes 3, bytes 4, bytes 5),
      front6 text long ∙ ap (λ (bs : List ℕ). k ∷ r ∷ (bs ++ drop 6 text)) (sym number) ∙ ap (λ (t : List ℕ). k ∷ r ∷ (to_be_bytes w32 len ++ t)) (sym (take_rest text 6)),
    )

-- which faults a header shows
pub header_shows : (limit : ℕ) (text : List ℕ) (kind len : ℕ) (rest : List ℕ) → StartsFrame text kind len rest → (fault : PduFault) → header_fault limit kind len ≡ Some fault → Shows limit text fault
header_shows limit text kind len rest b UnknownType e = (kind, len, rest, b, e)
header_shows limit text kind len rest b TooLong e = (kind, len, rest, b, e)
header_shows limit text kind len rest b BadItem e = inl (kind, len, rest, b, e)
header_shows limit text kind len rest b Memory e = tt
header_shows limit text kind len rest b More e = absurd (grind arith)
header_shows limit text kind len rest b BadContextId e = absurd (grind arith)
header_shows limit text kind len rest b Failed e = absurd (grind arith)

-- a header with its body
pub whole : (limit : ℕ) (text : List ℕ) (kind len : ℕ) (rest : List ℕ) → StartsFrame text kind len rest → header_fault limit kind len ≡ None → len ≤ length rest → HasWholeBody limit text kind (take len rest) (drop len rest)
whole limit text kind len rest b ok fits =
    let n : length (take len rest) ≡ len = length-take-le len rest fits in
    let onward : StartsFrame text kind (length (take len rest)) (take len rest ++ drop len rest) = (b.0, omega (arith, n, b.1), b.2 ∙ ap (λ (m : ℕ). kind ∷ b.0 ∷ (to_be_bytes w32 m ++ rest)) (sym n) ∙ ap (λ (t : List ℕ). kind ∷ b.0 ∷ (to_be_bytes w32 (length (take len rest)) ++ t)) (sym (take-append-drop len rest))) in
    (onward, ap (header_fault limit kind) n ∙ ok)

pub body_refused : (limit : ℕ) (text : List ℕ) (kind : ℕ) (body rest : List ℕ) → HasWholeBody limit text kind body rest → (fault : PduFault) → Refuses fault (IsBody kind body) → Shows limit text fault
body_refused limit text kind body rest w BadItem none = inr (kind, body, rest, w, none)
body_refused limit text kind body rest w Memory none = tt
body_refused limit text kind body rest w More none = absurd none
body_refused limit text kind body rest w UnknownType none = absurd none
body_refused limit text kind body rest w TooLong none = absurd none
body_refused limit text kind body rest w BadContextId none = absurd none
body_refused limit text kind body rest w Failed none = absurd none

-- a whole PDU in front of a text is a spelling, and then the rest
pub spelled : (limit : ℕ) (text : List ℕ) (kind : ℕ) (body rest : List ℕ) (p : Pdu) → HasWholeBody limit text kind body rest → IsBody kind body p → HasContextIds p
    → (spelling after : List ℕ) × (text ≡ spelling ++ after) × (length spelling ≡ length body + 6) × Spells limit spelling p
spelled limit text kind body rest p w is ids =
    let front = kind ∷ w.0.0 ∷ (to_be_bytes w32 (length body) ++ body) in
    let alone : StartsFrame front kind (length body) (body ++ []) = (w.0.0, w.0.1, ap (λ (t : List ℕ). kind ∷ w.0.0 ∷ (to_be_bytes w32 (length body) ++ t)) (sym (append-nil body))) in
    (front, rest, w.0.2, omega arith, (kind, body, (alone, w.1), is, ids))

-- a body of type 1 is a request, one of type 2 an acceptance
pub request_of : (body : List ℕ) (p : Pdu) → IsBody 1 body p → (a : Association ContextProposal) × IsAssociation 0x20 IsProposal body a
request_of body (AssociateRq rq) h = (rq, h.1)
request_of body p h = absurd (omega (arith, h.0))

pub acceptance_of : (body : List ℕ) (p : Pdu) → IsBody 2 body p → (a : Association ContextAnswer) × IsAssociation 0x21 IsAnswer body a
acceptance_of body (AssociateAc ac) h = (ac, h.1)
acceptance_of body p h = absurd (omega (arith, h.0))
