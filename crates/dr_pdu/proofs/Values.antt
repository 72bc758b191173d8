-- A P-DATA-TF of one presentation data value.
use Rattle.std.proofs.Common.{◌≡◌, ℕ, ◌+◌, List, [], ◌∷◌, ◌++◌, length, Result, Ok, Err, sym, ap, ◌∙◌, append_assoc, arith}
use Rattle.std.specs.Prelude.{OnOk}
use Rattle.std.specs.Int.{w32, to_be_bytes}
use Rattle.std.proofs.lemmas.List.{append-nil}
use Rattle.dr_pdu.specs.declared.pdu.Pdv.{Pdv}
use Rattle.dr_pdu.specs.declared.pdu.Pdu.TheVariants.{Transfer}
use Rattle.dr_pdu.specs.Items.{pdv_text}
use Rattle.dr_pdu.specs.Written.{framed, written}

framed_value : (old : List ℕ) (p : Pdv) (n : ℕ) (mid new : List ℕ) → n ≡ length p.fragment + 6 → mid ≡ old ++ 4 ∷ 0 ∷ to_be_bytes w32 n → new ≡ mid ++ pdv_text p
    → new ≡ old ++ written (Transfer (p ∷ []))
framed_value old p n mid new len first then =
    let text = pdv_text p in
    let whole : n ≡ length text = omega (arith, len) in
    then ∙ ap (λ (t : List ℕ). t ++ text) first ∙ append_assoc old (4 ∷ 0 ∷ to_be_bytes w32 n) text
    ∙ ap (λ (k : ℕ). old ++ 4 ∷ 0 ∷ (to_be_bytes w32 k ++ text)) whole ∙ ap (λ (b : List ℕ). old ++ framed 4 b) (sym (append-nil text))

-- where the value was put, the PDU was
pub framed_on : {T E : Type 0} (r : Result T E) (old : List ℕ) (p : Pdv) (n : ℕ) (mid new : List ℕ) → n ≡ length p.fragment + 6 → mid ≡ old ++ 4 ∷ 0 ∷ to_be_bytes w32 n
    → OnOk r (new ≡ mid ++ pdv_text p) → OnOk r (new ≡ old ++ written (Transfer (p ∷ [])))
framed_on (Ok x) old p n mid new len first then = framed_value old p n mid new len first then
framed_on (Err e) old p n mid new len first then = tt
