-- A feeder has an answer to each piece that isn't want of memory.
use Rattle.std.proofs.Common.{◌≡◌, ◌≢◌, ℕ, zero, suc, ◌<◌, ◌≤◌, Bool, true, false, List, [], ◌∷◌, ◌++◌, length, Result, Ok, Err, refl, sym, ap, subst, arith, inl}
use Rattle.std.specs.List.{AllByRecursion}
use Rattle.std.proofs.lemmas.List.{length-append}
use Rattle.dr_pdu.specs.declared.pdu.Pdu.{Pdu}
use Rattle.dr_pdu.specs.declared.fault.PduFault.{PduFault}
use Rattle.dr_pdu.specs.declared.fault.PduFault.TheVariants.{More, UnknownType, TooLong, BadItem, BadContextId, Memory, Failed}
use Rattle.dr_pdu.specs.Grammar.{Shows, Decodes}
use Rattle.dr_pdu.specs.Feeding.{Units, Feeding, Feeds}
use Rattle.dr_pdu.proofs.FrontLemmas.{length_of}
use Rattle.dr_pdu.proofs.FeedLemmas.{excludes}
use Rattle.dr_pdu.proofs.HasAnswer.{has_answer}

abbrev AreBytes : List ℕ → Type 0
AreBytes text = AllByRecursion (λ b. b < 256) text

behind : (a b : List ℕ) → AreBytes (a ++ b) → AreBytes b
behind [] b h = h
behind (x ∷ a) b h = behind a b h.1

-- the longest list of PDUs in front of a text, and what shows behind it
abbrev Answered : ℕ → List ℕ → Type 0
Answered limit text = (pdus : List Pdu) × (rest : List ℕ) × (fault : PduFault) × Units limit text pdus rest × Shows limit rest fault × (fault ≢ Memory)

answered : (n limit : ℕ) (text : List ℕ) → length text ≤ n → AreBytes text → Answered limit text
answered zero limit text small bytes =
    let shows : Shows limit text More = inl (omega (arith, small)) in
    ([], text, More, (refl, excludes limit text More shows (λ e. absurd (cc))), shows, (λ e. absurd (cc)))
answered (suc n) limit text small bytes = let a = has_answer limit text bytes in by_answer (λ rest h b. answered n limit rest h b) a.0 a.1 a.2
  where
    by_answer : ((rest : List ℕ) → length rest ≤ n → AreBytes rest → Answered limit rest) → (r : Result (Pdu × ℕ) PduFault) → r ≢ Err Memory → Decodes limit text r → Answered limit text
    by_answer on (Ok x) ne (spelling, rest, e, len, spells) =
        let whole = ap (λ (t : List ℕ). length t) e in
        let it = on rest (omega (arith, small, whole, length-append spelling rest, length_of limit spelling x.0 spells)) (behind spelling rest (subst AreBytes e bytes)) in
        (x.0 ∷ it.0, it.1, it.2, ((rest, (spelling, e, spells), it.3.0), it.3.1), it.4, it.5)
    by_answer on (Err fault) ne shows = ([], text, fault, (refl, excludes limit text fault shows (λ e. ne (ap Err e))), shows, λ e. ne (ap Err e))

abbrev Answers : Feeding → List ℕ → Type 0
Answers old piece = (r : Result (List Pdu) PduFault) × (new : Feeding) × (r ≢ Err Memory) × Feeds old piece r new

-- nothing is whole in front: more is awaited, or the fault is answered
in_front : (old : Feeding) (piece rest : List ℕ) (fault : PduFault) → old.failed ≡ false → Units old.limit (old.kept ++ piece) [] rest → Shows old.limit rest fault → fault ≢ Memory → Answers old piece
in_front old piece rest More f u shows ne = (Ok [], record { limit = old.limit; failed = false; kept = rest }, (λ e. absurd (cc)), (f, u, (λ e. shows), refl, refl))
in_front old piece rest Memory f u shows ne = absurd (ne refl)
in_front old piece rest Failed f u shows ne = absurd shows
in_front old piece rest UnknownType f u shows ne = (Err UnknownType, record { limit = old.limit; failed = true; kept = [] }, (λ e. absurd (cc)), (f, subst (λ (t : List ℕ). Shows old.limit t UnknownType) (sym u.0) shows, refl))
in_front old piece rest TooLong f u shows ne = (Err TooLong, record { limit = old.limit; failed = true; kept = [] }, (λ e. absurd (cc)), (f, subst (λ (t : List ℕ). Shows old.limit t TooLong) (sym u.0) shows, refl))
in_front old piece rest BadItem f u shows ne = (Err BadItem, record { limit = old.limit; failed = true; kept = [] }, (λ e. absurd (cc)), (f, subst (λ (t : List ℕ). Shows old.limit t BadItem) (sym u.0) shows, refl))
in_front old piece rest BadContextId f u shows ne = (Err BadContextId, record { limit = old.limit; failed = true; kept = [] }, (λ e. absurd (cc)), (f, subst (λ (t : List ℕ). Shows old.limit t BadContextId) (sym u.0) shows, refl))

by_units : (old : Feeding) (piece : List ℕ) → old.failed ≡ false → Answered old.limit (old.kept ++ piece) → Answers old piece
by_units old piece f ([], rest, fault, u, shows, ne) = in_front old piece rest fault f u shows ne
by_units old piece f (p ∷ ps, rest, fault, u, shows, ne) = (Ok (p ∷ ps), record { limit = old.limit; failed = false; kept = rest }, (λ e. absurd (cc)), (f, u, (λ e. absurd (cc)), refl, refl))

pub piece_has_answer : (old : Feeding) (piece : List ℕ) → AllByRecursion (λ b. b < 256) (old.kept ++ piece) → (r : Result (List Pdu) PduFault) × (new : Feeding) × (r ≢ Err Memory) × Feeds old piece r new
piece_has_answer old piece bytes = by_failed old.failed refl
  where
    by_failed : (b : Bool) → old.failed ≡ b → Answers old piece
    by_failed true f = (Err Failed, old, (λ e. absurd (cc)), (f, refl))
    by_failed false f = by_units old piece f (answered (length (old.kept ++ piece)) old.limit (old.kept ++ piece) (omega arith) bytes)
