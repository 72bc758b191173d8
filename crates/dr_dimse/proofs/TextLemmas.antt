-- Texts with their padding, and UIDs.
use Rattle.std.proofs.Common.{◌≡◌, ℕ, ◌+◌, ◌≤◌, ◌%◌, Bool, true, false, cond, eqb, List, [], ◌∷◌, ◌++◌, length, Option, Some, None, refl, ap, ◌∙◌, arith}
use Rattle.std.specs.List.{AllByRecursion}
use Rattle.std.proofs.lemmas.Bool.{ne_eqb}
use Rattle.std.proofs.lemmas.List.{length-append}
use Rattle.dr_base.specs.Padding.{onto, unpadded}
use Rattle.dr_pdu.proofs.Trimming.{unpadded_short, unpadded_twice}
use Rattle.dr_base.specs.Uids.{IsUid}
use Rattle.dr_dimse.specs.Commands.{text_of}
use Rattle.dr_dimse.specs.Written.{even, IsText}

unpadded_nul : (t : List ℕ) → unpadded (t ++ 0 ∷ []) ≡ unpadded t
unpadded_nul [] = refl
unpadded_nul (b ∷ bs) = ap (onto b) (unpadded_nul bs)

pub unpadded_even : (t : List ℕ) → unpadded t ≡ t → unpadded (even t) ≡ t
unpadded_even t h = by_test (eqb (length t % 2) 0)
  where
    by_test : (b : Bool) → unpadded (cond b t (t ++ 0 ∷ [])) ≡ t
    by_test true = h
    by_test false = unpadded_nul t ∙ h

pub even_short : (t : List ℕ) → length (even t) ≤ length t + 1
even_short t = by_test (eqb (length t % 2) 0)
  where
    by_test : (b : Bool) → length (cond b t (t ++ 0 ∷ [])) ≤ length t + 1
    by_test true = omega arith
    by_test false = omega (arith, length-append t (0 ∷ []))

onto_graphic : (b : ℕ) (u : List ℕ) → 0x21 ≤ b → onto b u ≡ b ∷ u
onto_graphic b [] h =
    let nul : eqb b 0 ≡ false = ne_eqb b 0 (λ e. omega (arith, e, h)) in
    let space : eqb b 32 ≡ false = ne_eqb b 32 (λ e. omega (arith, e, h)) in
    rw (nul, space) refl
onto_graphic b (c ∷ cs) h = refl

graphic_unpadded : (t : List ℕ) → AllByRecursion (λ (b : ℕ). (0x21 ≤ b) × (b ≤ 0x7E)) t → unpadded t ≡ t
graphic_unpadded [] h = refl
graphic_unpadded (b ∷ bs) (here, more) = ap (onto b) (graphic_unpadded bs more) ∙ onto_graphic b bs here.0

pub uid_unpadded : (t : List ℕ) → IsUid t → unpadded t ≡ t
uid_unpadded t h = graphic_unpadded t h.2

pub uid_is_text : (t : List ℕ) → IsUid t → IsText t
uid_is_text t h = (uid_unpadded t h, omega (arith, h.1))

pub read_unpadded : (o : Option (List ℕ)) → unpadded (text_of o) ≡ text_of o
read_unpadded None = refl
read_unpadded (Some v) = unpadded_twice v

pub read_short : (o : Option (List ℕ)) (n : ℕ) → ((v : List ℕ) → o ≡ Some v → length v ≤ n) → length (text_of o) ≤ n
read_short None n h = omega arith
read_short (Some v) n h = omega (arith, h v refl, unpadded_short v)
