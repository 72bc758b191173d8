-- Elements that are written one after the other.
use Rattle.std.proofs.Common.{◌≡◌, ℕ, List, [], ◌∷◌, ◌++◌, sym, ap, ◌∙◌, append_assoc}
use Rattle.std.proofs.lemmas.List.{append-nil}
use Rattle.dr_dimse.specs.Commands.{CommandElement, element_text}
use Rattle.dr_dimse.specs.Written.{element_texts}

pub joined_more : (es : List CommandElement) (e : CommandElement) → element_texts (es ++ e ∷ []) ≡ element_texts es ++ element_text e
joined_more [] e = append-nil (element_text e)
joined_more (x ∷ xs) e = ap (λ (t : List ℕ). element_text x ++ t) (joined_more xs e) ∙ sym (append_assoc (element_text x) (element_texts xs) (element_text e))

-- one element more
pub next : (out old : List ℕ) (es : List CommandElement) (e : CommandElement) → old ≡ element_texts es → out ≡ old ++ element_text e → out ≡ element_texts (es ++ e ∷ [])
next out old es e before here = here ∙ ap (λ (t : List ℕ). t ++ element_text e) before ∙ sym (joined_more es e)
