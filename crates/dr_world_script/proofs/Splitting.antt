-- Texts split at the first mark, and into parts.
use Rattle.std.proofs.Common.{◌≡◌, ℕ, List, [], ◌∷◌, ◌++◌, map, sym, ap, ◌∙◌}
use Rattle.std.proofs.lemmas.List.{map_push}
use Rattle.std.proofs.Common.{append_assoc}
use Rattle.std.specs.Borrow.{Bor}
use Rattle.dr_cert_text.specs.Cuts.{Lacks, SplitsAt, cuts}
use Rattle.dr_cert_text.proofs.Cuts.{cuts-at, cuts-last}

-- one more part was split off
pub one_more : (mark : ℕ) (text : List ℕ) (parts : List (Bor (List ℕ))) (rest : List ℕ) (part : Bor (List ℕ)) (behind : List ℕ) →
    map (λ p. p.now) parts ++ cuts mark rest ≡ cuts mark text → SplitsAt mark rest part.now behind →
    map (λ p. p.now) (parts ++ part ∷ []) ++ cuts mark behind ≡ cuts mark text
one_more mark text parts rest part behind so_far split =
    let here : cuts mark rest ≡ part.now ∷ cuts mark behind = ap (cuts mark) split.0 ∙ cuts-at mark part.now behind split.1 in
    let pushed = map_push (λ (p : Bor (List ℕ)). p.now) parts part in
    let before = map (λ (p : Bor (List ℕ)). p.now) parts in
    ap (λ t. t ++ cuts mark behind) pushed ∙ append_assoc before (part.now ∷ []) (cuts mark behind) ∙ ap (λ t. before ++ t) (sym here) ∙ so_far

-- what is left is the last part
pub last_one : (mark : ℕ) (text : List ℕ) (parts : List (Bor (List ℕ))) (rest : Bor (List ℕ)) →
    map (λ p. p.now) parts ++ cuts mark rest.now ≡ cuts mark text → Lacks mark rest.now → map (λ p. p.now) (parts ++ rest ∷ []) ≡ cuts mark text
last_one mark text parts rest so_far none =
    map_push (λ (p : Bor (List ℕ)). p.now) parts rest ∙ ap (λ t. map (λ (p : Bor (List ℕ)). p.now) parts ++ t) (sym (cuts-last mark rest.now none)) ∙ so_far
