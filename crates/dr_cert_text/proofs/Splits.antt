-- Texts split at a mark, and fields read.
use Rattle.std.proofs.Common.{◌≡◌, ◌≢◌, ℕ, List, [], ◌∷◌, ◌++◌, refl, ap, ◌∙◌, arith, Some, None, Option}
use Rattle.std.specs.Prelude.{All, MatchOption}
use denote.Ref.{Bor}
use Rattle.std.proofs.lemmas.List.Elements.{All-cons, All-head, All-tail}
use Rattle.dr_cert_text.specs.Cuts.{cuts, Lacks, SplitsAt, CutsField}
use Rattle.dr_cert_text.proofs.Cuts.{cuts-at, cuts-last}

pub All-front : (P : ℕ → Type 0) (xs ys : List ℕ) → All P (xs ++ ys) → All P xs
All-front P [] ys h = λ k d lt. absurd (omega arith)
All-front P (x ∷ xs) ys h = All-cons P x xs (All-head P x (xs ++ ys) h) (All-front P xs ys (All-tail P x (xs ++ ys) h))

pub All-back : (P : ℕ → Type 0) (xs ys : List ℕ) → All P (xs ++ ys) → All P ys
All-back P [] ys h = h
All-back P (x ∷ xs) ys h = All-back P xs ys (All-tail P x (xs ++ ys) h)

-- a text is split at a mark in one way
pub unsplit : (mark : ℕ) (p q r s : List ℕ) → Lacks mark p → Lacks mark q → p ++ mark ∷ r ≡ q ++ mark ∷ s → (p ≡ q) × (r ≡ s)
unsplit mark [] [] r s hp hq e = (refl, cc)
unsplit mark [] (y ∷ q) r s hp hq e = let same : y ≡ mark = cc in absurd (All-head (λ b. b ≢ mark) y q hq same)
unsplit mark (x ∷ p) [] r s hp hq e = let same : x ≡ mark = cc in absurd (All-head (λ b. b ≢ mark) x p hp same)
unsplit mark (x ∷ p) (y ∷ q) r s hp hq e =
    let same : x ≡ y = cc in
    let later : p ++ mark ∷ r ≡ q ++ mark ∷ s = cc in
    let more = unsplit mark p q r s (All-tail (λ b. b ≢ mark) x p hp) (All-tail (λ b. b ≢ mark) y q hq) later in
    (cc (more.0), more.1)

-- a field that ends at a tab
pub field_cut : (row field rest : List ℕ) → Lacks 10 row → SplitsAt 9 row field rest → CutsField row field rest
field_cut row field rest one_row split =
    let whole : Lacks 10 (field ++ 9 ∷ rest) = rw split.0 at one_row in
    let here = All-front (λ b. b ≢ 10) field (9 ∷ rest) whole in
    record {
      whole = split.0;
      plain = λ k d lt. (split.1 k d lt, here k d lt);
      one_row = All-tail (λ b. b ≢ 10) 9 rest (All-back (λ b. b ≢ 10) field (9 ∷ rest) whole);
      parts = ap (cuts 9) split.0 ∙ cuts-at 9 field rest split.1;
    }

pub first_field : (row : List ℕ) (found : Option (Bor (List ℕ) × Bor (List ℕ))) → Lacks 10 row → MatchOption found (Lacks 9 row) (λ p. SplitsAt 9 row p.0.now p.1.now) →
    MatchOption found (cuts 9 row ≡ row ∷ []) (λ p. CutsField row p.0.now p.1.now)
first_field row None one_row h = cuts-last 9 row h
first_field row (Some p) one_row h = field_cut row p.0.now p.1.now one_row h
